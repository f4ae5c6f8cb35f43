-- `unlocking::leads_or_fits` compares the write key of a block that is not marked.
use Rattle.unlocking.proofs.Fitting.{leads_marked, fits_unmarked}
use Rattle.unlocking.proofs.leads_or_fits.Goals as goal

pub returns-then-reached-block-eq1 : goal.returns-then-reached-block-eq1
returns-then-reached-block-eq1 c = search leads_marked

pub returns : goal.returns
returns c = search fits_unmarked
