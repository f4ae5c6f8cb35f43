use Rattle.unlocking.proofs.Fitting.{passed_found, passed_whole}
use Rattle.unlocking.proofs.fits.Goals as goal

pub returns-then-has_this_key : goal.returns-then-has_this_key
returns-then-has_this_key c = search passed_found

pub returns : goal.returns
returns c = search passed_whole
