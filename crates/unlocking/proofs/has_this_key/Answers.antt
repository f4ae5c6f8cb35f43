-- `unlocking::has_this_key` is the definition.
use Rattle.unlocking.proofs.Fitting.{has_this}
use Rattle.unlocking.proofs.has_this_key.Goals as goal

pub returns : goal.returns
returns c = search has_this
