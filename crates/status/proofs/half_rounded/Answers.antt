-- `status::half_rounded` is what becomes of an exact half.
use mathlib.Core.Path.{refl}
use Rattle.card.specs.Rent.{half_rounded}
use Rattle.status.proofs.half_rounded.Goals as goal

pub returns : goal.returns
unfolding half_rounded
returns c = refl
