-- `reach::bad_keys` meets its contract.
use mathlib.Core.Path.{refl}
use Rattle.report.specs.Report.{bad_keys}
use Rattle.reach.proofs.bad_keys.Goals as goal

pub returns : goal.returns
unfolding bad_keys
returns c = refl
