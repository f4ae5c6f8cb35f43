-- `adapter::report` meets its contract.
use native.Mathlib.Omega.{arith}
use Rattle.adapter.specs.EffectsLaws.{refusal_small}
use Rattle.adapter.proofs.report.Goals as goal

pub overflow_cast-result : goal.overflow_cast-result
overflow_cast-result c = omega (arith, c.refusal_number.ensures, refusal_small c.in-Err.refusal)
