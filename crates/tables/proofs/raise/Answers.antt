use native.Mathlib.Omega.{arith}
use Rattle.std.proofs.Common.{rules}
use Rattle.tables.proofs.Shift.{raised_start, raised_more}
use Rattle.tables.proofs.raise.Goals as goal

pub loop-i-init : goal.loop-i-init
loop-i-init g c = raised_start c.requires

pub loop-i-preserved : goal.loop-i-preserved
loop-i-preserved g c = raised_more c.loop-i.invariant _ (omega arith) (search rules)
