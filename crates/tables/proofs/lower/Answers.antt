use native.Mathlib.Omega.{arith}
use Rattle.tables.proofs.Shift.{lowered_start, lowered_more, removed_at}
use Rattle.tables.proofs.lower.Goals as goal

pub loop-i-init : goal.loop-i-init
loop-i-init g c = lowered_start c.requires

pub loop-i-preserved : goal.loop-i-preserved
loop-i-preserved g c = lowered_more c.loop-i.invariant _ (omega arith) c.index-xs-i.is

pub returns : goal.returns
returns g c = removed_at c.loop-i.invariant _ (omega arith)
