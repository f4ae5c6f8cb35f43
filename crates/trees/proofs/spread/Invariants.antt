-- `trees::spread` marks what goes with the block. The invariant is what a turn leaves. The measure is what the queue has room for behind the head.
use Prim.Native.Nat.{◌-◌}
use lib.ListN.{take}
use Rattle.trees.proofs.Spreading.{Spreading}
use Rattle.trees.proofs.spread.Given as goal

abbrev pub invariant-loop-head : goal.invariant-loop-head
invariant-loop-head l = Spreading (take l.used l.pointers) (take l.used l.multiplicities) l.left l.reached.marks l.reached.queue l.block l.head l.reached.count

abbrev pub decreases-loop-head : goal.decreases-loop-head
decreases-loop-head l = 4096 - l.head
