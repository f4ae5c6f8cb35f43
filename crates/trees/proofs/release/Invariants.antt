-- `trees::release` takes off the pointers of the block at the head. The invariant: those before the place are taken off.
use lib.ListN.{take}
use Rattle.trees.proofs.Dropping.{Dropping}
use Rattle.trees.proofs.release.Given as goal

abbrev pub invariant-loop-at : goal.invariant-loop-at
invariant-loop-at l = Dropping (take l.used l.pointers) (take l.used l.multiplicities) l.initial.reached.marks l.left l.reached.marks l.reached.queue l.head l.reached.count l.block l.at
