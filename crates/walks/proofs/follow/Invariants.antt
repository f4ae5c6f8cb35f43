-- `walks::follow` marks what the block at the head leads to. The invariant: its pointers from the place on have been followed.
-- The measure is the place.
use lib.ListN.{take}
use Rattle.walks.proofs.Following.{Following}
use Rattle.walks.proofs.follow.Given as goal

abbrev pub invariant-loop-at : goal.invariant-loop-at
invariant-loop-at l = Following l.direction l.shut (take l.used l.pointers) l.initial.reached.marks l.reached.marks l.reached.queue l.head l.reached.count l.block l.at

abbrev pub decreases-loop-at : goal.decreases-loop-at
decreases-loop-at l = l.at
