-- `trees::index` puts down the place of one pointer after the other, from the last on.
use lib.ListN.{take}
use Rattle.trees.specs.Release.{Indexed}
use Rattle.trees.proofs.index.Given as goal

abbrev pub invariant-loop-at : goal.invariant-loop-at
invariant-loop-at l = Indexed (take l.used l.pointers) l.first l.at
