-- `walks::link` links the pointers in use. The invariant: those before the place are linked.
use lib.ListN.{take}
use Rattle.walks.proofs.Linking.{Linking}
use Rattle.walks.proofs.link.Given as goal

abbrev pub invariant-loop-at : goal.invariant-loop-at
invariant-loop-at l = Linking l.direction (take l.used l.pointers) l.heads l.nexts l.at
