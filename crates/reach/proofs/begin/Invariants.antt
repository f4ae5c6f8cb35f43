-- `reach::begin` looks at one block after the other.
use Rattle.card.specs.Lent.{shared_card}
use Rattle.reach.proofs.Beginning.{Beginning}
use Rattle.reach.proofs.begin.Given as goal

abbrev pub invariant-loop-block : goal.invariant-loop-block
invariant-loop-block l = Beginning l.words (shared_card l.card) l.card.info.blocks l.block l.shut l.reached.marks l.reached.queue l.reached.count
