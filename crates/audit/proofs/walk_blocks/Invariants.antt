-- `audit::walk_blocks` judges the blocks. The invariant: each block below `b` passes.
use Prim.Native.Nat.{◌-◌}
use lib.ListN.{get_or}
use Rattle.card.specs.Lent.{shared_card}
use Rattle.audit.specs.Walks.{block_sound}
use Rattle.audit.proofs.Passing.{PassedBelow}
use Rattle.audit.proofs.walk_blocks.Given as goal

abbrev pub invariant-loop-b : goal.invariant-loop-b
invariant-loop-b l = PassedBelow (λ k. block_sound (shared_card l.card) (get_or l.tally k 0) k) l.card.info.blocks l.b

abbrev pub decreases-loop-b : goal.decreases-loop-b
decreases-loop-b l = l.card.info.blocks - l.b
