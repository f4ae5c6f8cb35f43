-- `audit::walk` judges a card of the right shape.
use Rattle.audit.proofs.Whole.{fault_total, fault_pointers, fault_unused, whole}
use Rattle.audit.proofs.walk.Goals as goal

pub returns-then-card : goal.returns-then-card
returns-then-card c = search fault_total

pub returns-then-walk_unused : goal.returns-then-walk_unused
returns-then-walk_unused c = search whole

pub returns-else-walk_unused : goal.returns-else-walk_unused
returns-else-walk_unused c = search fault_unused

pub returns-else-walk_pointers : goal.returns-else-walk_pointers
returns-else-walk_pointers c = search fault_pointers
