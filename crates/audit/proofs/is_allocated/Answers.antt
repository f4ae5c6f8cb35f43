-- `audit::is_allocated` is the test of the definition.
use Rattle.audit.specs.Walks.{flagged}
use Rattle.audit.proofs.BlockTests.{allocated_inside, allocated_outside}
use Rattle.audit.proofs.is_allocated.Goals as goal

pub returns-then-b-info : goal.returns-then-b-info
returns-then-b-info c = let a = c.args in allocated_inside (flagged a.info a.flags.now) a.b c.if-b-info.true c.allocated.ensures

pub returns-else-b-info : goal.returns-else-b-info
returns-else-b-info c = let a = c.args in allocated_outside (flagged a.info a.flags.now) a.b c.if-b-info.false
