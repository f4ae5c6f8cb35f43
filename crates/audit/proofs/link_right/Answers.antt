-- `audit::link_right` is the test of one pointer's ends.
use Rattle.audit.proofs.BlockTests.{looked_up}
use Rattle.audit.proofs.link_right.Goals as goal

pub returns : goal.returns
returns c = search looked_up
