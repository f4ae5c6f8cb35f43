use Rattle.runs.proofs.Meeting.{since_passed, since_stays}
use Rattle.runs.proofs.since_after.Goals as goal

pub returns-then-free : goal.returns-then-free
returns-then-free c = search since_stays

pub returns-else-free : goal.returns-else-free
returns-else-free c = search since_passed
