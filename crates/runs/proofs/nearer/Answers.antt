-- `runs::nearer` is the nearest of those so far and of one more.
use Rattle.runs.proofs.Meeting.{nearer_none, nearer_taken, nearer_kept}
use Rattle.runs.proofs.nearer.Goals as goal

pub returns-in-None : goal.returns-in-None
returns-in-None c = search nearer_none

pub returns-then-distance : goal.returns-then-distance
returns-then-distance c = search nearer_taken

pub returns-else-distance : goal.returns-else-distance
returns-else-distance c = search nearer_kept
