-- `runs::nearest_run` finds the nearest run: of those that end before the block it is known.
use Rattle.runs.proofs.Meeting.{Met}
use Rattle.runs.proofs.nearest_run.Given as goal

abbrev pub invariant-loop-block : goal.invariant-loop-block
invariant-loop-block l = Met l.flags l.want l.count l.best l.since l.block
