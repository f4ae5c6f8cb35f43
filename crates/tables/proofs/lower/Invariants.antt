-- `tables::lower` meets its contract: the elements behind the one taken away, below `i`, stand one place lower.
use Rattle.tables.proofs.Shift.{Lowered}
use Rattle.tables.proofs.lower.Given as goal

abbrev pub invariant-loop-i : goal.invariant-loop-i
invariant-loop-i g l = Lowered l.initial.xs l.xs l.used l.at l.i
