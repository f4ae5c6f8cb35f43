-- `tables::raise` meets its contract: the elements from `i` on stand so many places higher.
use Rattle.tables.proofs.Shift.{Raised}
use Rattle.tables.proofs.raise.Given as goal

abbrev pub invariant-loop-i : goal.invariant-loop-i
invariant-loop-i g l = Raised l.initial.xs l.xs l.used l.by l.at l.i
