-- `tables::copy` meets its contract: the list is `from` up to `i`.
use Rattle.tables.proofs.Overlay.{Overlaid}
use Rattle.tables.proofs.copy.Given as goal

abbrev pub invariant-loop-i : goal.invariant-loop-i
invariant-loop-i l = Overlaid l.from l.initial.to l.to l.i
