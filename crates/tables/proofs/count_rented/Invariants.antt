-- `tables::count_rented` meets its contract: the count is that of the blocks passed, none of them a root.
use Rattle.card.specs.Card.{allocated_flag}
use Rattle.tables.proofs.Counted.{Counting}
use Rattle.tables.proofs.count_rented.Given as goal

abbrev pub invariant-loop-flag : goal.invariant-loop-flag
invariant-loop-flag l = Counting allocated_flag l.ordinary l.rented l.flag-index
