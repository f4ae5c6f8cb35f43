-- `tables::count_free` meets its contract: the count is that of the blocks passed.
use Rattle.card.specs.Card.{free_flag}
use Rattle.tables.proofs.Counted.{Counting}
use Rattle.tables.proofs.count_free.Given as goal

abbrev pub invariant-loop-flag : goal.invariant-loop-flag
invariant-loop-flag l = Counting free_flag l.flags l.free l.flag-index
