-- `lengths::part_of` meets its contract.
use borrow.Author.Rules.{rules}
use Rattle.kinds.specs.Arithmetic.{part_of}
use Rattle.lengths.proofs.part_of.Goals as goal

pub returns-then-has : goal.returns-then-has
unfolding part_of
returns-then-has c = search rules

pub returns-else-has : goal.returns-else-has
unfolding part_of
returns-else-has c = search rules
