-- `shape::shaped` is the shape.
use mathlib.Core.Path.{sym, ◌∙◌}
use Rattle.card.specs.Lent.{shared_card}
use Rattle.laws.specs.SoundnessLaws.{ranges_true}
use Rattle.shape.proofs.ShapeTests.{out_of_ranges}
use Rattle.shape.proofs.shaped.Goals as goal

pub has_lengths-requires : goal.has_lengths-requires
has_lengths-requires c = ranges_true _ _ _ (sym c.in_ranges.ensures ∙ c.if-in_ranges.true)

pub returns-else-in_ranges : goal.returns-else-in_ranges
returns-else-in_ranges c = out_of_ranges (shared_card c.args.card) (sym c.if-in_ranges.false ∙ c.in_ranges.ensures)
