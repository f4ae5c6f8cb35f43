-- `tables::times` meets its contract: the number at the place of the pointer, if that stands there.
use mathlib.Core.Path.{sym, ◌∙◌}
use native.Mathlib.Omega.{arith}
use Rattle.tables.specs.PlaceLaws.{place_within, times_there, times_missed}
use Rattle.tables.proofs.times.Goals as goal

pub offset_bounds-multiplicities-at : goal.offset_bounds-multiplicities-at
offset_bounds-multiplicities-at c = let inside = place_within c.args.wanted c.requires.sorted c.place-at.ensures (sym c.stands.ensures ∙ c.if-stands.true) in
    omega arith

pub bounds-multiplicities-at : goal.bounds-multiplicities-at
bounds-multiplicities-at c = let inside = place_within c.args.wanted c.requires.sorted c.place-at.ensures (sym c.stands.ensures ∙ c.if-stands.true) in
    omega (arith, c.requires.sorted.within, c.requires.paired.same)

pub returns-then-stands : goal.returns-then-stands
returns-then-stands c = times_there c.args.wanted c.requires.sorted c.requires.paired c.place-at.ensures (sym c.stands.ensures ∙ c.if-stands.true)

pub returns-else-stands : goal.returns-else-stands
returns-else-stands c = times_missed c.args.wanted c.requires.sorted c.requires.paired c.place-at.ensures (sym c.stands.ensures ∙ c.if-stands.false)
