-- `changes::make_pointer` is the change of the card that makes a pointer once more, by whether it is there.
use mathlib.Core.Path.{sym, ◌∙◌}
use native.Mathlib.Omega.{arith}
use Prim.Native.Nat.{◌<◌}
use lib.ListN.{length, get_or}
use Rattle.card.specs.Card.{highest_multiplicity}
use Rattle.changes.proofs.Changes.{made_there, made_new, made_again, made_first}
use Rattle.changes.proofs.make_pointer.Goals as goal
use Rattle.changes.proofs.make_pointer.Goals.{Then-stands}

-- Where the pointer stands, its multiplicity can be raised.
there : (c : Then-stands)
    → let a = c.args in
    (c.place-at.result < length a.multiplicities.now) × (get_or a.multiplicities.now c.place-at.result 0 < highest_multiplicity)
there c =
    made_there c.place-at.ensures c.requires.can_make_pointer (sym c.stands.ensures ∙ c.if-stands.true)

pub offset_bounds-multiplicities-at : goal.offset_bounds-multiplicities-at
offset_bounds-multiplicities-at c = omega (arith, (there (goal.at.offset_bounds-multiplicities-at c).Then-stands).0)

pub bounds-multiplicities-at : goal.bounds-multiplicities-at
bounds-multiplicities-at c = omega (arith, (there (goal.at.bounds-multiplicities-at c).Then-stands).0)

pub overflow_add-multiplicities : goal.overflow_add-multiplicities
overflow_add-multiplicities c = omega (arith, (there (goal.at.overflow_add-multiplicities c).Then-stands).1)

pub bounds-multiplicities-at-then-stands : goal.bounds-multiplicities-at-then-stands
bounds-multiplicities-at-then-stands c = omega (arith, (there (goal.at.bounds-multiplicities-at-then-stands c).Then-stands).0)

pub returns-then-stands : goal.returns-then-stands
returns-then-stands c = made_again _ _ _ _ _ _ c.place-at.ensures c.requires.can_make_pointer (sym c.stands.ensures ∙ c.if-stands.true)

pub put-requires : goal.put-requires
put-requires c = let both = made_new c.place-at.ensures c.requires.can_make_pointer (sym c.stands.ensures ∙ c.if-stands.false) in record { raisable = both.0; paired = both.1 }

pub returns : goal.returns
returns c = made_first _ _ _ _ _ _ c.place-at.ensures c.requires.can_make_pointer (sym c.stands.ensures ∙ c.if-stands.false) c.put.ensures c.with_used.ensures
