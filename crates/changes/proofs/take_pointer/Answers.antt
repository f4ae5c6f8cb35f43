-- `changes::take_pointer` is the change of the card that takes a pointer away once, by whether it was there once.
use native.Mathlib.Omega.{arith}
use Prim.Native.Nat.{◌≤◌, ◌<◌}
use lib.ListN.{length, get_or}
use Rattle.changes.proofs.Changes.{taken_there, taken_away, taken_one, taken_last}
use Rattle.changes.proofs.take_pointer.Goals as goal
use Rattle.changes.proofs.take_pointer.Goals.{After-place-at}

-- Where the pointer stands, its multiplicity can be lowered.
there : (c : After-place-at)
    → let a = c.args in (c.place-at.result < length a.multiplicities.now) × (1 ≤ get_or a.multiplicities.now c.place-at.result 0)
there c = taken_there c.place-at.ensures c.requires.can_take_pointer

pub offset_bounds-multiplicities-at : goal.offset_bounds-multiplicities-at
offset_bounds-multiplicities-at c = omega (arith, (there (goal.at.offset_bounds-multiplicities-at c).After-place-at).0)

pub bounds-multiplicities-at : goal.bounds-multiplicities-at
bounds-multiplicities-at c = omega (arith, (there (goal.at.bounds-multiplicities-at c).After-place-at).0)

pub offset_bounds-multiplicities-at-then-multiplicities-at-ne1 : goal.offset_bounds-multiplicities-at-then-multiplicities-at-ne1
offset_bounds-multiplicities-at-then-multiplicities-at-ne1 c = omega (arith, (there (goal.at.offset_bounds-multiplicities-at-then-multiplicities-at-ne1 c).After-place-at).0)

pub bounds-multiplicities-at-then-multiplicities-at-ne1 : goal.bounds-multiplicities-at-then-multiplicities-at-ne1
bounds-multiplicities-at-then-multiplicities-at-ne1 c = omega (arith, (there (goal.at.bounds-multiplicities-at-then-multiplicities-at-ne1 c).After-place-at).0)

pub overflow_sub-multiplicities : goal.overflow_sub-multiplicities
overflow_sub-multiplicities c = omega (arith, (there (goal.at.overflow_sub-multiplicities c).After-place-at).1)

pub bounds-multiplicities-at-then-multiplicities-at-ne1-2 : goal.bounds-multiplicities-at-then-multiplicities-at-ne1-2
bounds-multiplicities-at-then-multiplicities-at-ne1-2 c = omega (arith, (there (goal.at.bounds-multiplicities-at-then-multiplicities-at-ne1-2 c).After-place-at).0)

pub returns-then-multiplicities-at-ne1 : goal.returns-then-multiplicities-at-ne1
returns-then-multiplicities-at-ne1 c = taken_one _ _ _ _ _ _ c.place-at.ensures c.requires.can_take_pointer c.if-multiplicities-at-ne1.true

pub take_away-requires : goal.take_away-requires
take_away-requires c = let both = taken_away c.place-at.ensures c.requires.can_take_pointer in record { lowerable = both.0; paired = both.1 }

pub overflow_sub-used : goal.overflow_sub-used
overflow_sub-used c = omega (arith, (taken_away c.place-at.ensures c.requires.can_take_pointer).0.place)

pub returns : goal.returns
returns c = taken_last _ _ _ _ _ _ c.place-at.ensures c.requires.can_take_pointer c.if-multiplicities-at-ne1.false c.take_away.ensures c.with_used.ensures
