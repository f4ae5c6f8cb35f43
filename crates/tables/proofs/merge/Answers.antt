use Prim.Native.Nat.{◌+◌, ◌-◌}
use native.Mathlib.Omega.{arith}
use Rattle.tables.specs.InUse.{Raisable}
use Rattle.tables.proofs.Shift.{raised_length}
use Rattle.tables.proofs.Merging.{can_place, can_raise_pointers, can_raise_multiplicities, both_more, both_whole}
use Rattle.tables.proofs.merge.Goals as goal
use Rattle.tables.proofs.merge.Goals.{After-place-at}

-- Both tables can be raised from the place on.
raisable : (c : After-place-at) → let l = c.loop-new in Raisable l.pointers l.old (l.new - 1 + 1) c.place-at.result
raisable c = can_raise_pointers c.requires.mergeable c.requires.paired c.loop-new.invariant (omega arith) _ c.place-at.ensures

raisable_beside : (c : After-place-at) → let l = c.loop-new in Raisable l.multiplicities l.old (l.new - 1 + 1) c.place-at.result
raisable_beside c = can_raise_multiplicities c.requires.mergeable c.requires.paired c.loop-new.invariant (omega arith) _ c.place-at.ensures

pub place-at-requires : goal.place-at-requires
place-at-requires c = search can_place

pub raise-requires : goal.raise-requires
raise-requires c = raisable (goal.at.raise-requires c).After-place-at

pub raise-requires-in-loop-new : goal.raise-requires-in-loop-new
raise-requires-in-loop-new c = raisable_beside (goal.at.raise-requires-in-loop-new c).After-place-at

pub overflow_add-pointers : goal.overflow_add-pointers
overflow_add-pointers c = let can = raisable (goal.at.overflow_add-pointers c).After-place-at in
    omega (arith, can.place, can.room)

pub offset_bounds-pointers-old : goal.offset_bounds-pointers-old
offset_bounds-pointers-old c = let can = raisable (goal.at.offset_bounds-pointers-old c).After-place-at in
    omega (arith, can.place, can.room)

pub bounds-pointers-old : goal.bounds-pointers-old
bounds-pointers-old c = let can = raisable (goal.at.bounds-pointers-old c).After-place-at in
    omega (arith, can.place, can.room, raised_length can)

pub overflow_add-multiplicities : goal.overflow_add-multiplicities
overflow_add-multiplicities c = let can = raisable (goal.at.overflow_add-multiplicities c).After-place-at in
    omega (arith, can.place, can.room)

pub offset_bounds-multiplicities-old : goal.offset_bounds-multiplicities-old
offset_bounds-multiplicities-old c = let can = raisable (goal.at.offset_bounds-multiplicities-old c).After-place-at in
    omega (arith, can.place, can.room)

pub bounds-multiplicities-old : goal.bounds-multiplicities-old
bounds-multiplicities-old c = let can = raisable_beside (goal.at.bounds-multiplicities-old c).After-place-at in
    omega (arith, can.place, can.room, raised_length can)

pub loop-new-preserved : goal.loop-new-preserved
loop-new-preserved c = both_more c.requires.mergeable c.requires.paired c.loop-new.invariant (c.loop-new.new - 1) (omega arith) c.place-at.ensures c.raise.ensures c.raise-in-loop-new.ensures

pub returns : goal.returns
returns c = search both_whole
