use mathlib.Core.Logic.{inl, inr}
use native.Mathlib.Omega.{arith}
use Rattle.removal.proofs.Closing.{closing_none, closing_source, closing_destination, closing_enough, closing_more, closing_whole}
use Rattle.removal.proofs.close_up.Goals as goal
use Rattle.removal.proofs.close_up.Goals.{else-pointer-gone, then-pointer-gone}

pub loop-at-init : goal.loop-at-init
loop-at-init c = closing_none _ _ _ _ _ _ c.requires

pub offset_bounds-pointers-at : goal.offset_bounds-pointers-at
offset_bounds-pointers-at c = omega (arith, c.requires.walkable.few)

pub bounds-pointers-at : goal.bounds-pointers-at
bounds-pointers-at c = omega (arith, c.requires.walkable.within, c.loop-at.invariant.in_pointers.same)

pub offset_bounds-multiplicities-at : goal.offset_bounds-multiplicities-at
offset_bounds-multiplicities-at c = omega (arith, c.requires.walkable.few)

pub bounds-multiplicities-at : goal.bounds-multiplicities-at
bounds-multiplicities-at c = omega (arith, c.requires.walkable.within, c.requires.paired.same, c.loop-at.invariant.in_times.same)

pub overflow_cast-from : goal.overflow_cast-from
overflow_cast-from c = omega (arith, closing_source _ _ _ _ _ _ c.requires c.loop-at.invariant c.loop-at-test.true)

pub bounds-marks-from : goal.bounds-marks-from
bounds-marks-from c = closing_source _ _ _ _ _ _ c.requires c.loop-at.invariant c.loop-at-test.true

pub bounds-counts-to : goal.bounds-counts-to
bounds-counts-to c = omega (arith, closing_destination _ _ _ _ _ _ c.requires c.loop-at.invariant c.loop-at-test.true, c.loop-at.invariant.same_counts)

pub overflow_cast-counts : goal.overflow_cast-counts
overflow_cast-counts c = omega (arith, c.slice_known-in-loop-at-1.given c.loop-at.at)

pub overflow_sub-counts : goal.overflow_sub-counts
overflow_sub-counts c = closing_enough _ _ _ _ _ _ c.requires c.loop-at.invariant c.loop-at-test.true

pub bounds-counts-to-then-pointer-gone : goal.bounds-counts-to-then-pointer-gone
bounds-counts-to-then-pointer-gone c = omega (arith, closing_destination _ _ _ _ _ _ c.requires c.loop-at.invariant c.loop-at-test.true, c.loop-at.invariant.same_counts)

pub offset_bounds-pointers-kept : goal.offset_bounds-pointers-kept
offset_bounds-pointers-kept c = omega (arith, c.requires.walkable.few, c.loop-at.invariant.low)

pub bounds-pointers-kept : goal.bounds-pointers-kept
bounds-pointers-kept c = omega (arith, c.requires.walkable.within, c.loop-at.invariant.low, c.loop-at.invariant.in_pointers.same)

pub offset_bounds-multiplicities-kept : goal.offset_bounds-multiplicities-kept
offset_bounds-multiplicities-kept c = omega (arith, c.requires.walkable.few, c.loop-at.invariant.low)

pub bounds-multiplicities-kept : goal.bounds-multiplicities-kept
bounds-multiplicities-kept c = omega (arith, c.requires.walkable.within, c.requires.paired.same, c.loop-at.invariant.low, c.loop-at.invariant.in_times.same)

pub overflow_add-kept : goal.overflow_add-kept
overflow_add-kept c = omega (arith, c.requires.walkable.few, c.loop-at.invariant.low)

pub loop-at-preserved : goal.loop-at-preserved
loop-at-preserved c = closing_more _ _ _ _ _ _ c.requires c.loop-at.invariant c.loop-at-test.true
    (elim c.if-pointer-gone.branch [ then-pointer-gone w ↦ inl (w.if-pointer-gone.true, (w.counts-is, (w.pointers-is, (w.multiplicities-is, w.kept-is)))) | else-pointer-gone w ↦ inr (w.if-pointer-gone.false, (w.counts-is, (w.pointers-is, (w.multiplicities-is, w.kept-is)))) ])

pub shape_of-counts : goal.shape_of-counts
shape_of-counts c = c.loop-at.invariant.same_counts

pub shape_of-pointers : goal.shape_of-pointers
shape_of-pointers c = c.loop-at.invariant.in_pointers.same

pub shape_of-multiplicities : goal.shape_of-multiplicities
shape_of-multiplicities c = c.loop-at.invariant.in_times.same

pub returns : goal.returns
returns c = closing_whole _ _ _ _ _ _ c.requires c.loop-at.invariant (omega arith)
