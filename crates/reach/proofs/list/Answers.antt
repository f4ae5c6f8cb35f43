use mathlib.Core.Logic.{inl, inr}
use native.Mathlib.Omega.{arith}
use Rattle.reach.proofs.Listing.{listed_none, listed_room, listed_more, listed_whole}
use Rattle.reach.proofs.list.Goals as goal
use Rattle.reach.proofs.list.Goals.{else-marks-block-eq1, then-marks-block-eq1}

pub loop-block-init : goal.loop-block-init
loop-block-init c = listed_none _ _ _ c.requires.blocks_bound c.requires.blocks_in_bounds

pub bounds-places-listed : goal.bounds-places-listed
bounds-places-listed c = listed_room c.loop-block.invariant c.loop-block-test.true c.if-marks-block-eq1.true

pub loop-block-preserved : goal.loop-block-preserved
loop-block-preserved c = listed_more c.loop-block.invariant c.loop-block-test.true
    (elim c.if-marks-block-eq1.branch [ then-marks-block-eq1 w ↦ inl (w.if-marks-block-eq1.true, (w.places-is, w.listed-is)) | else-marks-block-eq1 w ↦ inr (w.if-marks-block-eq1.false, (w.places-is, w.listed-is)) ])

pub returns : goal.returns
returns c = listed_whole c.loop-block.invariant (omega arith)
