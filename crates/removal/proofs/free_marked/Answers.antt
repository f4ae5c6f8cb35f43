use native.Mathlib.Omega.{arith}
use Rattle.removal.proofs.Marked.{freeing_none, freeing_pass, freeing_more, freeing_same, freeing_whole}
use Rattle.removal.proofs.free_marked.Goals as goal
use Rattle.removal.proofs.free_marked.Goals.{else-marks-at-eq1, then-marks-at-eq1}

pub loop-at-init : goal.loop-at-init
loop-at-init c = freeing_none _ _ _ _ _

pub loop-at-preserved : goal.loop-at-preserved
loop-at-preserved c = let h = c.loop-at.invariant in
    let l = c.loop-at-test.true in
    elim c.if-marks-at-eq1.branch [ then-marks-at-eq1 w ↦ freeing_same _ _ _ _ (freeing_more _ _ _ _ h l w.free_block.ensures w.if-marks-at-eq1.true) (w.flags-is, (w.keys-is, w.windows-is)) | else-marks-at-eq1 w ↦ freeing_same _ _ _ _ (freeing_pass _ _ _ _ h l w.if-marks-at-eq1.false) (w.flags-is, (w.keys-is, w.windows-is)) ]

pub shape_of-flags : goal.shape_of-flags
shape_of-flags c = c.loop-at.invariant.same_flags

pub shape_of-keys : goal.shape_of-keys
shape_of-keys c = c.loop-at.invariant.same_keys

pub shape_of-windows : goal.shape_of-windows
shape_of-windows c = c.loop-at.invariant.same_windows

pub returns : goal.returns
returns c = freeing_whole _ _ _ _ c.loop-at.invariant (omega arith)
