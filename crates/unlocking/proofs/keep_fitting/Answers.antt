use native.Mathlib.Omega.{arith}
use Rattle.unlocking.proofs.Keeping.{keeping_none, keeping_few, keeping_whole, keeping_open, keeping_fits, keeping_fails}
use Rattle.unlocking.proofs.keep_fitting.Goals as goal
use Rattle.unlocking.proofs.keep_fitting.Goals.{then-shut-block-eq1+then-leads_or_fits, then-shut-block-eq1+else-leads_or_fits, else-shut-block-eq1}

pub loop-block-init : goal.loop-block-init
loop-block-init c = search keeping_none

pub overflow_add-kept : goal.overflow_add-kept
overflow_add-kept c = omega (arith, keeping_few _ _ _ _ _ c.loop-block.invariant)

pub loop-block-preserved : goal.loop-block-preserved
loop-block-preserved c =
    let h = c.loop-block.invariant in
    let inside = c.loop-block-test.true in
    elim c.if-shut-block-eq1.branch [
      | then-shut-block-eq1+then-leads_or_fits w ↦
          rw (w.shut-is, w.kept-is) (keeping_fits _ _ _ _ _ h inside w.if-shut-block-eq1.true w.leads_or_fits.ensures w.if-leads_or_fits.true)
      | then-shut-block-eq1+else-leads_or_fits w ↦
          rw (w.shut-is, w.kept-is) (keeping_fails _ _ _ _ _ h inside w.if-shut-block-eq1.true w.leads_or_fits.ensures w.if-leads_or_fits.false)
      | else-shut-block-eq1 w ↦ rw (w.shut-is, w.kept-is) (keeping_open _ _ _ _ _ h inside w.if-shut-block-eq1.false)
    ]

pub returns : goal.returns
returns c = search keeping_whole
