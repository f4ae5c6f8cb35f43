use native.Mathlib.Omega.{arith}
use Rattle.audit.proofs.Tallying.{walk_none, placed, room, walk_more, walk_fault, walk_whole}
use Rattle.audit.proofs.walk_pointers.Goals as goal
use Rattle.audit.proofs.walk_pointers.Goals.{else-walk-test, then-walk-test+else-link_right-least}

pub walk-init : goal.walk-init
walk-init c = search walk_none

pub overflow_cast-w : goal.overflow_cast-w
overflow_cast-w c = omega (arith, c.type_inv.pointers c.walk.i)

pub overflow_cast-tally : goal.overflow_cast-tally
overflow_cast-tally c = omega (arith, c.type_inv.multiplicities c.walk.i)

pub bounds-tally-destination : goal.bounds-tally-destination
bounds-tally-destination c = search placed

pub overflow_add-tally : goal.overflow_add-tally
overflow_add-tally c = omega (arith, room c.requires.fact_1 c.walk.invariant _ _ (placed c.requires.fact_1 _ _ _ _ c.link_right.ensures c.if-link_right-least.true) (omega arith) (c.type_inv.multiplicities c.walk.i).fits)

pub bounds-tally-destination-then-link_right-least : goal.bounds-tally-destination-then-link_right-least
bounds-tally-destination-then-link_right-least c = search placed

pub overflow_cast-least : goal.overflow_cast-least
overflow_cast-least c = omega (arith, c.type_inv.pointers c.walk.i)

pub overflow_add-least : goal.overflow_add-least
overflow_add-least c = omega (arith, c.type_inv.pointers c.walk.i)

pub walk-preserved : goal.walk-preserved
walk-preserved c = walk_more c.requires.fact_1 c.walk.invariant _ c.link_right.ensures (omega arith) (c.type_inv.multiplicities c.walk.i).fits c.if-link_right-least.true

pub returns : goal.returns
returns c =
    let fit = c.requires.fact_1 in
    let h = c.walk.invariant in
    elim c.walk-test.branch [
      | else-walk-test w ↦ walk_whole fit h w.walk-test.false
      | then-walk-test+else-link_right-least w ↦
          walk_fault fit h _ w.link_right.ensures w.walk-test.true (c.type_inv.multiplicities _).fits w.if-link_right-least.false
    ]
