use mathlib.Core.Bool.{true, false}
use mathlib.Core.Path.{◌∙◌}
use Rattle.tables.proofs.Counted.{counting_start, counting_more, counting_whole, rented_counted}
use Rattle.tables.proofs.count_rented.Goals as goal
use Rattle.tables.proofs.count_rented.Goals.{else-allocated, then-allocated}

pub loop-flag-init : goal.loop-flag-init
loop-flag-init c = counting_start _ _

pub loop-flag-preserved : goal.loop-flag-preserved
loop-flag-preserved c = let inv = c.loop-flag.invariant in
    let inside = c.loop-flag-test.true in
    let told = c.allocated.ensures in
    elim c.if-allocated.branch [ then-allocated w ↦ counting_more inv inside told true w.if-allocated.true w.rented-is | else-allocated w ↦ counting_more inv inside told false w.if-allocated.false w.rented-is ]

pub returns : goal.returns
returns c = counting_whole c.loop-flag.invariant c.loop-flag-test.false ∙ rented_counted c.args.roots c.args.flags.now c.min.ensures
