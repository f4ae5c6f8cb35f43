use mathlib.Core.Bool.{true, false}
use mathlib.Core.Path.{◌∙◌}
use Rattle.tables.proofs.Counted.{counting_start, counting_more, counting_whole, free_counted}
use Rattle.tables.proofs.count_free.Goals as goal
use Rattle.tables.proofs.count_free.Goals.{else-free, then-free}

pub loop-flag-init : goal.loop-flag-init
loop-flag-init c = counting_start _ _

pub loop-flag-preserved : goal.loop-flag-preserved
loop-flag-preserved c = let inv = c.loop-flag.invariant in
    let inside = c.loop-flag-test.true in
    let told = c.free.ensures in
    elim c.if-free.branch [ then-free w ↦ counting_more inv inside told true w.if-free.true w.free-is | else-free w ↦ counting_more inv inside told false w.if-free.false w.free-is ]

pub returns : goal.returns
returns c = counting_whole c.loop-flag.invariant c.loop-flag-test.false ∙ free_counted c.args.flags.now
