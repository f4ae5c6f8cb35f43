use mathlib.Core.Path.{◌∙◌}
use Rattle.runs.proofs.Meeting.{met_start, met_inside, met_run, met_none, met_whole}
use Rattle.runs.proofs.nearest_run.Goals as goal
use Rattle.runs.proofs.nearest_run.Goals.{then-count-end, else-count-end}

pub loop-block-init : goal.loop-block-init
loop-block-init c = search met_start

pub overflow_sub-end : goal.overflow_sub-end
overflow_sub-end c = search met_inside

pub loop-block-preserved : goal.loop-block-preserved
loop-block-preserved c =
    let m = c.loop-block.invariant in
    let some = c.requires.le_count in
    let inside = c.loop-block-test.true in
    let since = c.since_after-since.ensures in
    elim c.if-count-end.branch [ then-count-end w ↦ met_run m some inside since w.if-count-end.true (w.best-is ∙ w.nearer-best.ensures) | else-count-end w ↦ met_none m some inside since w.if-count-end.false w.best-is ]

pub returns : goal.returns
returns c = search met_whole
