use Rattle.audit.proofs.Passing.{remaining_start, remaining_more, remaining_fault, remaining_whole}
use Rattle.audit.proofs.walk_unused.Goals as goal
use Rattle.audit.proofs.walk_unused.Goals.{else-walk-test, then-walk-test+else-pointers-i}

pub walk-init : goal.walk-init
walk-init c = search remaining_start

pub walk-preserved : goal.walk-preserved
walk-preserved c = search remaining_more

pub returns : goal.returns
returns c =
    let h = c.walk.invariant in
    elim c.walk-test.branch [
      | else-walk-test w ↦ remaining_whole h w.walk-test.false
      | then-walk-test+else-pointers-i w ↦ remaining_fault h w.walk-test.true w.if-pointers-i.false
    ]
