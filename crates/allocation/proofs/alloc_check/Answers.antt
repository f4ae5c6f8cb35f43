-- `allocation::alloc_check` finds what the checks of the rule find: the shared ones, then that of the places for pointers.
use Rattle.std.proofs.lemmas.Result.{err_from_is_err_and}
use Rattle.checks.specs.CheckedLaws.{check_refused, check_passed, refused_checks, passed_checks}
use Rattle.allocation.proofs.Allocating.{shared_refused, too_few_places, alloc_passes}
use Rattle.allocation.proofs.alloc_check.Goals as goal

pub returns-then-card-o : goal.returns-then-card-o
returns-then-card-o c = check_refused _ _ _ (too_few_places _ _ _ c.args.places.now (passed_checks _ c.shared_check.ensures c.in_ok-shared_check.was) c.if-card-o.true)

pub returns-in_err-shared_check : goal.returns-in_err-shared_check
returns-in_err-shared_check c =
    let p = err_from_is_err_and c.from_residual.result c.from_residual.ensures.1 in
    rw (p.1, p.2) (check_refused _ _ _ (shared_refused _ _ _ c.args.places.now (refused_checks _ c.shared_check.ensures c.in_err-shared_check.was)))

pub returns : goal.returns
returns c = check_passed _ _ _ (alloc_passes _ _ _ c.args.places.now (passed_checks _ c.shared_check.ensures c.in_ok-shared_check.was) c.if-card-o.false)
