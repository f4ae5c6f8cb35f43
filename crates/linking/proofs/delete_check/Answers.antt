-- `linking::delete_check` finds what the checks of the rule find: those in common with DELETE_TREE, and then 9.
use native.Mathlib.Omega.{arith}
use Rattle.card.specs.Lent.{shared_card}
use Rattle.laws.specs.SoundnessLaws.{allocated_below}
use Rattle.std.proofs.lemmas.Result.{err_from_is_err_and}
use Rattle.checks.specs.CheckedLaws.{check_refused, check_passed, refused_checks, passed_checks}
use Rattle.linking.proofs.Deleting.{removal_held, refused_before, passes_more, has_pointers_law, passes_last}
use Rattle.linking.proofs.delete_check.Goals as goal

pub bounds-card-o : goal.bounds-card-o
bounds-card-o c = let a = c.args in let k = shared_card a.card in omega (arith, allocated_below k.public a.o.destination (removal_held a.port k a.o (passed_checks _ c.removal_check.ensures c.in_ok-removal_check.was)), c.requires.shaped.has_lengths.counts)

pub returns-then-card-o-ne1 : goal.returns-then-card-o-ne1
returns-then-card-o-ne1 c = let a = c.args in let k = shared_card a.card in check_passed a.port k _ (passes_more a.port k a.o (passed_checks _ c.removal_check.ensures c.in_ok-removal_check.was) c.if-card-o-ne1.true)

pub returns-then-points_from : goal.returns-then-points_from
returns-then-points_from c = let a = c.args in let k = shared_card a.card in check_refused a.port k _ (has_pointers_law a.port k a.o (passed_checks _ c.removal_check.ensures c.in_ok-removal_check.was) c.if-card-o-ne1.false c.points_from.ensures c.if-points_from.true)

pub returns-in_err-removal_check : goal.returns-in_err-removal_check
returns-in_err-removal_check c =
    let a = c.args in
    let k = shared_card a.card in
    let p = err_from_is_err_and c.from_residual.result c.from_residual.ensures.1 in
    rw (p.1, p.2) (check_refused a.port k _ (refused_before a.port k a.o (refused_checks _ c.removal_check.ensures c.in_err-removal_check.was)))

pub returns : goal.returns
returns c = let a = c.args in let k = shared_card a.card in check_passed a.port k _ (passes_last a.port k a.o (passed_checks _ c.removal_check.ensures c.in_ok-removal_check.was) c.if-card-o-ne1.false c.points_from.ensures c.if-points_from.false)
