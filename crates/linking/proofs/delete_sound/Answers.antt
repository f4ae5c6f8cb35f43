-- `linking::delete_sound` is the rule on an audited card, by what its checks find.
use mathlib.Core.List.{[]}
use borrow.Author.Tests.{eq-eqb, ne_eqb}
use Rattle.card.specs.Lent.{lent_card}
use Rattle.card.specs.Session.{request, perform_sound}
use Rattle.card.specs.declared.Call.TheVariants.{Delete}
use Rattle.laws.specs.LentLaws.{shown_card}
use Rattle.laws.specs.PromisesLaws.{is_refused}
use Rattle.std.proofs.lemmas.Result.{err_from_is_err_and}
use Rattle.checks.specs.Checked.{Passes}
use Rattle.checks.specs.CheckedLaws.{refused_check, passed_check}
use Rattle.linking.proofs.Deleting.{delete_takeable, freeable, deleted_more, deleted_last}
use Rattle.linking.proofs.delete_sound.Goals as goal
use Rattle.linking.proofs.delete_sound.Goals.{In_ok-delete_check}

-- The checks passed before the pointer is taken away.
passed : (c : In_ok-delete_check) → Passes c.args.port (lent_card c.args.card.now) (request (Delete c.args.o) [] [] [])
passed c =
    passed_check _ _ _ (rw (shown_card c.shared.ensures) at c.delete_check.ensures) c.in_ok-delete_check.was

pub delete_check-requires : goal.delete_check-requires
delete_check-requires c = rw (shown_card c.shared.ensures) c.requires

pub bounds-card-o : goal.bounds-card-o
bounds-card-o c = let a = c.args in let k = lent_card a.card.now in (delete_takeable a.port k a.o c.requires (passed (goal.at.bounds-card-o c).In_ok-delete_check)).1.0

pub take_pointer-card-requires : goal.take_pointer-card-requires
take_pointer-card-requires c = let a = c.args in let k = lent_card a.card.now in let all = delete_takeable a.port k a.o c.requires (passed (goal.at.take_pointer-card-requires c).In_ok-delete_check) in record { can_take_pointer = all.0; destination_in_bounds = all.1.0; bound = all.1.1 }

pub free_block-requires : goal.free_block-requires
free_block-requires c = let a = c.args in let k = lent_card a.card.now in let all = freeable a.port k a.o c.requires (passed (goal.at.free_block-requires c).In_ok-delete_check) (c.take_pointer-card.ensures _ _ _ _) in record { block_in_bounds = all.0; block_in_bounds_2 = all.1.0; block_in_bounds_3 = all.1.1 }

pub returns-in_err-delete_check-clause-performs : goal.returns-in_err-delete_check-clause-performs
unfolding perform_sound
returns-in_err-delete_check-clause-performs c =
    let a = c.args in
    let k = lent_card a.card.now in
    let p = err_from_is_err_and c.from_residual.result c.from_residual.ensures.1 in
    rw (p.1, p.2) (is_refused k _ _ (refused_check a.port k _ (rw (shown_card c.shared.ensures) at c.delete_check.ensures) c.in_err-delete_check.was))

pub returns-then-last-clause-performs : goal.returns-then-last-clause-performs
returns-then-last-clause-performs c = let a = c.args in let k = lent_card a.card.now in deleted_last a.port k a.o (passed (goal.at.returns-then-last-clause-performs c).In_ok-delete_check) (eq-eqb _ _ c.if-last.true) (c.take_pointer-card.ensures _ _ _ _) (c.free_block.ensures _ _ _ _ _)

pub returns-clause-performs : goal.returns-clause-performs
returns-clause-performs c = let a = c.args in let k = lent_card a.card.now in deleted_more a.port k a.o (passed (goal.at.returns-clause-performs c).In_ok-delete_check) (ne_eqb _ _ c.if-last.false) (c.take_pointer-card.ensures _ _ _ _)
