-- `linking::create_sound` is the rule on an audited card, by what its checks find.
use mathlib.Core.List.{[]}
use Rattle.card.specs.Lent.{lent_card}
use Rattle.card.specs.Session.{request, perform_sound}
use Rattle.card.specs.declared.Call.TheVariants.{Create}
use Rattle.laws.specs.LentLaws.{shown_card}
use Rattle.laws.specs.PromisesLaws.{is_refused}
use Rattle.std.proofs.lemmas.Result.{err_from_is_err_and}
use Rattle.checks.specs.Checked.{Passes}
use Rattle.checks.specs.CheckedLaws.{refused_check, passed_check}
use Rattle.linking.proofs.Creating.{create_makeable, create_done}
use Rattle.linking.proofs.create_sound.Goals as goal
use Rattle.linking.proofs.create_sound.Goals.{In_ok-create_check}

-- The checks passed before the pointer is made.
passed : (c : In_ok-create_check) → Passes c.args.port (lent_card c.args.card.now) (request (Create c.args.o) [] [] [])
passed c =
    passed_check _ _ _ (rw (shown_card c.shared.ensures) at c.create_check.ensures) c.in_ok-create_check.was

pub create_check-requires : goal.create_check-requires
create_check-requires c = rw (shown_card c.shared.ensures) c.requires

pub make_pointer-card-requires : goal.make_pointer-card-requires
make_pointer-card-requires c = let a = c.args in let k = lent_card a.card.now in let all = create_makeable a.port k a.o c.requires (passed (goal.at.make_pointer-card-requires c).In_ok-create_check) in record { can_make_pointer = all.0; destination_in_bounds = all.1.0; destination_bound = all.1.1 }

pub returns-in_err-create_check-clause-performs : goal.returns-in_err-create_check-clause-performs
unfolding perform_sound
returns-in_err-create_check-clause-performs c =
    let a = c.args in
    let k = lent_card a.card.now in
    let p = err_from_is_err_and c.from_residual.result c.from_residual.ensures.1 in
    rw (p.1, p.2) (is_refused k _ _ (refused_check a.port k _ (rw (shown_card c.shared.ensures) at c.create_check.ensures) c.in_err-create_check.was))

pub returns-clause-performs : goal.returns-clause-performs
returns-clause-performs c = let a = c.args in let k = lent_card a.card.now in create_done a.port k a.o (passed (goal.at.returns-clause-performs c).In_ok-create_check) (c.make_pointer-card.ensures _ _ _ _)
