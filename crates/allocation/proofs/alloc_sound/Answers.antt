-- `allocation::alloc_sound` is the rule on an audited card, by what its checks find.
use mathlib.Core.List.{[]}
use Rattle.card.specs.Lent.{lent_card}
use Rattle.card.specs.Session.{request, perform_sound}
use Rattle.card.specs.declared.Call.TheVariants.{Alloc}
use Rattle.laws.specs.LentLaws.{shown_card}
use Rattle.laws.specs.PromisesLaws.{is_refused}
use Rattle.std.proofs.lemmas.Result.{err_from_is_err_and}
use Rattle.checks.specs.CheckedLaws.{refused_check, passed_check}
use Rattle.checks.specs.Checked.{Passes}
use Rattle.allocation.proofs.Shared.{numbers_long, places_there}
use Rattle.allocation.proofs.Allocating.{can_pick, picked, can_take_picked, alloc_done}
use Rattle.allocation.proofs.alloc_sound.Goals as goal
use Rattle.allocation.proofs.alloc_sound.Goals.{After-wanted, After-pick_all}

-- The checks passed before the blocks are picked.
passed : (c : After-wanted) → Passes c.args.port (lent_card c.args.card.now) (request (Alloc c.args.o) [] [] c.args.places.now)
passed c =
    passed_check _ _ _ (rw (shown_card c.shared-view.ensures) at c.alloc_check.ensures) c.in_ok-alloc_check.was

pub alloc_check-requires : goal.alloc_check-requires
alloc_check-requires c = rw (shown_card c.shared-view.ensures) c.requires

pub pick_all-requires : goal.pick_all-requires
pick_all-requires c = rw c.shared-view.ensures.flags (can_pick _ _ _ _ c.requires (passed (goal.at.pick_all-requires c).After-wanted) c.wanted.ensures)

pub slice_bounds-take_all-end : goal.slice_bounds-take_all-end
slice_bounds-take_all-end c = places_there (picked _ _ _ _ c.requires (passed (goal.at.slice_bounds-take_all-end c).After-wanted) c.wanted.ensures (rw c.shared-view.ensures.flags at c.pick_all.ensures))

pub take_all-requires : goal.take_all-requires
take_all-requires c = can_take_picked _ _ _ _ c.requires (passed (goal.at.take_all-requires c).After-wanted) c.wanted.ensures (rw c.shared-view.ensures.flags at c.pick_all.ensures)

pub returns-in_err-alloc_check-clause-performs : goal.returns-in_err-alloc_check-clause-performs
unfolding perform_sound
returns-in_err-alloc_check-clause-performs c =
    let p = err_from_is_err_and c.from_residual.result c.from_residual.ensures.1 in
    rw (p.1, p.2) (is_refused (lent_card c.args.card.now) _ _ (refused_check _ _ _ (rw (shown_card c.shared-view.ensures) at c.alloc_check.ensures) c.in_err-alloc_check.was))

pub returns-clause-performs : goal.returns-clause-performs
returns-clause-performs c = alloc_done _ _ _ _ c.requires (passed (goal.at.returns-clause-performs c).After-wanted) c.wanted.ensures (rw c.shared-view.ensures.flags at c.pick_all.ensures) c.take_all.ensures.takes

pub slice_bounds-take_all-end-2 : goal.slice_bounds-take_all-end-2
slice_bounds-take_all-end-2 c = numbers_long (picked _ _ _ _ c.requires (passed (goal.at.slice_bounds-take_all-end-2 c).After-wanted) c.wanted.ensures (rw c.shared-view.ensures.flags at c.pick_all.ensures))
