-- `allocation::alloc_contig_sound` is the rule on an audited card, by what its checks find.
use mathlib.Core.Path.{◌≡◌}
use mathlib.Core.List.{[]}
use Rattle.card.specs.Lent.{lent_card}
use Rattle.card.specs.Session.{request, perform_sound}
use Rattle.card.specs.declared.Call.TheVariants.{AllocContig}
use Rattle.laws.specs.LentLaws.{shown_card}
use Rattle.laws.specs.PromisesLaws.{is_refused}
use Rattle.std.specs.Prelude.{Some}
use Rattle.std.proofs.lemmas.Result.{err_from_is_err_and}
use Rattle.checks.specs.Checked.{Passes}
use Rattle.allocation.proofs.Shared.{numbers_long, places_there}
use Rattle.allocation.proofs.Contig.{found, refused_run, passed_run, run_narrow, run_fits, chosen, can_take_run, contig_done}
use Rattle.allocation.proofs.alloc_contig_sound.Goals as goal
use Rattle.allocation.proofs.alloc_contig_sound.Goals.{In_ok-first}

-- The checks passed and found the run before its numbers are listed.
passed : (c : In_ok-first)
    → Passes c.args.port (lent_card c.args.card.now) (request (AllocContig c.args.o) [] [] c.args.places.now)
    × (found c.args.port (lent_card c.args.card.now) c.args.o c.args.places.now ≡ Some c.in_ok-first.first)
passed c =
    passed_run _ _ _ _ c.requires (rw (shown_card c.shared.ensures, c.shared.ensures.flags) at c.alloc_contig_check.ensures) c.in_ok-first.was

pub alloc_contig_check-requires : goal.alloc_contig_check-requires
alloc_contig_check-requires c = rw (shown_card c.shared.ensures) c.requires

pub list_run-requires : goal.list_run-requires
list_run-requires c = let there = passed (goal.at.list_run-requires c).In_ok-first in
    record { count_bound = run_narrow _ _ _ _ c.requires there.0 there.1; count_in_bounds = run_fits _ _ _ _ c.requires there.0 there.1 }

pub slice_bounds-take_all-end : goal.slice_bounds-take_all-end
slice_bounds-take_all-end c = let there = passed (goal.at.slice_bounds-take_all-end c).In_ok-first in
    places_there (chosen _ _ _ _ c.requires there.0 there.1 c.list_run.ensures)

pub take_all-requires : goal.take_all-requires
take_all-requires c = let there = passed (goal.at.take_all-requires c).In_ok-first in
    can_take_run _ _ _ _ c.requires there.0 there.1 c.list_run.ensures

pub returns-in_err-first-clause-performs : goal.returns-in_err-first-clause-performs
unfolding perform_sound
returns-in_err-first-clause-performs c =
    let p = err_from_is_err_and c.from_residual.result c.from_residual.ensures.1 in
    rw (p.1, p.2) (is_refused (lent_card c.args.card.now) _ _ (refused_run _ _ _ _ c.requires (rw (shown_card c.shared.ensures, c.shared.ensures.flags) at c.alloc_contig_check.ensures) c.in_err-first.was))

pub returns-clause-performs : goal.returns-clause-performs
returns-clause-performs c = let there = passed (goal.at.returns-clause-performs c).In_ok-first in
    contig_done _ _ _ _ c.requires there.0 there.1 c.list_run.ensures c.take_all.ensures.takes

pub slice_bounds-take_all-end-2 : goal.slice_bounds-take_all-end-2
slice_bounds-take_all-end-2 c = let there = passed (goal.at.slice_bounds-take_all-end-2 c).In_ok-first in
    numbers_long (chosen _ _ _ _ c.requires there.0 there.1 c.list_run.ensures)
