-- `allocation::alloc_contig_check` finds what the checks of the rule find, and the nearest run: the shared checks, then the run, then the places.
use mathlib.Core.Path.{◌≡◌, sym, ◌∙◌}
use native.Mathlib.Omega.{arith}
use Rattle.card.specs.Lent.{shared_card}
use Rattle.card.specs.Plan.{NoneHolds}
use Rattle.std.proofs.lemmas.Result.{err_from_is_err_and}
use Rattle.checks.specs.CheckedLaws.{refused_checks, passed_checks}
use Rattle.allocation.proofs.Shared.{shared, count_some}
use Rattle.allocation.proofs.Contig.{shared_refused, no_run, no_places, contig_passes, run_refused, run_passed, found, found_by}
use Rattle.allocation.proofs.alloc_contig_check.Goals as goal
use Rattle.allocation.proofs.alloc_contig_check.Goals.{After-wanted, After-nearest_run}

-- The shared checks passed before the run is looked for.
passed : (c : After-wanted) → NoneHolds (shared c.args.port (shared_card c.args.card) c.args.o c.args.places.now)
passed c =
    passed_checks _ c.shared_check.ensures c.in_ok-shared_check.was

-- The run found is the nearest by the rule.
nearest : (c : After-nearest_run) → c.nearest_run.result ≡ found c.args.port (shared_card c.args.card) c.args.o c.args.places.now
nearest c =
    found_by c.args.port (shared_card c.args.card) c.args.o c.args.places.now c.nearest_run.ensures c.wanted.ensures

pub returns-in_err-shared_check : goal.returns-in_err-shared_check
returns-in_err-shared_check c =
    let p = err_from_is_err_and c.from_residual.result c.from_residual.ensures.1 in
    rw (p.1, p.2) (run_refused _ _ _ c.args.places.now (shared_refused _ _ _ c.args.places.now (refused_checks _ c.shared_check.ensures c.in_err-shared_check.was)))

pub nearest_run-requires : goal.nearest_run-requires
nearest_run-requires c = record { flags_len_bound = omega (arith, c.requires.shaped.has_lengths.flags, c.requires.shaped.in_ranges.blocks_high); le_count = count_some _ _ _ c.args.places.now c.requires (passed c) }

pub returns-in_default : goal.returns-in_default
returns-in_default c = run_refused _ _ _ _ (no_run _ _ _ _ c.requires (passed (goal.at.returns-in_default c).After-wanted) (sym (nearest (goal.at.returns-in_default c).After-nearest_run) ∙ c.in_default.is))

pub overflow_add-card : goal.overflow_add-card
overflow_add-card c = omega (arith, c.requires.shaped.used_high, c.requires.shaped.has_lengths.places_high)

pub returns-then-card-count : goal.returns-then-card-count
returns-then-card-count c = run_refused _ _ _ _ (no_places _ _ _ _ c.requires (passed (goal.at.returns-then-card-count c).After-wanted) (sym (nearest (goal.at.returns-then-card-count c).After-nearest_run) ∙ c.in-Some.is) c.if-card-count.true)

pub returns : goal.returns
returns c = let there = sym (nearest (goal.at.returns c).After-nearest_run) ∙ c.in-Some.is in
    run_passed _ _ _ _ (contig_passes _ _ _ _ c.requires (passed (goal.at.returns c).After-wanted) there c.if-card-count.false) there
