-- What ALLOC_CONTIG finds and does beside what it shares with ALLOC, over plain values.
use Prim.Native.Nat.{ℕ, ◌+◌, ◌-◌, ◌≤◌, ◌<◌}
use mathlib.Core.Path.{◌≡◌, refl, sym, ap, ◌∙◌, subst}
use mathlib.Core.Bool.{false}
use Rattle.std.specs.Prelude.{Option, None, Some, Ok, Err}
use mathlib.Core.List.{List, [], ◌∷◌}
use native.Mathlib.Omega.{arith}
use lib.Dec.{eqb, ltb}
use lib.ListN.{length, take}
use borrow.Author.Tests.{lt-ltb, le-ltb, ltb-false, eq-eqb, eqb-false}
use Rattle.card.specs.Lists.{numbers_from}
use Rattle.laws.specs.ListsLaws.{absurd_test, all_at}
use Rattle.card.specs.Contents.{overwrite}
use Rattle.card.specs.Card.{Card, free}
use Rattle.card.specs.SoundCard.{SoundCard}
use Rattle.laws.specs.SoundnessLaws.{free_below}
use Rattle.card.specs.Plan.{◌⇒◌, FirstHolds, here, later, NoneHolds, changes, out_after, places_after}
use Rattle.laws.specs.PlanLaws.{holds_front, holds_behind, none_append}
use Rattle.card.specs.Calls.{wanted, take_all, run_starts, nearest_run, alloc_plan, alloc_contig_plan}
use Rattle.laws.specs.RunsLaws.{numbers_from_length, numbers_from_at, run_takeable, run_length}
use Rattle.laws.specs.Takeable.{Takeable}
use Rattle.card.specs.Promises.{Is}
use Rattle.laws.specs.PromisesLaws.{is_done}
use Rattle.card.specs.Session.{Request, request, plan, perform_sound}
use Rattle.card.specs.declared.Port.{Port}
use Rattle.card.specs.declared.Call.TheVariants.{AllocContig}
use Rattle.card.specs.declared.AllocOperands.{AllocOperands}
use Rattle.card.specs.declared.Refusal.{Refusal}
use Rattle.card.specs.declared.Refusal.TheVariants.{NoRun, TooFewPlaces}
use Rattle.card.specs.Answers.{Done}
use Rattle.checks.specs.Checked.{Checked, checked, Refuses, Passes}
use Rattle.checks.specs.CheckedLaws.{check_refused, check_passed, refused_check, passed_check}
use Rattle.runs.specs.Runs.{starts_in, nearest_of}
use Rattle.runs.specs.RunsLaws.{starts_in_law, nearest_absent, nearest_from}
use Rattle.allocation.specs.RunChecked.{RunChecked, run_checked}
use Rattle.allocation.specs.Taking.{CanTakeAll}
use Rattle.allocation.specs.SharedChecks.{shared_checks}
use Rattle.allocation.proofs.Shared.{shared, count_some, count_fits, Chosen, first_places, can_take_all}

-- ---- a refusal or a run

by_from : (v : Checked) (n : Option ℕ) {first : ℕ} → run_checked v n ≡ Ok first → (v ≡ Ok tt) × (n ≡ Some first)
unfolding run_checked
by_from (Err why) n e = let z : ◌≡◌ {A = ℕ} 0 1 = cc in absurd (omega arith)
by_from (Ok tt) None e = let z : ◌≡◌ {A = ℕ} 0 1 = cc in absurd (omega arith)
by_from (Ok tt) (Some first) e = (refl, cc)

by_refused : (v : Checked) (n : Option ℕ) {why : Refusal} → (v ≡ Ok tt → n ≡ None → ⊥) → run_checked v n ≡ Err why → v ≡ Err why
unfolding run_checked
by_refused (Err w) n some e = cc
by_refused (Ok tt) None some e = absurd (some refl refl)
by_refused (Ok tt) (Some first) some e = let z : ◌≡◌ {A = ℕ} 0 1 = cc in absurd (omega arith)

-- ---- the checks

module _ (port : Port) (c : Card) (o : AllocOperands) (places : List ℕ) where
  abbrev contig_request : Request
  contig_request = request (AllocContig o) [] [] places

  -- The nearest run by the flags.
  abbrev pub found : Option ℕ
  found = nearest_of (wanted o.hint) (starts_in c.public.flags o.count)

  abbrev starts : List ℕ
  starts = run_starts c.public o.count

  -- It is found by the block that is wanted.
  pub found_by : {r : Option ℕ} {want : ℕ} → r ≡ nearest_of want (starts_in c.public.flags o.count) → want ≡ wanted o.hint → r ≡ found
  found_by e f = e ∙ ap (λ (n : ℕ). nearest_of n (starts_in c.public.flags o.count)) f

  starts_found : SoundCard c → found ≡ nearest_of (wanted o.hint) starts
  starts_found s = ap (nearest_of (wanted o.hint)) (starts_in_law c.public s.shaped.has_lengths.flags o.count)

  none_found : SoundCard c → found ≡ None → length starts ≡ 0
  none_found s e = nearest_absent (wanted o.hint) starts (sym (starts_found s) ∙ e)

  run_found : SoundCard c → {first : ℕ} → found ≡ Some first → (nearest_run (wanted o.hint) o.count starts ≡ numbers_from first o.count) × (eqb (length starts) 0 ≡ false)
  run_found s e = nearest_from (wanted o.hint) o.count starts (sym (starts_found s) ∙ e)

  -- Its checks are the shared ones, and then those of the run and of the places for pointers.
  pub shared_refused : {r : Refusal} → FirstHolds (shared port c o places) r → Refuses port c contig_request r
  unfolding plan shared_checks alloc_plan alloc_contig_plan
  shared_refused h = holds_front _ h

  module _ (s : SoundCard c) (n : NoneHolds (shared port c o places)) where
    pub no_run : found ≡ None → Refuses port c contig_request NoRun
    unfolding plan shared_checks alloc_plan alloc_contig_plan
    no_run e = holds_behind (shared port c o places) n (here (eq-eqb _ 0 (none_found s e)))

    module _ {first : ℕ} (e : found ≡ Some first) where
      pub no_places : length c.public.pointers < c.public.info.used + o.count → Refuses port c contig_request TooFewPlaces
      unfolding plan shared_checks alloc_plan alloc_contig_plan
      no_places h = holds_behind (shared port c o places) n (later (run_found s e).1 (here (lt-ltb _ _ h)))

      pub contig_passes : c.public.info.used + o.count ≤ length c.public.pointers → Passes port c contig_request
      unfolding plan shared_checks alloc_plan alloc_contig_plan
      contig_passes h =
          none_append (shared port c o places)
          ((eqb (length starts) 0 ⇒ NoRun) ∷ (ltb (length c.public.pointers) (c.public.info.used + o.count) ⇒ TooFewPlaces) ∷ [])
          n ((run_found s e).1, (le-ltb _ _ h, tt))

  -- What the check gives, by what holds.
  pub run_refused : {r : Refusal} → Refuses port c contig_request r → Err r ≡ run_checked (checked port c contig_request) found
  unfolding run_checked
  run_refused h = rw (← check_refused port c contig_request h)

  pub run_passed : Passes port c contig_request → {first : ℕ} → found ≡ Some first → Ok first ≡ run_checked (checked port c contig_request) found
  unfolding run_checked
  run_passed h e = rw (← check_passed port c contig_request h, e)

  -- And what holds, by what it gives.
  module _ (s : SoundCard c) {v : RunChecked} (told : v ≡ run_checked (checked port c contig_request) found) where
    run_there : Passes port c contig_request → found ≡ None → ⊥
    unfolding plan alloc_contig_plan
    run_there h e = absurd_test (eq-eqb (length starts) 0 (none_found s e)) h.1.1.1.1.1.0

    pub refused_run : {r : Refusal} → v ≡ Err r → Refuses port c contig_request r
    refused_run e =
        refused_check port c contig_request refl
        (by_refused (checked port c contig_request) found (λ p. run_there (passed_check port c contig_request refl p)) (sym told ∙ e))

    pub passed_run : {first : ℕ} → v ≡ Ok first → Passes port c contig_request × (found ≡ Some first)
    passed_run e = let r = by_from (checked port c contig_request) found (sym told ∙ e) in (passed_check port c contig_request refl r.0, r.1)

  -- ---- the run taken

  module _ (s : SoundCard c) (h : Passes port c contig_request) {first : ℕ} (e : found ≡ Some first) where
    shared_passed : NoneHolds (shared port c o places)
    unfolding plan shared_checks alloc_plan alloc_contig_plan
    shared_passed = (h.0, (h.1.0, (h.1.1.0, (h.1.1.1.0, (h.1.1.1.1.0, tt)))))

    room : c.public.info.used + o.count ≤ length c.public.pointers
    unfolding plan alloc_contig_plan
    room = ltb-false _ _ h.1.1.1.1.1.1.0

    some : length starts ≡ 0 → ⊥
    some = eqb-false _ _ (run_found s e).1

    takes : Takeable c.public (numbers_from first o.count)
    takes = subst (Takeable c.public) (run_found s e).0 (run_takeable c.public o.count (wanted o.hint))

    -- The last of the run is below N.
    pub run_narrow : first + o.count ≤ 65536
    run_narrow =
        let n : ℕ = o.count - 1 in
        let counted : 1 ≤ o.count = count_some port c o places s shared_passed in
        let below : first + n < c.public.info.blocks =
        subst (λ (b : ℕ). b < c.public.info.blocks) (numbers_from_at first o.count n (omega arith))
        (free_below c.public _
        (all_at (free c.public) (numbers_from first o.count) takes.free n (omega (arith, numbers_from_length first o.count)))) in
        omega (arith, s.shaped.in_ranges.blocks_high)

    pub run_fits : o.count ≤ length places
    run_fits = count_fits port c o places s shared_passed

    module _ {left : List ℕ} (shown : left ≡ overwrite places 0 (numbers_from first o.count)) where
      -- The run is chosen.
      pub chosen : Chosen c o places (nearest_run (wanted o.hint) o.count starts) left
      chosen = record {
        takeable = run_takeable c.public o.count (wanted o.hint);
        long = run_length c.public o.count (wanted o.hint) some;
        shown = shown ∙ ap (overwrite places 0) (sym (run_found s e).0);
      }

      pub can_take_run : CanTakeAll c o.reference (take o.count left)
      can_take_run = can_take_all chosen port s shared_passed room

      pub contig_done : {after : Card} → after ≡ changes c (take_all o.reference (take o.count left)) → Is (perform_sound port c contig_request) Done after [] left
      unfolding perform_sound plan alloc_contig_plan out_after places_after
      contig_done t =
          is_done c contig_request.lent (plan port c contig_request.call contig_request.lent) h
          (t ∙ ap (λ (xs : List ℕ). changes c (take_all o.reference xs)) (first_places chosen)) refl chosen.shown
