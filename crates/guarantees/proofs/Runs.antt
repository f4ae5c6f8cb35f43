-- The request 2026-01, of ALLOC_CONTIG: a run that exists is found, the numbers given adjoin, and no run starts nearer the hint.
use Rattle.std.specs.Prelude.{None, Some}
use Prim.Native.Nat.{ℕ, ◌+◌, ◌≤◌, ◌<◌}
use mathlib.Core.Path.{◌≡◌, refl, sym, ap, ◌∙◌, subst}
use mathlib.Core.Bool.{Bool, true, false, ◌&&◌, ◌||◌, not, true≢false}
use mathlib.Core.List.{List, [], ◌∷◌}
use native.Mathlib.Omega.{arith}
use lib.Dec.{eqb, ltb}
use lib.ListN.{length, take, get_or}
use borrow.Author.Tests.{le-ltb, ltb-false, eq-eqb, ne_eqb, eqb-true, eqb-false}
use Rattle.card.specs.Lists.{numbers_from}
use Rattle.laws.specs.ListsLaws.{or_false_left, or_false_right}
use Rattle.card.specs.Contents.{overwrite}
use Rattle.laws.specs.ContentsLaws.{overwrite_within}
use Rattle.card.specs.Card.{Card, free_blocks}
use Rattle.laws.specs.SoundnessLaws.{free_below}
use Rattle.card.specs.Plan.{Check, ◌⇒◌, first, FirstHolds, here, later, NoneHolds, audited, Buffers, Result, places_after}
use Rattle.laws.specs.PlanLaws.{holds_first}
use Rattle.card.specs.Calls.{refusal_number, is_done, no_hint, wanted, distance, run_starts, nearest_run, alloc_plan, alloc_contig_plan}
use Rattle.laws.specs.RunsLaws.{numbers_from_length, numbers_from_at, run_blocks, blocks_run, no_start, start_none, NearestIs, nearest_run_law}
use Rattle.card.specs.Session.{plan, refusals, perform}
use Rattle.card.specs.declared.Port.{Port}
use Rattle.card.specs.declared.Refusal.{Refusal}
use Rattle.card.specs.declared.Refusal.TheVariants.{NoRun}
use Rattle.card.specs.declared.AllocOperands.{AllocOperands}
use Rattle.guarantees.proofs.RefusedIff.{refused_iff}
use Rattle.card.specs.Statements.Runs.{contig, Run, FoundIfThere, AdjoiningFree, NoNearer, RunFound, RunAdjoins, RunNearest, ContigChecks}

-- ---- the first condition that holds

not_here : {t : Bool} {s r : Refusal} {checks : List Check} → (refusal_number s ≡ refusal_number r → ⊥) → FirstHolds ((t ⇒ s) ∷ checks) r → (t ≡ false) × FirstHolds checks r
not_here other (here e) = absurd (other refl)
not_here other (later e h) = (e, h)

is_here : {t : Bool} {s r : Refusal} {checks : List Check} → (FirstHolds checks r → ⊥) → FirstHolds ((t ⇒ s) ∷ checks) r → t ≡ true
is_here other (here e) = e
is_here other (later e h) = absurd (other h)

none_left : (r : Refusal) → FirstHolds [] r → ⊥
unfolding first
none_left r h = let e : None ≡ Some r = holds_first h in absurd (true≢false (cc))

module _ (port : Port) (c : Card) (o : AllocOperands) (lent : Buffers) where
  -- The conditions before 10.
  abbrev early : List Check
  early = take 6 (refusals port c (contig o lent))

  pub some_blocks : NoneHolds early → 1 ≤ o.count
  unfolding refusals audited plan alloc_contig_plan
  some_blocks n =
      let other : (o.count ≡ 0 → ⊥) =
      eqb-false _ _
      (or_false_left (eqb o.count 0) _ (or_false_left (eqb o.count 0 || ltb 64 o.count) _ (or_false_left _ (ltb (length lent.places) o.count) n.1.1.0))) in
      omega arith

  no_runs : NoneHolds early → length (run_starts c.public o.count) ≡ 0 → (first : ℕ) → Run c.public o.count first → ⊥
  no_runs n e first run =
      no_start c.public o.count e (free_below c.public first (run first (omega arith) (omega (arith, some_blocks n)))) (blocks_run c.public o.count run)

  -- What 14 says.
  abbrev FoundNone : Type 0
  FoundNone = NoneHolds early × ((o.count ≤ length (free_blocks c.public)) × ((first : ℕ) → Run c.public o.count first → ⊥))

  refused_none : FirstHolds (refusals port c (contig o lent)) NoRun → FoundNone
  unfolding refusals audited plan alloc_contig_plan
  refused_none h =
      let h1 = not_here (λ (e : 1 ≡ 14). omega arith) h in
      let h2 = not_here (λ (e : 2 ≡ 14). omega arith) h1.1 in
      let h3 = not_here (λ (e : 4 ≡ 14). omega arith) h2.1 in
      let h4 = not_here (λ (e : 3 ≡ 14). omega arith) h3.1 in
      let h5 = not_here (λ (e : 6 ≡ 14). omega arith) h4.1 in
      let h6 = not_here (λ (e : 5 ≡ 14). omega arith) h5.1 in
      let h7 = not_here (λ (e : 10 ≡ 14). omega arith) h6.1 in
      let t = is_here (λ g. none_left NoRun (not_here (λ (e : 11 ≡ 14). omega arith) g).1) h7.1 in
      let n : NoneHolds early = (h1.0, (h2.0, (h3.0, (h4.0, (h5.0, (h6.0, tt)))))) in
      (n, (ltb-false _ _ h7.0, no_runs n (eqb-true _ _ t)))

  none_refused : FoundNone → FirstHolds (refusals port c (contig o lent)) NoRun
  unfolding refusals audited plan alloc_contig_plan
  none_refused f =
      let n = f.0 in
      later n.0 (later n.1.0 (later n.1.1.0 (later n.1.1.1.0 (later n.1.1.1.1.0 (later n.1.1.1.1.1.0
      (later (le-ltb _ _ f.1.0)
      (here (eq-eqb _ 0 (start_none c.public o.count (λ first h. f.1.1 first (run_blocks c.public o.count h)))))))))))

  found_done : NoneHolds early → o.count ≤ length (free_blocks c.public) → (first : ℕ) → Run c.public o.count first
      → c.public.info.used + o.count ≤ length c.public.pointers → NoneHolds (refusals port c (contig o lent))
  unfolding refusals audited plan alloc_contig_plan
  found_done n enough first run room = (
    n.0,
    (n.1.0, (n.1.1.0, (n.1.1.1.0, (n.1.1.1.1.0, (n.1.1.1.1.1.0, (le-ltb _ _ enough, (ne_eqb _ 0 (λ e. no_runs n e first run), (le-ltb _ _ room, tt)))))))),
  )

  found : FoundIfThere port c o lent
  unfolding plan alloc_contig_plan
  found =
      let r = refused_iff port c (contig o lent) in
      record {
        refused_iff = (λ e. refused_none ((r.refused_iff NoRun).0 e), λ f. (r.refused_iff NoRun).1 (none_refused f));
        always_found = λ n enough first run room. ap (λ (result : Result). result.answer) (r.when_done (found_done n enough first run room));
      }

  -- ---- a call that is done

  module _ (d : is_done (perform port c (contig o lent)).answer ≡ true) where
    unrefused : NoneHolds (refusals port c (contig o lent))
    unrefused = (refused_iff port c (contig o lent)).done_iff.0 d

    taken : NearestIs c.public o.count (wanted o.hint) (nearest_run (wanted o.hint) o.count (run_starts c.public o.count))
    unfolding refusals audited plan alloc_contig_plan
    taken = nearest_run_law c.public o.count (wanted o.hint) (eqb-false _ _ unrefused.1.1.1.1.1.1.1.0)

    placed : (perform port c (contig o lent)).places ≡ overwrite lent.places 0 (numbers_from taken.first o.count)
    unfolding plan alloc_contig_plan places_after
    placed =
        ap (λ (result : Result). result.places) ((refused_iff port c (contig o lent)).when_done unrefused)
        ∙ ap (overwrite lent.places 0) taken.ascend

    enough_places : o.count ≤ length lent.places
    unfolding refusals audited plan alloc_contig_plan
    enough_places =
        ltb-false _ _
        (or_false_right (eqb o.count 0 || ltb 64 o.count || (not (ltb o.hint c.public.info.blocks) && not (eqb o.hint no_hint))) (ltb (length lent.places) o.count) unrefused.1.1.0)

    number_at : (i : ℕ) → i < o.count → get_or (perform port c (contig o lent)).places i 0 ≡ taken.first + i
    number_at i l =
        let long : length (numbers_from taken.first o.count) ≡ o.count = numbers_from_length taken.first o.count in
        let from : 0 + i ≡ i = omega arith in
        ap (λ (xs : List ℕ). get_or xs i 0) placed
        ∙ subst (λ (k : ℕ). get_or (overwrite lent.places 0 (numbers_from taken.first o.count)) k 0 ≡ get_or (numbers_from taken.first o.count) i 0) from
        (overwrite_within lent.places 0 (numbers_from taken.first o.count) (omega (arith, enough_places, long)) i (omega (arith, long)))
        ∙ numbers_from_at taken.first o.count i l

    first_early : NoneHolds early
    unfolding refusals audited plan alloc_contig_plan
    first_early =
        let n = unrefused in
        (n.0, (n.1.0, (n.1.1.0, (n.1.1.1.0, (n.1.1.1.1.0, (n.1.1.1.1.1.0, tt))))))

    first_number : get_or (perform port c (contig o lent)).places 0 0 ≡ taken.first
    first_number = let same : taken.first + 0 ≡ taken.first = omega arith in number_at 0 (some_blocks first_early) ∙ same

    adjoins : AdjoiningFree c.public o (perform port c (contig o lent)).places
    adjoins = record {
      adjoin = λ i l. number_at i l ∙ ap (λ (n : ℕ). n + i) (sym first_number);
      were_free = rw first_number (run_blocks c.public o.count taken.run);
    }

    -- As near as each other to what is wanted, and nearer than each lower one.
    nearest_wanted : (other : ℕ) → Run c.public o.count other
        → (distance (wanted o.hint) taken.first ≤ distance (wanted o.hint) other) × (other < taken.first → distance (wanted o.hint) taken.first < distance (wanted o.hint) other)
    nearest_wanted other run =
        taken.nearest other (free_below c.public other (run other (omega arith) (omega (arith, some_blocks first_early)))) (blocks_run c.public o.count run)

    nearest : (other : ℕ) → Run c.public o.count other → NoNearer o (get_or (perform port c (contig o lent)).places 0 0) other
    unfolding wanted
    nearest other run = rw first_number (record {
      hinted = λ f.
          let near = nearest_wanted other run in
          let same : wanted o.hint ≡ o.hint = rw (ne_eqb o.hint no_hint f) in
          subst (λ (w : ℕ). (distance w taken.first ≤ distance w other) × (other < taken.first → distance w taken.first < distance w other)) same near;
      unhinted = λ e.
          let lowest : wanted o.hint ≡ 0 = rw (eq-eqb o.hint no_hint e) in
          let near : distance 0 taken.first ≤ distance 0 other = subst (λ (w : ℕ). distance w taken.first ≤ distance w other) lowest (nearest_wanted other run).0 in
          omega arith;
    })

-- ---- the theorems

pub run_found : RunFound
run_found = found

pub run_adjoins : RunAdjoins
run_adjoins = adjoins

pub run_nearest : RunNearest
run_nearest = nearest

pub contig_checks : ContigChecks
unfolding alloc_contig_plan alloc_plan
contig_checks port p opened o places = refl
