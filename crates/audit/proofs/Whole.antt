-- The walks together are soundness: from their tests to the clauses of the definition, and back.
use Prim.Native.Nat.{ℕ, suc, ◌*◌, ◌≤◌, ◌<◌}
use mathlib.Core.Path.{◌≡◌, refl, sym, ap, ◌∙◌}
use mathlib.Core.Bool.{Bool, true, false, ◌&&◌, not}
use mathlib.Core.List.{List, [], ◌∷◌}
use native.Mathlib.Omega.{arith}
use lib.Dec.{eqb, leb, leb-zero}
use lib.ListN.{drop, get_or}
use borrow.Author.Tests.{le-leb, lt-ltb, eqb-true}
use Rattle.card.specs.Lists.{all, all_below}
use Rattle.laws.specs.ListsLaws.{and_left, and_right, and_true, or_else, same_test, false_unless, absurd_test, Holds, every_true, true_every, all_head, all_tail, all_map, all_below_true, true_all_below}
use Rattle.card.specs.Pointers.{ascending, pointers_to}
use Rattle.laws.specs.BesideLaws.{InStep}
use Rattle.laws.specs.ChangesLaws.{used_in_step}
use Rattle.card.specs.Card.{Card, flag, allocated_flag, in_use, times_in_use}
use Rattle.card.specs.Soundness.{most_blocks, sound_clauses, flags_low, root_allocated, key_zero, unallocated_empty, absent_key_zero, count_right, pointed_to, window_in_time, multiplicity_right, total_in_time, shape, sound, verdict}
use Rattle.card.specs.SoundCard.{Shaped, Consistent}
use Rattle.laws.specs.SoundnessLaws.{shape_true, sound_true, unallocated_empty_true, misshapen_verdict}
use Rattle.card.specs.declared.Verdict.{Verdict}
use Rattle.card.specs.declared.Verdict.TheVariants.{Misshapen, Unsound}
use Rattle.audit.proofs.Ends.{right_link, root_untallied, links_right}
use Rattle.audit.specs.Walks.{judged, PointersFit, link_right, passes, PointersWalked, RowsFit, block_clauses, block_sound}

-- ---- the walk of the pointers: strict order, and each pointer right

module _ (right : ℕ → Bool) where
  passes_all : (least : ℕ) (ws : List ℕ) → passes right least ws ≡ true → all right ws ≡ true
  unfolding passes all
  passes_all least [] e = refl
  passes_all least (w ∷ ws) e =
      and_true (right w) _ (and_left (right w) _ (and_left (right w && leb least w) _ e)) (passes_all (suc w) ws (and_right (right w && leb least w) _ e))

  passes_above : (x : ℕ) (ws : List ℕ) → passes right (suc x) ws ≡ true → ascending (x ∷ ws) ≡ true
  unfolding passes ascending
  passes_above x [] e = refl
  passes_above x (w ∷ ws) e =
      and_true (leb (suc x) w) _ (and_right (right w) _ (and_left (right w && leb (suc x) w) _ e)) (passes_above w ws (and_right (right w && leb (suc x) w) _ e))

  passes_ascending : (ws : List ℕ) → passes right 0 ws ≡ true → ascending ws ≡ true
  unfolding passes ascending
  passes_ascending [] e = refl
  passes_ascending (w ∷ ws) e = passes_above w ws (and_right (right w && leb 0 w) _ e)

  above_passes : (x : ℕ) (ws : List ℕ) → ascending (x ∷ ws) ≡ true → all right ws ≡ true → passes right (suc x) ws ≡ true
  unfolding passes ascending
  above_passes x [] e f = refl
  above_passes x (w ∷ ws) e f =
      and_true (right w && leb (suc x) w) _ (and_true (right w) _ (all_head right w ws f) (and_left (leb (suc x) w) _ e))
      (above_passes w ws (and_right (leb (suc x) w) _ e) (all_tail right w ws f))

  ascending_passes : (ws : List ℕ) → ascending ws ≡ true → all right ws ≡ true → passes right 0 ws ≡ true
  unfolding passes
  ascending_passes [] e f = refl
  ascending_passes (w ∷ ws) e f =
      and_true (right w && leb 0 w) _ (and_true (right w) _ (all_head right w ws f) (leb-zero w)) (above_passes w ws e (all_tail right w ws f))

-- ---- the walks of a card

module _ (c : Card) where
  abbrev passed : Bool
  passed = passes (λ w. link_right c.public.info c.public.flags w) 0 (in_use c.public)

  sound_pointers : Consistent c → passed && all (λ n. multiplicity_right n) (times_in_use c.public) ≡ true
  sound_pointers h =
      and_true passed _ (ascending_passes _ _ h.ascends (all_map _ _ (right_link c.public) (in_use c.public) h.pointers_right)) h.times_right

  sound_block : sound c ≡ true → (tallied b : ℕ) → tallied ≡ pointers_to b (in_use c.public) (times_in_use c.public) → b < c.public.info.blocks → block_sound c tallied b ≡ true
  unfolding sound block_sound count_right
  sound_block e tallied b t l =
      let h = every_true (sound_clauses c) e in
      let n = c.public.info.blocks in
      true_every (block_clauses c tallied b) (
        all_below_true _ n h.0 b l,
        (
          all_below_true _ n h.1.0 b l,
          (
            all_below_true _ n h.1.1.0 b l,
            (
              all_below_true _ n h.1.1.1.0 b l,
              (
                all_below_true _ n h.1.1.1.1.0 b l,
                (
                  rw t (all_below_true (λ k. count_right c k) n h.1.1.1.1.1.1.1.1.1.1.0 b l),
                  (
                    root_untallied c.public h.1.1.1.1.1.1.1.1.1.0 b tallied t,
                    (
                      all_below_true _ n h.1.1.1.1.1.1.1.1.1.1.1.0 b l,
                      (
                        all_below_true _ n h.1.1.1.1.1.1.1.1.1.1.1.1.0 b l,
                        (
                          all_below_true _ n h.1.1.1.1.1.1.1.1.1.1.1.1.1.0 b l,
                          tt,
                        ),
                      ),
                    ),
                  ),
                ),
              ),
            ),
          ),
        ),
      )

  module _ (tally : List ℕ) (tallied : (b : ℕ) → b < c.public.info.blocks → get_or tally b 0 ≡ pointers_to b (in_use c.public) (times_in_use c.public)) where
    blocks_sound :
        c.public.info.total ≤ c.public.info.time * most_blocks
        → InStep (in_use c.public) (times_in_use c.public)
        → passed && all (λ n. multiplicity_right n) (times_in_use c.public) ≡ true
        → all (λ w. eqb w 0) (drop c.public.info.used c.public.pointers) ≡ true
        → all (λ n. eqb n 0) (drop c.public.info.used c.public.multiplicities) ≡ true
        → all_below (λ b. block_sound c (get_or tally b 0) b) c.public.info.blocks ≡ true
        → sound c ≡ true
    unfolding sound block_sound count_right total_in_time
    blocks_sound low s p u v e =
        let n = c.public.info.blocks in
        let links = and_left passed _ p in
        let often = and_right passed _ p in
        let h : (b : ℕ) → b < n → Holds (block_clauses c (get_or tally b 0) b) =
        λ b l. every_true (block_clauses c (get_or tally b 0) b) (all_below_true _ n e b l) in
        let free : (b : ℕ) → b < n → allocated_flag (flag c.public b) ≡ false → pointers_to b (in_use c.public) (times_in_use c.public) ≡ 0 =
        λ b l f. sym (tallied b l) ∙ sym (eqb-true _ _ (h b l).1.1.1.1.1.0) ∙ (unallocated_empty_true c b (h b l).1.1.0 f).count_zero in
        let root : (b : ℕ) → b < n → b < c.public.info.roots → pointers_to b (in_use c.public) (times_in_use c.public) ≡ 0 =
        λ b l k. sym (tallied b l) ∙ eqb-true _ _ (or_else _ _ (h b l).1.1.1.1.1.1.0 (ap not (lt-ltb _ _ k))) in
        true_every (sound_clauses c) (
          true_all_below _ n (λ b l. (h b l).0),
          (
            true_all_below _ n (λ b l. (h b l).1.0),
            (
              true_all_below _ n (λ b l. (h b l).1.1.0),
              (
                true_all_below _ n (λ b l. (h b l).1.1.1.0),
                (
                  true_all_below _ n (λ b l. (h b l).1.1.1.1.0),
                  (
                    passes_ascending _ _ links,
                    (
                      u,
                      (
                        often,
                        (
                          v,
                          (
                            links_right c.public s often free root (passes_all _ 0 _ links),
                            (
                              true_all_below _ n (λ b l. rw (tallied b l) at (h b l).1.1.1.1.1.0),
                              (
                                true_all_below _ n (λ b l. (h b l).1.1.1.1.1.1.1.0),
                                (
                                  true_all_below _ n (λ b l. (h b l).1.1.1.1.1.1.1.1.0),
                                  (
                                    true_all_below _ n (λ b l. (h b l).1.1.1.1.1.1.1.1.1.0),
                                    (
                                      le-leb _ _ low,
                                      tt,
                                    ),
                                  ),
                                ),
                              ),
                            ),
                          ),
                        ),
                      ),
                    ),
                  ),
                ),
              ),
            ),
          ),
        )

  -- ---- the verdict at each way out

  abbrev Walked : Bool → List ℕ → Type 0
  Walked r tally = PointersWalked c.public.info c.public.flags (in_use c.public) (times_in_use c.public) r tally

  pub fault_total : c.public.info.time * most_blocks < c.public.info.total → Unsound ≡ judged (sound c)
  fault_total l = sym (ap judged (false_unless _ (λ (s : sound c ≡ true). absurd (omega (arith, (sound_true c s).total_low)))))

  pub fault_pointers : (r : Bool) (tally : List ℕ) → Walked r tally → r ≡ false → Unsound ≡ judged (sound c)
  fault_pointers r tally h e = sym (ap judged (false_unless _ (λ s. absurd_test (h.passed ∙ sound_pointers (sound_true c s)) e)))

  module _ (u : Bool)
      (i : u ≡ all (λ w. eqb w 0) (drop c.public.info.used c.public.pointers) && all (λ n. eqb n 0) (drop c.public.info.used c.public.multiplicities)) where
    pub fault_unused : u ≡ false → Unsound ≡ judged (sound c)
    fault_unused e =
        sym (ap judged (false_unless _ (λ s. absurd_test (i ∙ and_true _ _ (sound_true c s).rest_zero (sound_true c s).rest_times_zero) e)))

    pub whole : (r : Bool) (tally : List ℕ) (verdict : Verdict)
        → PointersFit c.public.info c.public.flags c.public.pointers c.public.multiplicities
        → c.public.info.total ≤ c.public.info.time * most_blocks
        → Walked r tally → r ≡ true → u ≡ true
        → verdict ≡ judged (all_below (λ b. block_sound c (get_or tally b 0) b) c.public.info.blocks)
        → verdict ≡ judged (sound c)
    whole r tally verdict fit low h e f g =
        let step = used_in_step 0 0 c.public.info.used c.public.pointers c.public.multiplicities fit.used_high fit.has_multiplicities in
        let n = fit.blocks_high in
        let t : (b : ℕ) → b < c.public.info.blocks → get_or tally b 0 ≡ pointers_to b (in_use c.public) (times_in_use c.public) =
        λ b l. h.tallied e b (omega arith) in
        g
        ∙ ap judged
        (same_test _ _
        (blocks_sound tally t low step (sym h.passed ∙ e) (and_left _ _ (sym i ∙ f)) (and_right (all (λ w. eqb w 0) (drop c.public.info.used c.public.pointers)) _ (sym i ∙ f)))
        (λ s. true_all_below _ _ (λ b l. sound_block s (get_or tally b 0) b (t b l) l)))

-- ---- the whole audit, from the test of the shape

module _ (c : Card) (t : Bool) (e : t ≡ shape c) where
  -- What a card of the right shape gives the walks.
  pub shaped_fit : t ≡ true → PointersFit c.public.info c.public.flags c.public.pointers c.public.multiplicities × RowsFit c.public.info c.public.flags c.keys c.public.counts c.public.windows
  shaped_fit f =
      let h : Shaped c = shape_true c (sym e ∙ f) in (
        record {
          blocks_high = h.in_ranges.blocks_high;
          has_flags = h.has_lengths.flags;
          places_high = h.has_lengths.places_high;
          used_high = h.used_high;
          has_multiplicities = h.has_lengths.multiplicities;
        },
        record {
          blocks_high = h.in_ranges.blocks_high;
          time_high = h.time_high;
          has_flags = h.has_lengths.flags;
          has_keys = h.has_lengths.keys;
          has_counts = h.has_lengths.counts;
          has_windows = h.has_lengths.windows;
        },
      )

  pub shaped_verdict : (v : Verdict) → t ≡ true → v ≡ judged (sound c) → v ≡ verdict c
  unfolding verdict
  shaped_verdict v f h = rw (← e, f) h

  pub fault_shape : t ≡ false → Misshapen ≡ verdict c
  fault_shape f = sym (misshapen_verdict c (sym e ∙ f))
