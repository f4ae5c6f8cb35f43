-- The blocks in the queue are those that lead on to the chosen one, and the blocks that stay shut are those that unlock it.
use Prim.Native.Nat.{ℕ, ◌<◌}
use mathlib.Core.Path.{◌≡◌, refl, sym, ap, ap₂, ◌∙◌}
use mathlib.Core.Logic.{⊎_elim}
use mathlib.Core.Bool.{Bool, true, false, ◌&&◌, ◌||◌}
use mathlib.Core.List.{List, [], ◌∷◌}
use native.Mathlib.Omega.{arith}
use lib.Dec.{eqb}
use lib.ListN.{length, take, get_or, set, replicate, length-replicate}
use lib.Seq.{get_or-set_same, get_or-set_other}
use borrow.Author.Tests.{eq-eqb, ne_eqb, eqb-true, not-false}
use Rattle.card.specs.Lists.{numbers_below}
use Rattle.laws.specs.ListsLaws.{and_left, and_right, and_true, or_right, same_test, false_unless, same_or_other, not_cases, numbers_below_same}
use Rattle.card.specs.Pointers.{contains}
use Rattle.laws.specs.NearestLaws.{numbers_hold, hold_numbers}
use Rattle.card.specs.Card.{Card, allocated, has_key, in_use, key_high, key_low}
use Rattle.card.specs.SoundCard.{SoundCard}
use Rattle.laws.specs.SoundnessLaws.{allocated_below}
use Rattle.card.specs.Access.{key_is}
use Rattle.card.specs.Calls.{missing}
use Rattle.card.specs.Reach.{key_presented, sealed}
use Rattle.card.specs.declared.Mode.TheVariants.{Reading, Writing}
use Rattle.laws.specs.LeastLaws.{Some, any_member, member_any}
use Rattle.report.specs.Report.{given, some_key, within_reach, unlocking}
use Rattle.report.specs.Leading.{leading, fits}
use Rattle.report.proofs.LeadingLaws.{leading_chosen, leading_step, leading_in, unlocking_walked}
use Rattle.walks.specs.Walk.{Edge, mark, marked_below, Queued, Led, begins, leads, Spread}
use Rattle.walks.specs.WalkLaws.{none_marked, walking_most, queued_among, among_queued}
use Rattle.walks.specs.declared.Direction.TheVariants.{Against}
use Rattle.reach.specs.Within.{Shut, Within}
use Rattle.reach.specs.WithinLaws.{Opens, along_opens, opens_along, turned, turned_back}
use Rattle.unlocking.specs.Unlocking.{Keyed, QueuedBelow, has_this_key, fits_queued, leads_or_fits, stays, Kept, Unlocking}
use Rattle.unlocking.proofs.Fitting.{first_few}

-- ---- the chosen block alone is marked

module _ (n chosen : ℕ) where
  alone_marked : chosen < n → mark (set (replicate n 0) chosen 1) chosen ≡ 1
  alone_marked l = get_or-set_same (replicate n 0) chosen 1 0 (omega (arith, length-replicate {A = ℕ} n 0))

  marked_alone : (b : ℕ) → mark (set (replicate n 0) chosen 1) b ≡ 1 → b ≡ chosen
  marked_alone b e =
      ⊎_elim
      (λ (s : b ≡ chosen). s)
      (λ (o : b ≡ chosen → ⊥).
      let z : mark (set (replicate n 0) chosen 1) b ≡ 0 = get_or-set_other (replicate n 0) chosen b 1 0 o ∙ none_marked n b in
      absurd (omega arith))
      (same_or_other b chosen)

-- ---- keys

or_none : (t : Bool) → t || false ≡ t
or_none true = refl
or_none false = refl

or_implied : (t m u : Bool) → (t ≡ true → m ≡ true → u ≡ true) → t && (m || u) ≡ t && u
or_implied true true u f = sym (f refl refl)
or_implied true false u f = refl
or_implied false m u f = refl

-- A block has the key of these words where it has some key of the set of that one alone.
same_key : (c : Card) (high low b : ℕ) → has_this_key c.public.flags c.keys high low b ≡ some_key (given (high ∷ (low ∷ []))) c b
unfolding has_this_key some_key key_presented has_key key_is given
same_key c high low b = rw (or_none, or_none)

-- ---- a block that is there

module _ {c : Card} (s : SoundCard c) where
  pub sound_keyed : Keyed c.public.flags c.keys
  sound_keyed = record {
    few = omega (arith, s.shaped.has_lengths.flags, s.shaped.in_ranges.blocks_high);
    has_keys = omega (arith, s.shaped.has_lengths.flags, s.shaped.has_lengths.keys);
  }

  module _ (b : ℕ) (m : missing c.public b ≡ false) where
    pub there_below : b < c.public.info.blocks
    there_below = allocated_below c.public b (not-false (allocated c.public b) m)

    pub there_low : b < 4096
    there_low = omega (arith, there_below, s.shaped.in_ranges.blocks_high)

-- ---- the walk against the pointers

module _ (words : List ℕ) (c : Card) (s : SoundCard c) (chosen : ℕ) (there : missing c.public chosen ≡ false)
    {shut marks queue : List ℕ} {count : ℕ} (h : Shut words c c.public.info.blocks shut)
    (w : Spread (Edge Against shut (in_use c.public)) (set (replicate 4096 0) chosen 1) marks queue count) where
  abbrev Walked : ℕ → Type 0
  Walked b = Led (Edge Against shut (in_use c.public)) (set (replicate 4096 0) chosen 1) b

  walked_leads : {b : ℕ} → Walked b → contains b (leading (given words) c chosen) ≡ true
  walked_leads (begins {b = b} e) = rw (marked_alone 4096 chosen b e) (leading_chosen (given words) c chosen (there_below s chosen there))
  walked_leads (leads {a = a} {b = b} r e) =
      let o : Opens c s h b a = along_opens c s h (turned e) in
      leading_step (given words) c chosen b a (allocated_below c.public b o.is_source) (walked_leads r) o.unsealed o.points

  leads_walked : (b : ℕ) → contains b (leading (given words) c chosen) ≡ true → (b < c.public.info.blocks) × Walked b
  leads_walked =
      leading_in (given words) c chosen (λ b. (b < c.public.info.blocks) × Walked b)
      (there_below s chosen there, begins (alone_marked 4096 chosen (there_low s chosen there)))
      (λ a b l g u q. (l, leads g.1 (turned_back (opens_along c s h a b g.0 q u))))

  -- ---- the queue

  queued_leads : (k : ℕ) → k < count → contains (get_or queue k 0) (leading (given words) c chosen) ≡ true
  queued_leads k l = walked_leads (w.led (get_or queue k 0) (w.walking.is_marked k l))

  leads_queued : (b : ℕ) → contains b (leading (given words) c chosen) ≡ true → Queued queue count b
  leads_queued b m = w.walking.queued b (w.reached b (leads_walked b m).1)

  pub queued_below : QueuedBelow queue count (length c.public.flags)
  queued_below = record {
    has_queue = w.walking.has_queue;
    most = walking_most w.walking;
    below = λ k l. omega (arith, (leads_walked (get_or queue k 0) (queued_leads k l)).0, s.shaped.has_lengths.flags);
  }

  queued_fits : (high low : ℕ) → fits_queued c.public.flags c.keys (take count queue) high low ≡ fits (given words) c chosen high low
  unfolding fits_queued fits
  queued_fits high low =
      let q : ℕ → Bool = has_this_key c.public.flags c.keys high low in
      let p : ℕ → Bool = some_key (given (high ∷ (low ∷ []))) c in
      same_test _ _
      (λ e.
      let m : Some q (take count queue) = member_any q (take count queue) e in
      let r : Queued queue count m.which = among_queued queue count (first_few queued_below) m.which m.within in
      let leads' : contains m.which (leading (given words) c chosen) ≡ true = rw (← r.is) (queued_leads r.at r.low) in
      any_member p (leading (given words) c chosen) m.which leads' (sym (same_key c high low m.which) ∙ m.passes))
      (λ e.
      let m : Some p (leading (given words) c chosen) = member_any p (leading (given words) c chosen) e in
      let member : contains m.which (take count queue) ≡ true = queued_among queue count (first_few queued_below) m.which (leads_queued m.which m.within) in
      any_member q (take count queue) m.which member (same_key c high low m.which ∙ m.passes))

  -- A sealed block that is marked has its own write key among those of the queue.
  own_fits : (b : ℕ) → sealed (given words) c b ≡ true → mark marks b ≡ 1
      → fits_queued c.public.flags c.keys (take count queue) (key_high c.keys Writing b) (key_low c.keys Writing b) ≡ true
  unfolding fits_queued has_this_key key_is sealed has_key
  own_fits b t e =
      let high : ℕ = key_high c.keys Writing b in
      let low : ℕ = key_low c.keys Writing b in
      let has : has_key c.public Reading b && has_key c.public Writing b ≡ true = and_left _ _ t in
      any_member (has_this_key c.public.flags c.keys high low) (take count queue) b (queued_among queue count (first_few queued_below) b (w.walking.queued b e))
      (or_right (has_key c.public Reading b && key_is c.keys Reading b high low) _
      (and_true (has_key c.public Writing b) _ (and_right (has_key c.public Reading b) _ has)
      (and_true (eqb high high) _ (eq-eqb high high refl) (eq-eqb low low refl))))

  -- ---- the list

  shut_sealed : (b : ℕ) → b < c.public.info.blocks → eqb (get_or shut b 0) 1 ≡ sealed (given words) c b
  shut_sealed b l =
      ⊎_elim
      (λ (t : sealed (given words) c b ≡ true). eq-eqb (get_or shut b 0) 1 (h.is_shut b l t) ∙ sym t)
      (λ (t : sealed (given words) c b ≡ false).
      let z : get_or shut b 0 ≡ 0 = h.is_open b l t in
      ne_eqb (get_or shut b 0) 1 (λ e. omega arith) ∙ sym t)
      (not_cases (sealed (given words) c b))

  stays_unlocks : (b : ℕ) → b < c.public.info.blocks → stays c.public.flags c.keys marks (take count queue) shut b
      ≡ (sealed (given words) c b && fits (given words) c chosen (key_high c.keys Writing b) (key_low c.keys Writing b))
  unfolding leads_or_fits
  stays_unlocks b l =
      or_implied (eqb (get_or shut b 0) 1) (eqb (mark marks b) 1) _ (λ t m. own_fits b (sym (shut_sealed b l) ∙ t) (eqb-true (mark marks b) 1 m))
      ∙ ap₂ (λ (t u : Bool). t && u) (shut_sealed b l) (queued_fits (key_high c.keys Writing b) (key_low c.keys Writing b))

  pub kept_unlocking : {after : List ℕ} {kept : ℕ} → contains chosen (within_reach (given words) c) ≡ false
      → Kept c.public.flags c.keys marks (take count queue) shut after kept → Unlocking words c chosen after kept
  kept_unlocking {after} {kept} out k =
      let n : length c.public.flags ≡ c.public.info.blocks = s.shaped.has_lengths.flags in
      let list : marked_below after c.public.info.blocks ≡ unlocking words c chosen =
      ap (λ (m : ℕ). marked_below after m) (sym n)
      ∙ k.is_kept
      ∙ ap (λ (m : ℕ). numbers_below (stays c.public.flags c.keys marks (take count queue) shut) m) n
      ∙ numbers_below_same (stays c.public.flags c.keys marks (take count queue) shut) _ c.public.info.blocks stays_unlocks
      ∙ sym (unlocking_walked words c chosen s (not-false (allocated c.public chosen) there) out) in
      record {
        outside = out;
        is_kept = list;
        counted = k.counted ∙ ap (λ (m : ℕ). length (marked_below after m)) n ∙ ap length list;
      }

-- ---- whether the chosen block is within reach

module _ {words : List ℕ} {c : Card} {shut marks : List ℕ} {count : ℕ} (w : Within words c shut marks count) (chosen : ℕ) where
  pub marked_within : chosen < c.public.info.blocks → mark marks chosen ≡ 1 → contains chosen (within_reach (given words) c) ≡ true
  marked_within l e =
      rw (← w.is_marked) (hold_numbers (λ b. eqb (mark marks b) 1) c.public.info.blocks chosen l (eq-eqb (mark marks chosen) 1 e))

  pub unmarked_outside : (mark marks chosen ≡ 1 → ⊥) → contains chosen (within_reach (given words) c) ≡ false
  unmarked_outside n =
      rw (← w.is_marked)
      (false_unless _
      (λ e. n (eqb-true (mark marks chosen) 1 (numbers_hold (λ b. eqb (mark marks b) 1) c.public.info.blocks chosen e).1)))
