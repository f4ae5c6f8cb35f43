-- An added key brings a chosen block within reach exactly where a block that leads on to it has the key.
use Rattle.std.specs.Prelude.{ℕ, ◌<◌, ◌≡◌, refl, ◌⊎◌, ◌&&◌, List, [], ◌∷◌}
use Rattle.std.proofs.Math.Path.{ap}
use Rattle.std.proofs.Common.{subst, eq-eqb, eqb-true}
use Rattle.std.proofs.Math.Logic.{inl, inr, ⊎_elim}
use Rattle.std.proofs.Math.Bool.{Bool, true, false, not}
use Rattle.std.proofs.Math.Dec.{eqb}
use Rattle.std.proofs.lemmas.Bool.{not-true}
use Rattle.card.specs.Lists.{numbers_below}
use Rattle.laws.specs.ListsLaws.{and_left, and_right, and_true, or_left, or_right, or_cases, absurd_test, not_cases, false_unless, same_test, numbers_below_same}
use Rattle.card.specs.Pointers.{contains}
use Rattle.laws.specs.PointersLaws.{source_pointer}
use Rattle.card.specs.Card.{Card, allocated, has_key, points_to, key_high, key_low}
use Rattle.card.specs.SoundCard.{SoundCard}
use Rattle.laws.specs.SoundnessLaws.{allocated_below}
use Rattle.card.specs.Reach.{key_presented, sealed, Reach, unsealed_root, by_key, open_window, pointed}
use Rattle.card.specs.declared.Mode.{Mode}
use Rattle.card.specs.declared.Mode.TheVariants.{Reading, Writing}
use Rattle.laws.proofs.PointerSteps.{pointer_right_law, block_narrow}
use Rattle.laws.specs.LeastLaws.{Some, any_member, member_any, any_within, Monotone, least_in, least_closed}
use Rattle.report.specs.Report.{given, some_key, within_reach, with_write_key, unlocks, unlocking}
use Rattle.report.proofs.ReportLaws.{some_key_law, listed_reached, reached_listed}
use Rattle.report.specs.Leading.{leads_on, leading, fits}

-- ---- the blocks that lead on

module _ (isPresented : ℕ → ℕ → Bool) (c : Card) (chosen : ℕ) where
  -- The member is unsealed, and the block points to it.
  abbrev leads_to : ℕ → ℕ → Bool
  leads_to b m = not (sealed isPresented c m) && points_to c.public b m

  leads_mono : Monotone (leads_on isPresented c chosen)
  unfolding leads_on
  leads_mono xs ys b w e =
      ⊎_elim
      (λ q. or_left (eqb b chosen) _ q)
      (λ q. or_right (eqb b chosen) _ (any_within (leads_to b) xs ys w q))
      (or_cases (eqb b chosen) _ e)

  pub leading_chosen : chosen < c.public.info.blocks → contains chosen (leading isPresented c chosen) ≡ true
  unfolding leading leads_on
  leading_chosen l = least_closed (leads_on isPresented c chosen) _ leads_mono chosen l (or_left (eqb chosen chosen) _ (eq-eqb chosen chosen refl))

  pub leading_step : (a b : ℕ) → a < c.public.info.blocks → contains b (leading isPresented c chosen) ≡ true → sealed isPresented c b ≡ false
      → points_to c.public a b ≡ true → contains a (leading isPresented c chosen) ≡ true
  unfolding leading leads_on
  leading_step a b l m s q =
      least_closed (leads_on isPresented c chosen) _ leads_mono a l
      (or_right (eqb a chosen) _ (any_member (leads_to a) (leading isPresented c chosen) b m (and_true (not (sealed isPresented c b)) _ (ap not s) q)))

  pub leading_in : (G : ℕ → Type 0) → G chosen
      → ((a b : ℕ) → a < c.public.info.blocks → G b → sealed isPresented c b ≡ false → points_to c.public a b ≡ true → G a)
      → (b : ℕ) → contains b (leading isPresented c chosen) ≡ true → G b
  unfolding leading leads_on
  leading_in G start step =
      least_in (leads_on isPresented c chosen) c.public.info.blocks G
      (λ members b i l e.
      ⊎_elim
      (λ q. rw (eqb-true b chosen q) start)
      (λ q.
      let m : Some (leads_to b) members = member_any (leads_to b) members q in
      step b m.which l (i m.which m.within) (not-true _ (and_left (not (sealed isPresented c m.which)) _ m.passes))
      (and_right (not (sealed isPresented c m.which)) _ m.passes))
      (or_cases (eqb b chosen) _ e))

-- ---- sets of keys

module _ (c : Card) (I J : ℕ → ℕ → Bool) where
  -- What more keys present.
  presented_more : ((high low : ℕ) → I high low ≡ true → J high low ≡ true) → (mode : Mode) (b : ℕ)
      → key_presented I c mode b ≡ true → key_presented J c mode b ≡ true
  unfolding key_presented
  presented_more f mode b e =
      and_true (has_key c.public mode b) _ (and_left (has_key c.public mode b) _ e) (f _ _ (and_right (has_key c.public mode b) _ e))

  -- A block sealed with keys that present more of its own is sealed with those that present fewer.
  sealed_fewer : (b : ℕ) → ((mode : Mode) → key_presented I c mode b ≡ true → key_presented J c mode b ≡ true)
      → sealed J c b ≡ true → sealed I c b ≡ true
  unfolding sealed
  sealed_fewer b f s =
      let keys : Bool = has_key c.public Reading b && has_key c.public Writing b in
      let none : not (key_presented J c Reading b) && not (key_presented J c Writing b) ≡ true = and_right keys _ s in
      let still : (mode : Mode) → not (key_presented J c mode b) ≡ true → not (key_presented I c mode b) ≡ true =
      λ mode n. ap not (false_unless _ (λ k. absurd_test (f mode k) (not-true _ n))) in
      and_true keys _ (and_left keys _ s)
      (and_true (not (key_presented I c Reading b)) _
      (still Reading (and_left (not (key_presented J c Reading b)) _ none))
      (still Writing (and_right (not (key_presented J c Reading b)) _ none)))

-- ---- one key more

module _ (words : List ℕ) (c : Card) (high low : ℕ) where
  abbrev alone : ℕ → ℕ → Bool
  alone = given (high ∷ (low ∷ []))

  abbrev more : ℕ → ℕ → Bool
  more = given (high ∷ (low ∷ words))

  given_more : (h l : ℕ) → given words h l ≡ true → more h l ≡ true
  unfolding given
  given_more h l e = or_right (eqb h high && eqb l low) _ e

  alone_more : (h l : ℕ) → alone h l ≡ true → more h l ≡ true
  unfolding given
  alone_more h l e =
      ⊎_elim (λ k. or_left (eqb h high && eqb l low) _ k) (λ k. absurd_test {t = false} k refl) (or_cases (eqb h high && eqb l low) false e)

  more_cases : (h l : ℕ) → more h l ≡ true → (given words h l ≡ true) ⊎ (alone h l ≡ true)
  unfolding given
  more_cases h l e = ⊎_elim (λ k. inr (or_left (eqb h high && eqb l low) _ k)) (λ k. inl k) (or_cases (eqb h high && eqb l low) _ e)

  presented_cases : (mode : Mode) (b : ℕ) → key_presented more c mode b ≡ true
      → (key_presented (given words) c mode b ≡ true) ⊎ (key_presented alone c mode b ≡ true)
  unfolding key_presented
  presented_cases mode b e =
      let has : has_key c.public mode b ≡ true = and_left (has_key c.public mode b) _ e in
      ⊎_elim
      (λ k. inl (and_true (has_key c.public mode b) _ has k))
      (λ k. inr (and_true (has_key c.public mode b) _ has k))
      (more_cases _ _ (and_right (has_key c.public mode b) _ e))

  unsealed_more : (b : ℕ) → sealed (given words) c b ≡ false → sealed more c b ≡ false
  unsealed_more b e =
      false_unless _ (λ t. absurd_test (sealed_fewer c (given words) more b (λ mode. presented_more c (given words) more given_more mode b) t) e)

  -- A block that the added key unseals has that key.
  unsealed_cases : (b : ℕ) → sealed more c b ≡ false → (sealed (given words) c b ≡ false) ⊎ (some_key alone c b ≡ true)
  unsealed_cases b e =
      ⊎_elim
      (λ k. inr k)
      (λ k.
      inl
      (false_unless _
      (λ t.
      absurd_test
      (sealed_fewer c more (given words) b
      (λ mode p. ⊎_elim (λ q. q) (λ q. absurd_test (some_key_law alone c mode b q) k) (presented_cases mode b p))
      t)
      e)))
      (not_cases (some_key alone c b))

  -- ---- a chosen block on a sound card

  module _ (s : SoundCard c) (chosen : ℕ) (held : allocated c.public chosen ≡ true) where
    from_allocated : (a b : ℕ) → allocated c.public b ≡ true → points_to c.public a b ≡ true → allocated c.public a ≡ true
    from_allocated a b there q =
        subst (λ (n : ℕ). allocated c.public n ≡ true) (source_pointer a b (block_narrow s (allocated_below c.public b there)))
        (pointer_right_law a b s q).source_allocated

    -- Each block that leads on is allocated, and brings the chosen block within reach where it is itself.
    leading_brings : (b : ℕ) → contains b (leading (given words) c chosen) ≡ true
        → (allocated c.public b ≡ true) × (Reach more c b → Reach more c chosen)
    leading_brings =
        leading_in (given words) c chosen (λ b. (allocated c.public b ≡ true) × (Reach more c b → Reach more c chosen)) (held, λ r. r)
        (λ a b l g u q. (from_allocated a b g.0 q, λ r. g.1 (pointed r g.0 q (unsealed_more b u))))

    fits_at : (b : ℕ) → some_key alone c b ≡ true → contains b (leading (given words) c chosen) ≡ true → fits (given words) c chosen high low ≡ true
    unfolding fits
    fits_at b k m = any_member (λ m. some_key alone c m) (leading (given words) c chosen) b m k

    -- What the added key brings within reach was there, or leads on to the chosen block only from the key's own blocks.
    reach_cases : {b : ℕ} → Reach more c b
        → Reach (given words) c b ⊎ (contains b (leading (given words) c chosen) ≡ true → fits (given words) c chosen high low ≡ true)
    reach_cases (unsealed_root {b = b} a r u) = ⊎_elim (λ t. inl (unsealed_root a r t)) (λ k. inr (fits_at b k)) (unsealed_cases b u)
    reach_cases (by_key {b = b} mode a k) =
        ⊎_elim (λ t. inl (by_key mode a t)) (λ t. inr (fits_at b (some_key_law alone c mode b t))) (presented_cases mode b k)
    reach_cases (open_window mode a w) = inl (open_window mode a w)
    reach_cases (pointed {a = x} {b = b} r a q u) =
        ⊎_elim
        (λ (t : sealed (given words) c b ≡ false).
        ⊎_elim
        (λ g. inl (pointed g a q t))
        (λ f. inr (λ m. f (leading_step (given words) c chosen x b (allocated_below c.public x (from_allocated x b a q)) m t q)))
        (reach_cases r))
        (λ k. inr (fits_at b k))
        (unsealed_cases b u)

    pub fits_reach : contains chosen (within_reach (given words) c) ≡ false
        → contains chosen (within_reach (given (high ∷ (low ∷ words))) c) ≡ fits (given words) c chosen high low
    unfolding fits some_key
    fits_reach out =
        same_test _ _
        (λ e.
        ⊎_elim
        (λ g. absurd_test (reached_listed (given words) c g) out)
        (λ g. g (leading_chosen (given words) c chosen (allocated_below c.public chosen held)))
        (reach_cases (listed_reached more c chosen e)))
        (λ e.
        let m : Some (some_key alone c) (leading (given words) c chosen) = member_any (some_key alone c) (leading (given words) c chosen) e in
        let on : (allocated c.public m.which ≡ true) × (Reach more c m.which → Reach more c chosen) = leading_brings m.which m.within in
        let by : (mode : Mode) → key_presented alone c mode m.which ≡ true → contains chosen (within_reach more c) ≡ true =
        λ mode k. reached_listed more c (on.1 (by_key mode on.0 (presented_more c alone more alone_more mode m.which k))) in
        ⊎_elim (by Reading) (by Writing) (or_cases (key_presented alone c Reading m.which) _ m.passes))

-- ---- the second list by one walk

pub unlocking_walked : (words : List ℕ) (c : Card) (chosen : ℕ) → SoundCard c → allocated c.public chosen ≡ true
    → contains chosen (within_reach (given words) c) ≡ false
    → unlocking words c chosen ≡ numbers_below
    (λ s. sealed (given words) c s && fits (given words) c chosen (key_high c.keys Writing s) (key_low c.keys Writing s))
    c.public.info.blocks
unfolding unlocking unlocks with_write_key
unlocking_walked words c chosen sound held out =
    numbers_below_same (unlocks words c chosen) _ c.public.info.blocks
    (λ s l.
    ap (λ (t : Bool). sealed (given words) c s && t)
    (fits_reach words c (key_high c.keys Writing s) (key_low c.keys Writing s) sound chosen held out))
