-- The first list has exactly the blocks of `Reach`; laws of both lists.
use Rattle.std.specs.Prelude.{ℕ, ◌≤◌, ◌<◌, ◌≡◌, refl, Bool, false, ◌&&◌, List, [], length}
use Rattle.std.proofs.Common.{ap}
use Rattle.std.proofs.Math.Logic.{⊎_elim}
use Rattle.std.proofs.Math.Bool.{true, not}
use Rattle.std.proofs.lemmas.Bool.{not-true}
use Rattle.card.specs.Lists.{any, numbers_below}
use Rattle.laws.specs.ListsLaws.{and_left, and_right, and_true, and_false_right, or_left, or_right, or_cases, false_unless, absurd_test}
use Rattle.card.specs.Pointers.{ascending, contains}
use Rattle.card.specs.Contents.{overwrite}
use Rattle.laws.specs.NearestLaws.{numbers_ascend}
use Rattle.card.specs.Card.{Card, allocated, is_root, window_open, points_to}
use Rattle.laws.specs.SoundnessLaws.{allocated_below}
use Rattle.card.specs.Plan.{Check, NoneHolds, out_after, places_after, changes, judge_sound}
use Rattle.card.specs.Promises.{Is}
use Rattle.laws.specs.PromisesLaws.{is_done}
use Rattle.card.specs.Calls.{missing}
use Rattle.card.specs.Reach.{key_presented, sealed, Reach, unsealed_root, by_key, open_window, pointed}
use Rattle.card.specs.declared.Mode.{Mode}
use Rattle.card.specs.declared.Mode.TheVariants.{Reading, Writing}
use Rattle.card.specs.Answers.{Value}
use Rattle.card.proofs.Computed.Bounds.{reach_allocated}
use Rattle.laws.specs.NumbersLaws.{numbers_most, numbers_none}
use Rattle.laws.specs.LeastLaws.{Some, any_member, member_any, any_within, Monotone, least_in, least_closed, least_own, least_ascends, least_most}
use Rattle.report.specs.Report.{given, root_unsealed, some_key, some_window, within_by_itself, within_by_pointer, within, within_reach, with_write_key, unlocks, unlocking, listing, lent_places}

module _ (isPresented : ℕ → ℕ → Bool) (c : Card) where
  -- ---- into the list, and out of it

  within_mono : Monotone (within isPresented c)
  unfolding within within_by_pointer
  within_mono xs ys b w e =
      ⊎_elim
      (λ s. or_left (within_by_itself isPresented c b) _ s)
      (λ s.
      let r : not (sealed isPresented c b) && any (λ a. points_to c.public a b) xs ≡ true = and_right (allocated c.public b) _ s in
      or_right (within_by_itself isPresented c b) _
      (and_true (allocated c.public b) _ (and_left (allocated c.public b) _ s)
      (and_true (not (sealed isPresented c b)) _ (and_left (not (sealed isPresented c b)) _ r)
      (any_within (λ a. points_to c.public a b) xs ys w (and_right (not (sealed isPresented c b)) _ r)))))
      (or_cases (within_by_itself isPresented c b) _ e)

  pub within_itself : (b : ℕ) → within_by_itself isPresented c b ≡ true → contains b (within_reach isPresented c) ≡ true
  unfolding within_reach within within_by_itself
  within_itself b e =
      least_closed (within isPresented c) _ within_mono b (allocated_below c.public b (and_left (allocated c.public b) _ e))
      (or_left (within_by_itself isPresented c b) _ e)

  pub within_step : (a b : ℕ) → contains a (within_reach isPresented c) ≡ true → points_to c.public a b ≡ true → allocated c.public b ≡ true
      → sealed isPresented c b ≡ false → contains b (within_reach isPresented c) ≡ true
  unfolding within_reach within within_by_pointer
  within_step a b m q held s =
      least_closed (within isPresented c) _ within_mono b (allocated_below c.public b held)
      (or_right (within_by_itself isPresented c b) _
      (and_true (allocated c.public b) _ held
      (and_true (not (sealed isPresented c b)) _ (ap not s) (any_member (λ a. points_to c.public a b) (within_reach isPresented c) a m q))))

  pub within_in : (G : ℕ → Type 0) → ((b : ℕ) → b < c.public.info.blocks → within_by_itself isPresented c b ≡ true → G b)
      → ((a b : ℕ) → b < c.public.info.blocks → G a → points_to c.public a b ≡ true → allocated c.public b ≡ true
      → sealed isPresented c b ≡ false
      → G b)
      → (b : ℕ) → contains b (within_reach isPresented c) ≡ true → G b
  unfolding within_reach within within_by_pointer
  within_in G f g b h =
      least_in (within isPresented c) c.public.info.blocks G
      (λ members b i l e.
      ⊎_elim
      (λ s. f b l s)
      (λ s.
      let r : not (sealed isPresented c b) && any (λ a. points_to c.public a b) members ≡ true = and_right (allocated c.public b) _ s in
      let m : Some (λ a. points_to c.public a b) members = member_any _ members (and_right (not (sealed isPresented c b)) _ r) in
      g m.which b l (i m.which m.within) m.passes (and_left (allocated c.public b) _ s)
      (not-true _ (and_left (not (sealed isPresented c b)) _ r)))
      (or_cases (within_by_itself isPresented c b) _ e))
      b h

  -- The blocks that a test tells to be within reach are the list itself.
  pub within_own : (q : ℕ → Bool) → ((b : ℕ) → b < c.public.info.blocks → q b ≡ contains b (within_reach isPresented c))
      → numbers_below q c.public.info.blocks ≡ within_reach isPresented c
  unfolding within_reach
  within_own q f = least_own (within isPresented c) c.public.info.blocks q f

  pub within_ascends : ascending (within_reach isPresented c) ≡ true
  unfolding within_reach
  within_ascends = least_ascends (within isPresented c) c.public.info.blocks

  pub within_most : length (within_reach isPresented c) ≤ c.public.info.blocks
  unfolding within_reach
  within_most = least_most (within isPresented c) c.public.info.blocks

  -- ---- the clauses that look at the block alone

  by_itself_reached : (b : ℕ) → within_by_itself isPresented c b ≡ true → Reach isPresented c b
  unfolding within_by_itself root_unsealed some_key some_window
  by_itself_reached b e =
      let held : allocated c.public b ≡ true = and_left (allocated c.public b) _ e in
      ⊎_elim
      (λ r. unsealed_root held (and_left (is_root c.public b) _ r) (not-true _ (and_right (is_root c.public b) _ r)))
      (λ r.
      ⊎_elim
      (λ k. ⊎_elim (λ m. by_key Reading held m) (λ m. by_key Writing held m) (or_cases (key_presented isPresented c Reading b) _ k))
      (λ w. ⊎_elim (λ m. open_window Reading held m) (λ m. open_window Writing held m) (or_cases (window_open c.public Reading b) _ w))
      (or_cases (some_key isPresented c b) (some_window isPresented c b) r))
      (or_cases (root_unsealed isPresented c b) _ (and_right (allocated c.public b) _ e))

  pub some_key_law : (mode : Mode) (b : ℕ) → key_presented isPresented c mode b ≡ true → some_key isPresented c b ≡ true
  unfolding some_key
  some_key_law Reading b k = or_left (key_presented isPresented c Reading b) _ k
  some_key_law Writing b k = or_right (key_presented isPresented c Reading b) _ k

  some_window_law : (mode : Mode) (b : ℕ) → window_open c.public mode b ≡ true → some_window isPresented c b ≡ true
  unfolding some_window
  some_window_law Reading b w = or_left (window_open c.public Reading b) _ w
  some_window_law Writing b w = or_right (window_open c.public Reading b) _ w

  module _ (b : ℕ) (held : allocated c.public b ≡ true) where
    in_by_root : is_root c.public b ≡ true → sealed isPresented c b ≡ false → within_by_itself isPresented c b ≡ true
    unfolding within_by_itself root_unsealed
    in_by_root r s =
        and_true (allocated c.public b) _ held (or_left (root_unsealed isPresented c b) _ (and_true (is_root c.public b) _ r (ap not s)))

    in_by_key : some_key isPresented c b ≡ true → within_by_itself isPresented c b ≡ true
    unfolding within_by_itself
    in_by_key k = and_true (allocated c.public b) _ held (or_right (root_unsealed isPresented c b) _ (or_left (some_key isPresented c b) _ k))

    in_by_window : some_window isPresented c b ≡ true → within_by_itself isPresented c b ≡ true
    unfolding within_by_itself
    in_by_window w = and_true (allocated c.public b) _ held (or_right (root_unsealed isPresented c b) _ (or_right (some_key isPresented c b) _ w))

  -- ---- the list and `Reach`

  pub listed_reached : (b : ℕ) → contains b (within_reach isPresented c) ≡ true → Reach isPresented c b
  listed_reached = within_in (Reach isPresented c) (λ b l e. by_itself_reached b e) (λ a b l r q held s. pointed r held q s)

  pub reached_listed : {b : ℕ} → Reach isPresented c b → contains b (within_reach isPresented c) ≡ true
  reached_listed (unsealed_root {b = b} held r s) = within_itself b (in_by_root b held r s)
  reached_listed (by_key {b = b} mode held k) = within_itself b (in_by_key b held (some_key_law mode b k))
  reached_listed (open_window {b = b} mode held w) = within_itself b (in_by_window b held (some_window_law mode b w))
  reached_listed (pointed {a = a} {b = b} r held q s) = within_step a b (reached_listed r) q held s

  -- A block that is not allocated is not listed.
  pub missing_unlisted : (b : ℕ) → missing c.public b ≡ true → contains b (within_reach isPresented c) ≡ false
  missing_unlisted b m = false_unless _ (λ h. absurd_test (reach_allocated isPresented c (listed_reached b h)) (not-true _ m))

-- ---- the second list

module _ (words : List ℕ) (c : Card) (chosen : ℕ) where
  pub unlocking_ascends : ascending (unlocking words c chosen) ≡ true
  unfolding unlocking
  unlocking_ascends = numbers_ascend (unlocks words c chosen) c.public.info.blocks

  pub unlocking_most : length (unlocking words c chosen) ≤ c.public.info.blocks
  unfolding unlocking
  unlocking_most = numbers_most (unlocks words c chosen) c.public.info.blocks

  -- No key brings a block that is not allocated within reach.
  pub unlocking_missing : missing c.public chosen ≡ true → unlocking words c chosen ≡ []
  unfolding unlocking unlocks
  unlocking_missing m =
      numbers_none (unlocks words c chosen) c.public.info.blocks
      (λ s l. and_false_right (sealed (given words) c s) _ (missing_unlisted (given (with_write_key words c s)) c chosen m))

-- ---- what is answered

-- A list is put into the places as its plan says, and its length is the result.
pub listing_done : (c : Card) (places : List ℕ) (checks : List Check) (list : List ℕ) {count : ℕ} {places' : List ℕ} → NoneHolds checks → count ≡ length list
    → places' ≡ overwrite places 0 list → Is (judge_sound c (lent_places places) (listing checks list)) (Value count) c [] places'
unfolding listing out_after places_after changes
listing_done c places checks list h n p = rw n (is_done c (lent_places places) (listing checks list) h refl refl p)
