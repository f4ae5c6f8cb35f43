-- The outward walk passes ALLOC's picks in order, over plain values.
use Prim.Native.Nat.{ℕ, suc, ◌+◌, ◌-◌, ◌≤◌, ◌<◌}
use mathlib.Core.Path.{◌≡◌, refl, sym, ap, ◌∙◌}
use mathlib.Core.Logic.{◌⊎◌, inl, inr, ⊎_elim}
use mathlib.Core.Bool.{Bool, true, false, ◌&&◌, ◌||◌}
use mathlib.Core.List.{List, [], ◌∷◌}
use native.Mathlib.Nat.{not-suc-le-zero}
use native.Mathlib.Numerals.{add-one}
use native.Mathlib.Omega.{arith}
use lib.Dec.{eqb, ltb, leb}
use lib.ListN.{length, take, get_or, set, length-set, take-append-drop}
use lib.Seq.{take-suc-set, drop-set-lt, append_snoc}
use borrow.Author.Tests.{lt-ltb, le-ltb, ltb-true, le-leb, lt-leb, leb-true, eq-eqb}
use Rattle.card.specs.Lists.{any, numbers_below}
use Rattle.laws.specs.ListsLaws.{and_left, and_right, and_true, and_false_right, or_left, or_right, or_false, or_cases, same_test, below_or_not, same_or_other, numbers_below_same}
use Rattle.card.specs.Pointers.{contains, remove}
use Rattle.laws.specs.PointersLaws.{remove_length}
use Rattle.card.specs.Contents.{overwrite}
use Rattle.card.specs.Card.{free_flag}
use Rattle.card.specs.Calls.{picks}
use Rattle.tables.specs.Free.{free_below}
use Rattle.allocation.specs.Walk.{Spread, NextBlock, CanPick}
use Rattle.laws.specs.NearestLaws.{numbers_hold, hold_numbers, numbers_ascend}
use Rattle.allocation.proofs.Nearest.{picks_nearest, remove_numbers}

-- ---- the next block

-- One end moves, to pass the next block.
pub data Moves (low high b l h : ℕ) : Type 0 where
  down : b + 1 ≡ low → l ≡ b → h ≡ high → Moves low high b l h
  up : b ≡ high → l ≡ low → h ≡ b + 1 → Moves low high b l h

-- ---- the blocks that are not passed

-- The block is below `low`, or from `high` on.
unfoldable pub outside : ℕ → ℕ → ℕ → Bool
outside low high y = ltb y low || leb high y

outside_true : (low high y : ℕ) → outside low high y ≡ true → (y < low) ⊎ (high ≤ y)
unfolding outside
outside_true low high y h = ⊎_elim (λ e. inl (ltb-true y low e)) (λ e. inr (leb-true high y e)) (or_cases (ltb y low) _ h)

true_outside : (low high y : ℕ) → (y < low) ⊎ (high ≤ y) → outside low high y ≡ true
unfolding outside
true_outside low high y (inl l) = or_left (ltb y low) _ (lt-ltb y low l)
true_outside low high y (inr l) = or_right (ltb y low) _ (le-leb high y l)

module _ {low high b l h : ℕ} (o : low ≤ high) where
  outside_next : Moves low high b l h → outside low high b ≡ true
  outside_next (down q d e) = true_outside low high b (inl (omega arith))
  outside_next (up q d e) = true_outside low high b (inr (omega arith))

  -- The next block is passed, and no other.
  outside_passed : Moves low high b l h → outside l h b ≡ false
  unfolding outside
  outside_passed (down q d e) = or_false _ _ (le-ltb b l (omega arith)) (lt-leb h b (omega arith))
  outside_passed (up q d e) = or_false _ _ (le-ltb b l (omega arith)) (lt-leb h b (omega arith))

  outside_other : Moves low high b l h → (y : ℕ) → (y ≡ b → ⊥) → outside low high y ≡ outside l h y
  outside_other m y other = same_test _ _ (λ t. true_outside l h y (to m (outside_true low high y t))) (λ t. true_outside low high y (from m (outside_true l h y t)))
    where
      to : Moves low high b l h → (y < low) ⊎ (high ≤ y) → (y < l) ⊎ (h ≤ y)
      to (down q d e) (inl t) = inl (omega arith)
      to (down q d e) (inr t) = inr (omega arith)
      to (up q d e) (inl t) = inl (omega arith)
      to (up q d e) (inr t) = inr (omega arith)

      from : Moves low high b l h → (y < l) ⊎ (h ≤ y) → (y < low) ⊎ (high ≤ y)
      from (down q d e) (inl t) = inl (omega arith)
      from (down q d e) (inr t) = inr (omega arith)
      from (up q d e) (inl t) = inl (omega arith)
      from (up q d e) (inr t) = inr (omega arith)

-- The free ones of them, ascending.
abbrev free_outside : List ℕ → ℕ → ℕ → ℕ → Bool
free_outside flags low high y = free_flag (get_or flags y 0) && outside low high y

unfoldable pub free_left : List ℕ → ℕ → ℕ → List ℕ
free_left flags low high = numbers_below (free_outside flags low high) (length flags)

-- ---- places

pub overwrite_none : (xs : List ℕ) (n : ℕ) → overwrite xs n [] ≡ xs
unfolding overwrite
overwrite_none xs n = let none : n + 0 ≡ n = omega arith in rw none (take-append-drop n xs)

-- One place is written, and then the others.
pub overwrite_next : (xs : List ℕ) (n y : ℕ) (ys : List ℕ) → n < length xs → overwrite (set xs n y) (n + 1) ys ≡ overwrite xs n (y ∷ ys)
unfolding overwrite
overwrite_next xs n y ys l =
    let end : n + suc (length ys) ≡ n + 1 + length ys = omega arith in
    rw (end, drop-set-lt (n + 1 + length ys) xs n y (omega arith), add-one n, take-suc-set xs n y l) (append_snoc (take n xs) y _)

-- ---- the walk

-- After `taken` of `count` blocks: with the picks among those left written behind them, the places are those of all picks.
pub record Picked (flags : List ℕ) (want count : ℕ) (places₀ places : List ℕ) (low high taken : ℕ) : Type 0 where
  pub ready : CanPick flags want count places₀
  pub most : taken ≤ count
  pub lowest : low ≤ want
  pub highest : want ≤ high
  pub within : high ≤ length flags
  pub enough : count - taken ≤ length (free_left flags low high)
  pub whole : overwrite places taken (picks want (count - taken) (free_left flags low high)) ≡ overwrite places₀ 0 (picks want count (free_below flags (length flags)))
  pub same_places : length places ≡ length places₀

pub picked_start : {flags : List ℕ} {want count : ℕ} {places₀ : List ℕ} → CanPick flags want count places₀ → Picked flags want count places₀ places₀ want want 0
unfolding free_left free_below
picked_start {flags} {want} {count} {places₀} r =
    let all : count - 0 ≡ count = omega arith in
    let free : ℕ → Bool = λ y. free_flag (get_or flags y 0) in
    let none : free_left flags want want ≡ free_below flags (length flags) =
    numbers_below_same (free_outside flags want want) free (length flags)
    (λ y l.
    same_test (free_outside flags want want y) (free y) (λ t. and_left _ _ t)
    (λ t. and_true (free y) _ t (true_outside want want y (below_or_not y want)))) in
    record {
      ready = r;
      most = omega arith;
      lowest = omega arith;
      highest = omega arith;
      within = omega (arith, r.wanted_below);
      enough = rw (all, none) r.enough;
      whole = rw (all, none);
      same_places = refl;
    }

first_contained : (xs : List ℕ) → 1 ≤ length xs → contains (get_or xs 0 0) xs ≡ true
unfolding contains any
first_contained [] h = absurd (not-suc-le-zero h)
first_contained (x ∷ xs) h = or_left (eqb x x) _ (eq-eqb x x refl)

module _ {flags : List ℕ} {want count : ℕ} {places₀ places : List ℕ} {low high taken : ℕ} (w : Picked flags want count places₀ places low high taken) where
  left_hold : (y : ℕ) → contains y (free_left flags low high) ≡ true → (y < length flags) × ((y < low) ⊎ (high ≤ y))
  unfolding free_left
  left_hold y h =
      let r : (y < length flags) × (free_outside flags low high y ≡ true) = numbers_hold (free_outside flags low high) (length flags) y h in
      (r.0, outside_true low high y (and_right (free_flag (get_or flags y 0)) _ r.1))

  -- Some block is not passed while one is to be picked.
  pub picked_spread : taken < count → Spread want (length flags) low high
  picked_spread l =
      let y : ℕ = get_or (free_left flags low high) 0 0 in
      let there = left_hold y (first_contained (free_left flags low high) (omega (arith, w.enough))) in
      record {
        lowest = w.lowest;
        highest = w.highest;
        within = w.within;
        unpassed = λ e. ⊎_elim (λ (b : y < low). absurd (omega arith)) (λ (b : high ≤ y). omega (arith, there.0)) there.1;
      }

  module _ {b : ℕ} (n : NextBlock want (length flags) low high b) where
    ordered : low ≤ high
    ordered = omega (arith, w.lowest, w.highest)

    pub moves_down : {l h : ℕ} → b < low → l ≡ b → h ≡ high → Moves low high b l h
    moves_down o d e = ⊎_elim (λ q. down q d e) (λ (q : b ≡ high). absurd (omega (arith, ordered))) n.beside

    pub moves_up : {l h : ℕ} → low ≤ b → l ≡ low → h ≡ b + 1 → Moves low high b l h
    moves_up o d e = ⊎_elim (λ (q : b + 1 ≡ low). absurd (omega arith)) (λ q. up q d e) n.beside

    module _ {l h : ℕ} (moved : Moves low high b l h) where
      around : (l ≤ want) × ((want ≤ h) × (h ≤ length flags))
      around = go moved
        where
          go : Moves low high b l h → (l ≤ want) × ((want ≤ h) × (h ≤ length flags))
          go (down q d e) = (omega (arith, w.lowest), (omega (arith, w.highest), omega (arith, w.within)))
          go (up q d e) = (omega (arith, w.lowest), (omega (arith, w.highest), omega (arith, n.below)))

      free_other : (y : ℕ) → (y ≡ b → ⊥) → free_outside flags low high y ≡ free_outside flags l h y
      free_other y other = ap (λ (t : Bool). free_flag (get_or flags y 0) && t) (outside_other ordered moved y other)

      -- The walk goes on, with what is left to pick and where.
      goes_on : {left : List ℕ} {k : ℕ} → k ≤ count → length left ≡ length places → count - k ≤ length (free_left flags l h)
          → overwrite left k (picks want (count - k) (free_left flags l h)) ≡ overwrite places taken (picks want (count - taken) (free_left flags low high))
          → Picked flags want count places₀ left l h k
      goes_on most long enough whole = record {
        ready = w.ready;
        most = most;
        lowest = around.0;
        highest = around.1.0;
        within = around.1.1;
        enough = enough;
        whole = whole ∙ w.whole;
        same_places = long ∙ w.same_places;
      }

      -- A block that is not free is passed.
      pub picked_passed : {t : Bool} → t ≡ free_flag (get_or flags b 0) → t ≡ false → Picked flags want count places₀ places l h taken
      unfolding free_left
      picked_passed told held =
          let free : free_flag (get_or flags b 0) ≡ false = sym told ∙ held in
          let same : free_left flags l h ≡ free_left flags low high =
          numbers_below_same (free_outside flags l h) (free_outside flags low high) (length flags)
          (λ y i. ⊎_elim (λ (q : y ≡ b). rw (q, free)) (λ q. sym (free_other y q)) (same_or_other y b)) in
          goes_on w.most refl (rw same w.enough) (rw same)

      -- A free block is picked.
      module _ (more : taken < count) {t : Bool} (told : t ≡ free_flag (get_or flags b 0)) (is_free : t ≡ true) where
        next_free : free_outside flags low high b ≡ true
        next_free = and_true _ _ (sym told ∙ is_free) (outside_next ordered moved)

        left_next : contains b (free_left flags low high) ≡ true
        unfolding free_left
        left_next = hold_numbers (free_outside flags low high) (length flags) b n.below next_free

        left_without : free_left flags l h ≡ remove b (free_left flags low high)
        unfolding free_left
        left_without =
            sym (remove_numbers (free_outside flags low high) (free_outside flags l h) (length flags) b n.below next_free
            (and_false_right (free_flag (get_or flags b 0)) _ (outside_passed ordered moved))
            free_other)

        picks_next : picks want (count - taken) (free_left flags low high) ≡ b ∷ picks want (count - (taken + 1)) (free_left flags l h)
        unfolding free_left
        picks_next =
            let one : count - taken ≡ suc (count - (taken + 1)) = omega arith in
            rw (one, left_without)
            (picks_nearest want (count - (taken + 1)) b (free_left flags low high) (numbers_ascend (free_outside flags low high) (length flags)) left_next
            (λ y i. let there = left_hold y i in n.nearest y there.0 there.1))

        pub picked_taken : Picked flags want count places₀ (set places taken b) l h (taken + 1)
        picked_taken =
            goes_on (omega arith) (length-set places taken b)
            (rw left_without (omega (arith, w.enough, remove_length b (free_left flags low high) left_next)))
            (overwrite_next places taken b _ (omega (arith, w.same_places, w.ready.fits)) ∙ ap (overwrite places taken) (sym picks_next))

  -- All are picked.
  pub picked_whole : count ≤ taken → places ≡ overwrite places₀ 0 (picks want count (free_below flags (length flags)))
  unfolding picks
  picked_whole l =
      let none : count - taken ≡ 0 = omega arith in
      sym (overwrite_none places taken) ∙ (rw none at w.whole)
