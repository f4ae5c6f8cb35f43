-- The numbers below the length of a list at which a test of its elements holds, counted, from a first place on below which none counts.
use Prim.Native.Nat.{ℕ, zero, suc, ◌+◌, ◌-◌, ◌≤◌, ◌<◌}
use mathlib.Core.Path.{◌≡◌, refl, sym, ap, ◌∙◌, subst}
use mathlib.Core.Bool.{Bool, true, false, cond, and-true}
use mathlib.Core.List.{List}
use native.Mathlib.Nat.{not-suc-le-zero}
use native.Mathlib.Numerals.{add-one}
use native.Mathlib.Omega.{arith}
use lib.ListN.{length, get_or, take, drop, length-drop, drop_of_length-le}
use lib.Seq.{get_or-drop, take_all}
use borrow.Author.Tests.{lt-ltb, le-ltb}
use Rattle.std.specs.Prelude.{min}
use Rattle.std.specs.List.{count_by}
use Rattle.std.proofs.Math.Logic.{⊎_elim}
use Rattle.std.proofs.lemmas.List.Sums.{count_by_more_yes, count_by_more_no}
use Rattle.card.specs.Lists.{numbers_below}
use Rattle.laws.specs.ListsLaws.{and_false_right, below_or_not}
use Rattle.laws.specs.NumbersLaws.{one, numbers_more, numbers_none}
use Rattle.card.specs.Card.{allocated_flag, free_flag}
use Rattle.tables.specs.Free.{is_free, free_below}
use Rattle.tables.specs.Rented.{is_rented, rented_below}

count_more : (test : ℕ → Bool) (xs : List ℕ) (k : ℕ) → k < length xs → count_by test (take (suc k) xs) ≡ count_by test (take k xs) + one (test (get_or xs k 0))
count_more test xs k l = go (test (get_or xs k 0)) refl
  where
    go : (t : Bool) → test (get_or xs k 0) ≡ t → count_by test (take (suc k) xs) ≡ count_by test (take k xs) + one t
    go true e = rw add-one at (count_by_more_yes test xs k 0 l e)
    go false e = rw add-one at (count_by_more_no test xs k 0 l e) ∙ omega arith

-- A count on the way: that of the first i elements.
pub record Counting (test : ℕ → Bool) (xs : List ℕ) (count i : ℕ) : Type 0 where
  pub few : count ≤ i
  pub of_first : count ≡ count_by test (take i xs)

pub counting_start : (test : ℕ → Bool) (xs : List ℕ) → Counting test xs 0 0
counting_start test xs = record { few = omega arith; of_first = refl }

module _ {test : ℕ → Bool} {xs : List ℕ} {count i : ℕ} (k : Counting test xs count i) where
  pub counting_more : {next : ℕ} {t : Bool} → i < length xs → t ≡ test (get_or xs i 0) → (u : Bool) → t ≡ u → next ≡ cond u (count + 1) count → Counting test xs next (i + 1)
  counting_more {next} l told u e n = record {
    few = most u n;
    of_first = let after : i + 1 ≡ suc i = omega arith in rw after (n ∙ go u (sym told ∙ e));
  }
    where
      most : (u : Bool) → next ≡ cond u (count + 1) count → next ≤ i + 1
      most true n = omega (arith, k.few)
      most false n = omega (arith, k.few)

      go : (u : Bool) → test (get_or xs i 0) ≡ u → cond u (count + 1) count ≡ count_by test (take (suc i) xs)
      go true e = sym (count_more test xs i l ∙ rw (e, ← k.of_first) refl)
      go false e = sym (count_more test xs i l ∙ rw (e, ← k.of_first) (omega arith))

  pub counting_whole : length xs ≤ i → count ≡ count_by test xs
  counting_whole l = k.of_first ∙ ap (count_by test) (take_all i xs l)

module _ (p test : ℕ → Bool) (first : ℕ) (xs : List ℕ) (below : (b : ℕ) → b < first → p b ≡ false) (same : (b : ℕ) → first ≤ b → p b ≡ test (get_or xs b 0)) where
  counted_to : (k : ℕ) → first + k ≤ length xs → length (numbers_below p (first + k)) ≡ count_by test (take k (drop first xs))
  counted_to zero l = let none : first + 0 ≡ first = omega arith in rw (none, numbers_none p first below)
  counted_to (suc k) l =
      let next : first + suc k ≡ suc (first + k) = omega arith in
      let told : p (first + k) ≡ test (get_or (drop first xs) k 0) = same (first + k) (omega arith) ∙ ap test (sym (get_or-drop first xs k 0)) in
      let more : count_by test (take (suc k) (drop first xs)) ≡ count_by test (take k (drop first xs)) + one (test (get_or (drop first xs) k 0)) =
      count_more test (drop first xs) k (omega (arith, length-drop first xs)) in
      rw (next, numbers_more p (first + k), counted_to k (omega arith), told) (sym more)

  counted : length (numbers_below p (length xs)) ≡ count_by test (drop first xs)
  counted =
      ⊎_elim
      (λ (l : length xs < first). rw (drop_of_length-le xs {i = first} (omega arith), numbers_none p (length xs) (λ b m. below b (omega arith))))
      (λ (l : first ≤ length xs).
      let all : first + (length xs - first) ≡ length xs = omega arith in
      subst (λ (n : ℕ). length (numbers_below p n) ≡ count_by test (drop first xs)) all
      (counted_to (length xs - first) (omega arith) ∙ ap (count_by test) (take_all (length xs - first) (drop first xs) (omega (arith, length-drop first xs)))))
      (below_or_not (length xs) first)

pub free_counted : (flags : List ℕ) → count_by free_flag flags ≡ length (free_below flags (length flags))
unfolding free_below
free_counted flags = sym (counted (is_free flags) free_flag 0 flags (λ b l. absurd (not-suc-le-zero l)) (λ b l. refl))

-- The part from the roots on, if there are so many blocks.
ordinary : (roots : ℕ) (flags : List ℕ) {first : ℕ} → first ≡ min roots (length flags) → take (length flags - first) (drop first flags) ≡ drop roots flags
ordinary roots flags {first} e =
    take_all (length flags - first) (drop first flags) (omega (arith, length-drop first flags))
    ∙ ⊎_elim
    (λ (l : length flags < roots). drop_of_length-le flags {i = first} (omega arith) ∙ sym (drop_of_length-le flags {i = roots} (omega arith)))
    (λ (l : roots ≤ length flags). let all : first ≡ roots = omega arith in rw all)
    (below_or_not (length flags) roots)

pub rented_counted : (roots : ℕ) (flags : List ℕ) {first : ℕ} → first ≡ min roots (length flags)
    → count_by allocated_flag (take (length flags - first) (drop first flags)) ≡ length (rented_below roots flags (length flags))
unfolding rented_below
rented_counted roots flags e =
    ap (count_by allocated_flag) (ordinary roots flags e)
    ∙ sym
    (counted (is_rented roots flags) allocated_flag roots flags
    (λ b l. and_false_right (allocated_flag (get_or flags b 0)) _ (rw (lt-ltb b roots l)))
    (λ b l. rw (le-ltb b roots l, and-true)))
