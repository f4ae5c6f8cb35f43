-- The blocks that are shut, and lead on or fit, one block a turn.
-- Assumes nothing.
use Prim.Native.Nat.{ℕ, ◌+◌, ◌≤◌, ◌<◌}
use mathlib.Core.Path.{◌≡◌, refl, sym, ap, ◌∙◌}
use mathlib.Core.Logic.{⊎_elim}
use mathlib.Core.Bool.{Bool, true, false}
use mathlib.Core.List.{List}
use native.Mathlib.Nat.{not-suc-le-zero}
use native.Mathlib.Numerals.{add-one}
use native.Mathlib.Omega.{arith}
use lib.Dec.{eqb}
use lib.ListN.{length, get_or, set, get_or-eq_default}
use lib.Seq.{get_or-set_same, get_or-set_other}
use borrow.Author.Tests.{eq-eqb, ne_eqb}
use Rattle.card.specs.Lists.{numbers_below}
use Rattle.laws.specs.ListsLaws.{and_true, and_false_left, and_false_right, below_or_not, same_or_other, numbers_below_same}
use Rattle.laws.specs.NumbersLaws.{one, numbers_more, numbers_most}
use Rattle.unlocking.specs.Unlocking.{leads_or_fits, stays, Kept}

module _ (flags keys marks queued before : List ℕ) where
  -- The blocks below this one have been looked at; so many of them stay shut.
  pub record Keeping (shut : List ℕ) (b kept : ℕ) : Type 0 where
    pub most : b ≤ length flags
    pub looked : (k : ℕ) → k < b → eqb (get_or shut k 0) 1 ≡ stays flags keys marks queued before k
    pub ahead : (k : ℕ) → b ≤ k → get_or shut k 0 ≡ get_or before k 0
    pub counted : kept ≡ length (numbers_below (stays flags keys marks queued before) b)

  pub keeping_none : Keeping before 0 0
  unfolding numbers_below
  keeping_none = record { most = omega arith; looked = λ k m. absurd (not-suc-le-zero m); ahead = λ k m. refl; counted = refl }

  module _ {shut : List ℕ} {b kept : ℕ} (h : Keeping shut b kept) where
    pub keeping_few : kept ≤ b
    keeping_few = omega (arith, h.counted, numbers_most (stays flags keys marks queued before) b)

    pub keeping_whole : length flags ≤ b → Kept flags keys marks queued before shut kept
    keeping_whole l =
        let e : b ≡ length flags = omega (arith, h.most) in
        let same : numbers_below (λ k. eqb (get_or shut k 0) 1) (length flags) ≡ numbers_below (stays flags keys marks queued before) (length flags) =
        numbers_below_same (λ k. eqb (get_or shut k 0) 1) (stays flags keys marks queued before) (length flags) (λ k m. h.looked k (omega arith)) in
        record {
          is_kept = same;
          counted = h.counted ∙ ap (λ (n : ℕ). length (numbers_below (stays flags keys marks queued before) n)) e ∙ ap length (sym same);
        }

    module _ (l : b < length flags) where
      -- The block stays shut or not, as the test says; the others are as they were.
      keeping_next : {shut' : List ℕ} {kept' : ℕ} (t : Bool) → stays flags keys marks queued before b ≡ t → eqb (get_or shut' b 0) 1 ≡ t
          → ((k : ℕ) → (k ≡ b → ⊥) → get_or shut' k 0 ≡ get_or shut k 0) → kept' ≡ kept + one t → Keeping shut' (b + 1) kept'
      keeping_next t e f g n = record {
        most = omega arith;
        looked = λ k m.
            ⊎_elim
            (λ (s : k ≡ b). rw s (f ∙ sym e))
            (λ (o : k ≡ b → ⊥). ap (λ (x : ℕ). eqb x 1) (g k o) ∙ h.looked k (omega arith))
            (same_or_other k b);
        ahead = λ k m. g k (λ s. omega arith) ∙ h.ahead k (omega arith);
        counted = rw (add-one b) (omega (arith, n, h.counted, numbers_more (stays flags keys marks queued before) b, ap one e));
      }

      was : eqb (get_or shut b 0) 1 ≡ eqb (get_or before b 0) 1
      was = ap (λ (x : ℕ). eqb x 1) (h.ahead b (omega arith))

      -- It was not shut.
      pub keeping_open : (get_or shut b 0 ≡ 1 → ⊥) → Keeping shut (b + 1) kept
      keeping_open n =
          let e : eqb (get_or shut b 0) 1 ≡ false = ne_eqb (get_or shut b 0) 1 n in
          keeping_next false (and_false_left (eqb (get_or before b 0) 1) _ (sym was ∙ e)) e (λ k o. refl) (omega arith)

      module _ (s : get_or shut b 0 ≡ 1) {t : Bool} (e : t ≡ leads_or_fits flags keys marks queued b) where
        pub keeping_fits : t ≡ true → Keeping shut (b + 1) (kept + 1)
        keeping_fits p =
            let i : eqb (get_or shut b 0) 1 ≡ true = eq-eqb (get_or shut b 0) 1 s in
            keeping_next true (and_true (eqb (get_or before b 0) 1) _ (sym was ∙ i) (sym e ∙ p)) i (λ k o. refl) (omega arith)

        -- What is read as 1 stands in the list.
        inside : b < length shut
        inside =
            ⊎_elim
            (λ (k : b < length shut). k)
            (λ (k : length shut ≤ b). let z : get_or shut b 0 ≡ 0 = get_or-eq_default shut 0 k in absurd (omega arith))
            (below_or_not b (length shut))

        pub keeping_fails : t ≡ false → Keeping (set shut b 0) (b + 1) kept
        keeping_fails p =
            keeping_next false (and_false_right (eqb (get_or before b 0) 1) _ (sym e ∙ p))
            (ap (λ (x : ℕ). eqb x 1) (get_or-set_same shut b 0 0 inside))
            (λ k o. get_or-set_other shut b k 0 0 o)
            (omega arith)
