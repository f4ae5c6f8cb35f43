-- Walks that leave at the first fault: what holds on the way, at a fault and at the end.
use Prim.Native.Nat.{ℕ, ◌+◌, ◌≤◌, ◌<◌, zero-le}
use mathlib.Core.Path.{◌≡◌, refl, sym, ◌∙◌}
use mathlib.Core.Bool.{Bool, true, false, ◌&&◌}
use mathlib.Core.List.{List}
use native.Mathlib.Numerals.{add-one}
use native.Mathlib.Omega.{arith}
use lib.Dec.{eqb}
use lib.ListN.{length, drop, get_or, drop_of_length-le}
use lib.Seq.{drop-cons}
use borrow.Author.Count.{below_none, below_more}
use borrow.Author.Tests.{eq-eqb, ne_eqb}
use Rattle.card.specs.Lists.{all, all_below}
use Rattle.laws.specs.ListsLaws.{and_false_right, false_unless, absurd_test, all_below_true, true_all_below}

-- ---- over the numbers below a bound, to the first fault

-- Each number below i passes.
pub record PassedBelow (p : ℕ → Bool) (n i : ℕ) : Type 0 where
  pub most : i ≤ n
  pub good : (k : ℕ) → k < i → p k ≡ true

pub passed_none : (p : ℕ → Bool) (n : ℕ) → PassedBelow p n 0
passed_none p n = record { most = zero-le; good = below_none (λ k. p k ≡ true) }

pub passed_more : {p : ℕ → Bool} {n i : ℕ} → PassedBelow p n i → i < n → p i ≡ true → PassedBelow p n (i + 1)
passed_more {p} {n} {i} h l e =
    record { most = omega arith; good = below_more (λ k. p k ≡ true) i h.good e }

pub passed_fault : {p : ℕ → Bool} {n i : ℕ} → PassedBelow p n i → i < n → p i ≡ false → all_below p n ≡ false
passed_fault {p} {n} {i} h l e = false_unless _ (λ t. absurd_test (all_below_true p n t i l) e)

pub passed_whole : {p : ℕ → Bool} {n i : ℕ} → PassedBelow p n i → i ≡ n → all_below p n ≡ true
passed_whole {p} {n} {i} h e = true_all_below p n (λ k l. h.good k (omega arith))

-- ---- over the rest of two lists, place by place, to the first fault

-- What is left at i passes in both lists exactly when what was there at `from` does.
pub record Remaining (p q : ℕ → Bool) (ws ns : List ℕ) (from i : ℕ) : Type 0 where
  pub most : i ≤ length ws
  pub long : length ns ≡ length ws
  pub rest : all p (drop i ws) && all q (drop i ns) ≡ all p (drop from ws) && all q (drop from ns)

pub remaining_start : (p q : ℕ → Bool) (ws ns : List ℕ) (from : ℕ) → from ≤ length ws → length ns ≡ length ws → Remaining p q ws ns from from
remaining_start p q ws ns from l e = record { most = l; long = e; rest = refl }

-- The first of each list passes, or one of them does not.
both_pass : (a b r t : Bool) → a && b ≡ true → (a && r) && (b && t) ≡ r && t
both_pass true true r t e = refl
both_pass true false r t e = absurd_test {t = false} e refl
both_pass false b r t e = absurd_test {t = false} e refl

one_fails : (a b r t : Bool) → a && b ≡ false → (a && r) && (b && t) ≡ false
one_fails true true r t e = absurd_test {t = true} refl e
one_fails true false r t e = and_false_right r false refl
one_fails false b r t e = refl

module _ {p q : ℕ → Bool} {ws ns : List ℕ} {from i : ℕ} (h : Remaining p q ws ns from i) where
  -- One place more of both lists.
  opened : i < length ws → (p (get_or ws i 0) && all p (drop (i + 1) ws)) && (q (get_or ns i 0) && all q (drop (i + 1) ns)) ≡ all p (drop from ws) && all q (drop from ns)
  unfolding all
  opened l = rw add-one (rw (drop-cons ws i 0 l, drop-cons ns i 0 (omega (arith, h.long))) at h.rest)

  pub remaining_more : i < length ws → p (get_or ws i 0) && q (get_or ns i 0) ≡ true → Remaining p q ws ns from (i + 1)
  remaining_more l e = record { most = omega arith; long = h.long; rest = sym (both_pass (p (get_or ws i 0)) (q (get_or ns i 0)) _ _ e) ∙ opened l }

  pub remaining_fault : i < length ws → p (get_or ws i 0) && q (get_or ns i 0) ≡ false → eqb i (length ws) ≡ all p (drop from ws) && all q (drop from ns)
  remaining_fault l e = ne_eqb i (length ws) (λ z. omega arith) ∙ sym (one_fails (p (get_or ws i 0)) (q (get_or ns i 0)) _ _ e) ∙ opened l

  pub remaining_whole : length ws ≤ i → eqb i (length ws) ≡ all p (drop from ws) && all q (drop from ns)
  unfolding all
  remaining_whole l = eq-eqb i (length ws) (omega (arith, h.most)) ∙ (rw (drop_of_length-le ws l, drop_of_length-le ns {i = i} (omega (arith, h.long))) at h.rest)
