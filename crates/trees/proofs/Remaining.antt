-- How often pointers still lead to a block, with one pointer more gone, and with none left.
use Prim.Native.Nat.{ℕ, zero, suc, ◌+◌, ◌≤◌, ◌<◌}
use mathlib.Core.Path.{◌≡◌, refl, ap}
use mathlib.Core.Logic.{◌⊎◌, inl, inr, ⊎_elim}
use mathlib.Core.Bool.{Bool, true, false, ◌&&◌, not, cond}
use mathlib.Core.List.{List, [], ◌∷◌}
use native.Mathlib.Nat.{le_of_suc-le-suc, not-suc-le-zero}
use native.Mathlib.Omega.{arith}
use lib.Dec.{eqb, leb}
use lib.ListN.{length, get_or}
use borrow.Author.Tests.{leb-true, eq-eqb, ne_eqb}
use Rattle.card.specs.Lists.{all, any}
use Rattle.laws.specs.ListsLaws.{and_true, and_false_left, and_false_right, all_head, all_tail, not_cases, absurd_test}
use Rattle.card.specs.Pointers.{source, destination, contains, total, not_from}
use Rattle.laws.specs.BesideLaws.{InStep, ended, onward}
use Rattle.trees.specs.Release.{split_total, leads_to}

module _ (t u : ℕ → Bool) where
  -- The pointer at the place comes under the first test.
  pub split_more : {ws ns : List ℕ} → InStep ws ns → (i : ℕ) → i < length ws
      → split_total t u i ws ns + cond (t (get_or ws i 0)) (get_or ns i 0) 0 ≡ split_total t u (suc i) ws ns + cond (u (get_or ws i 0)) (get_or ns i 0) 0
  unfolding split_total total
  split_more ended i l = absurd (not-suc-le-zero l)
  split_more (onward s) zero l = omega arith
  split_more (onward s) (suc i) l = omega (arith, split_more s i (le_of_suc-le-suc l))

  -- Where the tests agree on the pointers before the place, it is the total of the later test; where they agree from there on, of the first.
  pub split_later : (i : ℕ) (ws ns : List ℕ) → ((k : ℕ) → k < i → k < length ws → t (get_or ws k 0) ≡ u (get_or ws k 0)) → split_total t u i ws ns ≡ total u ws ns
  unfolding split_total total
  split_later zero ws ns f = refl
  split_later (suc i) [] ns f = refl
  split_later (suc i) (x ∷ xs) [] f = refl
  split_later (suc i) (x ∷ xs) (n ∷ ns) f = rw (f 0 (omega arith) (omega arith), split_later i xs ns (λ k l m. f (suc k) (omega arith) (omega arith)))

  pub split_first : (i : ℕ) (ws ns : List ℕ) → ((k : ℕ) → i ≤ k → k < length ws → t (get_or ws k 0) ≡ u (get_or ws k 0)) → split_total t u i ws ns ≡ total t ws ns
  unfolding split_total total
  split_first zero [] ns f = refl
  split_first zero (x ∷ xs) [] f = refl
  split_first zero (x ∷ xs) (n ∷ ns) f = rw (f 0 (omega arith) (omega arith), ← split_first zero xs ns (λ k l m. f (suc k) (omega arith) (omega arith)))
  split_first (suc i) [] ns f = refl
  split_first (suc i) (x ∷ xs) [] f = refl
  split_first (suc i) (x ∷ xs) (n ∷ ns) f = rw (split_first i xs ns (λ k l m. f (suc k) (omega arith) (omega arith)))

  -- Where nothing is left and each number is at least 1, each pointer fails one of the tests.
  pub split_none : {ws ns : List ℕ} → InStep ws ns → all (λ n. leb 1 n) ns ≡ true → (i : ℕ) → split_total t u i ws ns ≡ 0
      → (k : ℕ) → k < length ws → (t (get_or ws k 0) ≡ false) ⊎ (u (get_or ws k 0) ≡ false)
  unfolding split_total total
  split_none ended h i e k l = absurd (not-suc-le-zero l)
  split_none (onward {x = x} {n = n} {ns = ns} s) h zero e zero l =
      ⊎_elim
      (λ (q : u x ≡ true). let z : cond (u x) n 0 ≡ n = rw q in absurd (omega (arith, leb-true 1 n (all_head (λ n. leb 1 n) n ns h))))
      (λ q. inr q)
      (not_cases (u x))
  split_none (onward {x = x} {n = n} {ns = ns} s) h zero e (suc k) l =
      split_none s (all_tail (λ n. leb 1 n) n ns h) zero (omega arith) k (le_of_suc-le-suc l)
  split_none (onward {x = x} {n = n} {ns = ns} s) h (suc i) e zero l =
      ⊎_elim
      (λ (q : t x ≡ true). let z : cond (t x) n 0 ≡ n = rw q in absurd (omega (arith, leb-true 1 n (all_head (λ n. leb 1 n) n ns h))))
      (λ q. inl q)
      (not_cases (t x))
  split_none (onward {x = x} {n = n} {ns = ns} s) h (suc i) e (suc k) l =
      split_none s (all_tail (λ n. leb 1 n) n ns h) i (omega arith) k (le_of_suc-le-suc l)

-- Where no pointer passes the test, its total is 0.
pub total_none : (u : ℕ → Bool) (ws ns : List ℕ) → ((k : ℕ) → k < length ws → u (get_or ws k 0) ≡ false) → total u ws ns ≡ 0
unfolding total
total_none u [] ns f = refl
total_none u (x ∷ xs) [] f = refl
total_none u (x ∷ xs) (n ∷ ns) f = rw (f 0 (omega arith)) (omega (arith, total_none u xs ns (λ k l. f (suc k) (omega arith))))

-- ---- pointers to a block

module _ (gone : List ℕ) (b w : ℕ) where
  pub leads_yes : destination w ≡ b → contains (source w) gone ≡ false → leads_to gone b w ≡ true
  unfolding leads_to not_from
  leads_yes e n = and_true (eqb (destination w) b) _ (eq-eqb (destination w) b e) (ap not n)

  pub leads_gone : contains (source w) gone ≡ true → leads_to gone b w ≡ false
  unfolding leads_to not_from
  leads_gone e = and_false_right (eqb (destination w) b) _ (ap not e)

  pub leads_elsewhere : (destination w ≡ b → ⊥) → leads_to gone b w ≡ false
  unfolding leads_to
  leads_elsewhere n = and_false_left (eqb (destination w) b) _ (ne_eqb (destination w) b n)

  -- A pointer to the block fails only where its source is gone.
  pub gone_leads : leads_to gone b w ≡ false → destination w ≡ b → contains (source w) gone ≡ true
  gone_leads f e =
      ⊎_elim (λ t. t) (λ t. absurd_test (leads_yes e t) f) (not_cases (contains (source w) gone))

-- With none gone it is each pointer to the block.
pub leads_none : (b w : ℕ) → leads_to [] b w ≡ eqb (destination w) b
unfolding leads_to not_from contains any
leads_none b w = go (eqb (destination w) b)
  where
    go : (t : Bool) → t && true ≡ t
    go true = refl
    go false = refl
