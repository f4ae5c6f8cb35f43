-- How many numbers below a bound pass a test.
use Prim.Native.Nat.{ℕ, zero, suc, ◌+◌, ◌≤◌, ◌<◌}
use Rattle.std.specs.Prelude.{◌≡◌, refl, Bool, true, false, cond, [], ◌∷◌, length}
use Rattle.std.proofs.Common.{sym, ◌∙◌, subst, ⊎_elim, append-nil, not-suc-le-zero, le_of_suc-le-suc, eq-or-lt_of_le, length-append}
use native.Mathlib.Omega.{arith}
use Rattle.card.specs.Lists.{numbers_below}

-- One where the test holds, else none.
abbrev pub one : Bool → ℕ
one t = cond t 1 0

pub numbers_more : (p : ℕ → Bool) (n : ℕ) → length (numbers_below p (suc n)) ≡ length (numbers_below p n) + one (p n)
unfolding numbers_below
numbers_more p n = length-append (numbers_below p n) _ ∙ go (p n)
  where
    go : (t : Bool) → length (numbers_below p n) + length (cond t (n ∷ []) []) ≡ length (numbers_below p n) + one t
    go true = refl
    go false = refl

one_most : (t : Bool) → one t ≤ 1
one_most true = omega arith
one_most false = omega arith

pub numbers_most : (p : ℕ → Bool) (n : ℕ) → length (numbers_below p n) ≤ n
unfolding numbers_below
numbers_most p zero = omega arith
numbers_most p (suc n) = omega (arith, numbers_more p n, numbers_most p n, one_most (p n))

one_less : (s t : Bool) → (s ≡ true → t ≡ true) → one s ≤ one t
one_less true t f = rw (f refl) (omega arith)
one_less false t f = omega arith

one_back : (s t : Bool) → one t ≤ one s → t ≡ true → s ≡ true
one_back true t h e = refl
one_back false true h e = absurd (omega arith)
one_back false false h e = e

module _ (p q : ℕ → Bool) where
  -- Where one test implies another, at least as many numbers pass the other.
  numbers_less : (n : ℕ) → ((i : ℕ) → i < n → p i ≡ true → q i ≡ true) → length (numbers_below p n) ≤ length (numbers_below q n)
  unfolding numbers_below
  numbers_less zero f = omega arith
  numbers_less (suc n) f =
      omega (arith, numbers_more p n, numbers_more q n, numbers_less n (λ i l. f i (omega arith)), one_less (p n) (q n) (f n (omega arith)))

  -- If no more do, the other implies the one.
  pub numbers_back : (n : ℕ) → ((i : ℕ) → i < n → p i ≡ true → q i ≡ true) → length (numbers_below q n) ≤ length (numbers_below p n)
      → (i : ℕ) → i < n → q i ≡ true → p i ≡ true
  numbers_back zero f h i l e = absurd (not-suc-le-zero l)
  numbers_back (suc n) f h i l e =
      let low : length (numbers_below p n) ≤ length (numbers_below q n) = numbers_less n (λ k m. f k (omega arith)) in
      let last : one (p n) ≤ one (q n) = one_less (p n) (q n) (f n (omega arith)) in
      let a : length (numbers_below p (suc n)) ≡ length (numbers_below p n) + one (p n) = numbers_more p n in
      let b : length (numbers_below q (suc n)) ≡ length (numbers_below q n) + one (q n) = numbers_more q n in
      ⊎_elim
      (λ (s : i ≡ n). subst (λ (k : ℕ). p k ≡ true) (sym s) (one_back (p n) (q n) (omega arith) (subst (λ (k : ℕ). q k ≡ true) s e)))
      (λ (m : i < n). numbers_back n (λ k w. f k (omega arith)) (omega arith) i m e)
      (eq-or-lt_of_le (le_of_suc-le-suc l))

-- A test that fails of each number below n has none there.
pub numbers_none : (p : ℕ → Bool) (n : ℕ) → ((i : ℕ) → i < n → p i ≡ false) → numbers_below p n ≡ []
unfolding numbers_below
numbers_none p zero f = refl
numbers_none p (suc n) f = rw (f n (omega arith), append-nil) (numbers_none p n (λ i l. f i (omega arith)))
