-- Laws of the tests over lists and numbers: from a test to its statement, and back.
use Rattle.std.specs.Prelude.{ℕ, zero, suc, ◌≤◌, ◌<◌, ◌≡◌, refl, ◌⊎◌, Bool, true, false, ◌&&◌, List, [], ◌∷◌, ◌++◌, eqb, ltb, length, get_or, drop}
use Rattle.std.proofs.Common.{sym, inl, inr, ⊎_elim, true≢false, le_of_suc-le-suc, not-suc-le-zero, arith, ltb-true, ltb-false, eqb-true}
use Rattle.std.proofs.lemmas.Bool.{false≢true, eqb-false}
use Rattle.card.specs.Lists.{all, numbers_below}
pub use Rattle.card.proofs.Computed.TestLaws.{Holds, absurd_test, all_cons, all_head, all_tail, all_below_true, and_left, and_right, and_true, every_true, false_unless, not_cases, or_cases, or_else, or_false, or_false_left, or_false_right, or_left, or_right, true_all_below, true_every}

-- ---- Booleans

pub and_false_left : (a b : Bool) → a ≡ false → a && b ≡ false
and_false_left true b e = absurd (true≢false e)
and_false_left false b e = refl

pub and_false_right : (a b : Bool) → b ≡ false → a && b ≡ false
and_false_right true b e = e
and_false_right false b e = refl

-- Two tests of which each implies the other are equal.
pub same_test : (a b : Bool) → (a ≡ true → b ≡ true) → (b ≡ true → a ≡ true) → a ≡ b
same_test true b f g = sym (f refl)
same_test false b f g = sym (false_unless b (λ e. false≢true (g e)))

-- ---- numbers

pub below_or_not : (a b : ℕ) → (a < b) ⊎ (b ≤ a)
below_or_not a b = ⊎_elim (λ e. inl (ltb-true a b e)) (λ e. inr (ltb-false a b e)) (not_cases (ltb a b))

pub same_or_other : (a b : ℕ) → (a ≡ b) ⊎ (a ≡ b → ⊥)
same_or_other a b = ⊎_elim (λ e. inl (eqb-true a b e)) (λ e. inr (eqb-false a b e)) (not_cases (eqb a b))

-- ---- all and any

pub all_append : (p : ℕ → Bool) (xs ys : List ℕ) → all p xs ≡ true → all p ys ≡ true → all p (xs ++ ys) ≡ true
unfolding all
all_append p [] ys h t = t
all_append p (x ∷ xs) ys h t = and_true (p x) _ (and_left (p x) _ h) (all_append p xs ys (and_right (p x) _ h) t)

-- What holds of each element by one test holds by a weaker one.
pub all_map : (p q : ℕ → Bool) → ((x : ℕ) → p x ≡ true → q x ≡ true) → (xs : List ℕ) → all p xs ≡ true → all q xs ≡ true
unfolding all
all_map p q f [] h = refl
all_map p q f (x ∷ xs) h = and_true (q x) _ (f x (and_left (p x) _ h)) (all_map p q f xs (and_right (p x) _ h))

pub all_drop : (p : ℕ → Bool) (n : ℕ) (xs : List ℕ) → all p xs ≡ true → all p (drop n xs) ≡ true
unfolding all
all_drop p zero xs h = h
all_drop p (suc n) [] h = refl
all_drop p (suc n) (x ∷ xs) h = all_drop p n xs (and_right (p x) _ h)

-- At each index.
pub all_at : (p : ℕ → Bool) (xs : List ℕ) → all p xs ≡ true → (i : ℕ) → i < length xs → p (get_or xs i 0) ≡ true
unfolding all
all_at p [] h i l = absurd (not-suc-le-zero l)
all_at p (x ∷ xs) h zero l = and_left (p x) _ h
all_at p (x ∷ xs) h (suc i) l = all_at p xs (and_right (p x) _ h) i (le_of_suc-le-suc l)

-- ---- the numbers below a bound

-- What two tests give of each element together.
pub all_both : (p q r : ℕ → Bool) → ((x : ℕ) → p x ≡ true → q x ≡ true → r x ≡ true) → (xs : List ℕ) → all p xs ≡ true → all q xs ≡ true → all r xs ≡ true
unfolding all
all_both p q r f [] h g = refl
all_both p q r f (x ∷ xs) h g =
    and_true (r x) _ (f x (and_left (p x) _ h) (and_left (q x) _ g)) (all_both p q r f xs (and_right (p x) _ h) (and_right (q x) _ g))

-- Tests that agree below n have the same numbers there.
pub numbers_below_same : (p q : ℕ → Bool) (n : ℕ) → ((i : ℕ) → i < n → p i ≡ q i) → numbers_below p n ≡ numbers_below q n
unfolding numbers_below
numbers_below_same p q zero f = refl
numbers_below_same p q (suc n) f = rw (f n (omega arith), numbers_below_same p q n (λ i h. f i (omega arith)))
