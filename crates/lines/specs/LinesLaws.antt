-- Laws of numbers in decimal.
use Rattle.std.specs.Prelude.{ℕ, zero, suc, ◌+◌, ◌*◌, ◌/◌, ◌%◌, ◌^◌, ◌≤◌, ◌<◌, ◌≡◌, refl, Bool, true, false, cond, List, [], ◌∷◌, ◌++◌, ltb, length, take, get_or}
use Rattle.std.proofs.Common.{sym, ap, ◌∙◌, append_assoc, append-nil, pow-suc, arith, length-append, take-suc, add-one, lt-ltb, le-ltb}
use Rattle.lines.specs.Lines.{digit, space, decimal_within, decimal, spaced}

-- One digit more is no difference to a number that has so many.
within_more : (k n : ℕ) → 0 < k → n < 10 ^ k → decimal_within (suc k) n ≡ decimal_within k n
unfolding decimal_within
within_more zero n h l = absurd (omega arith)
within_more (suc zero) n h l = rw (lt-ltb n 10 l)
within_more (suc (suc k)) n h l =
    ap (λ (xs : List ℕ). cond (ltb n 10) (digit n ∷ []) (xs ++ (digit (n % 10) ∷ []))) (within_more (suc k) (n / 10) (omega arith) (omega (arith, pow-suc 10 (suc k))))

pub decimal_small : (n : ℕ) → n < 10 → decimal n ≡ digit n ∷ []
unfolding decimal decimal_within
decimal_small n h = rw (lt-ltb n 10 h)

-- The last digit stands behind the others.
pub decimal_large : (n : ℕ) → 10 ≤ n → n < 2 ^ 64 → decimal n ≡ decimal (n / 10) ++ (digit (n % 10) ∷ [])
unfolding decimal decimal_within
decimal_large n h l = rw (le-ltb n 10 h) (ap (λ (xs : List ℕ). xs ++ (digit (n % 10) ∷ [])) (sym (within_more 19 (n / 10) (omega arith) (omega arith))))

within_length : (k n : ℕ) → length (decimal_within k n) ≤ k
unfolding decimal_within
within_length zero n = omega arith
within_length (suc k) n = go (ltb n 10) (within_length k (n / 10))
  where
    go : (t : Bool) → length (decimal_within k (n / 10)) ≤ k → length (cond t (digit n ∷ []) (decimal_within k (n / 10) ++ (digit (n % 10) ∷ []))) ≤ suc k
    go true h = omega arith
    go false h = omega (arith, length-append (decimal_within k (n / 10)) (digit (n % 10) ∷ []))

pub decimal_length : (n : ℕ) → length (decimal n) ≤ 20
unfolding decimal
decimal_length n = within_length 20 n

pub spaced_append : (xs ys : List ℕ) → spaced (xs ++ ys) ≡ spaced xs ++ spaced ys
unfolding spaced
spaced_append [] ys = refl
spaced_append (x ∷ xs) ys = ap (λ (zs : List ℕ). space ∷ (decimal x ++ zs)) (spaced_append xs ys) ∙ ap (λ (zs : List ℕ). space ∷ zs) (sym (append_assoc (decimal x) (spaced xs) (spaced ys)))

-- Each number takes at most 21 bytes.
pub spaced_length : (xs : List ℕ) → length (spaced xs) ≤ 21 * length xs
unfolding spaced
spaced_length [] = omega arith
spaced_length (x ∷ xs) = omega (arith, length-append (decimal x) (spaced xs), decimal_length x, spaced_length xs)

pub spaced_one : (n : ℕ) → length (space ∷ decimal n) ≤ 21
spaced_one n = omega (arith, decimal_length n)

-- One more number of a table, from its place i.
pub spaced_more : (xs : List ℕ) (i : ℕ) → i < length xs → spaced (take (i + 1) xs) ≡ spaced (take i xs) ++ (space ∷ decimal (get_or xs i 0))
unfolding spaced
spaced_more xs i h =
    rw (add-one, take-suc xs i 0 h, spaced_append)
    (ap (λ (zs : List ℕ). spaced (take i xs) ++ (space ∷ zs)) (append-nil (decimal (get_or xs i 0))))
