-- Laws of numbers as big-endian bytes, and of filler.
use Rattle.std.specs.Prelude.{ℕ, zero, suc, ◌+◌, ◌*◌, ◌/◌, ◌%◌, ◌^◌, ◌<◌, ◌≡◌, refl, true, false, List, [], ◌∷◌, ◌++◌, eqb, length, drop, get_or}
use Rattle.std.proofs.Common.{⊎_elim, append_assoc, div-add-mod', div-lt_iff_lt-mul, add-zero, pow-suc, le_of_suc-le-suc, not-suc-le-zero, eq-or-lt_of_le, add-one, arith, length-append, get_or-drop}
use Rattle.std.proofs.lemmas.List.{get_or_at}
use Rattle.std.specs.Int.{from_be_bytes, w16, w32, w64}
use Rattle.laws.specs.ListsLaws.{and_true, and_false_left, and_false_right}
use Rattle.fields.specs.Bytes.{number, bytes, zeroed}

-- ---- a number at a place, from its bytes

module _ (xs : List ℕ) (at : ℕ) where
  first : get_or (drop at xs) 0 0 ≡ get_or xs at 0
  first = rw (get_or-drop, add-zero)

  byte : (i : ℕ) → get_or (drop at xs) i 0 ≡ get_or xs (at + i) 0
  byte i = get_or-drop at xs i 0

  pub number_two : from_be_bytes w16 (get_or xs at 0 ∷ get_or xs (at + 1) 0 ∷ []) ≡ number 2 (drop at xs)
  unfolding number
  number_two = omega (arith, first, byte 1)

  pub number_four : from_be_bytes w32 (get_or xs at 0 ∷ get_or xs (at + 1) 0 ∷ get_or xs (at + 2) 0 ∷ get_or xs (at + 3) 0 ∷ []) ≡ number 4 (drop at xs)
  unfolding number
  number_four = omega (arith, first, byte 1, byte 2, byte 3)

  pub number_eight : from_be_bytes w64 (get_or xs at 0 ∷ get_or xs (at + 1) 0 ∷ get_or xs (at + 2) 0 ∷ get_or xs (at + 3) 0 ∷ get_or xs (at + 4) 0 ∷ get_or xs (at + 5) 0 ∷ get_or xs (at + 6) 0 ∷ get_or xs (at + 7) 0 ∷ []) ≡ number 8 (drop at xs)
  unfolding number
  number_eight = omega (arith, first, byte 1, byte 2, byte 3, byte 4, byte 5, byte 6, byte 7)

-- ---- a number, from its halves

doubled_two : (xs : List ℕ) {high low : ℕ} → high ≡ number 2 xs → low ≡ number 2 (drop 2 xs) → high * 65536 + low ≡ number 4 xs
unfolding number
doubled_two xs h l = omega (arith, get_or-drop 2 xs 0 0, get_or-drop 2 xs 1 0)

doubled_four : (xs : List ℕ) {high low : ℕ} → high ≡ number 4 xs → low ≡ number 4 (drop 4 xs) → high * 4294967296 + low ≡ number 8 xs
unfolding number
doubled_four xs h l = omega (arith, get_or-drop 4 xs 0 0, get_or-drop 4 xs 1 0, get_or-drop 4 xs 2 0, get_or-drop 4 xs 3 0)

-- ---- the bytes of a number

pub length_bytes : (n x : ℕ) → length (bytes n x) ≡ n
unfolding bytes
length_bytes zero x = refl
length_bytes (suc n) x = omega (arith, length-append (bytes n (x / 256)) (x % 256 ∷ []), length_bytes n (x / 256))

-- Of bytes followed by any others, the number is the one that was written.
pub number_bytes : (n x : ℕ) (ys : List ℕ) → x < 256 ^ n → number n (bytes n x ++ ys) ≡ x
unfolding number bytes
number_bytes zero x ys h = omega arith
number_bytes (suc n) x ys h =
    let lower : x / 256 < 256 ^ n = (div-lt_iff_lt-mul {k = 256} {x = x} {y = 256 ^ n} (omega arith)).1 (rw (pow-suc 256 n) at h) in
    rw (append_assoc, number_bytes n (x / 256) (x % 256 ∷ ys) lower, get_or_at (bytes n (x / 256)) (x % 256) ys 0 n (length_bytes n (x / 256)))
    (div-add-mod' x 256)

-- ---- filler

-- A byte that is not 0 spoils every longer filler.
pub zeroed_not : (n k : ℕ) (xs : List ℕ) → k < n → eqb (get_or xs k 0) 0 ≡ false → zeroed n xs ≡ false
unfolding zeroed
zeroed_not zero k xs l e = absurd (not-suc-le-zero l)
zeroed_not (suc n) k xs l e =
    ⊎_elim
    (λ (q : k ≡ n). and_false_right (zeroed n xs) _ (rw q at e))
    (λ (m : k < n). and_false_left (zeroed n xs) _ (zeroed_not n k xs m e))
    (eq-or-lt_of_le (le_of_suc-le-suc l))

-- One byte more.
pub zeroed_more : (n : ℕ) (xs : List ℕ) → zeroed n xs ≡ true → eqb (get_or xs n 0) 0 ≡ true → zeroed (n + 1) xs ≡ true
unfolding zeroed
zeroed_more n xs h e = rw add-one (and_true (zeroed n xs) _ h e)
