-- Numbers as big-endian bytes, and filler of zeros.
use Rattle.std.specs.Prelude.{ℕ, zero, suc, ◌+◌, ◌*◌, ◌/◌, ◌%◌, Bool, true, ◌&&◌, List, [], ◌∷◌, ◌++◌, eqb, get_or}

-- The number of the first n bytes.
unfoldable pub number : ℕ → List ℕ → ℕ
number zero xs = 0
number (suc n) xs = number n xs * 256 + get_or xs n 0

-- The n bytes of a number.
unfoldable pub bytes : ℕ → ℕ → List ℕ
bytes zero x = []
bytes (suc n) x = bytes n (x / 256) ++ (x % 256 ∷ [])

-- The first n bytes are 0.
unfoldable pub zeroed : ℕ → List ℕ → Bool
zeroed zero xs = true
zeroed (suc n) xs = zeroed n xs && eqb (get_or xs n 0) 0
