-- The waiting blocks of a table of flags, and what sweeping some of them leaves of the flags and of the contents.
use Rattle.std.specs.Prelude.{ℕ, ◌+◌, ◌*◌, ◌≤◌, ◌<◌, ◌≡◌, Bool, List, [], ◌∷◌, length, take, get_or, set}
use Rattle.card.specs.Lists.{numbers_below}
use Rattle.card.specs.Contents.{fill, zeros}
use Rattle.card.specs.Card.{waiting_flag}

-- ---- one block

-- The block lies within the tables.
pub record CanSweep (bytes : ℕ) (flags contents : List ℕ) (b : ℕ) : Type 0 where
  pub in_flags : b < length flags
  pub in_contents : b * bytes + bytes ≤ length contents

-- What sweeping it leaves of these tables.
pub record BlockSwept (bytes b : ℕ) (flags contents flagsAfter contentsAfter : List ℕ) : Type 0 where
  pub frees : flagsAfter ≡ set flags b 0
  pub zeroes : contentsAfter ≡ fill bytes contents b (zeros bytes)

-- ---- several, one after the other

unfoldable pub swept_flags : List ℕ → List ℕ → List ℕ
swept_flags flags [] = flags
swept_flags flags (b ∷ bs) = swept_flags (set flags b 0) bs

unfoldable pub swept_contents : ℕ → List ℕ → List ℕ → List ℕ
swept_contents bytes contents [] = contents
swept_contents bytes contents (b ∷ bs) = swept_contents bytes (fill bytes contents b (zeros bytes)) bs

-- ---- those that wait

abbrev pub is_waiting : List ℕ → ℕ → Bool
is_waiting flags b = waiting_flag (get_or flags b 0)

-- The numbers below n whose flags are those of a waiting block, ascending.
unfoldable pub waiting_below : List ℕ → ℕ → List ℕ
waiting_below flags n = numbers_below (is_waiting flags) n

-- The lowest of the table, at most so many.
unfoldable pub lowest_in : List ℕ → ℕ → List ℕ
lowest_in flags most = take most (waiting_below flags (length flags))

-- They are counted, and swept in these tables.
pub record LowestSwept (bytes most : ℕ) (flags contents flagsAfter contentsAfter : List ℕ) (count : ℕ) : Type 0 where
  pub counted : count ≡ length (lowest_in flags most)
  pub frees : flagsAfter ≡ swept_flags flags (lowest_in flags most)
  pub zeroes : contentsAfter ≡ swept_contents bytes contents (lowest_in flags most)
