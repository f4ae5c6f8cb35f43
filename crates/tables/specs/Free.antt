-- The free blocks of a table of flags.
use Rattle.std.specs.Prelude.{ℕ, Bool, List, get_or}
use Rattle.card.specs.Lists.{numbers_below}
use Rattle.card.specs.Card.{free_flag}

abbrev pub is_free : List ℕ → ℕ → Bool
is_free flags b = free_flag (get_or flags b 0)

-- The numbers below n whose flags are those of a free block, ascending.
unfoldable pub free_below : List ℕ → ℕ → List ℕ
free_below flags n = numbers_below (is_free flags) n
