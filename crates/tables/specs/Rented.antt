-- 2026-08, the blocks of a table of flags that rent is paid for.
use Rattle.std.specs.Prelude.{ℕ, Bool, ◌&&◌, not, List, ltb, get_or}
use Rattle.card.specs.Lists.{numbers_below}
use Rattle.card.specs.Card.{allocated_flag}

-- The flags are those of an allocated block, and the block is none of so many roots.
abbrev pub is_rented : ℕ → List ℕ → ℕ → Bool
is_rented roots flags b = allocated_flag (get_or flags b 0) && not (ltb b roots)

-- The numbers of such blocks below n, ascending.
unfoldable pub rented_below : ℕ → List ℕ → ℕ → List ℕ
rented_below roots flags n = numbers_below (is_rented roots flags) n
