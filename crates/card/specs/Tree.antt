-- 2026-07, the blocks that go with a pointer: "each allocated non-root block whose every pointer comes from freed blocks is freed too".
use Rattle.std.specs.Prelude.{ℕ, Bool, ◌&&◌, ◌||◌, not, List, eqb}
use Rattle.card.specs.Lists.{all}
use Rattle.card.specs.Least.{least}
use Rattle.card.specs.Pointers.{source, destination, contains}
use Rattle.card.specs.Card.{Public, allocated, is_root, in_use}

-- "allocated non-root"
unfoldable pub ordinary : Public → ℕ → Bool
ordinary p b = allocated p b && not (is_root p b)

-- Every pointer to the block comes from one of the blocks: so it does where "nothing points to it".
unfoldable pub only_from : List ℕ → ℕ → List ℕ → Bool
only_from freed b ws = all (λ w. not (eqb (destination w) b) || contains (source w) freed) ws

-- The block is freed beside those that are freed.
unfoldable pub orphaned : Public → List ℕ → ℕ → Bool
orphaned p freed b = ordinary p b && only_from freed b (in_use p)

-- All that are freed, ascending. On a sound card that lost one pointer nothing but that pointer's destination can lack every pointer, so there the
-- set begins.
unfoldable pub orphans : Public → List ℕ
orphans p = least (orphaned p) p.info.blocks
