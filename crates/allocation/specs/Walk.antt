-- What the functions of ALLOC's outward walk ask and give.
use Rattle.std.specs.Prelude.{ℕ, ◌+◌, ◌≤◌, ◌<◌, ◌≡◌, ◌⊎◌, List, length}
use Rattle.card.specs.Calls.{distance}
use Rattle.tables.specs.Free.{free_below}

-- ---- one block: those from `low` on and below `high` are passed

-- The wanted block is among those passed or beside them, and some block is not passed.
pub record Spread (want blocks low high : ℕ) : Type 0 where
  pub lowest : low ≤ want
  pub highest : want ≤ high
  pub within : high ≤ blocks
  pub unpassed : low ≡ 0 → high < blocks

-- The block to pass next: beside those passed, as near as each other that is not, and nearer than each lower one.
pub record NextBlock (want blocks low high b : ℕ) : Type 0 where
  pub below : b < blocks
  pub beside : (b + 1 ≡ low) ⊎ (b ≡ high)
  pub nearest : (y : ℕ) → y < blocks → (y < low) ⊎ (high ≤ y) → (distance want b ≤ distance want y) × (y < b → distance want b < distance want y)

-- ---- all

-- So many blocks can be picked from the wanted one outward, and there is a place for each.
pub record CanPick (flags : List ℕ) (want count : ℕ) (places : List ℕ) : Type 0 where
  pub wanted_below : want < length flags
  pub blocks_high : length flags ≤ 4096
  pub enough : count ≤ length (free_below flags (length flags))
  pub fits : count ≤ length places
