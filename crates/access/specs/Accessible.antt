-- What the access test asks of a card and a block: lengths of tables and sorted pointers. Counts, multiplicities and contents play no part.
use Rattle.std.specs.Prelude.{ℕ, ◌*◌, ◌≤◌, ◌<◌, ◌≡◌, [], length}
use Rattle.card.specs.Card.{Public, Card, card}
use Rattle.tables.specs.InUse.{Sorted}

-- What following a reference to the block asks.
pub record Referable (p : Public) (b : ℕ) : Type 0 where
  pub blocks_high : p.info.blocks ≤ 4096
  pub flags : length p.flags ≡ p.info.blocks
  pub windows : length p.windows ≡ 2 * p.info.blocks
  pub sorted : Sorted p.pointers p.info.used
  pub below : b < p.info.blocks

pub record Accessible (c : Card) (b : ℕ) : Type 0 where
  pub referable : Referable c.public b
  pub keys : length c.keys ≡ 4 * c.public.info.blocks

-- The card with empty counts, multiplicities and contents.
abbrev pub bare : Card → Card
bare c = card c.public.info c.public.flags c.keys [] c.public.pointers [] c.public.windows []
