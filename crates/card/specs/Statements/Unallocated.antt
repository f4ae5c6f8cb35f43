-- Demand 1: what becomes of blocks that are not allocated, and 2026-09: a freed block waits.
use Rattle.std.specs.Prelude.{ℕ, ◌<◌, ◌≤◌, true, false, ◌&&◌, ◌⊎◌, ◌≡◌}
use Rattle.card.specs.Contents.{part, zeros}
use Rattle.card.specs.Card.{Card, flag, allocated, waiting, free, block}
use Rattle.card.specs.Soundness.{ranges, lengths}
use Rattle.card.specs.Calls.{format}
use Rattle.card.specs.Session.{Request, is_sweep, perform}
use Rattle.card.specs.declared.Port.{Port}
use Rattle.card.specs.declared.Call.{Call}

-- ---- what is not allocated is not touched

-- From card c to card d the block is left unallocated, waiting or free by its flags as before, and its contents as they were.
pub record LeftAlone (c d : Card) (b : ℕ) : Type 0 where
  pub not_allocated : allocated d.public b ≡ false
  pub same_flags : flag d.public b ≡ flag c.public b
  pub same : block d b ≡ block c b

-- The block was free, and is allocated and holds zeros.
pub record Allotted (c d : Card) (b : ℕ) : Type 0 where
  pub was_free : free c.public b ≡ true
  pub is_allocated : allocated d.public b ≡ true
  pub holds_zeros : block d b ≡ zeros c.public.info.bytes

-- 2026-09, "SWEEP is the second case in which a block not allocated is touched": the block waited, and is free and holds zeros.
pub record Swept (call : Call) (c d : Card) (b : ℕ) : Type 0 where
  pub by_sweep : is_sweep call ≡ true
  pub was_waiting : waiting c.public b ≡ true
  pub is_free : free d.public b ≡ true
  pub holds_zeros : block d b ≡ zeros c.public.info.bytes

-- What becomes of an unallocated block by a call from card c to card d.
abbrev pub LeftOrZeroed : Call → Card → Card → ℕ → Type 0
LeftOrZeroed call c d b = LeftAlone c d b ⊎ (Allotted c d b ⊎ Swept call c d b)

-- On any card, sound or not, a call leaves an unallocated block as it was; or the block was free, and is allocated and holds zeros; or it waited, and
-- is free and holds zeros, and the call is SWEEP.
abbrev pub Untouched : Type 0
Untouched = (port : Port) (c : Card) (q : Request) (b : ℕ) → allocated c.public b ≡ false → LeftOrZeroed q.call c (perform port c q).after b

-- A block of card d, formatted from card c: a root holds zeros, another what stood at its part of the contents.
pub record Formatted (roots bytes : ℕ) (c d : Card) (b : ℕ) : Type 0 where
  pub root : b < roots → block d b ≡ zeros bytes
  pub other : roots ≤ b → block d b ≡ part bytes c.contents b

-- A done FORMAT leaves zeros in a root's part of the contents, and another block's part as it was.
abbrev pub FormatUntouched : Type 0
FormatUntouched =
    (blocks roots bytes : ℕ) (c : Card) → ranges blocks roots bytes && lengths blocks bytes c ≡ true
    → (b : ℕ) → Formatted roots bytes c (format blocks roots bytes c).after b

-- ---- what is freed waits

-- From card c to card d the block came to wait, and its contents are left.
pub record Waits (c d : Card) (b : ℕ) : Type 0 where
  pub waits : waiting d.public b ≡ true
  pub same : block d b ≡ block c b

-- 2026-09, "A freed block now waits": whatever the call, on any card, at either port, a block that was allocated and is not any more waits, and holds
-- what it held.
abbrev pub FreedWaits : Type 0
FreedWaits =
    (port : Port) (c : Card) (q : Request) (b : ℕ) → allocated c.public b ≡ true → allocated (perform port c q).after.public b ≡ false
    → Waits c (perform port c q).after b
