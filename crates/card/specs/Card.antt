-- Document 01, "The card": the record and the tables, and what they say of a block.
use Rattle.std.specs.Prelude.{ℕ, ◌+◌, ◌*◌, ◌/◌, ◌%◌, Bool, ◌&&◌, List, eqb, ltb, take, get_or}
use Rattle.card.specs.Lists.{numbers_below}
use Rattle.card.specs.Pointers.{pointer, contains, points_from, beside}
use Rattle.card.specs.Contents.{part}
use Rattle.card.specs.declared.Info.{Info}
use Rattle.card.specs.declared.Mode.{Mode}
use Rattle.card.specs.declared.Mode.TheVariants.{Reading, Writing}

-- What any host may learn of a card: everything but the keys and the contents.
pub record Public : Type 0 where
  pub info : Info
  pub flags : List ℕ
  pub counts : List ℕ
  pub pointers : List ℕ
  -- 2026-05, "in a table beside it": the number in a place is the multiplicity of the pointer in the same place.
  pub multiplicities : List ℕ
  pub windows : List ℕ

pub record Card : Type 0 where
  pub public : Public
  pub keys : List ℕ
  pub contents : List ℕ

-- A card from its record and its seven tables, in document 01's order, the multiplicities after the pointers.
abbrev pub card : Info → List ℕ → List ℕ → List ℕ → List ℕ → List ℕ → List ℕ → List ℕ → Card
card info flags keys counts pointers multiplicities windows contents = record {
  public = record { info = info; flags = flags; counts = counts; pointers = pointers; multiplicities = multiplicities; windows = windows };
  keys = keys;
  contents = contents;
}

-- ---- a block's flags

-- Of a flags byte: 1 allocated, 2 has a read key, 4 has a write key, added up.
abbrev pub allocated_flag : ℕ → Bool
allocated_flag f = eqb (f % 2) 1

abbrev pub key_flag : Mode → ℕ → Bool
key_flag Reading f = eqb (f / 2 % 2) 1
key_flag Writing f = eqb (f / 4 % 2) 1

-- 2026-09, "A freed block now waits, flag 8 alone".
abbrev pub waiting_flag : ℕ → Bool
waiting_flag f = eqb f 8

-- A free block has no flag.
abbrev pub free_flag : ℕ → Bool
free_flag f = eqb f 0

module _ (p : Public) where
  abbrev pub flag : ℕ → ℕ
  flag b = get_or p.flags b 0

  -- A block below N that is allocated, that waits, or that is free: on a sound card one of the three.
  unfoldable pub allocated : ℕ → Bool
  allocated b = ltb b p.info.blocks && allocated_flag (flag b)

  unfoldable pub waiting : ℕ → Bool
  waiting b = ltb b p.info.blocks && waiting_flag (flag b)

  unfoldable pub free : ℕ → Bool
  free b = ltb b p.info.blocks && free_flag (flag b)

  unfoldable pub has_key : Mode → ℕ → Bool
  has_key mode b = key_flag mode (flag b)

  abbrev pub is_root : ℕ → Bool
  is_root b = ltb b p.info.roots

  -- The free blocks, ascending, and those that wait.
  unfoldable pub free_blocks : List ℕ
  free_blocks = numbers_below free p.info.blocks

  unfoldable pub waiting_blocks : List ℕ
  waiting_blocks = numbers_below waiting p.info.blocks

-- ---- windows

-- Where a block's window stands in its table.
abbrev pub window_at : Mode → ℕ → ℕ
window_at Reading b = 2 * b
window_at Writing b = 2 * b + 1

abbrev pub window_end : Public → Mode → ℕ → ℕ
window_end p mode b = get_or p.windows (window_at mode b) 0

-- Document 01, "A window is open while T is less than its end."
unfoldable pub window_open : Public → Mode → ℕ → Bool
window_open p mode b = ltb p.info.time (window_end p mode b)

-- The longest interval: a window ends at most so many seconds after T.
abbrev pub longest_interval : ℕ
longest_interval = 86400

-- ---- counts and pointers

abbrev pub count : Public → ℕ → ℕ
count p b = get_or p.counts b 0

-- The pointers in use: the first M places.
abbrev pub in_use : Public → List ℕ
in_use p = take p.info.used p.pointers

-- The multiplicities beside them.
abbrev pub times_in_use : Public → List ℕ
times_in_use p = take p.info.used p.multiplicities

-- How often a points to b: the multiplicity of that pointer, 0 where there is none.
unfoldable pub multiplicity : Public → ℕ → ℕ → ℕ
multiplicity p a b = beside (pointer a b) (in_use p) (times_in_use p)

-- 2026-05, "a multiplicity from 1 to 65,535".
abbrev pub highest_multiplicity : ℕ
highest_multiplicity = 65535

unfoldable pub points_to : Public → ℕ → ℕ → Bool
points_to p a b = contains (pointer a b) (in_use p)

unfoldable pub has_pointers : Public → ℕ → Bool
has_pointers p b = points_from b (in_use p)

-- ---- keys

-- Where the high word of a block's key stands; the low word follows it.
abbrev pub key_at : Mode → ℕ → ℕ
key_at Reading b = 4 * b
key_at Writing b = 4 * b + 2

abbrev pub key_high : List ℕ → Mode → ℕ → ℕ
key_high keys mode b = get_or keys (key_at mode b) 0

abbrev pub key_low : List ℕ → Mode → ℕ → ℕ
key_low keys mode b = get_or keys (key_at mode b + 1) 0

-- ---- contents

abbrev pub block : Card → ℕ → List ℕ
block c b = part c.public.info.bytes c.contents b
