-- Shape and soundness as statements, a field for each clause: what the theorems speak of. That these are the tests of
-- Soundness, so that a card is a `SoundCard` if and only if its verdict is sound, is `verdict_sound` and `sound_verdict`.
use Rattle.std.specs.Prelude.{ℕ, ◌+◌, ◌*◌, ◌%◌, ◌≤◌, ◌<◌, ◌≡◌, true, false, ◌||◌, eqb, length, drop}
use Rattle.card.specs.Lists.{all}
use Rattle.card.specs.Pointers.{ascending, source, destination, pointers_to}
use Rattle.card.specs.Card.{Public, Card, flag, allocated_flag, key_flag, waiting_flag, free_flag, allocated, window_end, longest_interval, count, in_use, times_in_use, key_high, key_low}
use Rattle.card.specs.Soundness.{time_limit, most_blocks, pointer_right, multiplicity_right}
use Rattle.card.specs.declared.Mode.{Mode}

-- ---- shape

pub record InRanges (blocks roots bytes : ℕ) : Type 0 where
  pub blocks_low : 16 ≤ blocks
  pub blocks_high : blocks ≤ 4096
  pub roots_low : 1 ≤ roots
  pub roots_high : roots ≤ 8
  pub bytes_low : 512 ≤ bytes
  pub bytes_high : bytes ≤ 65536
  pub bytes_divide : 65536 % bytes ≡ 0

pub record HasLengths (blocks bytes : ℕ) (c : Card) : Type 0 where
  pub flags : length c.public.flags ≡ blocks
  pub keys : length c.keys ≡ 4 * blocks
  pub counts : length c.public.counts ≡ blocks
  pub places_low : 1 ≤ length c.public.pointers
  pub places_high : length c.public.pointers ≤ 16384
  pub multiplicities : length c.public.multiplicities ≡ length c.public.pointers
  pub windows : length c.public.windows ≡ 2 * blocks
  pub contents : length c.contents ≡ blocks * bytes

-- Document 01, "Shape", as statements.
pub record Shaped (c : Card) : Type 0 where
  pub in_ranges : InRanges c.public.info.blocks c.public.info.roots c.public.info.bytes
  pub time_high : c.public.info.time < time_limit
  pub has_lengths : HasLengths c.public.info.blocks c.public.info.bytes c
  pub used_high : c.public.info.used ≤ length c.public.pointers

-- ---- soundness

-- Both words of a block's key for the mode are 0.
pub record KeyZero (c : Card) (mode : Mode) (b : ℕ) : Type 0 where
  pub high : key_high c.keys mode b ≡ 0
  pub low : key_low c.keys mode b ≡ 0

-- Free or waiting, with "keys, count and windows 0".
pub record Empty (c : Card) (b : ℕ) : Type 0 where
  pub free_or_waiting : free_flag (flag c.public b) || waiting_flag (flag c.public b) ≡ true
  pub keys_zero : (mode : Mode) → KeyZero c mode b
  pub count_zero : count c.public b ≡ 0
  pub window_zero : (mode : Mode) → window_end c.public mode b ≡ 0

pub record RightPointer (p : Public) (w : ℕ) : Type 0 where
  pub source_allocated : allocated p (source w) ≡ true
  pub destination_allocated : allocated p (destination w) ≡ true
  pub no_root : p.info.roots ≤ destination w
  pub different : source w ≡ destination w → ⊥

-- Document 01, "Soundness", as statements.
pub record Consistent (c : Card) : Type 0 where
  pub flags_low : (b : ℕ) → b < c.public.info.blocks → flag c.public b ≤ 8
  pub roots_allocated : (b : ℕ) → b < c.public.info.blocks → b < c.public.info.roots → allocated_flag (flag c.public b) ≡ true
  pub unallocated : (b : ℕ) → b < c.public.info.blocks → allocated_flag (flag c.public b) ≡ false → Empty c b
  pub absent_key : (mode : Mode) (b : ℕ) → b < c.public.info.blocks → key_flag mode (flag c.public b) ≡ false → KeyZero c mode b
  pub ascends : ascending (in_use c.public) ≡ true
  pub rest_zero : all (λ w. eqb w 0) (drop c.public.info.used c.public.pointers) ≡ true
  pub times_right : all (λ n. multiplicity_right n) (times_in_use c.public) ≡ true
  pub rest_times_zero : all (λ n. eqb n 0) (drop c.public.info.used c.public.multiplicities) ≡ true
  pub pointers_right : all (λ w. pointer_right c.public w) (in_use c.public) ≡ true
  pub counts : (b : ℕ) → b < c.public.info.blocks → count c.public b ≡ pointers_to b (in_use c.public) (times_in_use c.public)
  pub pointed : (b : ℕ) → b < c.public.info.blocks → c.public.info.roots ≤ b → allocated_flag (flag c.public b) ≡ true → 1 ≤ count c.public b
  pub windows_low : (mode : Mode) (b : ℕ) → b < c.public.info.blocks → window_end c.public mode b ≤ c.public.info.time + longest_interval
  pub total_low : c.public.info.total ≤ c.public.info.time * most_blocks

-- A card of the right shape that is sound: what a call that is not refused 1 or 2 starts from.
pub record SoundCard (c : Card) : Type 0 where
  pub shaped : Shaped c
  pub is_sound : Consistent c
