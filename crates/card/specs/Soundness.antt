-- Document 01, "Shape" and "Soundness": each a list of clauses in the document's order, then those of the requests.
use Rattle.std.specs.Prelude.{ℕ, ◌+◌, ◌*◌, ◌%◌, ◌^◌, Bool, ◌&&◌, ◌||◌, not, cond, List, [], ◌∷◌, eqb, ltb, leb, length, drop}
use Rattle.card.specs.Lists.{every, all, all_below}
use Rattle.card.specs.Pointers.{ascending, source, destination, pointers_to}
use Rattle.card.specs.Card.{Public, Card, flag, allocated_flag, key_flag, waiting_flag, free_flag, allocated, is_root, window_end, longest_interval, count, in_use, times_in_use, highest_multiplicity, key_high, key_low}
use Rattle.card.specs.declared.Info.{Info}
use Rattle.card.specs.declared.Mode.{Mode}
use Rattle.card.specs.declared.Mode.TheVariants.{Reading, Writing}
use Rattle.card.specs.declared.Verdict.{Verdict}
use Rattle.card.specs.declared.Verdict.TheVariants.{Misshapen, Unsound, Sound}

-- ---- shape

-- The time T is below this.
abbrev pub time_limit : ℕ
time_limit = 2 ^ 40

-- N is at most this.
abbrev pub most_blocks : ℕ
most_blocks = 4096

-- N, R and B in their ranges. B divides 65,536, so it is a power of two.
abbrev pub range_clauses : ℕ → ℕ → ℕ → List Bool
range_clauses blocks roots bytes =
    leb 16 blocks
    ∷ leb blocks most_blocks
    ∷ leb 1 roots
    ∷ leb roots 8
    ∷ leb 512 bytes
    ∷ leb bytes 65536
    ∷ eqb (65536 % bytes) 0
    ∷ []

unfoldable pub ranges : ℕ → ℕ → ℕ → Bool
ranges blocks roots bytes = every (range_clauses blocks roots bytes)

-- The tables' lengths at N and B, and P from 1 to 16,384.
abbrev pub length_clauses : ℕ → ℕ → Card → List Bool
length_clauses blocks bytes c =
    eqb (length c.public.flags) blocks
    ∷ eqb (length c.keys) (4 * blocks)
    ∷ eqb (length c.public.counts) blocks
    ∷ leb 1 (length c.public.pointers)
    ∷ leb (length c.public.pointers) 16384
    ∷ eqb (length c.public.multiplicities) (length c.public.pointers)
    ∷ eqb (length c.public.windows) (2 * blocks)
    ∷ eqb (length c.contents) (blocks * bytes)
    ∷ []

unfoldable pub lengths : ℕ → ℕ → Card → Bool
lengths blocks bytes c = every (length_clauses blocks bytes c)

abbrev pub shape_clauses : Card → List Bool
shape_clauses c =
    let info = c.public.info in
    ranges info.blocks info.roots info.bytes
    ∷ ltb info.time time_limit
    ∷ lengths info.blocks info.bytes c
    ∷ leb info.used (length c.public.pointers)
    ∷ []

-- Document 01, "Shape".
unfoldable pub shape : Card → Bool
shape c = every (shape_clauses c)

-- ---- soundness, of one block

module _ (c : Card) (b : ℕ) where
  -- "flags below 8" and, 2026-09, "AUDIT allows flag 8": alone, so none above it.
  unfoldable pub flags_low : Bool
  flags_low = leb (flag c.public b) 8

  -- "roots allocated"
  unfoldable pub root_allocated : Bool
  root_allocated = not (is_root c.public b) || allocated_flag (flag c.public b)

  -- Both words of the key for the mode are 0.
  unfoldable pub key_zero : Mode → Bool
  key_zero mode = eqb (key_high c.keys mode b) 0 && eqb (key_low c.keys mode b) 0

  -- "an unallocated block has flags, keys, count and windows 0", or is a waiting one, 2026-09: "flag 8 with keys, count and windows 0".
  unfoldable pub unallocated_empty : Bool
  unallocated_empty =
      allocated_flag (flag c.public b)
      || every
      ((free_flag (flag c.public b) || waiting_flag (flag c.public b))
      ∷ key_zero Reading
      ∷ key_zero Writing
      ∷ eqb (count c.public b) 0
      ∷ eqb (window_end c.public Reading b) 0
      ∷ eqb (window_end c.public Writing b) 0
      ∷ [])

  -- "an absent key's words are 0"
  unfoldable pub absent_key_zero : Mode → Bool
  absent_key_zero mode = key_flag mode (flag c.public b) || key_zero mode

  -- 2026-05, "Counts .. equal the sum of multiplicities" of the pointers to that block.
  unfoldable pub count_right : Bool
  count_right = eqb (count c.public b) (pointers_to b (in_use c.public) (times_in_use c.public))

  -- "at least 1 for an allocated non-root"
  unfoldable pub pointed_to : Bool
  pointed_to = is_root c.public b || not (allocated_flag (flag c.public b)) || leb 1 (count c.public b)

  -- "each window end at most T + 86,400"
  unfoldable pub window_in_time : Mode → Bool
  window_in_time mode = leb (window_end c.public mode b) (c.public.info.time + longest_interval)

-- ---- soundness, of one pointer

-- "both ends of a pointer allocated, the destination no root, the ends different"
unfoldable pub pointer_right : Public → ℕ → Bool
pointer_right p w =
    every
    (allocated p (source w)
    ∷ allocated p (destination w)
    ∷ not (is_root p (destination w))
    ∷ not (eqb (source w) (destination w))
    ∷ [])

-- 2026-05, "a multiplicity from 1 to 65,535"
unfoldable pub multiplicity_right : ℕ → Bool
multiplicity_right n = leb 1 n && leb n highest_multiplicity

-- ---- soundness, of the card

-- 2026-08, "AUDIT refuses 2 for a total above T × 4,096": 4,096 blocks are the most that a card has.
unfoldable pub total_in_time : Info → Bool
total_in_time info = leb info.total (info.time * most_blocks)

abbrev pub sound_clauses : Card → List Bool
sound_clauses c =
    let blocks = c.public.info.blocks in
    all_below (λ b. flags_low c b) blocks
    ∷ all_below (λ b. root_allocated c b) blocks
    ∷ all_below (λ b. unallocated_empty c b) blocks
    ∷ all_below (λ b. absent_key_zero c b Reading) blocks
    ∷ all_below (λ b. absent_key_zero c b Writing) blocks
    ∷ ascending (in_use c.public)
    ∷ all (λ w. eqb w 0) (drop c.public.info.used c.public.pointers)
    ∷ all (λ n. multiplicity_right n) (times_in_use c.public)
    ∷ all (λ n. eqb n 0) (drop c.public.info.used c.public.multiplicities)
    ∷ all (λ w. pointer_right c.public w) (in_use c.public)
    ∷ all_below (λ b. count_right c b) blocks
    ∷ all_below (λ b. pointed_to c b) blocks
    ∷ all_below (λ b. window_in_time c b Reading) blocks
    ∷ all_below (λ b. window_in_time c b Writing) blocks
    ∷ total_in_time c.public.info
    ∷ []

-- Document 01, "Soundness".
unfoldable pub sound : Card → Bool
sound c = every (sound_clauses c)

-- What the audit finds: misshapen, unsound or sound.
unfoldable pub verdict : Card → Verdict
verdict c = cond (shape c) (cond (sound c) Sound Unsound) Misshapen
