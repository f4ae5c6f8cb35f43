-- The tests of one pointer and of one block, in the form in which the code computes them.
-- The code joins tests to the left, `every` to the right and with `true` at the end.
use Prim.Native.Nat.{ℕ, ◌+◌, ◌*◌, ◌≤◌, ◌<◌}
use mathlib.Core.Path.{◌≡◌, refl}
use mathlib.Core.Bool.{Bool, false, ◌&&◌, ◌||◌, not, and_assoc, and-true}
use mathlib.Core.List.{List}
use lib.Dec.{eqb, ltb, leb}
use lib.ListN.{get_or}
use borrow.Author.Tests.{lt-ltb, le-ltb}
use Rattle.card.specs.Lists.{every}
use Rattle.card.specs.Pointers.{source, destination}
use Rattle.card.specs.Card.{Public, Card, flag, allocated_flag, key_flag, waiting_flag, free_flag, allocated, count}
use Rattle.card.specs.Soundness.{flags_low, root_allocated, key_zero, unallocated_empty, absent_key_zero, pointed_to, window_in_time}
use Rattle.card.specs.declared.Info.{Info}
use Rattle.card.specs.declared.Mode.TheVariants.{Reading, Writing}
use Rattle.audit.specs.Walks.{flagged, link_right, block_sound}

-- ---- a pointer

pub allocated_inside : (p : Public) (b : ℕ) {t : Bool} → b < p.info.blocks → t ≡ allocated_flag (flag p b) → t ≡ allocated p b
unfolding allocated
allocated_inside p b l told = rw (lt-ltb _ _ l) told

pub allocated_outside : (p : Public) (b : ℕ) → p.info.blocks ≤ b → false ≡ allocated p b
unfolding allocated
allocated_outside p b l = rw (le-ltb _ _ l) refl

module _ (info : Info) (flags : List ℕ) (w : ℕ) where
  pub looked_up : {s : Bool} → s ≡ allocated (flagged info flags) (source w)
      → ltb (destination w) info.blocks && not (eqb (source w) (destination w)) && s ≡ link_right info flags w
  unfolding link_right every
  looked_up e = simp (e, and_assoc, and-true)

-- ---- a block

pub sound_block : (c : Card) (tallied b : ℕ) {held readKey writeKey read write free waiting : Bool}
    → held ≡ allocated_flag (flag c.public b)
    → readKey ≡ key_flag Reading (flag c.public b)
    → writeKey ≡ key_flag Writing (flag c.public b)
    → read ≡ eqb (get_or c.keys (4 * b) 0) 0 && eqb (get_or c.keys (4 * b + 1) 0) 0
    → write ≡ eqb (get_or c.keys (4 * b + 2) 0) 0 && eqb (get_or c.keys (4 * b + 2 + 1) 0) 0
    → free ≡ free_flag (flag c.public b)
    → waiting ≡ waiting_flag (flag c.public b) →
    let f = flag c.public b in
    let root = ltb b c.public.info.roots in
    let reading = get_or c.public.windows (2 * b) 0 in
    let writing = get_or c.public.windows (2 * b + 1) 0 in
    let n = count c.public b in
    let latest = c.public.info.time + 86400 in
    let empty = (free || waiting) && read && write && eqb n 0 && eqb reading 0 && eqb writing 0 in
    leb f 8
    && (not root || held)
    && (held || empty)
    && (readKey || read)
    && (writeKey || write)
    && eqb n tallied
    && (not root || eqb tallied 0)
    && (root || not held || leb 1 n)
    && leb reading latest
    && leb writing latest
    ≡ block_sound c tallied b
unfolding block_sound every flags_low root_allocated unallocated_empty absent_key_zero key_zero pointed_to window_in_time
sound_block c tallied b h k l e f g i = simp (h, k, l, e, f, g, i, and_assoc, and-true)
