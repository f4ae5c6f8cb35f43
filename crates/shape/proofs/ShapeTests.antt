-- The tests of shape in the form in which the code computes them.
-- The code joins tests to the left, `every` to the right and with `true` at the end.
use Prim.Native.Nat.{ℕ, ◌*◌, ◌%◌, ◌≤◌, ◌<◌}
use mathlib.Core.Path.{◌≡◌, refl, sym}
use mathlib.Core.Bool.{false, ◌&&◌, and_assoc, and-true}
use native.Mathlib.Omega.{arith}
use native.Mathlib.Nat.{mul-le-mul}
use lib.Dec.{eqb, ltb, leb}
use lib.ListN.{length}
use Rattle.card.specs.Lists.{every}
use Rattle.laws.specs.ListsLaws.{false_unless}
use Rattle.card.specs.Card.{Card}
use Rattle.card.specs.Soundness.{ranges, lengths, shape}
use Rattle.card.specs.SoundCard.{InRanges}
use Rattle.laws.specs.SoundnessLaws.{ranges_true, true_ranges}

pub few_bytes : (blocks roots bytes : ℕ) → bytes < 512 → false ≡ ranges blocks roots bytes
few_bytes blocks roots bytes l =
    sym (false_unless _ (λ e. let h : 512 ≤ bytes = (ranges_true blocks roots bytes e).bytes_low in omega arith))

pub in_ranges : (blocks roots bytes : ℕ)
    → leb 16 blocks && leb blocks 4096 && leb 1 roots && leb roots 8 && leb 512 bytes && leb bytes 65536 && eqb (65536 % bytes) 0 ≡ ranges blocks roots bytes
unfolding ranges every
in_ranges blocks roots bytes = simp (and_assoc, and-true)

pub contents_fit : {blocks roots bytes : ℕ} → InRanges blocks roots bytes → blocks * bytes ≤ 268435456
contents_fit h = mul-le-mul h.blocks_high h.bytes_high

pub in_lengths : (c : Card) → InRanges c.public.info.blocks c.public.info.roots c.public.info.bytes
    → ltb c.public.info.time 1099511627776
    && eqb (length c.public.flags) c.public.info.blocks
    && eqb (length c.keys) (4 * c.public.info.blocks)
    && eqb (length c.public.counts) c.public.info.blocks
    && leb 1 (length c.public.pointers)
    && leb (length c.public.pointers) 16384
    && eqb (length c.public.multiplicities) (length c.public.pointers)
    && eqb (length c.public.windows) (2 * c.public.info.blocks)
    && eqb (length c.contents) (c.public.info.blocks * c.public.info.bytes)
    && leb c.public.info.used (length c.public.pointers)
    ≡ shape c
unfolding shape lengths every
in_lengths c h = simp (true_ranges h, and_assoc, and-true)

pub out_of_ranges : (c : Card) → false ≡ ranges c.public.info.blocks c.public.info.roots c.public.info.bytes → false ≡ shape c
unfolding shape every
out_of_ranges c e = rw (← e) refl
