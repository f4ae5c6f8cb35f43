-- A block's part of the contents: where it lies, and what is read from it and written to it.
use Prim.Native.Nat.{ℕ, ◌+◌, ◌-◌, ◌*◌, ◌≤◌}
use mathlib.Core.Path.{◌≡◌, refl, sym, ap, ◌∙◌}
use mathlib.Core.Bool.{Bool, false, not, ◌||◌}
use mathlib.Core.List.{List}
use native.Mathlib.Nat.{mul-le-mul_right}
use native.Mathlib.Omega.{arith}
use lib.ListN.{length, take, drop}
use lib.Dec.{eqb}
use borrow.Author.Tests.{eqb-true, not-false}
use borrow.Rule.Slice.PartMut.{put_mid, Post-is}
use Rattle.card.specs.Contents.{part, fill, overwrite}
use Rattle.laws.specs.ContentsLaws.{block_fits, part_length}
use Rattle.laws.specs.ListsLaws.{or_false_left}
use Rattle.card.specs.Card.{Card, allocated}
use Rattle.card.specs.SoundCard.{SoundCard}
use Rattle.access.proofs.Blocks.{there}

-- A buffer that is not refused has B bytes.
pub right_size : {size bytes : ℕ} (late : Bool) → not (eqb size bytes) || late ≡ false → size ≡ bytes
right_size {size} {bytes} late e = eqb-true size bytes (not-false (eqb size bytes) (or_false_left _ late e))

-- A block that is there: its part lies within the contents, of at most 2^28 bytes.
pub record Lies (c : Card) (b : ℕ) : Type 0 where
  pub within : b * c.public.info.bytes + c.public.info.bytes ≤ length c.contents
  pub low : b * c.public.info.bytes + c.public.info.bytes ≤ 268435456

pub lies : {c : Card} (b : ℕ) {t : Bool} → SoundCard c → t ≡ not (allocated c.public b) → t ≡ false → Lies c b
lies {c} b s told e =
    let bytes : ℕ = c.public.info.bytes in
    let h : b * bytes + bytes ≤ c.public.info.blocks * bytes = block_fits bytes (there c.public b told e) in
    let blocks : c.public.info.blocks * bytes ≤ 4096 * bytes = mul-le-mul_right bytes s.shaped.in_ranges.blocks_high in
    let size : bytes ≤ 65536 = s.shaped.in_ranges.bytes_high in
    let long : length c.contents ≡ c.public.info.blocks * bytes = s.shaped.has_lengths.contents in
    record { within = omega arith; low = omega arith }

-- The part that is lent, from b × B to b × B + B.
pub lent_part : (n : ℕ) (xs : List ℕ) (b : ℕ) {ys : List ℕ} → ys ≡ take (b * n + n - b * n) (drop (b * n) xs) → ys ≡ part n xs b
unfolding part
lent_part n xs b e =
    let size : b * n + n - b * n ≡ n = omega arith in
    e ∙ ap (λ (k : ℕ). take k (drop (b * n) xs)) size

pub lent_size : {c : Card} (b : ℕ) {size : ℕ} → Lies c b → size ≡ c.public.info.bytes
    → length (take (b * c.public.info.bytes + c.public.info.bytes - b * c.public.info.bytes) (drop (b * c.public.info.bytes) c.contents)) ≡ size
lent_size {c} b l e = ap length (lent_part c.public.info.bytes c.contents b refl) ∙ part_length c.public.info.bytes c.contents b l.within ∙ sym e

-- What a part of a list is written to, it is overwritten with.
put_part : (xs : List ℕ) (at end : ℕ) {ys zs : List ℕ} → ys ≡ zs → at + length zs ≡ end → put_mid at (end - at) xs ys ≡ overwrite xs at zs
unfolding overwrite
put_part xs at end {ys} {zs} e l = rw (e, l, Post-is at end xs (omega arith))

pub put_block : (n : ℕ) (xs : List ℕ) (b : ℕ) {ys : List ℕ} (zs : List ℕ) → ys ≡ zs → length zs ≡ n
    → put_mid (b * n) (b * n + n - b * n) xs ys ≡ fill n xs b zs
unfolding fill
put_block n xs b zs e l = put_part xs (b * n) (b * n + n) e (ap (λ (k : ℕ). b * n + k) l)
