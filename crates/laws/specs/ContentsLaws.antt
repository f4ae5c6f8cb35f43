-- Laws of a block's part of the contents: after a write or a fill, at the same block and at another.
use Rattle.std.specs.Prelude.{ℕ, zero, suc, ◌+◌, ◌-◌, ◌*◌, ◌≤◌, ◌<◌, ◌≡◌, List, ◌++◌}
use Rattle.std.proofs.Math.Path.{refl, ap, subst}
use Rattle.std.proofs.Common.{sym, ◌∙◌, mul-le-mul_right, suc-mul, length-append, length-drop, drop_at, ext_get_or}
use Rattle.std.proofs.Math.Logic.{⊎_elim}
use native.Mathlib.Omega.{arith}
use Rattle.std.proofs.Math.ListN.{length, take, drop, get_or, length-take, get_or-append}
use Rattle.std.proofs.Math.Seq.{take_at, get_or-append-add, get_or-take, get_or-drop, length-take-le}
use Rattle.laws.specs.ListsLaws.{below_or_not}
use Rattle.card.specs.Contents.{overwrite, part, fill}

-- ---- overwrite

module _ (xs : List ℕ) (at : ℕ) (ys : List ℕ) (fits : at + length ys ≤ length xs) where
  pub overwrite_length : length (overwrite xs at ys) ≡ length xs
  unfolding overwrite
  overwrite_length = simp (length-append, length-take, length-drop) (omega arith)

  -- Before the part.
  overwrite_before : (i : ℕ) → i < at → get_or (overwrite xs at ys) i 0 ≡ get_or xs i 0
  unfolding overwrite
  overwrite_before i h =
      get_or-append (take at xs) (ys ++ drop (at + length ys) xs) 0 i (simp length-take (omega arith)) ∙ get_or-take at xs i 0 h

  -- At place k of the part.
  pub overwrite_within : (k : ℕ) → k < length ys → get_or (overwrite xs at ys) (at + k) 0 ≡ get_or ys k 0
  unfolding overwrite
  overwrite_within k h =
      let long : length (take at xs) ≡ at = length-take-le at xs (omega arith) in
      subst (λ (n : ℕ). get_or (take at xs ++ (ys ++ drop (at + length ys) xs)) (n + k) 0 ≡ get_or ys k 0) long
      (get_or-append-add (take at xs) (ys ++ drop (at + length ys) xs) k 0 ∙ get_or-append ys (drop (at + length ys) xs) 0 k h)

  -- Behind the part.
  behind_add : (k : ℕ) → get_or (overwrite xs at ys) (at + (length ys + k)) 0 ≡ get_or xs (at + length ys + k) 0
  unfolding overwrite
  behind_add k =
      let long : length (take at xs) ≡ at = length-take-le at xs (omega arith) in
      subst (λ (n : ℕ). get_or (take at xs ++ (ys ++ drop (at + length ys) xs)) (n + (length ys + k)) 0 ≡ get_or xs (at + length ys + k) 0) long
      (get_or-append-add (take at xs) (ys ++ drop (at + length ys) xs) (length ys + k) 0
      ∙ get_or-append-add ys (drop (at + length ys) xs) k 0
      ∙ get_or-drop (at + length ys) xs k 0)

  pub overwrite_behind : (i : ℕ) → at + length ys ≤ i → get_or (overwrite xs at ys) i 0 ≡ get_or xs i 0
  overwrite_behind i h =
      let k : ℕ = i - (at + length ys) in
      let e : at + (length ys + k) ≡ i = omega arith in
      let f : at + length ys + k ≡ i = omega arith in
      ap (λ (n : ℕ). get_or (overwrite xs at ys) n 0) (sym e) ∙ behind_add k ∙ ap (λ (n : ℕ). get_or xs n 0) f

  -- The part itself.
  pub overwrite_part : take (length ys) (drop at (overwrite xs at ys)) ≡ ys
  unfolding overwrite
  overwrite_part =
      ap (take (length ys)) (drop_at (take at xs) (ys ++ drop (at + length ys) xs) at (length-take-le at xs (omega arith)))
      ∙ take_at ys (drop (at + length ys) xs) (length ys) refl

-- ---- a block's part

-- A block below N lies within contents of N × B bytes.
pub block_fits : {b blocks : ℕ} (bytes : ℕ) → b < blocks → b * bytes + bytes ≤ blocks * bytes
block_fits {b} {blocks} bytes h = subst (λ (n : ℕ). n ≤ blocks * bytes) (suc-mul b bytes) (mul-le-mul_right bytes h)

pub part_length : (bytes : ℕ) (contents : List ℕ) (b : ℕ) → b * bytes + bytes ≤ length contents → length (part bytes contents b) ≡ bytes
unfolding part
part_length bytes contents b h = simp (length-take, length-drop) (omega arith)

-- Two contents agree on a block's part if they agree at each byte of it.
pub part_same : (bytes : ℕ) (xs ys : List ℕ) (b : ℕ) → length xs ≡ length ys → ((i : ℕ) → b * bytes ≤ i → i < b * bytes + bytes → get_or xs i 0 ≡ get_or ys i 0)
    → part bytes xs b ≡ part bytes ys b
unfolding part
part_same bytes xs ys b e f =
    ext_get_or 0 (take bytes (drop (b * bytes) xs)) (take bytes (drop (b * bytes) ys))
    (simp (length-take, length-drop, e))
    (λ i h.
    let l : i < bytes = omega (arith, simp (length-take, length-drop) at h) in
    get_or-take bytes (drop (b * bytes) xs) i 0 l
    ∙ get_or-drop (b * bytes) xs i 0
    ∙ f (b * bytes + i) (omega arith) (omega arith)
    ∙ sym (get_or-take bytes (drop (b * bytes) ys) i 0 l ∙ get_or-drop (b * bytes) ys i 0))

module _ (bytes : ℕ) (contents : List ℕ) (b : ℕ) (ys : List ℕ) (fits : b * bytes + bytes ≤ length contents) (whole : length ys ≡ bytes) where
  within : b * bytes + length ys ≤ length contents
  within = omega arith

  pub fill_length : length (fill bytes contents b ys) ≡ length contents
  unfolding fill
  fill_length = overwrite_length contents (b * bytes) ys within

  -- The block that is filled.
  pub part_fill_same : part bytes (fill bytes contents b ys) b ≡ ys
  unfolding fill part
  part_fill_same =
      subst (λ (n : ℕ). take n (drop (b * bytes) (overwrite contents (b * bytes) ys)) ≡ ys) whole
      (overwrite_part contents (b * bytes) ys within)

  -- Another block.
  pub part_fill_other : (a : ℕ) → (a ≡ b → ⊥) → part bytes (fill bytes contents b ys) a ≡ part bytes contents a
  unfolding fill
  part_fill_other a other =
      part_same bytes (overwrite contents (b * bytes) ys) contents a (overwrite_length contents (b * bytes) ys within)
      (λ i l u.
      ⊎_elim
      (λ (h : a < b). overwrite_before contents (b * bytes) ys within i (omega (arith, block_fits bytes h)))
      (λ (h : b ≤ a).
      let g : b < a = omega arith in
      overwrite_behind contents (b * bytes) ys within i (omega (arith, block_fits bytes g)))
      (below_or_not a b))

-- Where byte i stands: in a block, and at a place of its part.
record Standing (blocks bytes i : ℕ) : Type 0 where
  block : ℕ
  place : ℕ
  low : block < blocks
  inside : place < bytes
  there : block * bytes + place ≡ i

standing : (blocks bytes i : ℕ) → i < blocks * bytes → Standing blocks bytes i
standing zero bytes i h = absurd (omega arith)
standing (suc blocks) bytes i h =
    ⊎_elim
    (λ (l : i < blocks * bytes).
    let w = standing blocks bytes i l in
    record { block = w.block; place = w.place; low = omega (arith, w.low); inside = w.inside; there = w.there })
    (λ (l : blocks * bytes ≤ i). record {
      block = blocks;
      place = i - blocks * bytes;
      low = omega arith;
      inside = omega (arith, suc-mul blocks bytes);
      there = omega arith;
    })
    (below_or_not i (blocks * bytes))

-- Two contents of so many blocks are equal if each block's part is.
pub parts_same : (blocks bytes : ℕ) (xs ys : List ℕ) → length xs ≡ blocks * bytes → length ys ≡ blocks * bytes
    → ((b : ℕ) → b < blocks → part bytes xs b ≡ part bytes ys b) → xs ≡ ys
unfolding part
parts_same blocks bytes xs ys e f same =
    ext_get_or 0 xs ys (e ∙ sym f)
    (λ i h.
    let w = standing blocks bytes i (omega arith) in
    let at : (zs : List ℕ) → get_or (take bytes (drop (w.block * bytes) zs)) w.place 0 ≡ get_or zs (w.block * bytes + w.place) 0 = λ zs.
    get_or-take bytes (drop (w.block * bytes) zs) w.place 0 w.inside ∙ get_or-drop (w.block * bytes) zs w.place 0 in
    subst (λ (n : ℕ). get_or xs n 0 ≡ get_or ys n 0) w.there
    (sym (at xs) ∙ ap (λ (zs : List ℕ). get_or zs w.place 0) (same w.block w.low) ∙ at ys))
