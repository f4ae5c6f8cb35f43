-- Numbers, tables and texts written piece by piece: the invariant of the loops that write them.
use Prim.Native.Nat.{ℕ, ◌+◌, ◌-◌, ◌*◌, ◌/◌, ◌%◌, ◌^◌, ◌≤◌, ◌<◌}
use mathlib.Core.Path.{◌≡◌, refl, sym, ap, ◌∙◌, subst}
use mathlib.Core.List.{List, [], ◌∷◌, ◌++◌}
use native.Mathlib.Nat.{mul-suc, sub-zero}
use native.Mathlib.Omega.{arith}
use lib.ListN.{length, take, get_or, length-append}
use lib.Seq.{take_all, drop-drop}
use borrow.Rule.Slice.PartMut.{put_mid}
use Rattle.card.specs.Contents.{overwrite}
use Rattle.lines.specs.Lines.{digit, space, decimal, spaced}
use Rattle.lines.specs.LinesLaws.{decimal_small, decimal_large, spaced_one, spaced_more}
use Rattle.lines.specs.Written.{Written}
use Rattle.lines.specs.WrittenLaws.{written_none, written_join, written_length}

-- ---- numbers written

pub written_small : {xs ys : List ℕ} {at behind : ℕ} (n : ℕ) → n < 10 → Written xs at (digit n ∷ []) ys behind → Written xs at (decimal n) ys behind
written_small n h w = rw (decimal_small n h) w

pub written_large : {before middle after : List ℕ} {at next behind : ℕ} (n : ℕ) → 10 ≤ n → n < 2 ^ 64 → at + length (decimal n) ≤ length before
    → Written before at (decimal (n / 10)) middle next → Written middle next (digit (n % 10) ∷ []) after behind → Written before at (decimal n) after behind
written_large n h l fits a b =
    rw (decimal_large n h l) (written_join a b (omega (arith, ap length (decimal_large n h l), length-append (decimal (n / 10)) (digit (n % 10) ∷ []))))

-- Room for a number is room for its front, and one byte behind that.
pub room_front : (n at size : ℕ) → 10 ≤ n → n < 2 ^ 64 → at + length (decimal n) ≤ size → at + length (decimal (n / 10)) + 1 ≤ size
room_front n at size h l fits = omega (arith, ap length (decimal_large n h l), length-append (decimal (n / 10)) (digit (n % 10) ∷ []))

pub room_one : (n at size : ℕ) → n < 10 → at + length (decimal n) ≤ size → at + 1 ≤ size
room_one n at size h fits = omega (arith, ap length (decimal_small n h))

-- ---- a table written one element after the other

-- The bytes of the first i of so many elements are written, and there is room for the others, of so many bytes each.
pub record WrittenPart (each count : ℕ) (bytes : ℕ → List ℕ) (before : List ℕ) (at : ℕ) (to : List ℕ) (next i : ℕ) : Type 0 where
  pub passed : i ≤ count
  pub kept : length to ≡ length before
  pub written : Written before at (bytes i) to next
  pub room : next + each * (count - i) ≤ length to

module _ (each count : ℕ) (bytes : ℕ → List ℕ) (before : List ℕ) (at : ℕ) where
  pub part_none : bytes 0 ≡ [] → at + each * count ≤ length before → WrittenPart each count bytes before at before at 0
  part_none e h = record { passed = omega arith; kept = refl; written = rw e (written_none before at); room = rw sub-zero h }

  pub part_more : {to after : List ℕ} {next behind i : ℕ} (more : List ℕ) → WrittenPart each count bytes before at to next i → i < count → length more ≤ each
      → bytes (i + 1) ≡ bytes i ++ more → Written to next more after behind → WrittenPart each count bytes before at after behind (i + 1)
  part_more {to} {after} {next} {behind} {i} more f h short e w =
      let left : each * (count - i) ≡ each * (count - (i + 1)) + each =
      ap (λ (n : ℕ). each * n) (omega arith) ∙ mul-suc each (count - (i + 1)) in
      let fits : next + length more ≤ length to = omega (arith, f.room) in
      record {
        passed = omega arith;
        kept = written_length w fits ∙ f.kept;
        written = rw e (written_join f.written w (omega (arith, f.written.ends, f.kept)));
        room = omega (arith, w.ends, f.room, written_length w fits);
      }

-- ---- numbers of a table, each behind a space

abbrev pub Spacing : List ℕ → List ℕ → ℕ → List ℕ → ℕ → ℕ → Type 0
Spacing values = WrittenPart 21 (length values) (λ k. spaced (take k values))

pub spacing_none : (values before : List ℕ) (at : ℕ) → at + 21 * length values ≤ length before → Spacing values before at before at 0
unfolding spaced
spacing_none values before at h = part_none 21 (length values) (λ k. spaced (take k values)) before at refl h

pub spacing_room : (values : List ℕ) {before to : List ℕ} {at next i : ℕ} → Spacing values before at to next i → i < length values → next + 21 ≤ length to
spacing_room values f h = omega (arith, f.room)

pub spacing_more : (values before : List ℕ) (at : ℕ) {to after : List ℕ} {next behind i n : ℕ} → Spacing values before at to next i → i < length values
    → n ≡ get_or values i 0 → Written to next (space ∷ decimal n) after behind → Spacing values before at after behind (i + 1)
spacing_more values before at {i = i} {n = n} f h e w =
    part_more 21 (length values) (λ k. spaced (take k values)) before at (space ∷ decimal n) f h (spaced_one n)
    (spaced_more values i h ∙ ap (λ (k : ℕ). spaced (take i values) ++ (space ∷ decimal k)) (sym e)) w

pub spacing_done : (values : List ℕ) {before to : List ℕ} {at next i : ℕ} → Spacing values before at to next i → length values ≤ i → Written before at (spaced values) to next
spacing_done values {before} {to} {at} {next} {i} f h =
    subst (λ (xs : List ℕ). Written before at (spaced xs) to next) (take_all i values h) f.written

-- ---- a text

pub written_text : (xs : List ℕ) (at : ℕ) {ys zs : List ℕ} → ys ≡ zs → Written xs at zs (put_mid at (at + length zs - at) xs ys) (at + length zs)
unfolding overwrite
written_text xs at {zs = zs} e =
    let size : at + length zs - at ≡ length zs = omega arith in
    record { holds = rw (e, size, drop-drop (length zs) at xs); ends = refl }
