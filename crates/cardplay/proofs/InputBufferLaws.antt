-- What reading, writing and moving make of a buffer whose first bytes are filled.
use Prim.Native.Nat.{ℕ, ◌+◌, ◌-◌, ◌≤◌}
use mathlib.Core.Path.{◌≡◌, ap, ◌∙◌}
use mathlib.Core.List.{List, ◌++◌}
use native.Mathlib.Omega.{arith}
use lib.ListN.{length, take, drop, length-drop, length-append}
use lib.Seq.{take_at, length-take-le}
use Rattle.card.specs.Contents.{overwrite}
use Rattle.std.specs.List.{copy_within}
use Rattle.lines.specs.Written.{Written}
use Rattle.cardplay.specs.InputBuffer.{GrownIs}

-- What is read stands behind the filled part.
pub grown_is : (xs ys zs : List ℕ) (filled n : ℕ) → filled ≤ length xs → n ≤ length ys → GrownIs xs filled (take filled xs ++ (ys ++ zs)) (filled + n)
grown_is xs ys zs filled n h k =
    let front : length (take filled xs) ≡ filled = length-take-le filled xs h in
    record {
      keeps = take_at (take filled xs) (ys ++ zs) filled front;
      further = omega arith;
      within = omega (arith, length-append (take filled xs) (ys ++ zs), length-append ys zs, front);
    }

-- What is written lies within the buffer.
pub written_within : {before ys after : List ℕ} {behind : ℕ} → Written before 0 ys after behind → (behind ≡ length ys) × (behind ≤ length after)
unfolding overwrite
written_within {before} {ys} {after} {behind} w =
    (omega (arith, w.ends), omega (arith, w.ends, ap length w.holds, length-append ys (drop (0 + length ys) before)))

-- ---- moving bytes to the front

pub moved : (xs : List ℕ) (from filled : ℕ) {now : List ℕ} → filled ≤ length xs → now ≡ copy_within xs from filled 0
    → Written xs 0 (take (filled - from) (drop from xs)) now (filled - from)
unfolding overwrite
moved xs from filled h e =
    let size : length (take (filled - from) (drop from xs)) ≡ filled - from = length-take-le (filled - from) (drop from xs) (omega (arith, length-drop from xs)) in
    record { holds = e ∙ rw size; ends = omega (arith, size) }
