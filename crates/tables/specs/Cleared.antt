-- A part of a list that was lent and comes back as zeros.
use Rattle.std.specs.Prelude.{ℕ, ◌+◌, ◌-◌, ◌≤◌, ◌≡◌, List, ◌++◌, length, take, drop}
use Rattle.std.proofs.Common.{arith, length-take, length-drop, drop-drop}
use Rattle.std.proofs.lemmas.List.{length-replicate}
use Rattle.card.specs.Contents.{overwrite, zeros}

pub part_cleared : (at bytes : ℕ) (xs : List ℕ) {ys : List ℕ} → at + bytes ≤ length xs → ys ≡ zeros (length (take ((at + bytes) - at) (drop at xs)))
    → take at xs ++ (ys ++ drop ((at + bytes) - at) (drop at xs)) ≡ overwrite xs at (zeros bytes)
unfolding overwrite
part_cleared at bytes xs fits e =
    let size : (at + bytes) - at ≡ bytes = omega arith in
    let long : length (take bytes (drop at xs)) ≡ bytes = simp (length-take, length-drop) (omega arith) in
    rw (e, size, long, drop-drop bytes at xs, length-replicate {A = ℕ} bytes 0)
