-- One block taken, over plain values.
use Prim.Native.Nat.{ℕ, ◌+◌, ◌-◌, ◌*◌}
use mathlib.Core.Path.{◌≡◌, refl}
use mathlib.Core.List.{List, ◌++◌}
use lib.ListN.{length, take, drop, get_or, set}
use Rattle.card.specs.Contents.{fill, zeros}
use Rattle.tables.specs.Cleared.{part_cleared}
use Rattle.allocation.specs.Taking.{CanTake, BlockTaken}

pub block_taken : {bytes b : ℕ} {flags counts contents cleared : List ℕ} → CanTake bytes flags counts contents b
    → (let at = b * bytes in let size = (at + bytes) - at in
    cleared ≡ zeros (length (take size (drop at contents)))
    → BlockTaken bytes b flags counts contents (set flags b 1) (set counts b (get_or counts b 0 + 1)) (take at contents ++ (cleared ++ drop size (drop at contents))))
unfolding fill
block_taken {bytes} {b} {contents = contents} t e = record { allocates = refl; counted = refl; zeroes = part_cleared (b * bytes) bytes contents t.in_contents e }
