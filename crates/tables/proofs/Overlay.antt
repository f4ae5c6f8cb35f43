-- A loop that lays one list over another of the same length, from the front, one store a turn.
use Prim.Native.Nat.{ℕ, zero, suc, ◌+◌, ◌≤◌, ◌<◌}
use mathlib.Core.Path.{◌≡◌, refl, ap, ◌∙◌}
use mathlib.Core.List.{List, [], ◌∷◌, ◌++◌, append-nil}
use native.Mathlib.Nat.{le_of_suc-le-suc, not-suc-le-zero}
use native.Mathlib.Numerals.{add-one}
use native.Mathlib.Omega.{arith}
use lib.ListN.{length, get_or, take, drop, set, length-set, drop_of_length-le}
use lib.Seq.{take_all}

overlay_set : (from to : List ℕ) (i : ℕ) → length from ≡ length to → i < length to
    → set (take i from ++ drop i to) i (get_or from i 0) ≡ take (suc i) from ++ drop (suc i) to
overlay_set from [] i e l = absurd (not-suc-le-zero l)
overlay_set [] (y ∷ to) i e l = absurd (omega arith)
overlay_set (x ∷ from) (y ∷ to) zero e l = refl
overlay_set (x ∷ from) (y ∷ to) (suc i) e l = ap (λ (t : List ℕ). x ∷ t) (overlay_set from to i (omega arith) (le_of_suc-le-suc l))

-- The list now is the first i elements of `from`, and the others as they were.
pub record Overlaid (from before now : List ℕ) (i : ℕ) : Type 0 where
  pub long : length from ≡ length before
  pub most : i ≤ length before
  pub same : length now ≡ length before
  pub holds : now ≡ take i from ++ drop i before

pub overlaid_start : (from before : List ℕ) → length from ≡ length before → Overlaid from before before 0
overlaid_start from before e = record { long = e; most = omega arith; same = refl; holds = refl }

pub overlaid_more : {from before now : List ℕ} {i : ℕ} (v : ℕ) → Overlaid from before now i → i < length now → v ≡ get_or from i 0
    → Overlaid from before (set now i v) (i + 1)
overlaid_more {from} {before} {now} {i} v o l e = record {
  long = o.long;
  most = omega (arith, o.same);
  same = length-set now i v ∙ o.same;
  holds = rw (e, o.holds, add-one) (overlay_set from before i o.long (omega (arith, o.same)));
}

pub overlaid_whole : {from before now : List ℕ} {i : ℕ} → Overlaid from before now i → length now ≤ i → now ≡ from
overlaid_whole {from} {before} {now} {i} o l = o.holds ∙ rw (drop_of_length-le before {i = i} (omega (arith, o.same)), take_all i from (omega (arith, o.same, o.long))) (append-nil from)
