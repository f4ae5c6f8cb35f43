-- The walk against the pointers starts with the chosen block alone.
-- Assumes nothing.
use Prim.Native.Nat.{ℕ, ◌<◌}
use mathlib.Core.Path.{◌≡◌, ap, ◌∙◌, subst}
use mathlib.Core.List.{List}
use lib.Dec.{eqb}
use lib.ListN.{length, set, replicate}
use Rattle.walks.specs.Walk.{mark, Walking, Spread, Entered}
use Rattle.walks.specs.WalkLaws.{none_marked, walking_none, walking_enter}

module _ {marks queue marks' queue' : List ℕ} {chosen begun : ℕ}
    (none : marks ≡ replicate 4096 0) (low : chosen < 4096) (r : Entered marks queue 0 chosen marks' queue' begun) where
  pub chosen_waits : {edge : ℕ → ℕ → Type 0} → length queue ≡ 4096 → Walking edge marks' queue' 0 begun
  chosen_waits l = walking_enter (walking_none none l) low r

  chosen_marked : marks' ≡ set (replicate 4096 0) chosen 1
  chosen_marked =
      let z : mark marks chosen ≡ 0 = rw none (none_marked 4096 chosen) in
      r.is_marks ∙ rw (ap (λ (x : ℕ). eqb x 1) z) (ap (λ (ms : List ℕ). set ms chosen 1) none)

  pub chosen_spread : {edge : ℕ → ℕ → Type 0} {after queue'' : List ℕ} {count : ℕ} → Spread edge marks' after queue'' count
      → Spread edge (set (replicate 4096 0) chosen 1) after queue'' count
  chosen_spread {edge} {after} {queue''} {count} s = subst (λ (ms : List ℕ). Spread edge ms after queue'' count) chosen_marked s
