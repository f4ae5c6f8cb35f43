-- The cents of a total, by each way of rounding, and that nothing wraps on the way. What becomes of an exact half is told by `half_rounded` alone.
use Prim.Native.Nat.{ℕ, ◌+◌, ◌*◌, ◌/◌, ◌%◌, ◌^◌, ◌≤◌, ◌<◌}
use mathlib.Core.Path.{◌≡◌}
use native.Mathlib.Nat.{mod-lt, div-le_self, mul-le-mul}
use native.Mathlib.Numerals.{lt_of_le_of_ne}
use native.Mathlib.Omega.{arith}
use borrow.Author.Tests.{lt-ltb, le-ltb, eq-eqb, ne_eqb}
use Rattle.card.specs.Rent.{highest_price, per_cent, half_rounded, rounded, cents}
use Rattle.card.specs.Soundness.{time_limit, most_blocks}

-- ---- nothing wraps

module _ (parts size : ℕ) where
  pub twice_fits : 0 < size → size < 2 ^ 63 → 2 * (parts % size) < 2 ^ 64
  twice_fits l h = omega (arith, mod-lt parts l)

  pub whole_fits : parts < 2 ^ 63 → parts / size < 2 ^ 63
  whole_fits h = omega (arith, div-le_self parts size)

pub parts_fit : {total price : ℕ} → total ≤ time_limit * most_blocks → price ≤ highest_price → total * price < 2 ^ 63
parts_fit h k = omega (arith, mul-le-mul h k)

-- ---- the ways of rounding

module _ (parts size : ℕ) where
  pub above_half : size < 2 * (parts % size) → parts / size + 1 ≡ rounded parts size
  unfolding rounded
  above_half l = rw (le-ltb (2 * (parts % size)) size (omega arith), ne_eqb (2 * (parts % size)) size (λ e. absurd (omega arith)))

  pub at_half : 2 * (parts % size) ≡ size → {r : ℕ} → r ≡ half_rounded (parts / size) → r ≡ rounded parts size
  unfolding rounded
  at_half e told = rw (le-ltb (2 * (parts % size)) size (omega arith), eq-eqb (2 * (parts % size)) size e) told

  pub below_half : 2 * (parts % size) ≤ size → (2 * (parts % size) ≡ size → ⊥) → parts / size ≡ rounded parts size
  unfolding rounded
  below_half l n = rw (lt-ltb (2 * (parts % size)) size (lt_of_le_of_ne l n))

pub rounded_cents : (total price : ℕ) {r : ℕ} → r ≡ rounded (total * price) per_cent → r ≡ cents total price
unfolding cents
rounded_cents total price e = e
