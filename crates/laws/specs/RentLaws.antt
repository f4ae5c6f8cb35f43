-- Laws of the rent: the total that a TICK leaves is in time, and nothing that is worked out for it is large.
use Rattle.std.specs.Prelude.{ℕ, ◌+◌, ◌*◌, ◌≤◌}
use Rattle.std.proofs.Math.Nat.{mul-le-mul_left}
use Rattle.std.proofs.Common.{le_trans, arith}
use Rattle.card.specs.Card.{Public}
use Rattle.card.specs.Tree.{ordinary}
use Rattle.card.specs.Rent.{rented, rent_for}
use Rattle.card.specs.Soundness.{most_blocks}
use Rattle.laws.specs.NumbersLaws.{numbers_most}

pub rented_few : (p : Public) → rented p ≤ p.info.blocks
unfolding rented
rented_few p = numbers_most (ordinary p) p.info.blocks

module _ (p : Public) (seconds : ℕ) (few : p.info.blocks ≤ most_blocks) where
  pub rent_low : rent_for p seconds ≤ seconds * most_blocks
  unfolding rent_for
  rent_low = mul-le-mul_left seconds (le_trans (rented_few p) few)

  -- A total in time is in time so many seconds later.
  pub rent_in_time : p.info.total ≤ p.info.time * most_blocks → p.info.total + rent_for p seconds ≤ (p.info.time + seconds) * most_blocks
  rent_in_time low = omega (arith, rent_low)
