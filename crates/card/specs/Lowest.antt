-- The lowest of the numbers below a bound of which a test holds.
use Rattle.std.specs.Prelude.{ℕ, ◌<◌, ◌≡◌, Bool, true, length}
use Rattle.card.specs.Lists.{numbers_below}

-- The number is among the lowest n of them: the test holds of it, and of fewer than n numbers below it.
pub record Lowest (test : ℕ → Bool) (n bound b : ℕ) : Type 0 where
  pub below : b < bound
  pub holds : test b ≡ true
  pub few : length (numbers_below test b) < n
