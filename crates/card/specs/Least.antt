-- The least set of numbers that a test, given the members so far, lets in.
use Rattle.std.specs.Prelude.{ℕ, zero, suc, Bool, List, []}
use Rattle.card.specs.Lists.{numbers_below}

module _ (test : List ℕ → ℕ → Bool) (n : ℕ) where
  -- Begun with no member; in each round the members are the numbers below n that the test lets in beside those before.
  unfoldable pub rounds : ℕ → List ℕ
  rounds zero = []
  rounds (suc k) = numbers_below (test (rounds k)) n

  -- After n rounds none is left to let in: each round before that brings one.
  unfoldable pub least : List ℕ
  least = rounds n
