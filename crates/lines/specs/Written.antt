-- What a function that writes into a lent buffer leaves.
use Rattle.std.specs.Prelude.{ℕ, ◌+◌, ◌≡◌, List, length}
use Rattle.card.specs.Contents.{overwrite}

-- The buffer holds the bytes from the place on, and the place behind them is given.
pub record Written (before : List ℕ) (at : ℕ) (bytes after : List ℕ) (behind : ℕ) : Type 0 where
  pub holds : after ≡ overwrite before at bytes
  pub ends : behind ≡ at + length bytes
