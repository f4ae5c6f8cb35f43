-- What the walk leaves of a card that is to lose a pointer.
use Rattle.std.specs.Prelude.{ℕ, ◌<◌, ◌≡◌, List, length}
use Rattle.card.specs.Card.{Public}
use Rattle.card.specs.Calls.{freed_with}
use Rattle.walks.specs.Walk.{mark, marked_below}

-- The blocks that are freed with the pointer from a to b are marked: so many.
pub record Freed (p : Public) (a b : ℕ) (marks : List ℕ) (count : ℕ) : Type 0 where
  pub has_marks : length marks ≡ 4096
  pub below : (x : ℕ) → mark marks x ≡ 1 → x < p.info.blocks
  pub listed : marked_below marks p.info.blocks ≡ freed_with p a b
  pub counted : count ≡ length (freed_with p a b)
