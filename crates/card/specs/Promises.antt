-- What the contracts of the calls cite: an answer, a card and two buffers are what a rule says.
use Rattle.std.specs.Prelude.{ℕ, ◌≡◌, List}
use Rattle.card.specs.Card.{Card}
use Rattle.card.specs.Plan.{Result}
use Rattle.card.specs.Answers.{Answer}

-- The answer, the card that is left and the buffers that may be written are those of the result.
pub record Is (want : Result) (answer : Answer) (after : Card) (out places : List ℕ) : Type 0 where
  pub answers : answer ≡ want.answer
  pub leaves : after ≡ want.after
  pub fills_out : out ≡ want.out
  pub fills_places : places ≡ want.places
