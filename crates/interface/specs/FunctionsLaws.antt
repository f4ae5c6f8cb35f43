-- Laws of the functions that C links.
use Rattle.std.specs.Prelude.{ℕ, ◌≡◌, List, []}
use Rattle.card.specs.Card.{Card}
use Rattle.adapter.specs.Effects.{effect, Gives}
use Rattle.decoding.specs.Decode.{Decoding}

-- A function without buffers does what a call does that is the one performed.
pub gives_by : (value : ℕ) (info : List ℕ) (c : Card) {performed call : Decoding} {number given : ℕ} {numbers : List ℕ} {after : Card}
    → Gives (effect performed [] [] [] value info c) number given numbers after [] [] → performed ≡ call
    → Gives (effect call [] [] [] value info c) number given numbers after [] []
gives_by value info c g e = rw (← e) g
