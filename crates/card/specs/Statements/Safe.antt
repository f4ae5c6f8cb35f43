-- Demands 1 and 2 of one call, in one record: what is said of each call that bytes or functions of C ask for.
use Rattle.std.specs.Prelude.{ℕ, false, ◌≡◌}
use Rattle.card.specs.Card.{Card, allocated}
use Rattle.card.specs.SoundCard.{SoundCard}
use Rattle.card.specs.Session.{Sent, performed}
use Rattle.card.specs.Statements.Refusals.{Unchanged}
use Rattle.card.specs.Statements.Unallocated.{LeftOrZeroed}
use Rattle.card.specs.declared.Refusal.{Refusal}
use Rattle.card.specs.Answers.{Refused}

pub record SafeCall (c : Card) (s : Sent) : Type 0 where
  -- A refusal leaves the card and the lent buffers as they were.
  pub refusal_unchanged : (r : Refusal) → (performed c s).answer ≡ Refused r → Unchanged c s.request.lent (performed c s)
  -- A sound card stays sound.
  pub keeps_sound : SoundCard c → SoundCard (performed c s).after
  -- An unallocated block is left as it was, or is taken or swept and filled with zeros.
  pub free_untouched : (b : ℕ) → allocated c.public b ≡ false → LeftOrZeroed s.request.call c (performed c s).after b
