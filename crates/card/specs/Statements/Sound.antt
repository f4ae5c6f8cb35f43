-- A sound card stays sound, and so every count stays right.
use Rattle.std.specs.Prelude.{ℕ, ◌<◌, true, ◌&&◌, ◌≡◌, eqb, drop}
use Rattle.card.specs.Lists.{all}
use Rattle.card.specs.Pointers.{ascending, pointers_to}
use Rattle.card.specs.Card.{Public, Card, count, in_use, times_in_use}
use Rattle.card.specs.Soundness.{ranges, lengths}
use Rattle.card.specs.SoundCard.{SoundCard}
use Rattle.card.specs.Calls.{format}
use Rattle.card.specs.Session.{Request, perform}
use Rattle.card.specs.declared.Port.{Port}
use Rattle.card.specs.declared.Refusal.{Refusal}
use Rattle.card.specs.Answers.{Refused}

-- Document 01, "A done call .. leaves a sound card"; a refused one leaves the card itself.
abbrev pub DoneSound : Type 0
DoneSound = (port : Port) (c : Card) (q : Request) → SoundCard c → SoundCard (perform port c q).after

-- The same on any card: a call that is not refused leaves a sound card.
abbrev pub DoneLeavesSound : Type 0
DoneLeavesSound = (port : Port) (c : Card) (q : Request) → ((r : Refusal) → (perform port c q).answer ≡ Refused r → ⊥) → SoundCard (perform port c q).after

-- After any call on a sound card every count is the sum of the multiplicities of the pointers to its block.
abbrev pub CountsRight : Type 0
CountsRight =
    (port : Port) (c : Card) (q : Request) → SoundCard c
    → (b : ℕ) → b < (perform port c q).after.public.info.blocks
    → count (perform port c q).after.public b ≡ pointers_to b (in_use (perform port c q).after.public) (times_in_use (perform port c q).after.public)

-- The pointers in use strictly ascend, and the places behind them hold 0.
pub record PointersAscend (p : Public) : Type 0 where
  pub ascends : ascending (in_use p) ≡ true
  pub rest_zero : all (λ w. eqb w 0) (drop p.info.used p.pointers) ≡ true

abbrev pub PointersAscending : Type 0
PointersAscending = (port : Port) (c : Card) (q : Request) → SoundCard c → PointersAscend (perform port c q).after.public

-- A done FORMAT leaves a sound card, whatever the tables held.
abbrev pub FormatSound : Type 0
FormatSound = (blocks roots bytes : ℕ) (c : Card) → ranges blocks roots bytes && lengths blocks bytes c ≡ true → SoundCard (format blocks roots bytes c).after
