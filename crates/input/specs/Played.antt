-- What a play of an input has come to, as the code has it: after one record, after one turn, and in the end.
use Rattle.std.specs.Prelude.{ℕ, ◌≤◌, ◌≡◌, List, length, drop, Option}
use Rattle.card.specs.Card.{Card}
use Rattle.card.specs.Lent.{lent_card}
use Rattle.card.specs.Plan.{Result}
use Rattle.card.specs.Session.{Reply, reply}
use Rattle.card.specs.declared.LentCard.{LentCard}
use Rattle.lines.specs.Written.{Written}
use Rattle.input.specs.Play.{Turn, Play}
use Rattle.input.specs.declared.Stop.{Stop}
use Rattle.input.specs.declared.Turned.{Turned}
use Rattle.input.specs.declared.Part.{Part}

-- ---- one record

-- A call leaves the card that was asked, and its bytes stand at their place and take at most the room.
pub record WroteIs (want : Card) (bytes : List ℕ) (room : ℕ) (after : Card) (before : List ℕ) (at : ℕ) (to : List ℕ) (behind : ℕ) : Type 0 where
  pub leaves : after ≡ want
  pub writes : Written before at bytes to behind
  pub short : length bytes ≤ room

-- Why a turn stopped the play, if it did, the card and the input that it leaves, and what it wrote.
pub record TurnIs (want : Turn) (room : ℕ) (stop : Option Stop) (after : Card) (input : List ℕ) (from : ℕ) (before : List ℕ) (at : ℕ) (to : List ℕ) (behind : ℕ) : Type 0 where
  pub stops : stop ≡ want.stop
  pub leaves : after ≡ want.after
  pub rests : drop from input ≡ want.left
  pub within : from ≤ length input
  pub writes : Written before at want.output to behind
  pub short : length want.output ≤ room

-- ---- an input

-- The play of an input is what was asked: why it stopped, its records, the card, the input left and what it wrote.
pub record PlayedIs (want : Play) (stop : Stop) (records : ℕ) (after : Card) (input : List ℕ) (read : ℕ) (before to : List ℕ) (written : ℕ) : Type 0 where
  pub stops : stop ≡ want.stop
  pub counts : records ≡ want.records
  pub leaves : after ≡ want.after
  pub rests : drop read input ≡ want.left
  pub within : read ≤ length input
  pub writes : Written before 0 want.output to written

-- ---- on lent tables

-- A call does what the rule makes of the card at its entry, and writes the bytes of its reply from a place on.
abbrev pub Writes : (Card → Result) → (Reply → List ℕ) → ℕ → LentCard → LentCard → List ℕ → ℕ → List ℕ → ℕ → Type 0
Writes rule bytes room old new before at to behind =
    WroteIs (rule (lent_card old)).after (bytes (reply (rule (lent_card old)))) room (lent_card new) before at to behind

-- A turn from a place of the input does what the rule makes of the card at its entry.
abbrev pub Turns : (Card → List ℕ → Turn) → ℕ → LentCard → LentCard → List ℕ → ℕ → List ℕ → ℕ → List ℕ → Turned → Type 0
Turns rule room old new input from before at to r =
    TurnIs (rule (lent_card old) (drop from input)) room r.stop (lent_card new) input r.from before at to r.at

-- A play of the input does what the rule makes of the card at its entry, with as much room as there is output.
abbrev pub Plays : (Card → List ℕ → ℕ → Play) → LentCard → LentCard → List ℕ → List ℕ → List ℕ → Part → Type 0
Plays rule old new input before to r =
    PlayedIs (rule (lent_card old) input (length before)) r.stop r.records (lent_card new) input r.read before to r.written
