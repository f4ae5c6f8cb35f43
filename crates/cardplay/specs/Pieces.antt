-- An input that is played in pieces, as it comes: what has been read, written and played.
use Rattle.std.specs.Prelude.{ℕ, ◌+◌, ◌-◌, ◌≤◌, ◌≡◌, Bool, true, false, List, ◌++◌, length}
use Rattle.card.specs.Card.{Card, card}
use Rattle.card.specs.Calls.{fresh_info}
use Rattle.card.specs.Trials.{blank_card}
use Rattle.card.specs.declared.Info.{Info}
use Rattle.lines.specs.Lines.{line_room, last_line}
use Rattle.input.specs.Play.{output_before, play, end_number, transcript}
use Rattle.input.specs.declared.Stop.{Stop}
use Rattle.cardplay.specs.declared.Progress.{Progress}

-- The same tables with another record.
abbrev pub with_info : Info → Card → Card
with_info info c = card info c.public.flags c.keys c.public.counts c.public.pointers c.public.multiplicities c.public.windows c.contents

-- Some input has been read and some lines were written, and whatever follows is played from here.
pub record Pieces (c₀ : Card) (records : ℕ) (c : Card) (left : List ℕ) : Type 0 where
  pub input : List ℕ
  pub output : List ℕ
  pub total : (more : List ℕ) (room : ℕ) → length output + line_room ≤ room → play 0 c₀ (input ++ more) room ≡ output_before output (play records c (left ++ more) (room - length output))

-- The whole play of some input, which is what a player writes of it but for the last line.
pub record PlayedWhole (c₀ : Card) (stop : Stop) (records : ℕ) (c : Card) : Type 0 where
  pub input : List ℕ
  pub output : List ℕ
  pub left : List ℕ
  pub plays : (room : ℕ) → length output + line_room ≤ room → play 0 c₀ input room ≡ record { stop = stop; output = output; records = records; after = c; left = left }
  pub writes : (room : ℕ) → length output + line_room ≤ room → transcript c₀ input room ≡ output ++ last_line records (end_number stop)

-- What the pieces come to. The play is whole once it does not go on and all lines could be written.
pub record PlayedInPieces (c₀ : Card) (stop : Stop) (records : ℕ) (after : Card) (wrote on : Bool) : Type 0 where
  pub left : List ℕ
  pub pieces : Pieces c₀ records after left
  pub whole : on ≡ false → wrote ≡ true → PlayedWhole c₀ stop records after

-- The tables are blank and of the player's lengths, whatever the record is.
abbrev pub BlankTables : Card → Type 0
BlankTables c = with_info (fresh_info 16 1 512) c ≡ blank_card

-- All pieces of some input are played from the first card on, and leave the second.
abbrev pub PlaysInPieces : Card → Card → Progress → Type 0
PlaysInPieces c₀ after r = PlayedInPieces c₀ r.stop r.records after r.wrote r.on
