-- What is promised of a player: whatever bytes it is given, on any card, it makes the calls that the bytes hold. It is proved in crates/serving.
use Rattle.std.specs.Prelude.{ℕ, ◌<◌, List}
use Rattle.card.specs.Card.{Card}
use Rattle.lines.specs.Lines.{line, line_room}
use Rattle.input.specs.Play.{player_port, play}
use Rattle.input.specs.Performed.{Manner, PerformedBy}

-- A player lends every call 512 bytes, writes a line of each record, and keeps room for the longest.
abbrev pub playing : Manner
playing = record {
  wire = player_port;
  size = λ bytes call. 512;
  write = λ ordinal a r. line ordinal a.kind a.call r;
  NoRoom = λ bytes room xs. room < line_room;
}

-- Any bytes, any card and any room.
abbrev pub PlaySafe : Type 0
PlaySafe = (before : ℕ) (c : Card) (xs : List ℕ) (room : ℕ) → PerformedBy playing before c xs room (play before c xs room)
