-- What the functions of the program leave: the play of a buffer's filled part, and one piece of an input.
use Rattle.std.specs.Prelude.{ℕ, ◌≤◌, ◌≡◌, Bool, true, false, ◌&&◌, ◌||◌, List, [], ◌++◌, ltb, length, take}
use Rattle.card.specs.Card.{Card}
use Rattle.card.specs.Lent.{lent_card}
use Rattle.card.specs.declared.LentCard.{LentCard}
use Rattle.lines.specs.Written.{Written}
use Rattle.input.specs.Play.{Play, play}
use Rattle.input.specs.declared.Stop.{Stop}
use Rattle.input.specs.declared.Stop.TheVariants.{Ended, Short, Refused, Full}
use Rattle.cardplay.specs.InputBuffer.{GrownIs}
use Rattle.cardplay.specs.declared.Piece.{Piece}
use Rattle.cardplay.specs.declared.Progress.{Progress}

-- There was no room for another line.
abbrev pub is_full : Stop → Bool
is_full Ended = false
is_full Short = false
is_full Refused = false
is_full Full = true

-- The input was at its end, or ended within a record.
abbrev pub needs_input : Stop → Bool
needs_input Ended = true
needs_input Short = true
needs_input Refused = false
needs_input Full = false

-- The play of a buffer's filled part is what was asked, and what it left stands at the buffer's front.
pub record PieceIs (want : Play) (stop : Stop) (records : ℕ) (after : Card) (buffer : List ℕ) (filled : ℕ) (before to : List ℕ) (written : ℕ) : Type 0 where
  pub stops : stop ≡ want.stop
  pub counts : records ≡ want.records
  pub leaves : after ≡ want.after
  pub rests : take filled buffer ≡ want.left
  pub within : filled ≤ length buffer
  pub writes : Written before 0 want.output to written

-- Nothing is read, and nothing changed, unless it is wanted.
pub record ReadIs (wanted : Bool) (before : List ℕ) (filled : ℕ) (after : List ℕ) (end : ℕ) : Type 0 where
  pub fills : GrownIs before filled after end
  pub idle : wanted ≡ false → (after ≡ before) × (end ≡ filled)

-- One piece: the play is what was asked, and behind what it left stands what was read. Whether the lines could be written is free.
pub record ProgressIs (want : Play) (stop : Stop) (records : ℕ) (after : Card) (buffer : List ℕ) (filled : ℕ) (before to : List ℕ) (wrote on : Bool) : Type 0 where
  pub more : List ℕ
  pub stops : stop ≡ want.stop
  pub counts : records ≡ want.records
  pub leaves : after ≡ want.after
  pub rests : take filled buffer ≡ want.left ++ more
  pub idle : (wrote && needs_input stop) ≡ false → more ≡ []
  pub within : filled ≤ length buffer
  pub writes : Written before 0 want.output to (length want.output)
  pub goes : on ≡ (wrote && (is_full stop || ltb (length want.left) filled))

-- ---- on a lent card

-- The play of a buffer's filled part, where so many records were played before.
abbrev pub play_filled : ℕ → LentCard → List ℕ → ℕ → List ℕ → Play
play_filled records card buffer filled output = play records (lent_card card) (take filled buffer) (length output)

abbrev pub PlaysPiece : ℕ → LentCard → LentCard → List ℕ → List ℕ → ℕ → List ℕ → List ℕ → Piece → Type 0
PlaysPiece records old new buffer left filled before to r =
    PieceIs (play_filled records old buffer filled before) r.stop r.records (lent_card new) left r.filled before to r.written

abbrev pub Progresses : ℕ → LentCard → LentCard → List ℕ → List ℕ → ℕ → List ℕ → List ℕ → Progress → Type 0
Progresses records old new buffer left filled before to r =
    ProgressIs (play_filled records old buffer filled before) r.stop r.records (lent_card new) left r.filled before to r.wrote r.on
