-- What is promised of the bytes that arrive on a wire: what the calls that they hold make of the card, and demand 3.
use Rattle.std.specs.Prelude.{ℕ, ◌≡◌, true, false, List, ◌∷◌, ◌++◌}
use Rattle.card.specs.Card.{Card, block}
use Rattle.card.specs.SoundCard.{SoundCard}
use Rattle.card.specs.Session.{Request}
use Rattle.card.specs.Reach.{presents, Hidden, last_taken}
use Rattle.card.specs.Statements.Secrecy.{EqualBut, HiddenOrUnallocated, StillDiffers}
use Rattle.card.specs.declared.Port.{Port}
use Rattle.card.specs.declared.Port.TheVariants.{Host}
use Rattle.input.specs.Performed.{PerformedBy}
use Rattle.serving.specs.Serve.{serve_turn, serve}
use Rattle.serving.specs.Held.{serving, requests_in, keys_in, made_in}

-- Any bytes, either port, any card whatever, and any room: what is answered and left is what the calls that the bytes hold answer and leave by the rules,
-- each on the card that the one before left.
abbrev pub BytesSafe : Type 0
BytesSafe = (wire : Port) (c : Card) (xs : List ℕ) (room : ℕ) → PerformedBy (serving wire) 0 c xs room (serve wire c xs room)

-- ---- demand 3

pub record SecretBatch (c d : Card) (xs : List ℕ) (room : ℕ) : Type 0 where
  -- The answers are equal byte for byte, and both stop at the same place for the same reason.
  pub answers : (serve Host c xs room).output ≡ (serve Host d xs room).output
  pub records : (serve Host c xs room).records ≡ (serve Host d xs room).records
  pub stops : (serve Host c xs room).stop ≡ (serve Host d xs room).stop
  pub left : (serve Host c xs room).left ≡ (serve Host d xs room).left
  -- The cards are still equal but for the contents of blocks that could differ at the start.
  pub cards : EqualBut (StillDiffers (keys_in c xs) c (serve Host c xs room).after) (serve Host c xs room).after (serve Host d xs room).after
  -- On both, each hidden block ends with the contents it started with, unless a call of the bytes took its last pointer away.
  pub kept : (b : ℕ) → Hidden (keys_in c xs) c b → last_taken c (made_in c xs room) b ≡ false → block (serve Host c xs room).after b ≡ block c b
  pub kept_on_other : (b : ℕ) → Hidden (keys_in c xs) c b → last_taken d (made_in d xs room) b ≡ false → block (serve Host d xs room).after b ≡ block d b

-- Any bytes that arrive at the host port, any room for answers, and any two sound cards that are equal but for the contents of hidden, waiting and
-- free blocks. Hidden is judged on the starting card, with the keys that any record of the bytes presents; `arrivals` says which records these are.
abbrev pub BytesSecret : Type 0
BytesSecret =
    (xs : List ℕ) (room : ℕ) (c d : Card) → SoundCard c → SoundCard d → EqualBut (HiddenOrUnallocated (keys_in c xs) c) c d → SecretBatch c d xs room

-- ---- what it is judged by

-- Whether a record is served depends on the bytes, the room and the bytes of a block alone, whatever the card answers to it.
abbrev pub RoomByRecord : Type 0
RoomByRecord =
    (wire : Port) (room : ℕ) (c d : Card) → c.public.info.bytes ≡ d.public.info.bytes
    → (xs : List ℕ) → (serve_turn wire room c xs).stop ≡ (serve_turn wire room d xs).stop

-- Every key that any record of the bytes presents is counted, whatever is answered to the record.
abbrev pub KeysCounted : Type 0
KeysCounted =
    (c : Card) (xs : List ℕ) (before : List Request) (q : Request) (behind : List Request) → requests_in c.public.info.bytes xs ≡ before ++ (q ∷ behind)
    → (high low : ℕ) → presents q.call high low ≡ true → keys_in c xs high low ≡ true
