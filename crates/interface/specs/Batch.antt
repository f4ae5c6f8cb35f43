-- What the function that serves a batch of call records leaves.
use Rattle.std.specs.Prelude.{ℕ, ◌≡◌, List, length, Option, Some, None}
use Rattle.card.specs.Card.{Card, card}
use Rattle.card.specs.Lent.{Lent, LentNumber}
use Rattle.card.specs.declared.Port.{Port}
use Rattle.input.specs.Played.{PlayedIs}
use Rattle.input.specs.declared.Stop.{Stop}
use Rattle.input.specs.declared.Stop.TheVariants.{Ended, Short, Refused, Full}
use Rattle.parameters.specs.Numbers.{record_length, record_of, numbers_of, wire_of}
use Rattle.serving.specs.Serve.{serve}

-- Why a batch stopped: 0 at the end of its input, 13 at a record refused 13, 256 at one cut short, 257 where its answer has no room.
abbrev pub stop_number : Stop → ℕ
stop_number Ended = 0
stop_number Short = 256
stop_number Refused = 13
stop_number Full = 257

-- What the lent record, tables, answers and numbers hold.
pub record BatchState : Type 0 where
  pub info : List ℕ
  pub card : Card
  pub answers : List ℕ
  pub records : ℕ
  pub read : ℕ
  pub written : ℕ

-- The batch that arrived at the port was served: its number says why it stopped.
pub record BatchServed (wire : Port) (before : BatchState) (input : List ℕ) (number : ℕ) (after : BatchState) : Type 0 where
  pub stop : Stop
  pub answers : number ≡ stop_number stop
  pub stores : after.info ≡ numbers_of after.card.public.info
  pub plays : PlayedIs (serve wire before.card input (length before.answers)) stop after.records after.card input after.read before.answers after.answers after.written

-- Refused 1 with nothing changed where the record has not its numbers; else the batch, every call with its own audit.
pub record ServedIfWhole (wire : Port) (before : BatchState) (input : List ℕ) (number : ℕ) (after : BatchState) : Type 0 where
  pub refuses : (length before.info ≡ record_length → ⊥) → (number ≡ 1) × (after ≡ before)
  pub serves : length before.info ≡ record_length → BatchServed wire before input number after

-- Before that, at no port: refused 13 with nothing changed.
unfoldable pub BatchIs : Option Port → BatchState → List ℕ → ℕ → BatchState → Type 0
BatchIs None before input number after = (number ≡ 13) × (after ≡ before)
BatchIs (Some wire) before input number after = ServedIfWhole wire before input number after

abbrev pub batch_state : List ℕ → List ℕ → List ℕ → List ℕ → List ℕ → List ℕ → List ℕ → List ℕ → List ℕ → ℕ → ℕ → ℕ → BatchState
batch_state info flags keys counts pointers multiplicities windows contents answers records read written = record {
  info = info;
  card = card (record_of info) flags keys counts pointers multiplicities windows contents;
  answers = answers;
  records = records;
  read = read;
  written = written;
}

-- What the function returns and leaves is the batch of the input on what it was lent.
abbrev pub ServesBatch : ℕ → Lent → Lent → Lent → Lent → Lent → Lent → Lent → Lent → Lent → Lent → LentNumber → LentNumber → LentNumber → ℕ → Type 0
ServesBatch port info flags keys counts pointers multiplicities windows contents input answers records read written r =
    BatchIs (wire_of port)
    (batch_state info.entry flags.entry keys.entry counts.entry pointers.entry multiplicities.entry windows.entry contents.entry answers.entry records.entry read.entry written.entry)
    input.entry
    r
    (batch_state info.exit flags.exit keys.exit counts.exit pointers.exit multiplicities.exit windows.exit contents.exit answers.exit records.exit read.exit written.exit)
