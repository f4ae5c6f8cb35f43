-- A record found in an input that arrives at a port, as the code has it.
use Rattle.std.specs.Prelude.{ℕ, ◌-◌, ◌≤◌, ◌≡◌, List, length, take, drop, get_or, Ok, Err, Result}
use Rattle.card.specs.declared.Port.{Port}
use Rattle.decoding.specs.Decode.{ended, refused, sent, decode}
use Rattle.input.specs.Play.{fault}
use Rattle.input.specs.declared.Stop.{Stop}
use Rattle.input.specs.declared.Stop.TheVariants.{Ended, Short, Refused, Full}
use Rattle.input.specs.declared.Record.{Record}

-- What an input holds from a place on: a whole record, or why there is none.
abbrev pub Found : Type 0
Found = Result Record Stop

-- A whole record: what the input starts with, from the place on.
pub record WholeIs (wire : Port) (input : List ℕ) (from : ℕ) (r : Record) : Type 0 where
  pub decodes : decode wire (drop from input) ≡ sent r.port r.call (take (r.next - r.payload) (drop r.payload input)) (drop r.next input)
  pub has_kind : get_or (drop from input) 0 0 ≡ r.kind
  pub payload_within : r.payload ≤ r.next
  pub next_within : r.next ≤ length input

-- No whole record: the input is at its end, or is refused 13.
abbrev pub NothingIs : Port → List ℕ → Stop → Type 0
NothingIs wire xs Ended = decode wire xs ≡ ended
NothingIs wire xs Short = (decode wire xs ≡ refused) × (fault wire xs ≡ Short)
NothingIs wire xs Refused = (decode wire xs ≡ refused) × (fault wire xs ≡ Refused)
NothingIs wire xs Full = ⊥

abbrev pub FoundIs : Port → List ℕ → ℕ → Found → Type 0
FoundIs wire input from (Ok r) = WholeIs wire input from r
FoundIs wire input from (Err stop) = NothingIs wire (drop from input) stop
