-- What the decoder gives of a kind and the bytes behind it.
use Rattle.std.specs.Prelude.{ℕ, ◌≤◌, ◌≡◌, List, length, Ok, Err}
use Rattle.card.specs.declared.Port.{Port}
use Rattle.card.specs.declared.Call.{Call}
use Rattle.decoding.specs.Decode.{Decoding, body_of, operands_of}
use Rattle.decoding.specs.declared.Parsed.{Parsed}
use Rattle.fields.specs.Fields.{bad_record}

abbrev pub parsed_bad : Parsed
parsed_bad = record { decoding = Err bad_record; payload = 0; end = 0 }

-- What was to be decoded, with the places of its body: its data start behind its operands. Both places lie within the bytes in any case.
pub record ParsedIs (want : Decoding) (xs : List ℕ) (r : Parsed) : Type 0 where
  pub decodes : r.decoding ≡ want
  pub ordered : r.payload ≤ r.end
  pub within : r.end ≤ length xs
  pub payload_at : {port : Port} {call : Call} → r.decoding ≡ Ok (port, call) → r.payload ≡ operands_of call
  pub end_at : {port : Port} {call : Call} → r.decoding ≡ Ok (port, call) → r.end ≡ body_of call
