-- What C passes: the card's record as numbers, a port as a number, credentials and new keys as the bytes that records have.
use Rattle.std.specs.Prelude.{ℕ, cond, List, [], ◌∷◌, eqb, length, get_or, Ok, Err, Result, Option, Some, None}
use Rattle.card.specs.declared.Info.{Info}
use Rattle.card.specs.declared.Port.TheVariants.{Host, Service}
use Rattle.fields.specs.Fields.{bad_record, credential, new_key}
use Rattle.card.specs.declared.Call.{Call}
use Rattle.decoding.specs.Decode.{Decoding, decode_body}
use Rattle.fields.specs.declared.BadRecord.{BadRecord}
use Rattle.card.specs.declared.Credential.{Credential}
use Rattle.card.specs.declared.Port.{Port}

-- ---- the record: N, R, B, M, T and the total

abbrev pub record_length : ℕ
record_length = 6

abbrev pub record_of : List ℕ → Info
record_of xs = record { blocks = get_or xs 0 0; roots = get_or xs 1 0; bytes = get_or xs 2 0; used = get_or xs 3 0; time = get_or xs 4 0; total = get_or xs 5 0 }

abbrev pub numbers_of : Info → List ℕ
numbers_of i = i.blocks ∷ i.roots ∷ i.bytes ∷ i.used ∷ i.time ∷ i.total ∷ []

-- ---- credentials and new keys: 17 bytes, no more and no fewer

unfoldable pub credential_of : List ℕ → Result Credential BadRecord
credential_of xs = cond (eqb (length xs) 17) (credential xs) (Err bad_record)

unfoldable pub new_key_of : List ℕ → Result (Option (ℕ × ℕ)) BadRecord
new_key_of xs = cond (eqb (length xs) 17) (new_key xs) (Err bad_record)

-- ---- ports

-- Port 0 is the host's, 1 the service port; any other is none.
unfoldable pub wire_of : ℕ → Option Port
wire_of port = cond (eqb port 0) (Some Host) (cond (eqb port 1) (Some Service) None)

unfoldable pub call_at : Option Port → Call → Decoding
call_at (Some port) call = Ok (port, call)
call_at None call = Err bad_record

-- The call of operands at the port of a number; at none it is refused as a wrong record is.
unfoldable pub at_port : ℕ → Decoding → Decoding
at_port port (Ok (at, call)) = call_at (wire_of port) call
at_port port (Err bad) = Err bad

-- What a kind and the bytes behind it hold that arrive at a port: nothing at none.
unfoldable pub decode_at : Option Port → ℕ → List ℕ → Decoding
decode_at (Some wire) kind xs = decode_body wire kind xs
decode_at None kind xs = Err bad_record
