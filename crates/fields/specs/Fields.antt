-- Document 01, "Call records and the player": the 17 bytes of a credential and of a new key.
use Rattle.std.specs.Prelude.{cond, List, ℕ, eqb, drop, get_or, Option, Some, None, Result, Ok, Err}
use Rattle.card.specs.declared.Credential.{Credential}
use Rattle.card.specs.declared.Credential.TheVariants.{Nothing, Reference, Key as KeyCredential}
use Rattle.fields.specs.Bytes.{number, zeroed}
use Rattle.fields.specs.declared.BadRecord.{BadRecord}

-- Refusal 13.
abbrev pub bad_record : BadRecord
bad_record = record {}

-- "0, 1 or 2 (nothing, reference, key), then 16 bytes: zeros; the number and 14 zeros; the key"
unfoldable pub credential : List ℕ → Result Credential BadRecord
credential xs =
    cond (eqb (get_or xs 0 0) 0) (cond (zeroed 16 (drop 1 xs)) (Ok Nothing) (Err bad_record))
    (cond (eqb (get_or xs 0 0) 1) (cond (zeroed 14 (drop 3 xs)) (Ok (Reference (number 2 (drop 1 xs)))) (Err bad_record))
    (cond (eqb (get_or xs 0 0) 2) (Ok (KeyCredential (number 8 (drop 1 xs)) (number 8 (drop 9 xs)))) (Err bad_record)))

-- "0 and zeros, or 1 and the key"
unfoldable pub new_key : List ℕ → Result (Option (ℕ × ℕ)) BadRecord
new_key xs =
    cond (eqb (get_or xs 0 0) 0) (cond (zeroed 16 (drop 1 xs)) (Ok None) (Err bad_record))
    (cond (eqb (get_or xs 0 0) 1) (Ok (Some (number 8 (drop 1 xs), number 8 (drop 9 xs)))) (Err bad_record))
