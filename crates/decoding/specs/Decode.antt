-- Document 01, "Call records and the player", and the requests: from the bytes of an input to a call, its port and its data.
-- Each operand stands in the body behind those before it. Only the bytes of the body are looked at, whatever follows them.
use Rattle.std.specs.Prelude.{ℕ, ◌-◌, cond, List, [], ◌∷◌, leb, length, take, drop, get_or, Option, None, Some, Ok, Err, Result}
use Rattle.card.specs.Session.{key_call}
use Rattle.card.specs.declared.Port.{Port}
use Rattle.card.specs.declared.Mode.{Mode}
use Rattle.card.specs.declared.Mode.TheVariants.{Reading, Writing}
use Rattle.card.specs.declared.Credential.{Credential}
use Rattle.card.specs.declared.Credential.TheVariants.{Nothing, Reference, Key as KeyCredential}
use Rattle.card.specs.declared.TransferOperands.{TransferOperands}
use Rattle.card.specs.declared.CreateOperands.{CreateOperands}
use Rattle.card.specs.declared.KeyOperands.{KeyOperands}
use Rattle.card.specs.declared.RenewOperands.{RenewOperands}
use Rattle.card.specs.declared.AllocOperands.{AllocOperands}
use Rattle.card.specs.declared.DeleteOperands.{DeleteOperands}
use Rattle.card.specs.declared.Call.{Call}
use Rattle.card.specs.declared.Call.TheVariants.{Read, Write, Alloc, AllocContig, Create, Delete, DeleteTree, KeyRead, KeyWrite, Renew, Force, Free, Tick, Audit, Rent, Sweep}
use Rattle.fields.specs.Bytes.{number}
use Rattle.fields.specs.Fields.{bad_record, credential, new_key}
use Rattle.kinds.specs.Kinds.{length_of, operands_length, kind_of}
use Rattle.kinds.specs.declared.Name.{Name}
use Rattle.kinds.specs.declared.Name.TheVariants.{Read as READ, Write as WRITE, Alloc as ALLOC, Create as CREATE, Delete as DELETE, KeyRead as KEY-READ, Renew as RENEW, Force as FORCE, Free as FREE, Tick as TICK, Audit as AUDIT, AllocContig as ALLOC-CONTIG, KeyWrite as KEY-WRITE, DeleteTree as DELETE-TREE}
use Rattle.fields.specs.declared.BadRecord.{BadRecord}

-- A call at its port, or refusal 13.
abbrev pub Decoding : Type 0
Decoding = Result (Port × Call) BadRecord

-- ---- operands, with a credential that is right or wrong

-- Operands that have one credential.
unfoldable pub with_credential : {A : Type 0} → (Credential → A) → Result Credential BadRecord → Result A BadRecord
with_credential make (Ok c) = Ok (make c)
with_credential make (Err bad) = Err bad

-- Of READ and of WRITE.
abbrev pub transfer_operands : ℕ → Result Credential BadRecord → ℕ → Result TransferOperands BadRecord
transfer_operands block p interval = with_credential (λ c. record { block = block; credential = c; interval = interval }) p

-- Of ALLOC and of ALLOC_CONTIG.
abbrev pub alloc_operands : ℕ → Result Credential BadRecord → ℕ → ℕ → Result AllocOperands BadRecord
alloc_operands reference p hint count = with_credential (λ c. record { reference = reference; credential = c; hint = hint; count = count }) p

unfoldable pub create_operands : ℕ → Result Credential BadRecord → ℕ → Result Credential BadRecord → Result CreateOperands BadRecord
create_operands source (Ok c) destination (Ok d) = Ok (record { source = source; credential = c; destination = destination; second = d })
create_operands source (Ok c) destination (Err bad) = Err bad
create_operands source (Err bad) destination second = Err bad

-- Of DELETE and of DELETE_TREE.
abbrev pub delete_operands : ℕ → Result Credential BadRecord → ℕ → Result DeleteOperands BadRecord
delete_operands source p destination = with_credential (λ c. record { source = source; credential = c; destination = destination }) p

-- Of KEY_READ and of KEY_WRITE.
unfoldable pub key_operands : ℕ → Result Credential BadRecord → Result (Option (ℕ × ℕ)) BadRecord → Result KeyOperands BadRecord
key_operands block (Ok c) (Ok k) = Ok (record { block = block; credential = c; key = k })
key_operands block (Ok c) (Err bad) = Err bad
key_operands block (Err bad) k = Err bad

-- RENEW is by a key alone.
unfoldable pub renew_operands : ℕ → ℕ → Result Credential BadRecord → ℕ → Result RenewOperands BadRecord
renew_operands mode block (Ok Nothing) interval = Err bad_record
renew_operands mode block (Ok (Reference r)) interval = Err bad_record
renew_operands mode block (Ok (KeyCredential high low)) interval = Ok (record { mode = mode; block = block; high = high; low = low; interval = interval })
renew_operands mode block (Err bad) interval = Err bad

-- ---- the calls of their operands

-- The call that is made of operands, where they are right.
unfoldable pub call_of : {A : Type 0} → Port → (A → Call) → Result A BadRecord → Decoding
call_of port make (Ok o) = Ok (port, make o)
call_of port make (Err bad) = Err bad

abbrev pub read_with : Port → ℕ → Result Credential BadRecord → ℕ → Decoding
read_with port block p interval = call_of port Read (transfer_operands block p interval)

abbrev pub write_with : Port → ℕ → Result Credential BadRecord → ℕ → Decoding
write_with port block p interval = call_of port Write (transfer_operands block p interval)

abbrev pub alloc_with : Port → ℕ → Result Credential BadRecord → ℕ → ℕ → Decoding
alloc_with port reference p hint count = call_of port Alloc (alloc_operands reference p hint count)

abbrev pub alloc_contig_with : Port → ℕ → Result Credential BadRecord → ℕ → ℕ → Decoding
alloc_contig_with port reference p hint count = call_of port AllocContig (alloc_operands reference p hint count)

abbrev pub create_with : Port → ℕ → Result Credential BadRecord → ℕ → Result Credential BadRecord → Decoding
create_with port source p destination q = call_of port Create (create_operands source p destination q)

abbrev pub delete_with : Port → ℕ → Result Credential BadRecord → ℕ → Decoding
delete_with port source p destination = call_of port Delete (delete_operands source p destination)

abbrev pub delete_tree_with : Port → ℕ → Result Credential BadRecord → ℕ → Decoding
delete_tree_with port source p destination = call_of port DeleteTree (delete_operands source p destination)

-- KEY_READ or KEY_WRITE, by the mode whose key it sets.
abbrev pub key_with : Port → Mode → ℕ → Result Credential BadRecord → Result (Option (ℕ × ℕ)) BadRecord → Decoding
key_with port mode block p k = call_of port (key_call mode) (key_operands block p k)

abbrev pub renew_with : Port → ℕ → ℕ → Result Credential BadRecord → ℕ → Decoding
renew_with port mode block p interval = call_of port Renew (renew_operands mode block p interval)

-- ---- each call's body

-- 2026-02, "a body of 36": KEY_READ and KEY_WRITE have a block, a credential and one new key.
abbrev pub decode_key : Port → Mode → List ℕ → Decoding
decode_key port mode xs = key_with port mode (number 2 xs) (credential (drop 2 xs)) (new_key (drop 19 xs))

-- A body of the call's length, or one that starts so.
unfoldable pub decode_call : Port → Name → List ℕ → Decoding
decode_call port READ xs = read_with port (number 2 xs) (credential (drop 2 xs)) (number 4 (drop 19 xs))
decode_call port WRITE xs = write_with port (number 2 xs) (credential (drop 2 xs)) (number 4 (drop 19 xs))
decode_call port ALLOC xs = alloc_with port (number 2 xs) (credential (drop 2 xs)) (number 2 (drop 19 xs)) (get_or xs 21 0)
decode_call port CREATE xs = create_with port (number 2 xs) (credential (drop 2 xs)) (number 2 (drop 19 xs)) (credential (drop 21 xs))
decode_call port DELETE xs = delete_with port (number 2 xs) (credential (drop 2 xs)) (number 2 (drop 19 xs))
decode_call port KEY-READ xs = decode_key port Reading xs
decode_call port RENEW xs =
    renew_with port (get_or xs 0 0) (number 2 (drop 1 xs)) (Ok (KeyCredential (number 8 (drop 3 xs)) (number 8 (drop 11 xs)))) (number 4 (drop 19 xs))
decode_call port FORCE xs = Ok (port, Force (record { block = number 2 xs }))
decode_call port FREE xs = Ok (port, Free)
decode_call port TICK xs = Ok (port, Tick (record { seconds = number 8 xs }))
decode_call port AUDIT xs = Ok (port, Audit)
decode_call port ALLOC-CONTIG xs = alloc_contig_with port (number 2 xs) (credential (drop 2 xs)) (number 2 (drop 19 xs)) (get_or xs 21 0)
decode_call port KEY-WRITE xs = decode_key port Writing xs
decode_call port DELETE-TREE xs = delete_tree_with port (number 2 xs) (credential (drop 2 xs)) (number 2 (drop 19 xs))

-- ---- a record

unfoldable pub decode_known : Option (Port × Name) → List ℕ → Decoding
decode_known (Some (port, name)) xs = cond (leb (length_of name) (length xs)) (decode_call port name xs) (Err bad_record)
decode_known None xs = Err bad_record

-- What a kind and the bytes behind it hold that arrive at a port. Bad is refusal 13: a kind that does not exist there, a body cut short, a wrong
-- credential or new key.
unfoldable pub decode_body : Port → ℕ → List ℕ → Decoding
decode_body wire kind xs = decode_known (kind_of wire kind) xs

-- 2026-08 and 2026-09, of RENT and SWEEP, "no record carries it": they have no name.
unfoldable pub name_of : Call → Option Name
name_of (Read o) = Some READ
name_of (Write o) = Some WRITE
name_of (Alloc o) = Some ALLOC
name_of (AllocContig o) = Some ALLOC-CONTIG
name_of (Create o) = Some CREATE
name_of (Delete o) = Some DELETE
name_of (DeleteTree o) = Some DELETE-TREE
name_of (KeyRead o) = Some KEY-READ
name_of (KeyWrite o) = Some KEY-WRITE
name_of (Renew o) = Some RENEW
name_of (Force o) = Some FORCE
name_of Free = Some FREE
name_of (Tick o) = Some TICK
name_of Audit = Some AUDIT
name_of (Rent o) = None
name_of (Sweep o) = None

-- A length by a call's name: 0 where it has none.
abbrev pub length_by : (Name → ℕ) → Option Name → ℕ
length_by length None = 0
length_by length (Some name) = length name

abbrev pub body_of : Call → ℕ
body_of call = length_by length_of (name_of call)

abbrev pub operands_of : Call → ℕ
operands_of call = length_by operands_length (name_of call)

-- The bytes of a body beside its operands: WRITE's 512, last.
unfoldable pub data_of : Call → List ℕ → List ℕ
data_of call xs = take (body_of call - operands_of call) (drop (operands_of call) xs)

-- What an input that arrives at a port starts with: nothing, a record refused 13, or a call at its port with its data, and the input that is left.
pub data Next : Type 0 where
  ended : Next
  refused : Next
  sent : Port → Call → List ℕ → List ℕ → Next

unfoldable pub next_of : List ℕ → Decoding → Next
next_of xs (Ok (port, call)) = sent port call (data_of call xs) (drop (body_of call) xs)
next_of xs (Err bad) = refused

unfoldable pub decode : Port → List ℕ → Next
decode wire [] = ended
decode wire (kind ∷ xs) = next_of xs (decode_body wire kind xs)
