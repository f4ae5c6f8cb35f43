-- The functions that C links, with their operands and what is lent with them beside the record and the tables; and what each does.
use Rattle.std.specs.Prelude.{ℕ, List, [], Ok}
use Rattle.card.specs.Card.{Card}
use Rattle.card.specs.declared.Port.TheVariants.{Host}
use Rattle.card.specs.declared.Mode.{Mode}
use Rattle.card.specs.declared.Mode.TheVariants.{Reading, Writing}
use Rattle.card.specs.declared.Call.TheVariants.{Force, Free, Tick, Audit, Rent, Sweep}
use Rattle.decoding.specs.Decode.{Decoding, read_with, write_with, alloc_with, alloc_contig_with, create_with, delete_with, delete_tree_with, key_with, renew_with}
use Rattle.parameters.specs.Numbers.{credential_of, new_key_of, wire_of, at_port, decode_at}
use Rattle.adapter.specs.Effects.{Effect, effect, data_in}

-- A port, where one is passed, is the number that C passes. A buffer, and the place of a result, is what it holds.
pub data Function : Type 0 where
  read : (port block : ℕ) (credential : List ℕ) (interval : ℕ) (out : List ℕ) → Function
  write : (port block : ℕ) (credential : List ℕ) (interval : ℕ) (bytes : List ℕ) → Function
  alloc : (port block : ℕ) (credential : List ℕ) (hint count : ℕ) (places : List ℕ) → Function
  alloc_contig : (port block : ℕ) (credential : List ℕ) (hint count : ℕ) (places : List ℕ) → Function
  create : (port source : ℕ) (credential : List ℕ) (destination : ℕ) (second : List ℕ) → Function
  delete : (port source : ℕ) (credential : List ℕ) (destination value : ℕ) → Function
  delete_tree : (port source : ℕ) (credential : List ℕ) (destination value : ℕ) → Function
  key_read : (port block : ℕ) (credential key : List ℕ) → Function
  key_write : (port block : ℕ) (credential key : List ℕ) → Function
  renew : (mode block : ℕ) (credential : List ℕ) (interval : ℕ) → Function
  force : (block : ℕ) → Function
  tick : (seconds value : ℕ) → Function
  free : (value : ℕ) → Function
  audit : Function
  rent : (price value : ℕ) → Function
  sweep : (most value : ℕ) → Function
  serve : (port kind : ℕ) (body out places : List ℕ) (value : ℕ) → Function

-- KEY_READ or KEY_WRITE, by the mode whose key it sets.
abbrev pub key_call_at : Mode → ℕ → ℕ → List ℕ → List ℕ → Decoding
key_call_at mode port block credential key = at_port port (key_with Host mode block (credential_of credential) (new_key_of key))

-- What a function makes of its operands: a call at a port, or refusal 13; and what is lent with it.
pub record Lending : Type 0 where
  pub decoding : Decoding
  pub input : List ℕ
  pub out : List ℕ
  pub places : List ℕ
  pub value : ℕ

abbrev pub lending : Decoding → List ℕ → List ℕ → List ℕ → ℕ → Lending
lending decoding input out places value = record { decoding = decoding; input = input; out = out; places = places; value = value }

abbrev pub lending_of : Function → Lending
lending_of (read port block credential interval out) = lending (at_port port (read_with Host block (credential_of credential) interval)) [] out [] 0
lending_of (write port block credential interval bytes) = lending (at_port port (write_with Host block (credential_of credential) interval)) bytes [] [] 0
lending_of (alloc port block credential hint count places) = lending (at_port port (alloc_with Host block (credential_of credential) hint count)) [] [] places 0
lending_of (alloc_contig port block credential hint count places) = lending (at_port port (alloc_contig_with Host block (credential_of credential) hint count)) [] [] places 0
lending_of (create port source credential destination second) = lending (at_port port (create_with Host source (credential_of credential) destination (credential_of second))) [] [] [] 0
lending_of (delete port source credential destination value) = lending (at_port port (delete_with Host source (credential_of credential) destination)) [] [] [] value
lending_of (delete_tree port source credential destination value) = lending (at_port port (delete_tree_with Host source (credential_of credential) destination)) [] [] [] value
lending_of (key_read port block credential key) = lending (key_call_at Reading port block credential key) [] [] [] 0
lending_of (key_write port block credential key) = lending (key_call_at Writing port block credential key) [] [] [] 0
lending_of (renew mode block credential interval) = lending (renew_with Host mode block (credential_of credential) interval) [] [] [] 0
lending_of (force block) = lending (Ok (Host, Force (record { block = block }))) [] [] [] 0
lending_of (tick seconds value) = lending (Ok (Host, Tick (record { seconds = seconds }))) [] [] [] value
lending_of (free value) = lending (Ok (Host, Free)) [] [] [] value
lending_of audit = lending (Ok (Host, Audit)) [] [] [] 0
lending_of (rent price value) = lending (Ok (Host, Rent (record { price = price }))) [] [] [] value
lending_of (sweep most value) = lending (Ok (Host, Sweep (record { most = most }))) [] [] [] value
lending_of (serve port kind body out places value) =
    lending (decode_at (wire_of port) kind body) (data_in (decode_at (wire_of port) kind body) body) out places value

-- What the function does, on a record and a card.
abbrev pub effect_by : Function → List ℕ → Card → Effect
effect_by f info c = effect (lending_of f).decoding (lending_of f).input (lending_of f).out (lending_of f).places (lending_of f).value info c

-- The number of the port that it is called at. Without one it is a host's call, or serves either port alike.
abbrev pub function_port : Function → ℕ
function_port (read port block credential interval out) = port
function_port (write port block credential interval bytes) = port
function_port (alloc port block credential hint count places) = port
function_port (alloc_contig port block credential hint count places) = port
function_port (create port source credential destination second) = port
function_port (delete port source credential destination value) = port
function_port (delete_tree port source credential destination value) = port
function_port (key_read port block credential key) = port
function_port (key_write port block credential key) = port
function_port (renew mode block credential interval) = 0
function_port (force block) = 0
function_port (tick seconds value) = 0
function_port (free value) = 0
function_port audit = 0
function_port (rent price value) = 0
function_port (sweep most value) = 0
function_port (serve port kind body out places value) = port
