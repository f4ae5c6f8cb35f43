-- A sequence of the functions that C links, each with the record and the tables that the one before left and nobody else writing to them.
use Rattle.std.specs.Prelude.{ℕ, ◌-◌, ◌≡◌, Bool, cond, List, [], ◌∷◌, ◌++◌, map, eqb, length, take, Ok, Err, Option, Some, None}
use Rattle.card.specs.Contents.{overwrite}
use Rattle.card.specs.Card.{Card, card}
use Rattle.card.specs.Calls.{answer_number}
use Rattle.card.specs.Session.{Request, Sent, Reply, request, perform, reply, after_all}
use Rattle.card.specs.Reach.{presented}
use Rattle.input.specs.Play.{Play}
use Rattle.input.specs.Arrivals.{arrivals, sent_with}
use Rattle.serving.specs.Serve.{lent_size, serve}
use Rattle.serving.specs.Held.{requests_in}
use Rattle.parameters.specs.Numbers.{record_length, record_of, wire_of}
use Rattle.adapter.specs.Effects.{value_after, Gives}
use Rattle.interface.specs.Functions.{Function, Lending, lending_of, effect_by, function_port}
use Rattle.interface.specs.Batch.{stop_number, BatchState, BatchIs, batch_state}
use Rattle.decoding.specs.Decode.{Decoding}
use Rattle.card.specs.declared.Port.{Port}

-- What a caller lends to every function: the record and the seven tables.
pub record Memory : Type 0 where
  pub info : List ℕ
  pub flags : List ℕ
  pub keys : List ℕ
  pub counts : List ℕ
  pub pointers : List ℕ
  pub multiplicities : List ℕ
  pub windows : List ℕ
  pub contents : List ℕ

abbrev pub card_of : Memory → Card
card_of m = card (record_of m.info) m.flags m.keys m.counts m.pointers m.multiplicities m.windows m.contents

-- A step of a caller: a function for one call, or a batch, with what its buffer and its three numbers hold.
pub data Step : Type 0 where
  calls : Function → Step
  batches : (port : ℕ) (input answers : List ℕ) (records read written : ℕ) → Step

-- What a step returns, and leaves in its buffers and numbers. Of a function without a result the value is the rule's, which nobody sees.
pub data Returned : Type 0 where
  from_call : (number value : ℕ) (out places : List ℕ) → Returned
  from_batch : (number records read written : ℕ) (answers : List ℕ) → Returned

-- ---- what the functions promise, chained

abbrev pub state_of : Memory → List ℕ → ℕ → ℕ → ℕ → BatchState
state_of m answers records read written = batch_state m.info m.flags m.keys m.counts m.pointers m.multiplicities m.windows m.contents answers records read written

-- Each step does what its contract says, on the memory that the one before left.
pub data Called : Memory → List Step → List Returned → Memory → Type 0 where
  none : {m : Memory} → Called m [] [] m
  called : {m n end : Memory} {f : Function} {steps : List Step} {rs : List Returned} {number value : ℕ} {out places : List ℕ}
      → Gives (effect_by f m.info (card_of m)) number value n.info (card_of n) out places → Called n steps rs end
      → Called m (calls f ∷ steps) (from_call number value out places ∷ rs) end
  batched : {m n end : Memory} {port : ℕ} {input answers answers' : List ℕ} {records read written number records' read' written' : ℕ} {steps : List Step} {rs : List Returned}
      → BatchIs (wire_of port) (state_of m answers records read written) input number (state_of n answers' records' read' written') → Called n steps rs end
      → Called m (batches port input answers records read written ∷ steps) (from_batch number records' read' written' answers' ∷ rs) end

-- ---- the calls of a sequence, and what it returns, by the rules

-- The record has its numbers; no function makes a call where it has not.
abbrev pub is_whole : List ℕ → Bool
is_whole info = eqb (length info) record_length

-- The call that a function makes of its operands, if they hold one, with what is lent with it.
unfoldable pub sent_of : Decoding → Lending → List Sent
sent_of (Ok (port, call)) l = record { port = port; request = request call l.input l.out l.places } ∷ []
sent_of (Err bad) l = []

-- Those that a batch makes of the records of its bytes: as many as it counts.
unfoldable pub sent_at : Option Port → Card → List ℕ → ℕ → List Sent
sent_at (Some wire) c input room = take (serve wire c input room).records (map (sent_with (lent_size c.public.info.bytes)) (arrivals wire input).records)
sent_at None c input room = []

unfoldable pub calls_of : Bool → Card → Step → List Sent
calls_of whole c (calls f) = cond whole (sent_of (lending_of f).decoding (lending_of f)) []
calls_of whole c (batches port input answers records read written) = cond whole (sent_at (wire_of port) c input (length answers)) []

-- All calls of a sequence, in order, each step on the card that those before it left.
unfoldable pub calls_in : Bool → Card → List Step → List Sent
calls_in whole c [] = []
calls_in whole c (s ∷ steps) = calls_of whole c s ++ calls_in whole (after_all c (calls_of whole c s)) steps

-- What a function returns, by the reply of the rules; or 13 where there is no call, and 1 where the record has not its numbers.
abbrev pub by_reply : Reply → ℕ → Returned
by_reply r value = from_call (answer_number r.answer) (value_after r.answer value) r.out r.places

unfoldable pub call_returns : Bool → Card → Decoding → Lending → Returned
call_returns whole c (Ok (port, call)) l =
    cond whole (by_reply (reply (perform port c (request call l.input l.out l.places))) l.value) (from_call 1 l.value l.out l.places)
call_returns whole c (Err bad) l = from_call 13 l.value l.out l.places

-- What a batch returns, by what the rule makes of its bytes; or 13 at no port, and 1 where the record has not its numbers.
abbrev pub by_play : Play → List ℕ → List ℕ → Returned
by_play p input answers = from_batch (stop_number p.stop) p.records (length input - length p.left) (length p.output) (overwrite answers 0 p.output)

unfoldable pub batch_returns : Bool → Card → Option Port → List ℕ → List ℕ → ℕ → ℕ → ℕ → Returned
batch_returns whole c (Some wire) input answers records read written =
    cond whole (by_play (serve wire c input (length answers)) input answers) (from_batch 1 records read written answers)
batch_returns whole c None input answers records read written = from_batch 13 records read written answers

unfoldable pub returns_of : Bool → Card → Step → Returned
returns_of whole c (calls f) = call_returns whole c (lending_of f).decoding (lending_of f)
returns_of whole c (batches port input answers records read written) = batch_returns whole c (wire_of port) input answers records read written

-- What each step returns, on the card that those before it left.
unfoldable pub returns_in : Bool → Card → List Step → List Returned
returns_in whole c [] = []
returns_in whole c (s ∷ steps) = returns_of whole c s ∷ returns_in whole (after_all c (calls_of whole c s)) steps

-- ---- at the host port

-- The number of the port that a step is called at.
abbrev pub port_number : Step → ℕ
port_number (calls f) = function_port f
port_number (batches port input answers records read written) = port

-- Every step is called at the host port, whose number is 0.
abbrev pub AllAtHost : List Step → Type 0
AllAtHost [] = Unit {0}
AllAtHost (s ∷ steps) = (port_number s ≡ 0) × AllAtHost steps

-- The requests that a step holds at the host port of a card with blocks of so many bytes: that of its operands, or those of its bytes.
unfoldable pub request_of : Decoding → Lending → List Request
request_of (Ok (port, call)) l = request call l.input l.out l.places ∷ []
request_of (Err bad) l = []

unfoldable pub requests_of : ℕ → Step → List Request
requests_of bytes (calls f) = request_of (lending_of f).decoding (lending_of f)
requests_of bytes (batches port input answers records read written) = requests_in bytes input

unfoldable pub requests_by : ℕ → List Step → List Request
requests_by bytes [] = []
requests_by bytes (s ∷ steps) = requests_of bytes s ++ requests_by bytes steps

-- The keys that any step presents, whatever it returns.
unfoldable pub keys_by : Card → List Step → ℕ → ℕ → Bool
keys_by c steps high low = presented (requests_by c.public.info.bytes steps) high low
