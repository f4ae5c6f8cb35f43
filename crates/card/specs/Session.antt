-- One call performed, and a list of calls run, each on the card that the one before left.
use Rattle.std.specs.Prelude.{ℕ, Bool, true, false, cond, List, [], ◌∷◌, ◌++◌, map, eqb, length, take, Option, None, Some}
use Rattle.card.specs.Card.{Card}
use Rattle.card.specs.Access.{admits, opens}
use Rattle.card.specs.Plan.{Check, audited, Plan, Buffers, Result, judge, judge_sound}
use Rattle.card.specs.Calls.{answer_number, answer_values, mode_of, read_plan, write_plan, alloc_plan, alloc_contig_plan, create_plan, delete_plan, delete_tree_plan, key_plan, renew_plan, force_plan, free_plan, tick_plan, audit_plan, rent_plan, sweep_plan}
use Rattle.card.specs.declared.Port.{Port}
use Rattle.card.specs.declared.Port.TheVariants.{Host}
use Rattle.card.specs.declared.Mode.{Mode}
use Rattle.card.specs.declared.Mode.TheVariants.{Reading, Writing}
use Rattle.card.specs.declared.Credential.{Credential}
use Rattle.card.specs.declared.Credential.TheVariants.{Key as KeyCredential}
use Rattle.card.specs.declared.KeyOperands.{KeyOperands}
use Rattle.card.specs.declared.TickOperands.{TickOperands}
use Rattle.card.specs.declared.RentOperands.{RentOperands}
use Rattle.card.specs.declared.SweepOperands.{SweepOperands}
use Rattle.card.specs.Answers.{Answer}
use Rattle.card.specs.declared.Call.{Call}
use Rattle.card.specs.declared.Call.TheVariants.{Read, Write, Alloc, AllocContig, Create, Delete, DeleteTree, KeyRead, KeyWrite, Renew, Force, Free, Tick, Audit, Rent, Sweep}

-- KEY_READ or KEY_WRITE, by the mode whose key it sets.
abbrev pub key_call : Mode → KeyOperands → Call
key_call Reading o = KeyRead o
key_call Writing o = KeyWrite o

-- A call with its operands and its lent buffers with what they hold.
pub record Request : Type 0 where
  pub call : Call
  pub lent : Buffers

-- The call's paragraph, at a port and on a card: the access test is asked here and nowhere else.
unfoldable pub plan : Port → Card → Call → Buffers → Plan
plan port c (Read o) lent = read_plan port c.public (admits port c Reading o.block o.credential) o (length lent.out)
plan port c (Write o) lent = write_plan port c.public (admits port c Writing o.block o.credential) o lent.input
plan port c (Alloc o) lent = alloc_plan port c.public (admits port c Writing o.reference o.credential) o (length lent.places)
plan port c (AllocContig o) lent =
    alloc_contig_plan port c.public (admits port c Writing o.reference o.credential) o (length lent.places)
plan port c (Create o) lent =
    create_plan port c.public
    (admits port c Writing o.source o.credential)
    (admits port c Writing o.destination o.second)
    o
plan port c (Delete o) lent = delete_plan port c.public (admits port c Writing o.source o.credential) o
plan port c (DeleteTree o) lent = delete_tree_plan port c.public (admits port c Writing o.source o.credential) o
plan port c (KeyRead o) lent = key_plan port c.public (admits port c Writing o.block o.credential) Reading o
plan port c (KeyWrite o) lent = key_plan port c.public (admits port c Writing o.block o.credential) Writing o
plan port c (Renew o) lent = renew_plan c.public (opens c (mode_of o.mode) o.block (KeyCredential o.high o.low)) o
plan port c (Force o) lent = force_plan c.public o
plan port c Free lent = free_plan c.public
plan port c (Tick o) lent = tick_plan c.public o
plan port c Audit lent = audit_plan
plan port c (Rent o) lent = rent_plan c.public o
plan port c (Sweep o) lent = sweep_plan c.public o

-- The port by whose rules a call is judged. "RENEW .. host only", "FORCE .. host only": no record and no function of C asks for them at the
-- service port; there they do what they do at the host's.
unfoldable pub port_of : Port → Call → Port
port_of port (Read o) = port
port_of port (Write o) = port
port_of port (Alloc o) = port
port_of port (AllocContig o) = port
port_of port (Create o) = port
port_of port (Delete o) = port
port_of port (DeleteTree o) = port
port_of port (KeyRead o) = port
port_of port (KeyWrite o) = port
port_of port (Renew o) = Host
port_of port (Force o) = Host
port_of port Free = port
port_of port (Tick o) = port
port_of port Audit = port
port_of port (Rent o) = port
port_of port (Sweep o) = port

-- "FREE", "TICK", "AUDIT" and, by 2026-08 and 2026-09, RENT and SWEEP, "Either port may call it": the calls that look at no port.
pub data EitherPort : Call → Type 0 where
  free : EitherPort Free
  tick : (o : TickOperands) → EitherPort (Tick o)
  audit : EitherPort Audit
  rent : (o : RentOperands) → EitherPort (Rent o)
  sweep : (o : SweepOperands) → EitherPort (Sweep o)

-- The call is SWEEP.
unfoldable pub is_sweep : Call → Bool
is_sweep (Read o) = false
is_sweep (Write o) = false
is_sweep (Alloc o) = false
is_sweep (AllocContig o) = false
is_sweep (Create o) = false
is_sweep (Delete o) = false
is_sweep (DeleteTree o) = false
is_sweep (KeyRead o) = false
is_sweep (KeyWrite o) = false
is_sweep (Renew o) = false
is_sweep (Force o) = false
is_sweep Free = false
is_sweep (Tick o) = false
is_sweep Audit = false
is_sweep (Rent o) = false
is_sweep (Sweep o) = true

-- All that a request can be refused for, in order: the shape and the soundness of the card, then what its paragraph names.
unfoldable pub refusals : Port → Card → Request → List Check
refusals port c q = audited c (plan port c q.call q.lent).checks

unfoldable pub perform : Port → Card → Request → Result
perform port c q = judge c q.lent (plan port c q.call q.lent)

-- The same on a card that has been audited.
unfoldable pub perform_sound : Port → Card → Request → Result
perform_sound port c q = judge_sound c q.lent (plan port c q.call q.lent)

-- A call with the bytes for WRITE, READ's buffer and the places of ALLOC and ALLOC_CONTIG that are lent with it.
abbrev pub request : Call → List ℕ → List ℕ → List ℕ → Request
request call input out places = record { call = call; lent = record { input = input; out = out; places = places } }

-- ---- a list of calls

-- A request at a port.
pub record Sent : Type 0 where
  pub port : Port
  pub request : Request

-- Document 01, "An answer here is the number, the results and what the lent buffers then hold": WRITE's bytes are never changed.
pub record Reply : Type 0 where
  pub answer : Answer
  pub out : List ℕ
  pub places : List ℕ

abbrev pub reply : Result → Reply
reply r = record { answer = r.answer; out = r.out; places = r.places }

abbrev pub performed : Card → Sent → Result
performed c s = perform s.port c s.request

-- The answers of a list of calls, place by place.
unfoldable pub replies : Card → List Sent → List Reply
replies c [] = []
replies c (s ∷ ss) = reply (performed c s) ∷ replies (performed c s).after ss

-- The card that a list of calls leaves.
unfoldable pub after_all : Card → List Sent → Card
after_all c [] = c
after_all c (s ∷ ss) = after_all (performed c s).after ss

-- A property of each call of a list, on the card that those before it left.
abbrev pub Each : (Card → Sent → Type 0) → Card → List Sent → Type 0
Each P c [] = Unit {0}
Each P c (s ∷ ss) = P c s × Each P (performed c s).after ss

-- What holds of every call holds of each call of a list.
pub each : {P : Card → Sent → Type 0} → ((c : Card) (s : Sent) → P c s) → (c : Card) (ss : List Sent) → Each P c ss
each f c [] = tt
each f c (s ∷ ss) = (f c s, each f (performed c s).after ss)

abbrev pub sent_by_host : Request → Sent
sent_by_host q = record { port = Host; request = q }

-- Document 01, "A host session": every call at the host port.
abbrev pub host_session : List Request → List Sent
host_session qs = map sent_by_host qs

-- ---- what sets the calls apart beside their plans

pub record Traits : Type 0 where
  -- The credentials that the call presents, RENEW's key among them.
  pub credentials : List Credential
  -- The values that the call, once done, leaves in a lent buffer and a player reports.
  pub values : Reply → List ℕ
  -- The destination of the pointer that the call takes away, if it takes just one: DELETE.
  pub takes_pointer_to : Option ℕ
  -- The seconds that pass with the call, if it is done: TICK's.
  pub seconds : ℕ

-- A call that shows nothing and is neither DELETE nor TICK.
abbrev pub plain : List Credential → Traits
plain credentials = record { credentials = credentials; values = λ r. []; takes_pointer_to = None; seconds = 0 }

-- A row for each call. A player reports READ's first 8 bytes and the numbers of ALLOC and ALLOC_CONTIG.
unfoldable pub traits : Call → Traits
traits (Read o) = record { credentials = o.credential ∷ []; values = λ r. take 8 r.out; takes_pointer_to = None; seconds = 0 }
traits (Write o) = plain (o.credential ∷ [])
traits (Alloc o) = record { credentials = o.credential ∷ []; values = λ r. take o.count r.places; takes_pointer_to = None; seconds = 0 }
traits (AllocContig o) = record { credentials = o.credential ∷ []; values = λ r. take o.count r.places; takes_pointer_to = None; seconds = 0 }
traits (Create o) = plain (o.credential ∷ o.second ∷ [])
traits (Delete o) = record { credentials = o.credential ∷ []; values = λ r. []; takes_pointer_to = Some o.destination; seconds = 0 }
traits (DeleteTree o) = plain (o.credential ∷ [])
traits (KeyRead o) = plain (o.credential ∷ [])
traits (KeyWrite o) = plain (o.credential ∷ [])
traits (Renew o) = plain (KeyCredential o.high o.low ∷ [])
traits (Force o) = plain []
traits Free = plain []
traits (Tick o) = record { credentials = []; values = λ r. []; takes_pointer_to = None; seconds = o.seconds }
traits Audit = plain []
traits (Rent o) = plain []
traits (Sweep o) = plain []

-- ---- what a player reports

abbrev pub shown_values : Call → Reply → List ℕ
shown_values call r = (traits call).values r

-- The answer's number and, if done, its results.
unfoldable pub reported : Call → Reply → List ℕ
reported call r =
    answer_number r.answer
    ∷ cond (eqb (answer_number r.answer) 0) (answer_values r.answer ++ shown_values call r) []

-- What a player reports of a list of calls.
unfoldable pub reports : Card → List Sent → List (List ℕ)
reports c [] = []
reports c (s ∷ ss) = reported s.request.call (reply (performed c s)) ∷ reports (performed c s).after ss
