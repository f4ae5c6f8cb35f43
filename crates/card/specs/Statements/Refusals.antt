-- Demand 2: what a call is refused for, and that a refusal changes nothing.
use Rattle.std.specs.Prelude.{ℕ, true, List, ◌↔◌, ◌≡◌}
use Rattle.card.specs.Card.{Card}
use Rattle.card.specs.Plan.{Check, FirstHolds, NoneHolds, Buffers, Result, refused, done}
use Rattle.card.specs.Calls.{is_done, format}
use Rattle.card.specs.Session.{Request, plan, EitherPort, refusals, perform}
use Rattle.card.specs.declared.Port.{Port}
use Rattle.card.specs.declared.Refusal.{Refusal}
use Rattle.card.specs.Answers.{Answer}
use Rattle.card.specs.Answers.{Refused}
use Rattle.card.specs.declared.Call.{Call}

-- ---- a refused call changes nothing

-- A result that leaves the card and the lent buffers as they were.
pub record Unchanged (c : Card) (lent : Buffers) (result : Result) : Type 0 where
  pub after : result.after ≡ c
  pub out : result.out ≡ lent.out
  pub places : result.places ≡ lent.places

-- Document 01, "A refusal returns its number and changes no table, record or buffer."
abbrev pub RefusalUnchanged : Type 0
RefusalUnchanged =
    (port : Port) (c : Card) (q : Request) (r : Refusal) → (perform port c q).answer ≡ Refused r → Unchanged c q.lent (perform port c q)

-- The same of FORMAT, to which no buffer is lent.
abbrev pub FormatUnchanged : Type 0
FormatUnchanged = (blocks roots bytes : ℕ) (c : Card) (r : Refusal) → (format blocks roots bytes c).answer ≡ Refused r → (format blocks roots bytes c).after ≡ c

-- ---- a call is refused for the first condition that holds

-- Refused for the first condition that holds and for no other; done where none holds and nowhere else.
pub record RefusedBy (checks : List Check) (answer : Answer) : Type 0 where
  pub refused_iff : (r : Refusal) → (answer ≡ Refused r) ↔ FirstHolds checks r
  pub done_iff : (is_done answer ≡ true) ↔ NoneHolds checks

pub record RefusedByFirst (port : Port) (c : Card) (q : Request) : Type 0 where
  -- Refused for the first condition that holds, and for no other.
  pub refused_iff : (r : Refusal) → ((perform port c q).answer ≡ Refused r) ↔ FirstHolds (refusals port c q) r
  -- Done where no condition holds, and nowhere else.
  pub done_iff : (is_done (perform port c q).answer ≡ true) ↔ NoneHolds (refusals port c q)
  -- A refusal is its number and nothing more.
  pub when_refused : (r : Refusal) → FirstHolds (refusals port c q) r → perform port c q ≡ refused c q.lent r
  -- A done call does what its paragraph says.
  pub when_done : NoneHolds (refusals port c q) → perform port c q ≡ done c q.lent (plan port c q.call q.lent)

-- Demand 2: a call is refused r if and only if r's condition holds and no earlier one does; it is done if and only if none holds.
abbrev pub RefusedIff : Type 0
RefusedIff = (port : Port) (c : Card) (q : Request) → RefusedByFirst port c q

-- ---- either port

-- Document 01, of FREE, TICK and AUDIT: "These three serve either port alike." 2026-08 and 2026-09, of RENT and SWEEP: "Either port may call it".
abbrev pub PortsAlike : Type 0
PortsAlike =
    (call : Call) → EitherPort call → (port other : Port) (c : Card) (lent : Buffers)
    → perform port c (record { call = call; lent = lent }) ≡ perform other c (record { call = call; lent = lent })
