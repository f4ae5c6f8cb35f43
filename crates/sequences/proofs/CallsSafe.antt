-- Any sequence of C functions, at either port and on any record and tables: what is returned and left is what the calls return and leave by the rules, each on
-- the card that the one before left.
use Rattle.std.specs.Prelude.{Ok, Err, Option, Some, None}
use Prim.Native.Nat.{ℕ, ◌-◌, ◌≤◌}
use mathlib.Core.Path.{◌≡◌, refl, sym, ap, ap₂, ◌∙◌}
use mathlib.Core.Bool.{Bool, true, false, cond}
use mathlib.Core.List.{List, [], ◌∷◌}
use native.Mathlib.Omega.{arith}
use native.Mathlib.Nat.{zero-add}
use lib.ListN.{length, drop, length-drop}
use borrow.Author.Tests.{eqb-true, eqb-false}
use Rattle.laws.specs.ListsLaws.{absurd_test}
use Rattle.card.specs.Card.{Card}
use Rattle.card.specs.declared.Port.{Port}
use Rattle.card.specs.declared.Call.{Call}
use Rattle.card.specs.Session.{Sent, request, perform, after_all, each}
use Rattle.laws.specs.SessionLaws.{after_all_append}
use Rattle.card.specs.Statements.Safe.{SafeCall}
use Rattle.guarantees.proofs.Safe.{safe_call}
use Rattle.input.specs.Play.{Play}
use Rattle.input.specs.Played.{PlayedIs}
use Rattle.serving.specs.Serve.{serve}
use Rattle.serving.proofs.BytesSafe.{left_by_calls}
use Rattle.parameters.specs.Numbers.{wire_of}
use Rattle.adapter.specs.Effects.{Effect, effect_of, refused_effect, effect, Does, Gives}
use Rattle.interface.specs.Functions.{Function, Lending, lending_of, effect_by}
use Rattle.interface.specs.Batch.{stop_number, BatchState, BatchServed, BatchIs}
use Rattle.sequences.specs.Statements.{SafeCalls, CallsSafe}
use Rattle.sequences.specs.Sequence.{Memory, card_of, Step, calls, batches, Returned, from_call, from_batch, state_of, Called, none, called, batched, is_whole, sent_of, sent_at, calls_of, calls_in, call_returns, by_play, batch_returns, returns_of, returns_in}
use Rattle.decoding.specs.Decode.{Decoding}

-- ---- one step

-- A function that has no place for a result promises all but the value: that is the same with the value of the rule.
pub without_result : {w : Effect} {number : ℕ} {info : List ℕ} {after : Card} {out places : List ℕ} → Does w number info after out places → Gives w number w.value info after out places
without_result d = record { does = d; gives = refl }

-- What a step returns and leaves, in the same words.
record StepSafe (m : Memory) (s : Step) (r : Returned) (n : Memory) : Type 0 where
  pub returns : r ≡ returns_of (is_whole m.info) (card_of m) s
  pub leaves : card_of n ≡ after_all (card_of m) (calls_of (is_whole m.info) (card_of m) s)
  pub whole : is_whole n.info ≡ is_whole m.info
  pub not_whole : is_whole m.info ≡ false → n.info ≡ m.info

-- A function's effect, by whether the record has its numbers and there is a call.
record EffectSafe (info : List ℕ) (c : Card) (d : Decoding) (l : Lending) (e : Effect) : Type 0 where
  pub returns : from_call e.number e.value e.out e.places ≡ call_returns (is_whole info) c d l
  pub leaves : e.after ≡ after_all c (cond (is_whole info) (sent_of d l) [])
  pub whole : is_whole e.info ≡ is_whole info
  pub not_whole : is_whole info ≡ false → e.info ≡ info

-- No call leaves the card as it was.
no_calls : (c : Card) (t : Bool) → c ≡ after_all c (cond t [] [])
unfolding after_all
no_calls c true = refl
no_calls c false = refl

module _ (info : List ℕ) (c : Card) (l : Lending) where
  decoded_safe : (port : Port) (call : Call) (t : Bool) → is_whole info ≡ t
      → EffectSafe info c (Ok (port, call)) l (cond t (effect_of (perform port c (request call l.input l.out l.places)) l.value) (refused_effect 1 l.out l.places l.value info c))
  unfolding call_returns sent_of after_all
  decoded_safe port call true e = record { returns = rw e; leaves = rw e; whole = sym e; not_whole = λ f. absurd_test e f }
  decoded_safe port call false e = record { returns = rw e; leaves = rw e; whole = refl; not_whole = λ f. refl }

  effect_safe : (d : Decoding) → EffectSafe info c d l (effect d l.input l.out l.places l.value info c)
  unfolding effect call_returns sent_of
  effect_safe (Ok (port, call)) = decoded_safe port call (is_whole info) refl
  effect_safe (Err bad) = record { returns = refl; leaves = no_calls c (is_whole info); whole = refl; not_whole = λ f. refl }

call_safe : (m n : Memory) (f : Function) {number value : ℕ} {out places : List ℕ} → Gives (effect_by f m.info (card_of m)) number value n.info (card_of n) out places
    → StepSafe m (calls f) (from_call number value out places) n
unfolding returns_of calls_of
call_safe m n f {number} {value} {out} {places} g =
    let w : Effect = effect_by f m.info (card_of m) in
    let given : from_call number value out places ≡ from_call w.number w.value w.out w.places =
    λ k. from_call (g.does.answers k) (g.gives k) (g.does.fills_out k) (g.does.fills_places k) in
    let e : EffectSafe m.info (card_of m) (lending_of f).decoding (lending_of f) (effect_by f m.info (card_of m)) = effect_safe m.info (card_of m) (lending_of f) (lending_of f).decoding in
    record {
      returns = given ∙ e.returns;
      leaves = g.does.leaves ∙ e.leaves;
      whole = ap is_whole g.does.records ∙ e.whole;
      not_whole = λ h. g.does.records ∙ e.not_whole h;
    }

-- ---- a batch

-- How far a batch has read is told by what it left.
read_is : (input : List ℕ) (read : ℕ) {left : List ℕ} → drop read input ≡ left → read ≤ length input → read ≡ length input - length left
read_is input read {left} e h = omega (arith, ap length e, length-drop read input)

module _ (m n : Memory) (input answers answers' : List ℕ) (records read written number records' read' written' : ℕ) where
  abbrev before : BatchState
  before = state_of m answers records read written

  abbrev after : BatchState
  after = state_of n answers' records' read' written'

  record PlainSafe (w : Option Port) : Type 0 where
    pub returns : from_batch number records' read' written' answers' ≡ batch_returns (is_whole m.info) (card_of m) w input answers records read written
    pub leaves : card_of n ≡ after_all (card_of m) (cond (is_whole m.info) (sent_at w (card_of m) input (length answers)) [])
    pub whole : is_whole n.info ≡ is_whole m.info
    pub not_whole : is_whole m.info ≡ false → n.info ≡ m.info

  unchanged : (refusal : ℕ) → number ≡ refusal → after ≡ before → from_batch number records' read' written' answers' ≡ from_batch refusal records read written answers
  unchanged refusal e s =
      ap₂ (λ (k : ℕ) (b : BatchState). from_batch k b.records b.read b.written b.answers) e s

  served_safe : (wire : Port) (t : Bool) → is_whole m.info ≡ t → BatchIs (Some wire) before input number after → PlainSafe (Some wire)
  unfolding BatchIs batch_returns sent_at after_all
  served_safe wire true e b =
      let s : BatchServed wire before input number after = b.serves (eqb-true _ _ e) in
      let p : PlayedIs (serve wire (card_of m) input (length answers)) s.stop records' (card_of n) input read' answers answers' written' = s.plays in
      let want : Play = serve wire (card_of m) input (length answers) in
      let stopping : number ≡ stop_number want.stop = s.answers ∙ ap stop_number p.stops in
      let reading : read' ≡ length input - length want.left = read_is input read' p.rests p.within in
      let writing : written' ≡ length want.output = p.writes.ends ∙ zero-add (length want.output) in
      let told : from_batch number records' read' written' answers' ≡ by_play want input answers =
      λ k. from_batch (stopping k) (p.counts k) (reading k) (writing k) (p.writes.holds k) in
      record {
        returns = rw e told;
        leaves = rw e (p.leaves ∙ left_by_calls wire (card_of m) input (length answers));
        whole = ap is_whole s.stores ∙ sym e;
        not_whole = λ f. absurd_test e f;
      }
  served_safe wire false e b =
      let r : (number ≡ 1) × (after ≡ before) = b.refuses (eqb-false _ _ e) in
      record {
        returns = rw e (unchanged 1 r.0 r.1);
        leaves = rw e (ap (λ (s : BatchState). s.card) r.1);
        whole = ap (λ (s : BatchState). is_whole s.info) r.1;
        not_whole = λ f. ap (λ (s : BatchState). s.info) r.1;
      }

  batch_safe : (w : Option Port) → BatchIs w before input number after → PlainSafe w
  unfolding BatchIs batch_returns sent_at
  batch_safe (Some wire) b = served_safe wire (is_whole m.info) refl b
  batch_safe None b = record {
    returns = unchanged 13 b.0 b.1;
    leaves = ap (λ (s : BatchState). s.card) b.1 ∙ no_calls (card_of m) (is_whole m.info);
    whole = ap (λ (s : BatchState). is_whole s.info) b.1;
    not_whole = λ f. ap (λ (s : BatchState). s.info) b.1;
  }

batched_safe : (m n : Memory) (port : ℕ) (input answers answers' : List ℕ) (records read written number records' read' written' : ℕ)
    → BatchIs (wire_of port) (state_of m answers records read written) input number (state_of n answers' records' read' written')
    → StepSafe m (batches port input answers records read written) (from_batch number records' read' written' answers') n
unfolding returns_of calls_of
batched_safe m n port input answers answers' records read written number records' read' written' b =
    let p = batch_safe m n input answers answers' records read written number records' read' written' (wire_of port) b in
    record { returns = p.returns; leaves = p.leaves; whole = p.whole; not_whole = p.not_whole }

-- ---- the sequence

none_safe : (m : Memory) → SafeCalls m [] [] m
unfolding returns_in calls_in after_all
none_safe m = record { returns = refl; leaves = refl; safe = tt; whole = refl; not_whole = λ f. refl }

step_then : {m n end : Memory} {s : Step} {steps : List Step} {r : Returned} {rs : List Returned} → StepSafe m s r n → SafeCalls n steps rs end → SafeCalls m (s ∷ steps) (r ∷ rs) end
unfolding returns_in calls_in
step_then {m} {n} {end} {s} {steps} {r} {rs} one rest =
    let whole : Bool = is_whole m.info in
    let made : List Sent = calls_of whole (card_of m) s in
    let later : calls_in (is_whole n.info) (card_of n) steps ≡ calls_in whole (after_all (card_of m) made) steps = ap₂ (λ (t : Bool) (c : Card). calls_in t c steps) one.whole one.leaves in
    record {
      returns = ap₂ (λ (x : Returned) (xs : List Returned). x ∷ xs) one.returns (rest.returns ∙ ap₂ (λ (t : Bool) (c : Card). returns_in t c steps) one.whole one.leaves);
      leaves =
          rest.leaves
          ∙ ap₂ (λ (c : Card) (ss : List Sent). after_all c ss) one.leaves later
          ∙ sym (after_all_append (card_of m) made (calls_in whole (after_all (card_of m) made) steps));
      safe = each {P = SafeCall} safe_call (card_of m) (calls_in whole (card_of m) (s ∷ steps));
      whole = rest.whole ∙ one.whole;
      not_whole = λ f. rest.not_whole (one.whole ∙ f) ∙ one.not_whole f;
    }

pub called_safe : {m n : Memory} {steps : List Step} {rs : List Returned} → Called m steps rs n → SafeCalls m steps rs n
called_safe (none {m = m}) = none_safe m
called_safe (called {m = m} {n = n} {f = f} g rest) = step_then (call_safe m n f g) (called_safe rest)
called_safe (batched {m = m} {n = n} {port = port} {input = input} {answers = answers} {answers' = answers'} {records = records} {read = read} {written = written} {number = number} {records' = records'} {read' = read'} {written' = written'} b rest) =
    step_then (batched_safe m n port input answers answers' records read written number records' read' written' b) (called_safe rest)

pub calls_safe : CallsSafe
calls_safe m n steps rs runs = called_safe runs
