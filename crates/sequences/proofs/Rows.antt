-- For each theorem on sequences of C functions a test that follows from it, and a row for each mistake in the rules of sequences that a must-fail edit makes:
-- true by the theorem, and false with the mistake. That the functions return and leave what a row says is shown beside it.
use Rattle.std.specs.Prelude.{Some}
use Prim.Native.Nat.{ℕ}
use mathlib.Core.Path.{◌≡◌, refl, ap}
use mathlib.Core.Bool.{Bool, true, ◌&&◌}
use mathlib.Core.List.{List, [], ◌∷◌}
use native.Mathlib.Omega.{arith}
use lib.Dec.{eqb}
use lib.ListN.{replicate}
use borrow.Author.Tests.{eqb-true}
use Rattle.laws.specs.ListsLaws.{and_left, and_right, and_true}
use Rattle.card.specs.Contents.{zeros}
use Rattle.card.specs.Card.{Card}
use Rattle.card.specs.Session.{after_all}
use Rattle.card.specs.Trials.{player_card}
use Rattle.card.proofs.Computed.Same.{same_lists, card_numbers}
use Rattle.card.proofs.Computed.TestLaws.{true_same_lists}
use Rattle.card.proofs.Computed.Row.{implies, true_implies, Row, refutes, nothing}
use Rattle.card.proofs.Computed.Secrecy.{with_contents, comparable, both_sound, equal_else}
use Rattle.card.proofs.Computed.Rows.{below, nested, at_most_one}
use Rattle.card.specs.declared.Port.{Port}
use Rattle.card.specs.declared.Port.TheVariants.{Host, Service}
use Rattle.input.specs.Played.{PlayedIs}
use Rattle.input.specs.declared.Stop.TheVariants.{Ended}
use Rattle.serving.specs.Serve.{serve}
use Rattle.serving.proofs.BytesExample.{read_bytes, by_key_bytes}
use Rattle.serving.proofs.Rows.{batching, service_read_bytes}
use Rattle.parameters.specs.Numbers.{wire_of}
use Rattle.adapter.specs.Effects.{effect}
use Rattle.interface.specs.Functions.{tick}
use Rattle.interface.specs.Batch.{BatchIs}
use Rattle.sequences.specs.Sequence.{Memory, card_of, Step, calls, batches, Returned, from_call, from_batch, state_of, Called, none, called, batched, is_whole, sent_of, sent_at, calls_of, calls_in, call_returns, batch_returns, returns_of, returns_in, port_number, AllAtHost, request_of, requests_of, requests_by, keys_by}
use Rattle.sequences.specs.Statements.{SafeCalls, CallsSafe, CallsSecret}

-- ---- calls_safe

-- All that a sequence returned.
abbrev returned_numbers : List Returned → List (List ℕ)
returned_numbers [] = []
returned_numbers (from_call number value out places ∷ rs) = (number ∷ value ∷ []) ∷ out ∷ places ∷ returned_numbers rs
returned_numbers (from_batch number records read written answers ∷ rs) = (number ∷ records ∷ read ∷ written ∷ []) ∷ answers ∷ returned_numbers rs

abbrev pub calls_safe_test : Memory → List Step → List Returned → Memory → Bool
calls_safe_test m steps rs n =
    same_lists (returned_numbers rs) (returned_numbers (returns_in (is_whole m.info) (card_of m) steps))
    && same_lists (card_numbers (card_of n)) (card_numbers (after_all (card_of m) (calls_in (is_whole m.info) (card_of m) steps)))

pub calls_safe_tests : CallsSafe → (m n : Memory) (steps : List Step) (rs : List Returned) → Called m steps rs n → calls_safe_test m steps rs n ≡ true
calls_safe_tests statement m n steps rs runs =
    let s : SafeCalls m steps rs n = statement m n steps rs runs in
    and_true _ _ (true_same_lists (ap returned_numbers s.returns)) (true_same_lists (ap card_numbers s.leaves))

abbrev calls_safe_row : {m n : Memory} {steps : List Step} {rs : List Returned} → Called m steps rs n → Row CallsSafe
calls_safe_row {m} {n} {steps} {rs} runs = record { test = calls_safe_test m steps rs n; follows = λ statement. calls_safe_tests statement m n steps rs runs }

-- ---- calls_secret

abbrev all_at_host : List Step → Bool
all_at_host [] = true
all_at_host (s ∷ steps) = eqb (port_number s) 0 && all_at_host steps

all_at_host_true : (steps : List Step) → all_at_host steps ≡ true → AllAtHost steps
all_at_host_true [] h = tt
all_at_host_true (s ∷ steps) h = (eqb-true _ _ (and_left _ _ h), all_at_host_true steps (and_right (eqb (port_number s) 0) _ h))

abbrev pub with_bytes : Memory → List ℕ → Memory
with_bytes m contents = record { info = m.info; flags = m.flags; keys = m.keys; counts = m.counts; pointers = m.pointers; multiplicities = m.multiplicities; windows = m.windows; contents = contents }

-- At the host port, on two memories that the keys of the sequence cannot tell apart, the same is returned.
abbrev pub calls_secret_test : Memory → List ℕ → (ℕ → Bool) → List Step → List Returned → List Returned → Bool
calls_secret_test m contents named steps rs ss =
    implies (all_at_host steps && comparable (keys_by (card_of m) steps) (card_of m) contents named) (same_lists (returned_numbers rs) (returned_numbers ss))

module _ {m m' n' : Memory} (contents : List ℕ) (named : ℕ → Bool) {steps : List Step} {rs ss : List Returned} (runs : Called m steps rs m') (runsOther : Called (with_bytes m contents) steps ss n') where
  pub calls_secret_tests : CallsSecret → calls_secret_test m contents named steps rs ss ≡ true
  calls_secret_tests statement =
      let K = keys_by (card_of m) steps in
      true_implies (all_at_host steps && comparable K (card_of m) contents named) _
      (λ h.
      let same = and_right (all_at_host steps) _ h in
      let s = both_sound K (card_of m) contents named same in
      true_same_lists (ap returned_numbers
      (statement steps (all_at_host_true steps (and_left _ _ h)) m (with_bytes m contents) m' n' rs ss runs runsOther s.0 s.1 refl (equal_else K (card_of m) contents named same)).answers))

  abbrev calls_secret_row : Row CallsSecret
  calls_secret_row = record { test = calls_secret_test m contents named steps rs ss; follows = calls_secret_tests }

-- ---- rows

-- To compute a row, its proof unfolds this one name.
unfoldable computing : Unit {0}
unfolding batching wire_of effect BatchIs sent_of sent_at calls_of calls_in call_returns batch_returns returns_of returns_in request_of requests_of requests_by keys_by
computing = tt

-- The tables of a card, with a record of so many pointers at a second and a total of 0.
abbrev memory_of : ℕ → ℕ → Card → Memory
memory_of used time c = record {
  info = 16 ∷ 1 ∷ 512 ∷ used ∷ time ∷ 0 ∷ [];
  flags = c.public.flags;
  keys = c.keys;
  counts = c.public.counts;
  pointers = c.public.pointers;
  multiplicities = c.public.multiplicities;
  windows = c.public.windows;
  contents = c.contents;
}

-- The player's card at a second.
abbrev player : ℕ → Memory
player time = memory_of 0 time player_card

abbrev ticks : List Step
ticks = calls (tick 5 0) ∷ (calls (tick 7 0) ∷ [])

abbrev ticks_return : List Returned
ticks_return = from_call 0 5 [] [] ∷ (from_call 0 12 [] [] ∷ [])

pub ticks_called : Called (player 0) ticks ticks_return (player 12)
unfolding computing
ticks_called =
    called {n = player 5} (record { does = record { answers = refl; records = refl; leaves = refl; fills_out = refl; fills_places = refl }; gives = refl })
    (called {n = player 12} (record { does = record { answers = refl; records = refl; leaves = refl; fills_out = refl; fills_places = refl }; gives = refl }) none)

abbrev first_step_alone_performed : Row CallsSafe
first_step_alone_performed = calls_safe_row ticks_called

-- There is no port 2.
abbrev nowhere : List Step
nowhere = batches 2 [] [] 7 8 9 ∷ []

abbrev nowhere_returns : List Returned
nowhere_returns = from_batch 13 7 8 9 [] ∷ []

pub nowhere_called : Called (player 0) nowhere nowhere_returns (player 0)
unfolding computing
nowhere_called =
    let refused : BatchIs (wire_of 2) (state_of (player 0) [] 7 8 9) [] 13 (state_of (player 0) [] 7 8 9) = (refl, refl) in
    batched {n = player 0} refused none

abbrev wrong_port_reports_no_records : Row CallsSafe
wrong_port_reports_no_records = calls_safe_row nowhere_called

-- The nested card with one byte in every place from block 2 on.
abbrev nested_with : ℕ → Memory
nested_with byte = memory_of 4 0 (with_contents nested (below byte))

-- A batch that shows block 2, by its key or at the service port.
abbrev shown_by : ℕ → List ℕ → List Step
shown_by port input = batches port input (zeros 513) 0 0 0 ∷ []

abbrev shown : ℕ → List Returned
shown byte = from_batch 0 1 24 513 (0 ∷ replicate 512 byte) ∷ []

abbrev by_its_key : List Step
by_its_key = shown_by 0 (read_bytes 2 (by_key_bytes 5 6) 0)

abbrev by_service : List Step
by_service = shown_by 1 (service_read_bytes 2)

module _ (byte : ℕ) where
  -- The one record of an input is performed, and answers with the block.
  abbrev Shows : Port → List ℕ → Type 0
  Shows wire input = PlayedIs (serve wire (card_of (nested_with byte)) input 513) Ended 1 (card_of (nested_with byte)) input 24 (zeros 513) (0 ∷ replicate 512 byte) 513

  shows_called : (port : ℕ) (wire : Port) (input : List ℕ) → wire_of port ≡ Some wire → Shows wire input → Called (nested_with byte) (shown_by port input) (shown byte) (nested_with byte)
  unfolding BatchIs
  shows_called port wire input e plays =
      let served : BatchIs (Some wire) (state_of (nested_with byte) (zeros 513) 0 0 0) input 0 (state_of (nested_with byte) (0 ∷ replicate 512 byte) 1 24 513) =
      record { refuses = λ h. absurd (h refl); serves = λ f. record { stop = Ended; answers = refl; stores = refl; plays = plays } } in
      let at : BatchIs (wire_of port) (state_of (nested_with byte) (zeros 513) 0 0 0) input 0 (state_of (nested_with byte) (0 ∷ replicate 512 byte) 1 24 513) = rw e served in
      batched {n = nested_with byte} at none

  pub key_called : Called (nested_with byte) by_its_key (shown byte) (nested_with byte)
  unfolding computing
  key_called =
      shows_called 0 Host (read_bytes 2 (by_key_bytes 5 6) 0) refl
      (record { stops = refl; counts = refl; leaves = refl; rests = refl; within = omega arith; writes = record { holds = refl; ends = refl } })

  pub service_called : Called (nested_with byte) by_service (shown byte) (nested_with byte)
  unfolding computing
  service_called =
      shows_called 1 Service (service_read_bytes 2) refl
      (record { stops = refl; counts = refl; leaves = refl; rests = refl; within = omega arith; writes = record { holds = refl; ends = refl } })

abbrev keys_of_a_batch_not_counted : Row CallsSecret
keys_of_a_batch_not_counted = calls_secret_row (below 6) at_most_one (key_called 5) (key_called 6)

abbrev service_batch_in_a_host_sequence : Row CallsSecret
service_batch_in_a_host_sequence = calls_secret_row (below 6) at_most_one (service_called 5) (service_called 6)

-- ---- the row of an edit

-- An edit puts here the statement that its mistake makes false, and the row that shows it.
pub refuted : ⊥ → ⊥
unfolding computing
refuted = refutes nothing refl

-- And the row here, as what it is by its theorem: with the mistake this is refused.
pub held : true ≡ true
unfolding computing
held = refl
