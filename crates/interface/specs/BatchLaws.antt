-- What a batch is by what the function that serves it found.
use Rattle.std.specs.Prelude.{ℕ, ◌≡◌, refl, List, length, Option, Some, None}
use Rattle.std.proofs.Common.{subst}
use Rattle.card.specs.Card.{card}
use Rattle.card.specs.declared.Info.{Info}
use Rattle.card.specs.declared.Port.{Port}
use Rattle.input.specs.Played.{PlayedIs}
use Rattle.input.specs.declared.Stop.{Stop}
use Rattle.parameters.specs.Numbers.{record_length, record_of, numbers_of, wire_of}
use Rattle.serving.specs.Serve.{serve}
use Rattle.interface.specs.Batch.{stop_number, BatchState, BatchIs, batch_state}

-- There is no such port.
pub batch_nowhere : (port : ℕ) (before : BatchState) (input : List ℕ) {w : Option Port} → w ≡ wire_of port → w ≡ None → BatchIs (wire_of port) before input 13 before
unfolding BatchIs
batch_nowhere port before input e n = rw (← e, n) (refl, refl)

-- The record has not its numbers.
pub batch_refused : (port : ℕ) (before : BatchState) (input : List ℕ) {w : Option Port} {wire : Port} → w ≡ wire_of port → w ≡ Some wire → (length before.info ≡ record_length → ⊥) → BatchIs (wire_of port) before input 1 before
unfolding BatchIs
batch_refused port before input e a n = rw (← e, a) (record { refuses = λ h. (refl, refl); serves = λ f. absurd (n f) })

pub batch_served : (port : ℕ) (info flags keys counts pointers multiplicities windows contents answers : List ℕ) (records read written : ℕ) (input : List ℕ)
    {loaded : Info} (after : Info) (flags' keys' counts' pointers' multiplicities' windows' contents' : List ℕ) {info' answers' : List ℕ} {stop : Stop} {number records' read' written' : ℕ} {w : Option Port} {wire : Port}
    → w ≡ wire_of port → w ≡ Some wire → length info ≡ record_length → loaded ≡ record_of info
    → PlayedIs (serve wire (card loaded flags keys counts pointers multiplicities windows contents) input (length answers)) stop records' (card after flags' keys' counts' pointers' multiplicities' windows' contents') input read' answers answers' written'
    → info' ≡ numbers_of after → number ≡ stop_number stop
    → BatchIs (wire_of port) (batch_state info flags keys counts pointers multiplicities windows contents answers records read written) input number (batch_state info' flags' keys' counts' pointers' multiplicities' windows' contents' answers' records' read' written')
unfolding BatchIs
batch_served port info flags keys counts pointers multiplicities windows contents answers records read written input after flags' keys' counts' pointers' multiplicities' windows' contents' {info'} {answers'} {stop} {number} {records'} {read'} {written'} {wire = wire} e at n l p s a =
    rw (← e, at)
    (record {
      refuses = λ h. absurd (h n);
      serves = λ f. record {
        stop = stop;
        answers = a;
        stores = rw s;
        plays =
            rw s
            (subst (λ (i : Info). PlayedIs (serve wire (card i flags keys counts pointers multiplicities windows contents) input (length answers)) stop records' (card after flags' keys' counts' pointers' multiplicities' windows' contents') input read' answers answers' written') l p);
      };
    })
