-- Laws of what a function that C calls leaves.
use Rattle.std.specs.Prelude.{ℕ, ◌-◌, ◌≤◌, ◌≡◌, length, take, drop, Ok, Err}
use Rattle.std.proofs.Math.Path.{refl, subst}
use Rattle.std.proofs.Common.{sym, ap, ap₂, ◌∙◌, arith}
use mathlib.Core.List.{List, [], ◌∷◌}
use borrow.Author.Tests.{eq-eqb, ne_eqb}
use Rattle.card.specs.Card.{Card, card}
use Rattle.card.specs.Plan.{Result}
use Rattle.card.specs.Calls.{refusal_number, answer_number}
use Rattle.card.specs.Promises.{Is}
use Rattle.card.specs.Session.{request, perform}
use Rattle.card.specs.declared.Info.{Info}
use Rattle.card.specs.declared.Port.{Port}
use Rattle.card.specs.declared.Call.{Call}
use Rattle.card.specs.Answers.{Answer}
use Rattle.card.specs.declared.Refusal.{Refusal}
use Rattle.card.specs.declared.Refusal.TheVariants.{Misshapen, Unsound, NotAllocated, BadOperand, NotOpened, IsRoot, CannotPoint, NoPointer, HasPointers, TooFewBlocks, TooFewPlaces, TimeEnds, BadRecord, NoRun, HasWriteKey, PriceTooHigh}
use Rattle.decoding.specs.Decode.{Decoding, data_of}
use Rattle.decoding.specs.Parsed.{ParsedIs}
use Rattle.decoding.specs.declared.Parsed.{Parsed}
use Rattle.parameters.specs.Numbers.{record_length, record_of, numbers_of}
use Rattle.parameters.specs.NumbersLaws.{numbers_record}
use Rattle.adapter.specs.Effects.{Effect, value_after, effect_of, effect, rule_effect, data_in, Gives}
use Rattle.fields.specs.Fields.{bad_record}

-- The number of a refusal fits 32 bits.
pub refusal_small : (r : Refusal) → refusal_number r ≤ 16
refusal_small Misshapen = omega arith
refusal_small Unsound = omega arith
refusal_small NotAllocated = omega arith
refusal_small BadOperand = omega arith
refusal_small NotOpened = omega arith
refusal_small IsRoot = omega arith
refusal_small CannotPoint = omega arith
refusal_small NoPointer = omega arith
refusal_small HasPointers = omega arith
refusal_small TooFewBlocks = omega arith
refusal_small TooFewPlaces = omega arith
refusal_small TimeEnds = omega arith
refusal_small BadRecord = omega arith
refusal_small NoRun = omega arith
refusal_small HasWriteKey = omega arith
refusal_small PriceTooHigh = omega arith

-- ---- refusals

module _ (input out places : List ℕ) (value : ℕ) (info : List ℕ) (c : Card) {d : Decoding} where
  -- There is no call.
  pub effect_bad : d ≡ Err bad_record → Gives (effect d input out places value info c) 13 value info c out places
  unfolding effect
  effect_bad e = rw e (record { does = record { answers = refl; records = refl; leaves = refl; fills_out = refl; fills_places = refl }; gives = refl })

  -- The record has not its numbers.
  pub effect_record : {port : Port} {call : Call} → d ≡ Ok (port, call) → (length info ≡ record_length → ⊥) → Gives (effect d input out places value info c) 1 value info c out places
  unfolding effect
  effect_record e n =
      rw (e, ne_eqb (length info) record_length n)
      (record { does = record { answers = refl; records = refl; leaves = refl; fills_out = refl; fills_places = refl }; gives = refl })

-- ---- a call

-- What a rule's result comes to, once its answer is reported and the record stored.
reported : {want : Result} (value : ℕ) (left : Info) (flags keys counts pointers multiplicities windows contents : List ℕ) {answer : Answer} {number given : ℕ} {numbers out places : List ℕ}
    → Is want answer (card left flags keys counts pointers multiplicities windows contents) out places → numbers ≡ numbers_of left → number ≡ answer_number answer → given ≡ value_after answer value
    → Gives (effect_of want value) number given numbers (card (record_of numbers) flags keys counts pointers multiplicities windows contents) out places
reported value left flags keys counts pointers multiplicities windows contents i s a g = record {
  does = record {
    answers = a ∙ ap answer_number i.answers;
    records = s ∙ ap (λ (after : Card). numbers_of after.public.info) i.leaves;
    leaves = ap (λ (xs : List ℕ). card (record_of xs) flags keys counts pointers multiplicities windows contents) s ∙ i.leaves;
    fills_out = i.fills_out;
    fills_places = i.fills_places;
  };
  gives = g ∙ ap (λ (r : Answer). value_after r value) i.answers;
}

-- The call was performed on the record that was loaded, and its answer reported.
module _ (input out places : List ℕ) (value : ℕ) (info flags keys counts pointers multiplicities windows contents : List ℕ) {d : Decoding} {port : Port} {call : Call} where
  pub effect_called : {loaded : Info} (left : Info) (flags' keys' counts' pointers' multiplicities' windows' contents' : List ℕ) {answer : Answer} {number given : ℕ} {numbers out' places' : List ℕ}
      → d ≡ Ok (port, call) → length info ≡ record_length → loaded ≡ record_of info
      → Is (perform port (card loaded flags keys counts pointers multiplicities windows contents) (request call input out places)) answer (card left flags' keys' counts' pointers' multiplicities' windows' contents') out' places'
      → numbers ≡ numbers_of left → number ≡ answer_number answer → given ≡ value_after answer value
      → Gives (effect d input out places value info (card (record_of info) flags keys counts pointers multiplicities windows contents)) number given numbers (card (record_of numbers) flags' keys' counts' pointers' multiplicities' windows' contents') out' places'
  unfolding effect
  effect_called left flags' keys' counts' pointers' multiplicities' windows' contents' {answer} {out' = out'} {places' = places'} e n l j s a g =
      let i : Is (perform port (card (record_of info) flags keys counts pointers multiplicities windows contents) (request call input out places)) answer (card left flags' keys' counts' pointers' multiplicities' windows' contents') out' places' =
      subst (λ (o : Info). Is (perform port (card o flags keys counts pointers multiplicities windows contents) (request call input out places)) answer (card left flags' keys' counts' pointers' multiplicities' windows' contents') out' places') l j in
      rw (e, eq-eqb (length info) record_length n) (reported value left flags' keys' counts' pointers' multiplicities' windows' contents' i s a g)

-- ---- buffers of no length

nil : (xs : List ℕ) → length xs ≡ 0 → xs ≡ []
nil [] h = refl
nil (x ∷ xs) h = absurd (omega arith)

module _ {want : Effect} {number given : ℕ} {numbers : List ℕ} {after : Card} {out places : List ℕ} (g : Gives want number given numbers after out places) where
  pub no_out : length out ≡ 0 → Gives want number given numbers after [] places
  no_out h = subst (λ (xs : List ℕ). Gives want number given numbers after xs places) (nil _ h) g

  pub no_places : length places ≡ 0 → Gives want number given numbers after out []
  no_places h = subst (λ (xs : List ℕ). Gives want number given numbers after out xs) (nil _ h) g

-- ---- what no record carries

module _ (rule : Card → Result) (places : List ℕ) (value : ℕ) (info : List ℕ) where
  -- The record has not its numbers.
  pub rule_record : (c : Card) → (length info ≡ record_length → ⊥) → Gives (rule_effect rule places value info c) 1 value info c [] places
  unfolding rule_effect
  rule_record c n =
      rw (ne_eqb (length info) record_length n)
      (record { does = record { answers = refl; records = refl; leaves = refl; fills_out = refl; fills_places = refl }; gives = refl })

  pub rule_done : (flags keys counts pointers multiplicities windows contents : List ℕ) {loaded : Info} (left : Info) (flags' keys' counts' pointers' multiplicities' windows' contents' : List ℕ)
      {answer : Answer} {number given : ℕ} {numbers places' : List ℕ}
      → length info ≡ record_length → loaded ≡ record_of info
      → Is (rule (card loaded flags keys counts pointers multiplicities windows contents)) answer (card left flags' keys' counts' pointers' multiplicities' windows' contents') [] places'
      → numbers ≡ numbers_of left → number ≡ answer_number answer → given ≡ value_after answer value
      → Gives (rule_effect rule places value info (card (record_of info) flags keys counts pointers multiplicities windows contents)) number given numbers (card (record_of numbers) flags' keys' counts' pointers' multiplicities' windows' contents') [] places'
  unfolding rule_effect
  rule_done flags keys counts pointers multiplicities windows contents left flags' keys' counts' pointers' multiplicities' windows' contents' {answer} {places' = places'} n l j s a g =
      let i : Is (rule (card (record_of info) flags keys counts pointers multiplicities windows contents)) answer (card left flags' keys' counts' pointers' multiplicities' windows' contents') [] places' =
      subst (λ (o : Info). Is (rule (card o flags keys counts pointers multiplicities windows contents)) answer (card left flags' keys' counts' pointers' multiplicities' windows' contents') [] places') l j in
      rw (eq-eqb (length info) record_length n) (reported value left flags' keys' counts' pointers' multiplicities' windows' contents' i s a g)

  -- The same of a rule that leaves record and tables.
  pub rule_listed : (flags keys counts pointers multiplicities windows contents : List ℕ) {loaded : Info} {answer : Answer} {number given : ℕ} {places' : List ℕ}
      → length info ≡ record_length → loaded ≡ record_of info
      → Is (rule (card loaded flags keys counts pointers multiplicities windows contents)) answer (card loaded flags keys counts pointers multiplicities windows contents) [] places'
      → number ≡ answer_number answer → given ≡ value_after answer value
      → Gives (rule_effect rule places value info (card (record_of info) flags keys counts pointers multiplicities windows contents)) number given info (card (record_of info) flags keys counts pointers multiplicities windows contents) [] places'
  rule_listed flags keys counts pointers multiplicities windows contents {loaded} n l i a g =
      rule_done flags keys counts pointers multiplicities windows contents loaded flags keys counts pointers multiplicities windows contents n l i
      (sym (numbers_record info n) ∙ ap (λ (o : Info). numbers_of o) (sym l)) a g

-- ---- a call record

-- The bytes that a call does not look at may be any.
same_input : (d : Decoding) {xs ys : List ℕ} (out places : List ℕ) (value : ℕ) (info : List ℕ) (c : Card) → ((port : Port) (call : Call) → d ≡ Ok (port, call) → xs ≡ ys)
    → effect d xs out places value info c ≡ effect d ys out places value info c
unfolding effect
same_input (Ok (port, call)) out places value info c h = rw (h port call refl)
same_input (Err bad) out places value info c h = refl

-- What the decoder gives as a record's data is what the record has beside its operands.
data_part : {want : Decoding} (body : List ℕ) {r : Parsed} → ParsedIs want body r → (port : Port) (call : Call) → r.decoding ≡ Ok (port, call)
    → take (r.end - r.payload) (drop r.payload body) ≡ data_in r.decoding body
unfolding data_in data_of
data_part body p port call e =
    rw e
    (ap₂ (λ (m n : ℕ). take (m - n) (drop n body)) (p.end_at e) (p.payload_at e))

pub of_record : {want : Decoding} (body out places : List ℕ) (value : ℕ) (info : List ℕ) (c : Card) {r : Parsed} {number given : ℕ} {info' : List ℕ} {after : Card} {out' places' : List ℕ}
    → ParsedIs want body r → Gives (effect r.decoding (take (r.end - r.payload) (drop r.payload body)) out places value info c) number given info' after out' places'
    → Gives (effect want (data_in want body) out places value info c) number given info' after out' places'
of_record body out places value info c {r} p g = rw (← p.decodes, ← same_input r.decoding out places value info c (data_part body p)) g
