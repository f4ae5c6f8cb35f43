-- What a function that C calls leaves: the number it returns, its result, the record as numbers, the card and the buffers.
use Rattle.std.specs.Prelude.{ℕ, ◌≡◌, cond, List, [], eqb, length, Some, None, Ok, Err}
use Rattle.card.specs.Card.{Card}
use Rattle.card.specs.Lent.{Lent, LentNumber, at_entry, at_exit}
use Rattle.card.specs.Plan.{Result}
use Rattle.card.specs.Calls.{answer_number, format}
use Rattle.card.specs.Session.{request, perform}
use Rattle.card.specs.Answers.{Answer}
use Rattle.report.specs.Report.{reach_report, unlocking_report}
use Rattle.decoding.specs.Decode.{Decoding, data_of}
use Rattle.parameters.specs.Numbers.{record_length, record_of, numbers_of}

pub record Effect : Type 0 where
  pub number : ℕ
  pub value : ℕ
  pub info : List ℕ
  pub after : Card
  pub out : List ℕ
  pub places : List ℕ

-- A call with a result puts it in the place that the caller lends for it.
abbrev pub value_after : Answer → ℕ → ℕ
value_after (Err r) value = value
value_after (Ok None) value = value
value_after (Ok (Some v)) value = v

-- What the result of a rule comes to.
abbrev pub effect_of : Result → ℕ → Effect
effect_of r value = record {
  number = answer_number r.answer;
  value = value_after r.answer value;
  info = numbers_of r.after.public.info;
  after = r.after;
  out = r.out;
  places = r.places;
}

-- A refusal changes nothing.
abbrev pub refused_effect : ℕ → List ℕ → List ℕ → ℕ → List ℕ → Card → Effect
refused_effect number out places value info c = record { number = number; value = value; info = info; after = c; out = out; places = places }

-- A call, if the operands or the bytes hold one, else 13; and 1 where the record has not its numbers.
unfoldable pub effect : Decoding → List ℕ → List ℕ → List ℕ → ℕ → List ℕ → Card → Effect
effect (Ok (port, call)) input out places value info c =
    cond (eqb (length info) record_length) (effect_of (perform port c (request call input out places)) value) (refused_effect 1 out places value info c)
effect (Err bad) input out places value info c = refused_effect 13 out places value info c

-- ---- what no record carries

-- A rule of its own: 1 where the record has not its numbers.
unfoldable pub rule_effect : (Card → Result) → List ℕ → ℕ → List ℕ → Card → Effect
rule_effect rule places value info c = cond (eqb (length info) record_length) (effect_of (rule c) value) (refused_effect 1 [] places value info c)

-- FORMAT, which has no record to be sound.
abbrev pub format_effect : ℕ → ℕ → ℕ → List ℕ → Card → Effect
format_effect blocks roots bytes info c = rule_effect (format blocks roots bytes) [] 0 info c

-- 2026-03: the two lists of the reach report.
abbrev pub reach_effect : List ℕ → List ℕ → ℕ → List ℕ → Card → Effect
reach_effect words places value info c = rule_effect (reach_report words places) places value info c

abbrev pub unlocking_effect : List ℕ → ℕ → List ℕ → ℕ → List ℕ → Card → Effect
unlocking_effect words chosen places value info c = rule_effect (unlocking_report words chosen places) places value info c

-- ---- a call record

-- The bytes that a record has beside its operands.
unfoldable pub data_in : Decoding → List ℕ → List ℕ
data_in (Ok (port, call)) body = data_of call body
data_in (Err bad) body = []

-- ---- what the contracts cite

-- The number that is returned, and what the lent record, tables and buffers hold.
pub record Does (want : Effect) (number : ℕ) (info : List ℕ) (after : Card) (out places : List ℕ) : Type 0 where
  pub answers : number ≡ want.number
  pub records : info ≡ want.info
  pub leaves : after ≡ want.after
  pub fills_out : out ≡ want.out
  pub fills_places : places ≡ want.places

-- The same of a function that may have a result.
pub record Gives (want : Effect) (number value : ℕ) (info : List ℕ) (after : Card) (out places : List ℕ) : Type 0 where
  pub does : Does want number info after out places
  pub gives : value ≡ want.value

-- What a function returns and leaves is the effect of the rule on the record and the card at its entry.
abbrev pub Effects : (List ℕ → Card → Effect) → Lent → Lent → Lent → Lent → Lent → Lent → Lent → Lent → ℕ → List ℕ → List ℕ → Type 0
Effects rule info flags keys counts pointers multiplicities windows contents r out places =
    Does (rule info.entry (at_entry (record_of info.entry) flags keys counts pointers multiplicities windows contents))
    r
    info.exit
    (at_exit (record_of info.exit) flags keys counts pointers multiplicities windows contents)
    out
    places

-- The same of a function that may have a result.
abbrev pub EffectsGiving : (ℕ → List ℕ → Card → Effect) → Lent → Lent → Lent → Lent → Lent → Lent → Lent → Lent → LentNumber → ℕ → Type 0
EffectsGiving rule info flags keys counts pointers multiplicities windows contents value r =
    Gives (rule value.entry info.entry (at_entry (record_of info.entry) flags keys counts pointers multiplicities windows contents))
    r
    value.exit
    info.exit
    (at_exit (record_of info.exit) flags keys counts pointers multiplicities windows contents)
    []
    []

-- The same of a function that any call may be given to, so that it is lent READ's buffer and the places of ALLOC and ALLOC_CONTIG.
abbrev pub EffectsLent : (List ℕ → List ℕ → ℕ → List ℕ → Card → Effect) → Lent → Lent → Lent → Lent → Lent → Lent → Lent → Lent → Lent → Lent → LentNumber → ℕ → Type 0
EffectsLent rule info flags keys counts pointers multiplicities windows contents out places value r =
    Gives
    (rule out.entry places.entry value.entry info.entry (at_entry (record_of info.entry) flags keys counts pointers multiplicities windows contents))
    r
    value.exit
    info.exit
    (at_exit (record_of info.exit) flags keys counts pointers multiplicities windows contents)
    out.exit
    places.exit

-- The same of a function that lists numbers in lent places, and is lent the record and the tables to read.
abbrev pub EffectsListing : (List ℕ → ℕ → List ℕ → Card → Effect) → Lent → Lent → Lent → Lent → Lent → Lent → Lent → Lent → Lent → LentNumber → ℕ → Type 0
EffectsListing rule info flags keys counts pointers multiplicities windows contents places value r =
    Gives
    (rule places.entry value.entry info.entry (at_entry (record_of info.entry) flags keys counts pointers multiplicities windows contents))
    r
    value.exit
    info.exit
    (at_exit (record_of info.exit) flags keys counts pointers multiplicities windows contents)
    []
    places.exit
