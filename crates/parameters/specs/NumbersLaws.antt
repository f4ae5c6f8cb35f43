-- Laws of the record and of ports as numbers.
use Rattle.std.specs.Prelude.{ℕ, ◌<◌, ◌≡◌, refl, List, [], ◌∷◌, length, get_or, set, Ok, Err, Option, Some, None, Result}
use Rattle.std.proofs.Common.{ap, ◌∙◌, arith, length-set}
use Rattle.card.specs.Plan.{with_used, with_time}
use Rattle.card.specs.Calls.{fresh_info}
use Rattle.card.specs.declared.Info.{Info}
use Rattle.card.specs.declared.Port.{Port}
use Rattle.card.specs.declared.Call.{Call}
use Rattle.decoding.specs.Decode.{call_of, Decoding, decode_body}
use Rattle.decoding.specs.Parsed.{ParsedIs}
use Rattle.decoding.specs.declared.Parsed.{Parsed}
use Rattle.parameters.specs.Numbers.{record_length, record_of, numbers_of, wire_of, call_at, at_port, decode_at}
use Rattle.fields.specs.Fields.{bad_record}
use Rattle.fields.specs.declared.BadRecord.{BadRecord}

pub loaded : (xs : List ℕ) {fresh used timed : Info} → fresh ≡ fresh_info (get_or xs 0 0) (get_or xs 1 0) (get_or xs 2 0) → used ≡ with_used fresh (get_or xs 3 0) → timed ≡ with_time used (get_or xs 4 0) (get_or xs 5 0)
    → timed ≡ record_of xs
loaded xs f u t = t ∙ ap (λ (i : Info). with_time i (get_or xs 4 0) (get_or xs 5 0)) (u ∙ ap (λ (i : Info). with_used i (get_or xs 3 0)) f)

-- There is a fifth place behind the four that were stored to, and a sixth behind five.
module _ (xs : List ℕ) (a b c d : ℕ) (h : length xs ≡ record_length) where
  pub still_fifth : 4 < length (set (set (set (set xs 0 a) 1 b) 2 c) 3 d)
  still_fifth = rw (length-set, length-set, length-set, length-set, h) (omega arith)

  pub still_sixth : (e : ℕ) → 5 < length (set (set (set (set (set xs 0 a) 1 b) 2 c) 3 d) 4 e)
  still_sixth e = rw (length-set, length-set, length-set, length-set, length-set, h) (omega arith)

pub stored : (xs : List ℕ) (i : Info) → length xs ≡ record_length → set (set (set (set (set (set xs 0 i.blocks) 1 i.roots) 2 i.bytes) 3 i.used) 4 i.time) 5 i.total ≡ numbers_of i
stored (a ∷ b ∷ c ∷ d ∷ e ∷ f ∷ []) i h = refl
stored [] i h = absurd (omega arith)
stored (a ∷ []) i h = absurd (omega arith)
stored (a ∷ b ∷ []) i h = absurd (omega arith)
stored (a ∷ b ∷ c ∷ []) i h = absurd (omega arith)
stored (a ∷ b ∷ c ∷ d ∷ []) i h = absurd (omega arith)
stored (a ∷ b ∷ c ∷ d ∷ e ∷ []) i h = absurd (omega arith)
stored (a ∷ b ∷ c ∷ d ∷ e ∷ f ∷ g ∷ xs) i h = absurd (omega arith)

-- The record of its numbers has these numbers.
pub numbers_record : (xs : List ℕ) → length xs ≡ record_length → numbers_of (record_of xs) ≡ xs
numbers_record (a ∷ b ∷ c ∷ d ∷ e ∷ f ∷ []) h = refl
numbers_record [] h = absurd (omega arith)
numbers_record (a ∷ []) h = absurd (omega arith)
numbers_record (a ∷ b ∷ []) h = absurd (omega arith)
numbers_record (a ∷ b ∷ c ∷ []) h = absurd (omega arith)
numbers_record (a ∷ b ∷ c ∷ d ∷ []) h = absurd (omega arith)
numbers_record (a ∷ b ∷ c ∷ d ∷ e ∷ []) h = absurd (omega arith)
numbers_record (a ∷ b ∷ c ∷ d ∷ e ∷ f ∷ g ∷ xs) h = absurd (omega arith)

-- ---- ports

module _ (port : ℕ) {w : Option Port} (found : w ≡ wire_of port) where
  pub call_nowhere : (call : Call) → w ≡ None → Err bad_record ≡ call_at (wire_of port) call
  unfolding call_at
  call_nowhere call n = rw (← found, n)

  pub call_at_law : (call : Call) {wire : Port} → w ≡ Some wire → Ok (wire, call) ≡ call_at (wire_of port) call
  unfolding call_at
  call_at_law call a = rw (← found, a)

  pub decodes_nowhere : (kind : ℕ) (xs : List ℕ) → w ≡ None → Err bad_record ≡ decode_at (wire_of port) kind xs
  unfolding decode_at
  decodes_nowhere kind xs n = rw (← found, n)

  pub decodes_at : (kind : ℕ) (xs : List ℕ) {wire : Port} {r : Parsed} → w ≡ Some wire → ParsedIs (decode_body wire kind xs) xs r → ParsedIs (decode_at (wire_of port) kind xs) xs r
  unfolding decode_at
  decodes_at kind xs a p = rw (← found, a) p

-- There is no call.
pub call_bad : (port : ℕ) {d : Decoding} {bad : BadRecord} → d ≡ Err bad → Err bad ≡ at_port port d
unfolding at_port
call_bad port e = rw e

-- ---- the call of operands

module _ {A : Type 0} (port : ℕ) (at : Port) (make : A → Call) {r : Result A BadRecord} where
  pub made : {o : A} {d : Decoding} → Ok o ≡ r → d ≡ call_at (wire_of port) (make o) → d ≡ at_port port (call_of at make r)
  unfolding at_port call_of
  made e h = rw (← e) h

  -- There is no call.
  pub not_made : {bad : BadRecord} {d : Decoding} → d ≡ Err bad → Err bad ≡ r → d ≡ at_port port (call_of at make r)
  unfolding at_port call_of
  not_made b e = rw (← e) b
