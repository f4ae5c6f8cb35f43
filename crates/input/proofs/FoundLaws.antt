-- Laws of a record found in an input: from what the code finds to what the rules decode.
use Rattle.std.specs.Prelude.{ℕ, ◌+◌, ◌-◌, ◌≤◌, ◌<◌, ◌≡◌, Bool, length, get_or, Option, Some, None, Ok, Err}
use Rattle.std.proofs.Common.{sym, ◌∙◌, subst, add-one, length-drop, take_all, drop-cons, lt-ltb, le-ltb}
use Rattle.std.proofs.Math.Path.{ap, ap₂}
use Rattle.std.proofs.Math.Bool.{cond}
use mathlib.Core.List.{List, ◌∷◌}
use native.Mathlib.Omega.{arith}
use Rattle.std.proofs.Math.ListN.{take, drop}
use Rattle.std.proofs.Math.Seq.{drop-drop, drop-length}
use Rattle.card.specs.declared.Port.{Port}
use Rattle.card.specs.declared.Call.{Call}
use Rattle.kinds.specs.Kinds.{kind_of, body_length}
use Rattle.decoding.specs.Decode.{ended, sent, decode_body, body_of, operands_of, data_of, next_of, decode}
use Rattle.decoding.proofs.DecodeLaws.{unknown_kind, short_kind}
use Rattle.decoding.specs.Parsed.{ParsedIs}
use Rattle.decoding.specs.declared.Parsed.{Parsed}
use Rattle.input.specs.Play.{is_short, fault}
use Rattle.input.specs.Found.{Found, WholeIs, NothingIs, FoundIs}
use Rattle.input.specs.declared.Stop.TheVariants.{Short, Refused}
use Rattle.input.specs.declared.Record.{Record}
use Rattle.fields.specs.Fields.{bad_record}

-- ---- where the input is at its end

pub found_ended : (wire : Port) (input : List ℕ) (from : ℕ) → from ≡ length input → decode wire (drop from input) ≡ ended
unfolding decode
found_ended wire input from e = rw (e, drop-length input)

-- ---- where a record starts

module _ (wire : Port) (input : List ℕ) (from : ℕ) (h : from < length input) where
  -- The bytes behind the kind, as the code has them.
  abbrev behind_kind : List ℕ
  behind_kind = take (length input - (from + 1)) (drop (from + 1) input)

  abbrev kind : ℕ
  kind = get_or input from 0

  body_whole : behind_kind ≡ drop (from + 1) input
  body_whole = take_all (length input - (from + 1)) (drop (from + 1) input) (omega (arith, length-drop (from + 1) input))

  body_length_law : length behind_kind ≡ length input - (from + 1)
  body_length_law = ap length body_whole ∙ length-drop (from + 1) input

  pub starts : drop from input ≡ kind ∷ behind_kind
  starts = drop-cons input from 0 h ∙ ap (λ (n : ℕ). kind ∷ drop n input) (sym (add-one from)) ∙ ap (λ (xs : List ℕ). kind ∷ xs) (sym body_whole)

  decodes_next : decode wire (drop from input) ≡ next_of behind_kind (decode_body wire kind behind_kind)
  unfolding decode
  decodes_next = rw starts

  fault_here : fault wire (drop from input) ≡ cond (is_short (body_length wire kind) (length behind_kind)) Short Refused
  unfolding fault
  fault_here = rw starts

  pub found_unknown : {l : Option ℕ} → l ≡ body_length wire kind → l ≡ None → NothingIs wire (drop from input) Refused
  unfolding next_of decode_body body_length is_short
  found_unknown e u =
      (decodes_next ∙ ap (next_of behind_kind) (unknown_kind (kind_of wire kind) behind_kind (sym e ∙ u)), fault_here ∙ ap (λ (l : Option ℕ). cond (is_short l (length behind_kind)) Short Refused) (sym e ∙ u))

  pub found_short : {l : Option ℕ} {n : ℕ} → l ≡ body_length wire kind → l ≡ Some n → length behind_kind < n → NothingIs wire (drop from input) Short
  unfolding next_of decode_body body_length is_short
  found_short {n = n} e u s = (
    decodes_next ∙ ap (next_of behind_kind) (short_kind (kind_of wire kind) behind_kind n (sym e ∙ u) s),
    fault_here ∙ ap (λ (l : Option ℕ). cond (is_short l (length behind_kind)) Short Refused) (sym e ∙ u) ∙ ap (λ (t : Bool). cond t Short Refused) (lt-ltb (length behind_kind) n s),
  )

  pub found_bad : {l : Option ℕ} {n : ℕ} {r : Parsed} → l ≡ body_length wire kind → l ≡ Some n → n ≤ length behind_kind → ParsedIs (decode_body wire kind behind_kind) behind_kind r → r.decoding ≡ Err bad_record → NothingIs wire (drop from input) Refused
  unfolding next_of is_short
  found_bad {n = n} e u s p b = (
    decodes_next ∙ ap (next_of behind_kind) (sym p.decodes ∙ b),
    fault_here ∙ ap (λ (l : Option ℕ). cond (is_short l (length behind_kind)) Short Refused) (sym e ∙ u) ∙ ap (λ (t : Bool). cond t Short Refused) (le-ltb (length behind_kind) n s),
  )

  pub found_whole : {r : Parsed} {port : Port} {call : Call} → ParsedIs (decode_body wire kind behind_kind) behind_kind r → r.decoding ≡ Ok (port, call)
      → WholeIs wire input from (record { kind = kind; port = port; call = call; payload = from + 1 + r.payload; next = from + 1 + r.end })
  unfolding next_of data_of
  found_whole {r} {port} {call} p e =
      let operands_end : r.payload ≡ operands_of call = p.payload_at e in
      let body_end : r.end ≡ body_of call = p.end_at e in
      let size : body_of call - operands_of call ≡ from + 1 + r.end - (from + 1 + r.payload) = omega arith in
      let payload_is : take (body_of call - operands_of call) (drop (operands_of call) behind_kind) ≡ take (from + 1 + r.end - (from + 1 + r.payload)) (drop (from + 1 + r.payload) input) =
      ap₂ (λ (m : ℕ) (ys : List ℕ). take m ys) size
      (ap₂ (λ (m : ℕ) (ys : List ℕ). drop m ys) (sym operands_end) body_whole ∙ drop-drop r.payload (from + 1) input) in
      let rest_is : drop (body_of call) behind_kind ≡ drop (from + 1 + r.end) input =
      ap₂ (λ (m : ℕ) (ys : List ℕ). drop m ys) (sym body_end) body_whole ∙ drop-drop r.end (from + 1) input in
      record {
        decodes = decodes_next ∙ ap (next_of behind_kind) (sym p.decodes ∙ e) ∙ ap₂ (sent port call) payload_is rest_is;
        has_kind = rw starts;
        payload_within = omega (arith, p.ordered);
        next_within = omega (arith, p.within, body_length_law);
      }

-- The bounds of a whole record.
pub whole_within : (wire : Port) (input : List ℕ) (from : ℕ) {found : Found} {r : Record} → FoundIs wire input from found → found ≡ Ok r → (r.payload ≤ r.next) × (r.next ≤ length input)
whole_within wire input from {r = r} f e = let w : WholeIs wire input from r = subst (FoundIs wire input from) e f in (w.payload_within, w.next_within)
