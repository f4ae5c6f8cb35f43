-- What the decoder has found of a kind and its body, as it returns it.
use Rattle.std.specs.Prelude.{Some, Option, Ok, Err, Result, IsErr}
use Prim.Native.Nat.{ℕ, ◌≤◌}
use mathlib.Core.Path.{◌≡◌, refl, sym, ap, ◌∙◌}
use mathlib.Core.List.{List}
use native.Mathlib.Omega.{arith}
use lib.ListN.{length}
use Rattle.card.specs.declared.Port.{Port}
use Rattle.card.specs.declared.Call.{Call}
use Rattle.kinds.specs.Kinds.{length_of, operands_length, lengths_of, kind_of}
use Rattle.kinds.specs.Arithmetic.{lengths_at}
use Rattle.kinds.proofs.ArithmeticLaws.{kind_lengths}
use Rattle.kinds.specs.declared.Name.{Name}
use Rattle.kinds.specs.declared.Lengths.{Lengths}
use Rattle.decoding.specs.Decode.{Decoding, decode_call, name_of, length_by, decode_body}
use Rattle.decoding.proofs.DecodeLaws.{whole, decoded_kind}
use Rattle.decoding.specs.Parsed.{parsed_bad, ParsedIs}
use Rattle.decoding.specs.declared.Parsed.{Parsed}
use Rattle.fields.specs.Fields.{bad_record}
use Rattle.fields.specs.declared.BadRecord.{BadRecord}

-- ---- the lengths of a call

pub lengths_known : (wire : Port) (kind : ℕ) {known : Option (Port × Name)} {port : Port} {name : Name} {l : Lengths}
    → known ≡ kind_of wire kind → known ≡ Some (port, name) → l ≡ lengths_at kind → l ≡ lengths_of name
lengths_known wire kind of is h = kind_lengths wire kind (sym is ∙ of) h

pub body_is : {l : Lengths} (name : Name) → l ≡ lengths_of name → l.body ≡ length_of name
unfolding lengths_of
body_is name e = ap (λ (l : Lengths). l.body) e

operands_are : {l : Lengths} (name : Name) → l ≡ lengths_of name → l.operands ≡ operands_length name
unfolding lengths_of
operands_are name e = ap (λ (l : Lengths). l.operands) e

operands_most : (name : Name) → operands_length name ≤ length_of name
unfolding operands_length
operands_most name = omega arith

pub body_room : {l : Lengths} (name : Name) {n : ℕ} → l ≡ lengths_of name → l.body ≤ n → length_of name ≤ n
body_room name e h = rw (body_is name e) at h

-- ---- what is returned

-- What `?` returns of wrong operands: there is one refusal of them.
pub refused : {T : Type 0} (r : Result T BadRecord) → IsErr r → r ≡ Err bad_record
refused (Ok x) h = let z : ◌≡◌ {A = ℕ} 0 1 = cc in absurd (omega arith)
refused (Err bad) h = refl

pub parsed_bad_law : {want : Decoding} (xs : List ℕ) {r : Parsed} → r ≡ parsed_bad → Err bad_record ≡ want → ParsedIs want xs r
parsed_bad_law xs b e =
    rw b
    (record {
      decodes = e;
      ordered = omega arith;
      within = omega arith;
      payload_at = λ d. absurd (apart d);
      end_at = λ d. absurd (apart d);
    })
  where
    apart : {port : Port} {call : Call} → ◌≡◌ {A = Decoding} (Err bad_record) (Ok (port, call)) → ⊥
    apart d = let z : ◌≡◌ {A = ℕ} 0 1 = cc in omega arith

module _ (wire : Port) (kind : ℕ) (xs : List ℕ) {known : Option (Port × Name)} {port : Port} {name : Name} {l : Lengths} {d : Decoding} (of-kind : known ≡ kind_of wire kind) (Known-is : known ≡ Some (port, name))
    (lengths : l ≡ lengths_of name) (long : l.body ≤ length xs) (decoded : d ≡ decode_call port name xs) where
  decodes : d ≡ decode_body wire kind xs
  decodes = whole wire kind xs of-kind Known-is (body_is name lengths) long decoded

  -- The call that is decoded is the one of the kind.
  name_is : {p : Port} {call : Call} → d ≡ Ok (p, call) → Some name ≡ name_of call
  name_is {p} {call} e =
      let found = decoded_kind wire kind xs p call (sym e ∙ decodes) in
      ap Some (same (sym Known-is ∙ of-kind ∙ found.kind)) ∙ sym found.named
    where
      same : {a b : Port} {m n : Name} → ◌≡◌ {A = Option (Port × Name)} (Some (a, m)) (Some (b, n)) → m ≡ n
      same {a} {b} {m} {n} k = let pair : ◌≡◌ {A = Port × Name} (a, m) (b, n) = cc in ap (λ (p : Port × Name). p.1) pair

  pub parsed_call : ParsedIs (decode_body wire kind xs) xs (record { decoding = d; payload = l.operands; end = l.body })
  parsed_call = record {
    decodes = decodes;
    ordered = omega (arith, body_is name lengths, operands_are name lengths, operands_most name);
    within = long;
    payload_at = λ e. operands_are name lengths ∙ ap (length_by operands_length) (name_is e);
    end_at = λ e. body_is name lengths ∙ ap (length_by length_of) (name_is e);
  }
