-- `KindsDecoded`, by the length that the table of all kinds has for a kind.
use Rattle.std.specs.Prelude.{Option, Some, None, Ok, Err}
use Prim.Native.Nat.{ℕ}
use mathlib.Core.Path.{◌≡◌, refl, sym, ap, subst, ◌∙◌}
use mathlib.Core.Bool.{true}
use mathlib.Core.List.{List, ◌∷◌}
use lib.ListN.{drop, get_or, replicate}
use native.Mathlib.Omega.{arith}
use Rattle.fields.specs.Bytes.{number, zeroed}
use Rattle.fields.specs.Fields.{bad_record, credential, new_key}
use Rattle.kinds.specs.Kinds.{row, length_of, kind_of, kind_length, body_length}
use Rattle.kinds.specs.AllKinds.{expected}
use Rattle.kinds.proofs.AllKindsLaws.{expected_at}
use Rattle.kinds.specs.declared.Name.{Name}
use Rattle.kinds.specs.declared.Name.TheVariants.{Read as READ, Write as WRITE, Alloc as ALLOC, Create as CREATE, Delete as DELETE, KeyRead as KEY-READ, Renew as RENEW, Force as FORCE, Free as FREE, Tick as TICK, Audit as AUDIT, AllocContig as ALLOC-CONTIG, KeyWrite as KEY-WRITE, DeleteTree as DELETE-TREE}
use Rattle.card.specs.declared.Port.{Port}
use Rattle.decoding.specs.Decode.{Decoding, Next, refused, call_of, decode_call, decode_known, decode_body, next_of, length_by, body_of, decode, with_credential, create_operands, key_operands, renew_operands}
use Rattle.decoding.proofs.DecodeLaws.{unknown_kind, short_kind, decoded_kind}
use Rattle.decoding.specs.Statements.{Leaves, is_call, DecodedBy, KindsDecoded}

-- ---- a kind that has no length, and a body cut short

refused_bad : (xs : List ℕ) {d : Decoding} → d ≡ Err bad_record → next_of xs d ≡ refused
unfolding next_of
refused_bad xs e = rw e

-- ---- a call that is found is the kind's, and so is the length of its body

leaves_body : (wire : Port) (kind : ℕ) (xs : List ℕ) (n : ℕ) → body_length wire kind ≡ Some n → (d : Decoding) → d ≡ decode_body wire kind xs → Leaves n xs (next_of xs d)
unfolding next_of body_length kind_length
leaves_body wire kind xs n l (Ok (p, call)) e port found payload rest h =
    let known = decoded_kind wire kind xs p call e in
    let length_is : Some (length_of known.name) ≡ Some n = ap kind_length (sym known.kind) ∙ l in
    let same : length_of known.name ≡ n = cc in
    let left : rest ≡ drop (body_of call) xs = cc in
    left ∙ ap (λ (k : ℕ). drop k xs) (ap (length_by length_of) known.named ∙ same)
leaves_body wire kind xs n l (Err bad) e port found payload rest h = let z : ◌≡◌ {A = ℕ} 0 1 = cc in absurd (omega arith)

-- ---- zeros: block 0, nothing for a credential and no new key

abbrev zeros_of : Option (Port × Name) → ℕ → Next
zeros_of k n = next_of (replicate n 0) (decode_known k (replicate n 0))

zeros_call : (port : Port) (name : Name) → is_call (zeros_of (Some (port, name)) (length_of name)) ≡ true
unfolding row length_of number zeroed credential new_key call_of with_credential create_operands key_operands renew_operands decode_call decode_known next_of
zeros_call port READ = refl
zeros_call port WRITE = refl
zeros_call port ALLOC = refl
zeros_call port CREATE = refl
zeros_call port DELETE = refl
zeros_call port KEY-READ = refl
zeros_call port RENEW = refl
zeros_call port FORCE = refl
zeros_call port FREE = refl
zeros_call port TICK = refl
zeros_call port AUDIT = refl
zeros_call port ALLOC-CONTIG = refl
zeros_call port KEY-WRITE = refl
zeros_call port DELETE-TREE = refl

zeros_kind : (k : Option (Port × Name)) (n : ℕ) → kind_length k ≡ Some n → is_call (zeros_of k n) ≡ true
unfolding kind_length
zeros_kind (Some (port, name)) n e =
    let same : length_of name ≡ n = cc in
    subst (λ (m : ℕ). is_call (zeros_of (Some (port, name)) m) ≡ true) same (zeros_call port name)
zeros_kind None n e = let z : ◌≡◌ {A = ℕ} 0 1 = cc in absurd (omega arith)

-- ---- by the table of all kinds

by_length : (wire : Port) (kind : ℕ) (l : Option ℕ) → l ≡ body_length wire kind → DecodedBy l (λ xs. decode wire (kind ∷ xs))
unfolding decode decode_body body_length
by_length wire kind None e = λ xs. refused_bad xs (unknown_kind (kind_of wire kind) xs (sym e))
by_length wire kind (Some n) e =
    record {
      short = λ xs h. refused_bad xs (short_kind (kind_of wire kind) xs n (sym e) h);
      leaves = λ xs. leaves_body wire kind xs n (sym e) (decode_body wire kind xs) refl;
      enough = zeros_kind (kind_of wire kind) n (sym e);
    }

pub kinds_decoded : KindsDecoded
kinds_decoded wire kind h = by_length wire kind (get_or (expected wire) kind None) (expected_at wire kind h)
