-- What an input starts with does not change when more bytes follow it.
use Rattle.std.specs.Prelude.{Ok, Err}
use Prim.Native.Nat.{ℕ, zero, suc, ◌+◌, ◌-◌, ◌*◌, ◌≤◌, ◌<◌}
use mathlib.Core.Path.{◌≡◌, refl, sym, ap, ap₂, ◌∙◌}
use mathlib.Core.Bool.{Bool, ◌&&◌}
use mathlib.Core.List.{List, [], ◌∷◌, ◌++◌}
use native.Mathlib.Omega.{arith}
use lib.Dec.{eqb}
use lib.ListN.{length, take, drop, get_or, length-append, length-drop}
use lib.Seq.{get_or-drop, drop-append-le, take-append-le}
use borrow.Author.Tests.{le-leb}
use Rattle.card.specs.declared.Port.{Port}
use Rattle.card.specs.declared.Mode.{Mode}
use Rattle.card.specs.declared.Mode.TheVariants.{Reading, Writing}
use Rattle.card.specs.declared.Call.{Call}
use Rattle.fields.specs.Bytes.{number, zeroed}
use Rattle.kinds.specs.Kinds.{row, length_of, kind_of}
use Rattle.kinds.proofs.KindsLaws.{parts}
use Rattle.fields.specs.Fields.{credential, new_key}
use Rattle.decoding.specs.Decode.{Decoding, decode_key, decode_call, decode_known, decode_body, body_of, operands_of, data_of, Next, ended, refused, sent, next_of, decode}
use Rattle.decoding.proofs.DecodeLaws.{OfKind, decoded_kind}
use Rattle.kinds.specs.declared.Name.{Name}
use Rattle.kinds.specs.declared.Name.TheVariants.{Read as READ, Write as WRITE, Alloc as ALLOC, Create as CREATE, Delete as DELETE, KeyRead as KEY-READ, Renew as RENEW, Force as FORCE, Free as FREE, Tick as TICK, Audit as AUDIT, AllocContig as ALLOC-CONTIG, KeyWrite as KEY-WRITE, DeleteTree as DELETE-TREE}

-- ---- lists that agree on their first bytes

abbrev Agree : ℕ → List ℕ → List ℕ → Type 0
Agree n xs ys = (i : ℕ) → i < n → get_or xs i 0 ≡ get_or ys i 0

number_same : (n : ℕ) (xs ys : List ℕ) → Agree n xs ys → number n xs ≡ number n ys
unfolding number
number_same zero xs ys a = refl
number_same (suc n) xs ys a = ap₂ (λ (p q : ℕ). p * 256 + q) (number_same n xs ys (λ i h. a i (omega arith))) (a n (omega arith))

zeroed_same : (n : ℕ) (xs ys : List ℕ) → Agree n xs ys → zeroed n xs ≡ zeroed n ys
unfolding zeroed
zeroed_same zero xs ys a = refl
zeroed_same (suc n) xs ys a = ap₂ (λ (p : Bool) (q : ℕ). p && eqb q 0) (zeroed_same n xs ys (λ i h. a i (omega arith))) (a n (omega arith))

agree_drop : (n from k : ℕ) (xs ys : List ℕ) → Agree n xs ys → from + k ≤ n → Agree k (drop from xs) (drop from ys)
agree_drop n from k xs ys a h i b = get_or-drop from xs i 0 ∙ a (from + i) (omega arith) ∙ sym (get_or-drop from ys i 0)

module _ (xs ys : List ℕ) (a : Agree 17 xs ys) where
  -- A number within the 17 bytes.
  number_within : (from k : ℕ) → from + k ≤ 17 → number k (drop from xs) ≡ number k (drop from ys)
  number_within from k h = number_same k (drop from xs) (drop from ys) (agree_drop 17 from k xs ys a h)

  filler_same : (from k : ℕ) → from + k ≤ 17 → zeroed k (drop from xs) ≡ zeroed k (drop from ys)
  filler_same from k h = zeroed_same k (drop from xs) (drop from ys) (agree_drop 17 from k xs ys a h)

  credential_same : credential xs ≡ credential ys
  unfolding credential
  credential_same = rw (a 0 (omega arith), filler_same 1 16 (omega arith), filler_same 3 14 (omega arith), number_within 1 2 (omega arith), number_within 1 8 (omega arith), number_within 9 8 (omega arith))

  new_key_same : new_key xs ≡ new_key ys
  unfolding new_key
  new_key_same = rw (a 0 (omega arith), filler_same 1 16 (omega arith), number_within 1 8 (omega arith), number_within 9 8 (omega arith))

-- ---- a body

module _ (n : ℕ) (xs ys : List ℕ) (a : Agree n xs ys) where
  first_same : (k : ℕ) → k ≤ n → number k xs ≡ number k ys
  first_same k h = number_same k xs ys (λ i b. a i (omega arith))

  operand_same : (from k : ℕ) → from + k ≤ n → number k (drop from xs) ≡ number k (drop from ys)
  operand_same from k h = number_same k (drop from xs) (drop from ys) (agree_drop n from k xs ys a h)

  credential_within : (from : ℕ) → from + 17 ≤ n → credential (drop from xs) ≡ credential (drop from ys)
  credential_within from h = credential_same (drop from xs) (drop from ys) (agree_drop n from 17 xs ys a h)

  new_key_within : (from : ℕ) → from + 17 ≤ n → new_key (drop from xs) ≡ new_key (drop from ys)
  new_key_within from h = new_key_same (drop from xs) (drop from ys) (agree_drop n from 17 xs ys a h)

-- KEY_READ and KEY_WRITE have the same body.
key_same : (port : Port) (mode : Mode) (xs ys : List ℕ) → Agree 36 xs ys → decode_key port mode xs ≡ decode_key port mode ys
key_same port mode xs ys a = rw (first_same 36 xs ys a 2 (omega arith), credential_within 36 xs ys a 2 (omega arith), new_key_within 36 xs ys a 19 (omega arith))

call_same : (port : Port) (name : Name) (xs ys : List ℕ) → Agree (length_of name) xs ys → decode_call port name xs ≡ decode_call port name ys
unfolding decode_call length_of row
call_same port READ xs ys a = rw (first_same 23 xs ys a 2 (omega arith), operand_same 23 xs ys a 19 4 (omega arith), credential_within 23 xs ys a 2 (omega arith))
call_same port WRITE xs ys a = rw (first_same 535 xs ys a 2 (omega arith), operand_same 535 xs ys a 19 4 (omega arith), credential_within 535 xs ys a 2 (omega arith))
call_same port ALLOC xs ys a = rw (first_same 22 xs ys a 2 (omega arith), operand_same 22 xs ys a 19 2 (omega arith), credential_within 22 xs ys a 2 (omega arith), a 21 (omega arith))
call_same port CREATE xs ys a = rw (first_same 38 xs ys a 2 (omega arith), operand_same 38 xs ys a 19 2 (omega arith), credential_within 38 xs ys a 2 (omega arith), credential_within 38 xs ys a 21 (omega arith))
call_same port DELETE xs ys a = rw (first_same 21 xs ys a 2 (omega arith), operand_same 21 xs ys a 19 2 (omega arith), credential_within 21 xs ys a 2 (omega arith))
call_same port DELETE-TREE xs ys a = rw (first_same 21 xs ys a 2 (omega arith), operand_same 21 xs ys a 19 2 (omega arith), credential_within 21 xs ys a 2 (omega arith))
call_same port KEY-READ xs ys a = key_same port Reading xs ys a
call_same port RENEW xs ys a =
    rw (a 0 (omega arith), operand_same 23 xs ys a 1 2 (omega arith), operand_same 23 xs ys a 3 8 (omega arith), operand_same 23 xs ys a 11 8 (omega arith), operand_same 23 xs ys a 19 4 (omega arith))
call_same port FORCE xs ys a = rw (first_same 2 xs ys a 2 (omega arith))
call_same port FREE xs ys a = refl
call_same port TICK xs ys a = rw (first_same 8 xs ys a 8 (omega arith))
call_same port AUDIT xs ys a = refl
call_same port ALLOC-CONTIG xs ys a = rw (first_same 22 xs ys a 2 (omega arith), operand_same 22 xs ys a 19 2 (omega arith), credential_within 22 xs ys a 2 (omega arith), a 21 (omega arith))
call_same port KEY-WRITE xs ys a = key_same port Writing xs ys a

-- ---- a record

module _ (wire : Port) (kind : ℕ) (xs ys : List ℕ) {port : Port} {call : Call} (e : Ok (port, call) ≡ decode_body wire kind xs) where
  known : OfKind (kind_of wire kind) xs port call
  known = decoded_kind wire kind xs port call e

  agrees : Agree (length_of known.name) (xs ++ ys) xs
  agrees i h = get_d_front xs ys i (omega (arith, known.whole))
    where
      get_d_front : (us vs : List ℕ) (j : ℕ) → j < length us → get_or (us ++ vs) j 0 ≡ get_or us j 0
      get_d_front [] vs j b = absurd (omega arith)
      get_d_front (u ∷ us) vs zero b = refl
      get_d_front (u ∷ us) vs (suc j) b = get_d_front us vs j (omega arith)

  body_longer : decode_body wire kind (xs ++ ys) ≡ Ok (port, call)
  unfolding decode_body decode_known
  body_longer =
      rw (known.kind, le-leb (length_of known.name) (length (xs ++ ys)) (omega (arith, length-append xs ys, known.whole)))
      (call_same port known.name (xs ++ ys) xs agrees ∙ sym (rw (known.kind, le-leb (length_of known.name) (length xs) known.whole) at e))

  whole_body : body_of call ≤ length xs
  whole_body = rw known.named known.whole

  operands_in_body : operands_of call ≤ body_of call
  operands_in_body = rw known.named (omega (arith, parts known.name))

  data_longer : data_of call (xs ++ ys) ≡ data_of call xs
  unfolding data_of
  data_longer =
      let fits : operands_of call ≤ length xs = omega (arith, operands_in_body, whole_body) in
      ap (take (body_of call - operands_of call)) (drop-append-le (operands_of call) xs ys fits)
      ∙ take-append-le (body_of call - operands_of call) (drop (operands_of call) xs) ys (omega (arith, whole_body, length-drop (operands_of call) xs))

  next_is : next_of (xs ++ ys) (decode_body wire kind (xs ++ ys)) ≡ sent port call (data_of call xs) (drop (body_of call) xs ++ ys)
  unfolding next_of
  next_is = rw body_longer (ap₂ (sent port call) data_longer (drop-append-le (body_of call) xs ys whole_body))

-- The same call with more bytes behind it.
abbrev followed : List ℕ → Next → Next
followed ys ended = ended
followed ys refused = refused
followed ys (sent port call payload rest) = sent port call payload (rest ++ ys)

next_longer : (wire : Port) (kind : ℕ) (xs ys : List ℕ) (d : Decoding) {port : Port} {call : Call} {payload rest : List ℕ} → d ≡ decode_body wire kind xs → next_of xs d ≡ sent port call payload rest
    → next_of (xs ++ ys) (decode_body wire kind (xs ++ ys)) ≡ sent port call payload (rest ++ ys)
unfolding next_of
next_longer wire kind xs ys (Ok (port, call)) d e = next_is wire kind xs ys d ∙ ap (followed ys) e
next_longer wire kind xs ys (Err bad) d e = let z : ◌≡◌ {A = ℕ} 0 1 = cc in absurd (omega arith)

pub decode_longer : (wire : Port) (xs ys : List ℕ) {port : Port} {call : Call} {payload rest : List ℕ} → decode wire xs ≡ sent port call payload rest → decode wire (xs ++ ys) ≡ sent port call payload (rest ++ ys)
unfolding decode
decode_longer wire [] ys e = let z : ◌≡◌ {A = ℕ} 0 1 = cc in absurd (omega arith)
decode_longer wire (kind ∷ xs) ys e = next_longer wire kind xs ys (decode_body wire kind xs) refl e
