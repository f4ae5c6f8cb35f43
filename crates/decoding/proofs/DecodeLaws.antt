-- Laws of decoding: from the values of a body's parts to what it decodes to.
use Rattle.std.specs.Prelude.{ℕ, ◌≤◌, ◌<◌, ◌≡◌, true, false, List, [], ◌∷◌, leb, length, drop, get_or, Some, Option, None, Ok, Err, Result}
use Rattle.std.proofs.Math.Path.{refl}
use Rattle.std.proofs.Common.{sym, ap, ap₂, ◌∙◌, subst, ⊎_elim, arith, length-drop}
use borrow.Author.Tests.{le-leb, lt-leb, leb-true}
use Rattle.laws.specs.ListsLaws.{not_cases}
use Rattle.card.specs.declared.Port.{Port}
use Rattle.card.specs.declared.Mode.{Mode}
use Rattle.card.specs.declared.Mode.TheVariants.{Reading, Writing}
use Rattle.card.specs.declared.Port.TheVariants.{Host}
use Rattle.card.specs.declared.Credential.{Credential}
use Rattle.card.specs.declared.Credential.TheVariants.{Key as KeyCredential}
use Rattle.card.specs.declared.Call.{Call}
use Rattle.card.specs.declared.Call.TheVariants.{Force, Free, Tick, Audit}
use Rattle.fields.specs.Bytes.{number}
use Rattle.kinds.specs.Kinds.{length_of, kind_of, kind_length}
use Rattle.kinds.proofs.KindsLaws.{host_kinds}
use Rattle.fields.specs.Fields.{bad_record, credential, new_key}
use Rattle.decoding.specs.Decode.{Decoding, call_of, read_with, write_with, alloc_with, alloc_contig_with, create_with, delete_with, delete_tree_with, key_with, renew_with, decode_key, decode_call, decode_known, decode_body, name_of, body_of, sent, next_of, decode, with_credential}
use Rattle.kinds.specs.declared.Name.{Name}
use Rattle.kinds.specs.declared.Name.TheVariants.{Read as READ, Write as WRITE, Alloc as ALLOC, Create as CREATE, Delete as DELETE, KeyRead as KEY-READ, Renew as RENEW, Force as FORCE, Free as FREE, Tick as TICK, Audit as AUDIT, AllocContig as ALLOC-CONTIG, KeyWrite as KEY-WRITE, DeleteTree as DELETE-TREE}
use Rattle.fields.specs.declared.BadRecord.{BadRecord}

module _ (port : Port) (xs : List ℕ) where
  -- ---- calls of their operands

  pub read : {b i : ℕ} {p : Result Credential BadRecord} → b ≡ number 2 xs → p ≡ credential (drop 2 xs) → i ≡ number 4 (drop 19 xs)
      → read_with port b p i ≡ decode_call port READ xs
  unfolding decode_call
  read b p i = rw (b, p, i)

  pub write : {b i : ℕ} {p : Result Credential BadRecord} → b ≡ number 2 xs → p ≡ credential (drop 2 xs) → i ≡ number 4 (drop 19 xs)
      → write_with port b p i ≡ decode_call port WRITE xs
  unfolding decode_call
  write b p i = rw (b, p, i)

  pub alloc : {r h n : ℕ} {p : Result Credential BadRecord} → r ≡ number 2 xs → p ≡ credential (drop 2 xs) → h ≡ number 2 (drop 19 xs) → n ≡ get_or xs 21 0
      → alloc_with port r p h n ≡ decode_call port ALLOC xs
  unfolding decode_call
  alloc r p h n = rw (r, p, h, n)

  pub alloc_contig : {r h n : ℕ} {p : Result Credential BadRecord} → r ≡ number 2 xs → p ≡ credential (drop 2 xs) → h ≡ number 2 (drop 19 xs) → n ≡ get_or xs 21 0
      → alloc_contig_with port r p h n ≡ decode_call port ALLOC-CONTIG xs
  unfolding decode_call
  alloc_contig r p h n = rw (r, p, h, n)

  pub create : {s d : ℕ} {p q : Result Credential BadRecord} → s ≡ number 2 xs → p ≡ credential (drop 2 xs) → d ≡ number 2 (drop 19 xs) → q ≡ credential (drop 21 xs)
      → create_with port s p d q ≡ decode_call port CREATE xs
  unfolding decode_call
  create s p d q = rw (s, p, d, q)

  pub delete : {s d : ℕ} {p : Result Credential BadRecord} → s ≡ number 2 xs → p ≡ credential (drop 2 xs) → d ≡ number 2 (drop 19 xs)
      → delete_with port s p d ≡ decode_call port DELETE xs
  unfolding decode_call
  delete s p d = rw (s, p, d)

  pub delete_tree : {s d : ℕ} {p : Result Credential BadRecord} → s ≡ number 2 xs → p ≡ credential (drop 2 xs) → d ≡ number 2 (drop 19 xs)
      → delete_tree_with port s p d ≡ decode_call port DELETE-TREE xs
  unfolding decode_call
  delete_tree s p d = rw (s, p, d)

  pub key : (m : Mode) {b : ℕ} {p : Result Credential BadRecord} {k : Result (Option (ℕ × ℕ)) BadRecord} → b ≡ number 2 xs → p ≡ credential (drop 2 xs) → k ≡ new_key (drop 19 xs)
      → key_with port m b p k ≡ decode_key port m xs
  key m b p k = rw (b, p, k)

  pub key_read : decode_key port Reading xs ≡ decode_call port KEY-READ xs
  unfolding decode_call
  key_read = refl

  pub key_write : decode_key port Writing xs ≡ decode_call port KEY-WRITE xs
  unfolding decode_call
  key_write = refl

  pub renew : {m b h l i : ℕ}
      → m ≡ get_or xs 0 0 → b ≡ number 2 (drop 1 xs) → h ≡ number 8 (drop 3 xs) → l ≡ number 8 (drop 11 xs) → i ≡ number 4 (drop 19 xs)
      → renew_with port m b (Ok (KeyCredential h l)) i ≡ decode_call port RENEW xs
  unfolding decode_call
  renew m b h l i = rw (m, b, h, l, i)

  pub force : {b : ℕ} → b ≡ number 2 xs → Ok (port, Force (record { block = b })) ≡ decode_call port FORCE xs
  unfolding decode_call
  force b = rw b

  pub tick : {n : ℕ} → n ≡ number 8 xs → Ok (port, Tick (record { seconds = n })) ≡ decode_call port TICK xs
  unfolding decode_call
  tick n = rw n

  pub free : Ok (port, Free) ≡ decode_call port FREE xs
  unfolding decode_call
  free = refl

  pub audit : Ok (port, Audit) ≡ decode_call port AUDIT xs
  unfolding decode_call
  audit = refl

  -- ---- by the call's name

  pub by_name : {a b : Name} {d : Decoding} → a ≡ b → d ≡ decode_call port b xs → d ≡ decode_call port a xs
  by_name e h = rw e h

-- A body is long enough for its call.
pub room : {a b : Name} {n : ℕ} → a ≡ b → length_of a ≤ n → length_of b ≤ n
room e h = rw e at h

-- ---- by the kind

module _ (wire : Port) (kind : ℕ) (xs : List ℕ) {known : Option (Port × Name)} (of-kind : known ≡ kind_of wire kind) where
  pub whole : {port : Port} {name : Name} {l : ℕ} {d : Decoding}
      → known ≡ Some (port, name) → l ≡ length_of name → l ≤ length xs → d ≡ decode_call port name xs
      → d ≡ decode_body wire kind xs
  unfolding decode_body decode_known
  whole {port} {name} e l h d = rw (← of-kind, e, ← l, le-leb _ _ h, d)

  pub cut_short : {port : Port} {name : Name} {l : ℕ} → known ≡ Some (port, name) → l ≡ length_of name → length xs < l → Err bad_record ≡ decode_body wire kind xs
  unfolding decode_body decode_known
  cut_short e l h = rw (← of-kind, e, ← l, lt-leb _ _ h)

  pub other_kind : known ≡ None → Err bad_record ≡ decode_body wire kind xs
  unfolding decode_body decode_known
  other_kind e = rw (← of-kind, e)

-- By the length of a kind's body: refusal 13 where there is none, or where there are fewer bytes.

pub unknown_kind : (k : Option (Port × Name)) (xs : List ℕ) → kind_length k ≡ None → decode_known k xs ≡ Err bad_record
unfolding kind_length decode_known
unknown_kind (Some (port, name)) xs e = let z : ◌≡◌ {A = ℕ} 0 1 = cc in absurd (omega arith)
unknown_kind None xs e = refl

pub short_kind : (k : Option (Port × Name)) (xs : List ℕ) (n : ℕ) → kind_length k ≡ Some n → length xs < n → decode_known k xs ≡ Err bad_record
unfolding kind_length decode_known
short_kind (Some (port, name)) xs n e h =
    let same : length_of name ≡ n = cc in
    rw (lt-leb (length_of name) (length xs) (omega arith))
short_kind None xs n e h = refl

-- ---- from what is decoded to its kind

-- What is decoded, if anything, is the named call at the port.
abbrev Named : Port → Name → Decoding → Type 0
Named port name (Ok (p, call)) = (p ≡ port) × (name_of call ≡ Some name)
Named port name (Err bad) = Unit {0}

named_call : {A : Type 0} (port : Port) (name : Name) (make : A → Call) → ((o : A) → name_of (make o) ≡ Some name) → (r : Result A BadRecord)
    → Named port name (call_of port make r)
unfolding call_of with_credential
named_call port name make h (Ok o) = (refl, h o)
named_call port name make h (Err bad) = tt

named : (port : Port) (name : Name) (xs : List ℕ) → Named port name (decode_call port name xs)
unfolding decode_call name_of
named port READ xs = named_call port READ _ (λ o. refl) _
named port WRITE xs = named_call port WRITE _ (λ o. refl) _
named port ALLOC xs = named_call port ALLOC _ (λ o. refl) _
named port CREATE xs = named_call port CREATE _ (λ o. refl) _
named port DELETE xs = named_call port DELETE _ (λ o. refl) _
named port KEY-READ xs = named_call port KEY-READ _ (λ o. refl) _
named port RENEW xs = named_call port RENEW _ (λ o. refl) _
named port FORCE xs = (refl, refl)
named port FREE xs = (refl, refl)
named port TICK xs = (refl, refl)
named port AUDIT xs = (refl, refl)
named port ALLOC-CONTIG xs = named_call port ALLOC-CONTIG _ (λ o. refl) _
named port KEY-WRITE xs = named_call port KEY-WRITE _ (λ o. refl) _
named port DELETE-TREE xs = named_call port DELETE-TREE _ (λ o. refl) _

apart : (p : Port) (call : Call) → ◌≡◌ {A = Decoding} (Ok (p, call)) (Err bad_record) → ⊥
apart p call e = let z : ◌≡◌ {A = ℕ} 0 1 = cc in omega arith

-- A decoded call has a name and so a kind, and its body is whole.
pub record OfKind (known : Option (Port × Name)) (xs : List ℕ) (port : Port) (call : Call) : Type 0 where
  pub name : Name
  pub named : name_of call ≡ Some name
  pub kind : known ≡ Some (port, name)
  pub whole : length_of name ≤ length xs

of_decoded : (p port : Port) (name : Name) (call : Call) (xs : List ℕ)
    → Ok (p, call) ≡ decode_call port name xs → length_of name ≤ length xs
    → OfKind (Some (port, name)) xs p call
of_decoded p port name call xs e h =
    let n : Named port name (Ok (p, call)) = subst (λ (d : Decoding). Named port name d) (sym e) (named port name xs) in
    record { name = name; named = n.1; kind = rw n.0; whole = h }

of_known : (k : Option (Port × Name)) (xs : List ℕ) (p : Port) (call : Call) → Ok (p, call) ≡ decode_known k xs → OfKind k xs p call
unfolding decode_known
of_known (Some (port, name)) xs p call e =
    ⊎_elim
    (λ (t : leb (length_of name) (length xs) ≡ true). of_decoded p port name call xs (rw t at e) (leb-true _ _ t))
    (λ (t : leb (length_of name) (length xs) ≡ false). absurd (apart p call (rw t at e)))
    (not_cases (leb (length_of name) (length xs)))
of_known None xs p call e = absurd (apart p call e)

pub decoded_kind : (wire : Port) (kind : ℕ) (xs : List ℕ) (p : Port) (call : Call) → Ok (p, call) ≡ decode_body wire kind xs → OfKind (kind_of wire kind) xs p call
unfolding decode_body
decoded_kind wire kind xs p call e = of_known (kind_of wire kind) xs p call e

next_kind : (wire : Port) (kind : ℕ) (xs : List ℕ) (d : Decoding) → d ≡ decode_body wire kind xs → {port : Port} {call : Call} {payload rest : List ℕ}
    → next_of xs d ≡ sent port call payload rest
    → OfKind (kind_of wire kind) xs port call
unfolding next_of
next_kind wire kind xs (Ok (p, c)) h {port} {call} e =
    let at_port_law : p ≡ port = cc in
    let same : c ≡ call = cc in
    decoded_kind wire kind xs port call (sym (ap₂ (λ (q : Port) (k : Call). Ok (q, k)) at_port_law same) ∙ h)
next_kind wire kind xs (Err bad) h e = let z : ◌≡◌ {A = ℕ} 0 1 = cc in absurd (omega arith)

pub sent_kind : (wire : Port) (kind : ℕ) (xs : List ℕ) {port : Port} {call : Call} {payload rest : List ℕ}
    → decode wire (kind ∷ xs) ≡ sent port call payload rest
    → OfKind (kind_of wire kind) xs port call
unfolding decode
sent_kind wire kind xs e = next_kind wire kind xs (decode_body wire kind xs) refl e

-- ---- the calls of the host port

-- A record that arrives at the host port and is not refused is a call at the host port.
pub host_sent : (xs : List ℕ) {port : Port} {call : Call} {payload rest : List ℕ} → decode Host xs ≡ sent port call payload rest → port ≡ Host
unfolding decode
host_sent [] e = let z : ◌≡◌ {A = ℕ} 0 1 = cc in absurd (omega arith)
host_sent (kind ∷ xs) e = host_kinds kind (sent_kind Host kind xs e).kind

-- ---- an input gets shorter

next_shorter : (xs : List ℕ) (d : Decoding) {port : Port} {call : Call} {payload rest : List ℕ}
    → next_of xs d ≡ sent port call payload rest
    → length rest ≤ length xs
unfolding next_of
next_shorter xs (Ok (p, call)) {rest = rest} e =
    let left : drop (body_of call) xs ≡ rest = cc in
    omega (arith, ap length left, length-drop (body_of call) xs)
next_shorter xs (Err bad) e = let z : ◌≡◌ {A = ℕ} 0 1 = cc in absurd (omega arith)

pub decode_shorter : (wire : Port) (xs : List ℕ) {port : Port} {call : Call} {payload rest : List ℕ}
    → decode wire xs ≡ sent port call payload rest
    → length rest < length xs
unfolding decode
decode_shorter wire [] e = let z : ◌≡◌ {A = ℕ} 0 1 = cc in absurd (omega arith)
decode_shorter wire (kind ∷ xs) e = let h = next_shorter xs (decode_body wire kind xs) e in omega arith
