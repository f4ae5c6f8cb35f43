-- Decoding an encoded call, whatever follows it, gives the call, its port, its data and what follows.
use Rattle.std.specs.Prelude.{ℕ, ◌+◌, ◌-◌, ◌≤◌, ◌≡◌, Bool, true, false, cond, List, [], ◌∷◌, ◌++◌, eqb, drop, get_or, replicate, Option, None, Some, Ok}
use Rattle.std.proofs.Math.Path.{refl, subst}
use Rattle.std.proofs.Common.{sym, ap, ◌∙◌, append_assoc, arith, length-append, get_or-drop, drop-drop, drop_at}
use Rattle.std.proofs.lemmas.Bool.{false≢true}
use Rattle.std.proofs.Math.ListN.{length}
use Rattle.std.proofs.Math.Seq.{take_at}
use Rattle.card.specs.Pointers.{contains}
use Rattle.card.specs.Lists.{any}
use Rattle.card.specs.Session.{key_call}
use Rattle.card.specs.declared.Port.{Port}
use Rattle.card.specs.declared.Port.TheVariants.{Host, Service}
use Rattle.card.specs.declared.Mode.{Mode}
use Rattle.card.specs.declared.Mode.TheVariants.{Reading, Writing}
use Rattle.card.specs.declared.Credential.{Credential}
use Rattle.card.specs.declared.Credential.TheVariants.{Nothing, Reference, Key as KeyCredential}
use Rattle.card.specs.declared.AllocOperands.{AllocOperands}
use Rattle.card.specs.declared.DeleteOperands.{DeleteOperands}
use Rattle.card.specs.declared.KeyOperands.{KeyOperands}
use Rattle.card.specs.declared.Call.{Call}
use Rattle.card.specs.declared.Call.TheVariants.{Read, Write, Alloc, AllocContig, Create, Delete, DeleteTree, KeyRead, KeyWrite, Renew, Force, Free, Tick, Audit, Rent, Sweep}
use Rattle.fields.specs.Bytes.{number, bytes, zeroed}
use Rattle.fields.specs.BytesLaws.{length_bytes, number_bytes}
use Rattle.kinds.specs.Kinds.{row, names, kind_number, length_of, data_length, operands_length, takes, has_kind, among, kind_of}
use Rattle.kinds.proofs.KindsLaws.{parts}
use Rattle.fields.specs.Fields.{credential, new_key}
use Rattle.decoding.specs.Decode.{call_of, decode_key, decode_call, name_of, operands_of, data_of, sent, next_of, decode, with_credential, create_operands, key_operands, renew_operands}
use Rattle.decoding.proofs.DecodeLaws as laws
use Rattle.decoding.specs.Encode.{credential_bytes, new_key_bytes, alloc_body, delete_body, key_body, body, behind_kind, encode, Fits, FitsCredential, FitsNewKey, FitsAlloc, FitsDelete, FitsKey, FitsCall}
use Rattle.kinds.specs.declared.Name.{Name}
use Rattle.kinds.specs.declared.Name.TheVariants.{Read as READ, Write as WRITE, Alloc as ALLOC, Create as CREATE, Delete as DELETE, KeyRead as KEY-READ, Renew as RENEW, Force as FORCE, Free as FREE, Tick as TICK, Audit as AUDIT, AllocContig as ALLOC-CONTIG, KeyWrite as KEY-WRITE, DeleteTree as DELETE-TREE}

-- ---- a list that is n elements, then others

pub record Then (n : ℕ) (xs ys : List ℕ) : Type 0 where
  pub skip : drop n xs ≡ ys
  pub long : length xs ≡ n + length ys

then_list : (n : ℕ) (xs ys : List ℕ) → length xs ≡ n → Then n (xs ++ ys) ys
then_list n xs ys h = record { skip = drop_at xs ys n h; long = omega (arith, length-append xs ys) }

then_more : {m n : ℕ} {xs ys zs : List ℕ} → Then m xs ys → Then n ys zs → Then (m + n) xs zs
then_more {m} {n} {xs} s t = record {
  skip = sym (drop-drop n m xs) ∙ (ap (drop n) s.skip ∙ t.skip);
  long = let a = s.long in let b = t.long in omega arith;
}

then_bytes : (n x : ℕ) (ys : List ℕ) → Then n (bytes n x ++ ys) ys
then_bytes n x ys = then_list n (bytes n x) ys (length_bytes n x)

-- ---- credentials and new keys

length_credential : (c : Credential) → length (credential_bytes c) ≡ 17
unfolding credential_bytes bytes
length_credential Nothing = refl
length_credential (Reference r) = refl
length_credential (KeyCredential high low) = refl

then_credential : (c : Credential) (ys : List ℕ) → Then 17 (credential_bytes c ++ ys) ys
then_credential c ys = then_list 17 (credential_bytes c) ys (length_credential c)

credential_back : (c : Credential) (ys : List ℕ) → FitsCredential c → credential (credential_bytes c ++ ys) ≡ Ok c
unfolding credential credential_bytes FitsCredential bytes zeroed
credential_back Nothing ys h = refl
credential_back (Reference r) ys h = ap (λ n. Ok (Reference n)) (number_bytes 2 r (replicate 14 0 ++ ys) h)
credential_back (KeyCredential high low) ys h =
    ap (λ n. Ok (KeyCredential n (number 8 (bytes 8 low ++ ys)))) (number_bytes 8 high (bytes 8 low ++ ys) h.0)
    ∙ ap (λ n. Ok (KeyCredential high n)) (number_bytes 8 low ys h.1)

length_new_key : (k : Option (ℕ × ℕ)) → length (new_key_bytes k) ≡ 17
unfolding new_key_bytes bytes
length_new_key None = refl
length_new_key (Some (high, low)) = refl

then_new_key : (k : Option (ℕ × ℕ)) (ys : List ℕ) → Then 17 (new_key_bytes k ++ ys) ys
then_new_key k ys = then_list 17 (new_key_bytes k) ys (length_new_key k)

new_key_back : (k : Option (ℕ × ℕ)) (ys : List ℕ) → FitsNewKey k → new_key (new_key_bytes k ++ ys) ≡ Ok k
unfolding new_key new_key_bytes FitsNewKey bytes zeroed
new_key_back None ys h = refl
new_key_back (Some (high, low)) ys h =
    ap (λ n. Ok (Some (n, number 8 (bytes 8 low ++ ys)))) (number_bytes 8 high (bytes 8 low ++ ys) h.0)
    ∙ ap (λ n. Ok (Some (high, n))) (number_bytes 8 low ys h.1)

-- ---- where each part of a body starts

-- A part that starts behind n others.
at : {A : Type 0} (f : List ℕ → A) {n : ℕ} {xs ys : List ℕ} {a : A} → Then n xs ys → f ys ≡ a → f (drop n xs) ≡ a
at f t e = ap f t.skip ∙ e

-- A byte by itself.
byte_back : (x : ℕ) (ys : List ℕ) → Fits 1 x → get_or (bytes 1 x ++ ys) 0 0 ≡ x
unfolding bytes
byte_back x ys h = omega arith

byte_at : (n : ℕ) (xs : List ℕ) (x : ℕ) (ys : List ℕ) → Then n xs (bytes 1 x ++ ys) → Fits 1 x → get_or xs (n + 0) 0 ≡ x
byte_at n xs x ys t h = sym (get_or-drop n xs 0 0) ∙ at (λ zs. get_or zs 0 0) t (byte_back x ys h)

-- The block and its credential, with which most bodies start.
opened : (b : ℕ) (c : Credential) (ys : List ℕ) → Then 19 (bytes 2 b ++ (credential_bytes c ++ ys)) ys
opened b c ys = then_more (then_bytes 2 b _) (then_credential c ys)

behind : (call : Call) (ys : List ℕ) → Then (operands_of call) (body call ys) ys
unfolding operands_length length_of data_length row name_of body
behind (Read o) ys = then_more (opened _ _ _) (then_bytes 4 _ ys)
behind (Write o) ys = then_more (opened _ _ _) (then_bytes 4 _ ys)
behind (Alloc o) ys = then_more (opened _ _ _) (then_more (then_bytes 2 _ _) (then_bytes 1 _ ys))
behind (AllocContig o) ys = then_more (opened _ _ _) (then_more (then_bytes 2 _ _) (then_bytes 1 _ ys))
behind (Create o) ys = then_more (opened _ _ _) (then_more (then_bytes 2 _ _) (then_credential _ ys))
behind (Delete o) ys = then_more (opened _ _ _) (then_bytes 2 _ ys)
behind (DeleteTree o) ys = then_more (opened _ _ _) (then_bytes 2 _ ys)
behind (KeyRead o) ys = then_more (opened _ _ _) (then_new_key _ ys)
behind (KeyWrite o) ys = then_more (opened _ _ _) (then_new_key _ ys)
behind (Renew o) ys =
    then_more (then_bytes 1 _ _)
    (then_more (then_bytes 2 _ _) (then_more (then_bytes 8 _ _) (then_more (then_bytes 8 _ _) (then_bytes 4 _ ys))))
behind (Force o) ys = then_bytes 2 _ ys
behind Free ys = record { skip = refl; long = omega arith }
behind (Tick o) ys = then_bytes 8 _ ys
behind Audit ys = record { skip = refl; long = omega arith }
behind (Rent o) ys = record { skip = refl; long = omega arith }
behind (Sweep o) ys = record { skip = refl; long = omega arith }

-- ---- each call

-- The operands of ALLOC and of ALLOC_CONTIG: what follows of their parts follows of their bytes.
by_parts : {A : Type 0} (o : AllocOperands) (ys : List ℕ) → FitsAlloc o
    → (o.reference ≡ number 2 (alloc_body o ys)
    → Ok o.credential ≡ credential (drop 2 (alloc_body o ys))
    → o.hint ≡ number 2 (drop 19 (alloc_body o ys))
    → o.count ≡ get_or (alloc_body o ys) 21 0
    → A)
    → A
by_parts o ys h law =
    let hinted = opened o.reference o.credential (bytes 2 o.hint ++ (bytes 1 o.count ++ ys)) in
    law
    (sym (number_bytes 2 o.reference _ h.0))
    (sym (at credential (then_bytes 2 o.reference _) (credential_back o.credential _ h.1.0)))
    (sym (at (number 2) hinted (number_bytes 2 o.hint _ h.1.1.0)))
    (sym (byte_at 21 _ o.count ys (then_more hinted (then_bytes 2 o.hint _)) h.1.1.1))

-- The same of DELETE and DELETE_TREE.
by_ends : {A : Type 0} (o : DeleteOperands) (ys : List ℕ) → FitsDelete o
    → (o.source ≡ number 2 (delete_body o ys)
    → Ok o.credential ≡ credential (drop 2 (delete_body o ys))
    → o.destination ≡ number 2 (drop 19 (delete_body o ys))
    → A)
    → A
by_ends o ys h law =
    law
    (sym (number_bytes 2 o.source _ h.0))
    (sym (at credential (then_bytes 2 o.source _) (credential_back o.credential _ h.1.0)))
    (sym (at (number 2) (opened o.source o.credential _) (number_bytes 2 o.destination ys h.1.1)))

-- KEY_READ and KEY_WRITE.
decoded_key : (port : Port) (mode : Mode) (o : KeyOperands) (ys : List ℕ) → FitsKey o → Ok (port, key_call mode o) ≡ decode_key port mode (key_body o ys)
unfolding call_of key_operands
decoded_key port mode o ys h =
    laws.key port _ mode
    (sym (number_bytes 2 o.block _ h.0))
    (sym (at credential (then_bytes 2 o.block _) (credential_back o.credential _ h.1.0)))
    (sym (at new_key (opened o.block o.credential _) (new_key_back o.key ys h.1.1)))

-- The bytes are a body of the call, if it has a name.
abbrev DecodedBy : Port → Call → List ℕ → Option Name → Type 0
DecodedBy port call xs None = Unit {0}
DecodedBy port call xs (Some name) = Ok (port, call) ≡ decode_call port name xs

decoded : (port : Port) (call : Call) (ys : List ℕ) → FitsCall call → DecodedBy port call (body call ys) (name_of call)
unfolding FitsCall name_of body call_of with_credential create_operands renew_operands
decoded port (Read o) ys h =
    laws.read port _
    (sym (number_bytes 2 o.block _ h.0))
    (sym (at credential (then_bytes 2 o.block _) (credential_back o.credential _ h.1.0)))
    (sym (at (number 4) (opened o.block o.credential _) (number_bytes 4 o.interval ys h.1.1)))
decoded port (Write o) ys h =
    laws.write port _
    (sym (number_bytes 2 o.block _ h.0))
    (sym (at credential (then_bytes 2 o.block _) (credential_back o.credential _ h.1.0)))
    (sym (at (number 4) (opened o.block o.credential _) (number_bytes 4 o.interval ys h.1.1)))
decoded port (Alloc o) ys h = by_parts o ys h (laws.alloc port (alloc_body o ys))
decoded port (AllocContig o) ys h = by_parts o ys h (laws.alloc_contig port (alloc_body o ys))
decoded port (Create o) ys h =
    laws.create port _
    (sym (number_bytes 2 o.source _ h.0))
    (sym (at credential (then_bytes 2 o.source _) (credential_back o.credential _ h.1.0)))
    (sym (at (number 2) (opened o.source o.credential _) (number_bytes 2 o.destination _ h.1.1.0)))
    (sym (at credential (then_more (opened o.source o.credential _) (then_bytes 2 o.destination _)) (credential_back o.second ys h.1.1.1)))
decoded port (Delete o) ys h = by_ends o ys h (laws.delete port (delete_body o ys))
decoded port (DeleteTree o) ys h = by_ends o ys h (laws.delete_tree port (delete_body o ys))
decoded port (KeyRead o) ys h = decoded_key port Reading o ys h ∙ laws.key_read port _
decoded port (KeyWrite o) ys h = decoded_key port Writing o ys h ∙ laws.key_write port _
decoded port (Renew o) ys h =
    let t1 = then_bytes 1 o.mode (bytes 2 o.block ++ (bytes 8 o.high ++ (bytes 8 o.low ++ (bytes 4 o.interval ++ ys)))) in
    let t3 = then_more t1 (then_bytes 2 o.block _) in
    let t11 = then_more t3 (then_bytes 8 o.high _) in
    let t19 = then_more t11 (then_bytes 8 o.low _) in
    laws.renew port _
    (sym (byte_back o.mode _ h.0))
    (sym (at (number 2) t1 (number_bytes 2 o.block _ h.1.0)))
    (sym (at (number 8) t3 (number_bytes 8 o.high _ h.1.1.0)))
    (sym (at (number 8) t11 (number_bytes 8 o.low _ h.1.1.1.0)))
    (sym (at (number 4) t19 (number_bytes 4 o.interval ys h.1.1.1.1)))
decoded port (Force o) ys h = laws.force port _ (sym (number_bytes 2 o.block ys h))
decoded port Free ys h = laws.free port ys
decoded port (Tick o) ys h = laws.tick port _ (sym (number_bytes 8 o.seconds ys h))
decoded port Audit ys h = laws.audit port ys
decoded port (Rent o) ys h = tt
decoded port (Sweep o) ys h = tt

-- ---- a record

-- A call that is found among those of a port is found whatever other answer there is.
among_found : (kind : ℕ) (at : Port) (ns : List Name) (other : Option (Port × Name)) {port : Port} {name : Name} → among kind at ns None ≡ Some (port, name) → among kind at ns other ≡ Some (port, name)
unfolding among
among_found kind at [] other e = let z : ◌≡◌ {A = ℕ} 0 1 = cc in absurd (omega arith)
among_found kind at (n ∷ ns) other {port} {name} e = go (eqb kind (kind_number at n)) (among_found kind at ns other) e
  where
    go : (t : Bool) → (among kind at ns None ≡ Some (port, name) → among kind at ns other ≡ Some (port, name))
        → cond t (Some (at, n)) (among kind at ns None) ≡ Some (port, name) → cond t (Some (at, n)) (among kind at ns other) ≡ Some (port, name)
    go true rest h = h
    go false rest h = rest h

host_kind : (name : Name) → kind_of Host (kind_number Host name) ≡ Some (Host, name)
unfolding kind_of among names kind_number row
host_kind READ = refl
host_kind WRITE = refl
host_kind ALLOC = refl
host_kind CREATE = refl
host_kind DELETE = refl
host_kind KEY-READ = refl
host_kind RENEW = refl
host_kind FORCE = refl
host_kind FREE = refl
host_kind TICK = refl
host_kind AUDIT = refl
host_kind ALLOC-CONTIG = refl
host_kind KEY-WRITE = refl
host_kind DELETE-TREE = refl

service_kind : (name : Name) → has_kind Service name ≡ true → kind_of Service (kind_number Service name) ≡ Some (Service, name)
unfolding has_kind contains any kind_of among names kind_number row
service_kind READ e = refl
service_kind WRITE e = refl
service_kind ALLOC e = refl
service_kind CREATE e = refl
service_kind DELETE e = refl
service_kind KEY-READ e = refl
service_kind RENEW e = absurd (false≢true e)
service_kind FORCE e = absurd (false≢true e)
service_kind FREE e = absurd (false≢true e)
service_kind TICK e = absurd (false≢true e)
service_kind AUDIT e = absurd (false≢true e)
service_kind ALLOC-CONTIG e = refl
service_kind KEY-WRITE e = refl
service_kind DELETE-TREE e = refl

known_kind : (wire port : Port) → takes wire port ≡ true → (name : Name) → has_kind port name ≡ true → kind_of wire (kind_number port name) ≡ Some (port, name)
unfolding takes kind_of
known_kind Host Host t name e = host_kind name
known_kind Host Service t name e = absurd (false≢true t)
known_kind Service Host t name e = among_found (kind_number Host name) Host (names Host) _ (host_kind name)
known_kind Service Service t name e = service_kind name e

body_append : (call : Call) (ys zs : List ℕ) → body call ys ++ zs ≡ body call (ys ++ zs)
unfolding body
body_append (Read o) ys zs = simp append_assoc
body_append (Write o) ys zs = simp append_assoc
body_append (Alloc o) ys zs = simp append_assoc
body_append (AllocContig o) ys zs = simp append_assoc
body_append (Create o) ys zs = simp append_assoc
body_append (Delete o) ys zs = simp append_assoc
body_append (DeleteTree o) ys zs = simp append_assoc
body_append (KeyRead o) ys zs = simp append_assoc
body_append (KeyWrite o) ys zs = simp append_assoc
body_append (Renew o) ys zs = simp append_assoc
body_append (Force o) ys zs = simp append_assoc
body_append Free ys zs = refl
body_append (Tick o) ys zs = simp append_assoc
body_append Audit ys zs = refl
body_append (Rent o) ys zs = refl
body_append (Sweep o) ys zs = refl

module _
    (wire port : Port)
    (taken : takes wire port ≡ true)
    (call : Call)
    (name : Name)
    (named : name_of call ≡ Some name)
    (payload rest : List ℕ)
    (has : has_kind port name ≡ true)
    (fits : FitsCall call)
    (sized : length payload ≡ data_length name)
  where
    operands : Then (operands_length name) (body call (payload ++ rest)) (payload ++ rest)
    operands = rw named at (behind call (payload ++ rest))

    all_of_it : Then (length_of name) (body call (payload ++ rest)) rest
    all_of_it = rw parts at (then_more operands (then_list (data_length name) payload rest sized))

    pub round_trip : decode wire (encode port call payload ++ rest) ≡ sent port call payload rest
    unfolding decode encode behind_kind next_of data_of
    round_trip =
        let xs = body call (payload ++ rest) in
        let enough : length_of name ≤ length xs = omega (arith, all_of_it.long) in
        let by_name = subst (DecodedBy port call xs) named (decoded port call (payload ++ rest) fits) in
        let call_is = laws.whole wire (kind_number port name) xs refl (known_kind wire port taken name has) refl enough by_name in
        rw (named, body_append, ← call_is, named, all_of_it.skip, operands.skip, take_at payload rest (length_of name - operands_length name) (omega (arith, parts name)))
