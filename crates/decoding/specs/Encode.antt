-- The bytes of a call record, as a host writes it.
use Rattle.std.specs.Prelude.{ℕ, ◌<◌, ◌^◌, List, [], ◌∷◌, ◌++◌, replicate, Option, None, Some}
use Rattle.card.specs.declared.Port.{Port}
use Rattle.card.specs.declared.Credential.{Credential}
use Rattle.card.specs.declared.Credential.TheVariants.{Nothing, Reference, Key as KeyCredential}
use Rattle.card.specs.declared.AllocOperands.{AllocOperands}
use Rattle.card.specs.declared.DeleteOperands.{DeleteOperands}
use Rattle.card.specs.declared.KeyOperands.{KeyOperands}
use Rattle.card.specs.declared.Call.{Call}
use Rattle.card.specs.declared.Call.TheVariants.{Read, Write, Alloc, AllocContig, Create, Delete, DeleteTree, KeyRead, KeyWrite, Renew, Force, Free, Tick, Audit, Rent, Sweep}
use Rattle.fields.specs.Bytes.{bytes}
use Rattle.kinds.specs.Kinds.{kind_number}
use Rattle.kinds.specs.declared.Name.{Name}
use Rattle.decoding.specs.Decode.{name_of}

unfoldable pub credential_bytes : Credential → List ℕ
credential_bytes Nothing = 0 ∷ replicate 16 0
credential_bytes (Reference r) = 1 ∷ (bytes 2 r ++ replicate 14 0)
credential_bytes (KeyCredential high low) = 2 ∷ (bytes 8 high ++ bytes 8 low)

unfoldable pub new_key_bytes : Option (ℕ × ℕ) → List ℕ
new_key_bytes None = 0 ∷ replicate 16 0
new_key_bytes (Some (high, low)) = 1 ∷ (bytes 8 high ++ bytes 8 low)

-- The operands of ALLOC and of ALLOC_CONTIG.
abbrev pub alloc_body : AllocOperands → List ℕ → List ℕ
alloc_body o ys = bytes 2 o.reference ++ (credential_bytes o.credential ++ (bytes 2 o.hint ++ (bytes 1 o.count ++ ys)))

-- Of DELETE and DELETE_TREE.
abbrev pub delete_body : DeleteOperands → List ℕ → List ℕ
delete_body o ys = bytes 2 o.source ++ (credential_bytes o.credential ++ (bytes 2 o.destination ++ ys))

-- And of KEY_READ and KEY_WRITE.
abbrev pub key_body : KeyOperands → List ℕ → List ℕ
key_body o ys = bytes 2 o.block ++ (credential_bytes o.credential ++ (new_key_bytes o.key ++ ys))

-- A call's operands in order, then what follows them.
unfoldable pub body : Call → List ℕ → List ℕ
body (Read o) ys = bytes 2 o.block ++ (credential_bytes o.credential ++ (bytes 4 o.interval ++ ys))
body (Write o) ys = bytes 2 o.block ++ (credential_bytes o.credential ++ (bytes 4 o.interval ++ ys))
body (Alloc o) ys = alloc_body o ys
body (AllocContig o) ys = alloc_body o ys
body (Create o) ys =
    bytes 2 o.source ++ (credential_bytes o.credential ++ (bytes 2 o.destination ++ (credential_bytes o.second ++ ys)))
body (Delete o) ys = delete_body o ys
body (DeleteTree o) ys = delete_body o ys
body (KeyRead o) ys = key_body o ys
body (KeyWrite o) ys = key_body o ys
body (Renew o) ys =
    bytes 1 o.mode ++ (bytes 2 o.block ++ (bytes 8 o.high ++ (bytes 8 o.low ++ (bytes 4 o.interval ++ ys))))
body (Force o) ys = bytes 2 o.block ++ ys
body Free ys = ys
body (Tick o) ys = bytes 8 o.seconds ++ ys
body Audit ys = ys
body (Rent o) ys = ys
body (Sweep o) ys = ys

-- The kind of a named call in front of its body. A call without a name has no record.
unfoldable pub behind_kind : Port → Option Name → List ℕ → List ℕ
behind_kind port None xs = []
behind_kind port (Some name) xs = kind_number port name ∷ xs

-- A record: the kind, the operands, the data.
unfoldable pub encode : Port → Call → List ℕ → List ℕ
encode port call payload = behind_kind port (name_of call) (body call payload)

-- ---- what can be encoded

-- The number fits so many bytes.
abbrev pub Fits : ℕ → ℕ → Type 0
Fits n x = x < 256 ^ n

unfoldable pub FitsCredential : Credential → Type 0
FitsCredential Nothing = Unit {0}
FitsCredential (Reference r) = Fits 2 r
FitsCredential (KeyCredential high low) = Fits 8 high × Fits 8 low

unfoldable pub FitsNewKey : Option (ℕ × ℕ) → Type 0
FitsNewKey None = Unit {0}
FitsNewKey (Some (high, low)) = Fits 8 high × Fits 8 low

-- Each operand fits its width.
abbrev pub FitsAlloc : AllocOperands → Type 0
FitsAlloc o = Fits 2 o.reference × (FitsCredential o.credential × (Fits 2 o.hint × Fits 1 o.count))

abbrev pub FitsDelete : DeleteOperands → Type 0
FitsDelete o = Fits 2 o.source × (FitsCredential o.credential × Fits 2 o.destination)

abbrev pub FitsKey : KeyOperands → Type 0
FitsKey o = Fits 2 o.block × (FitsCredential o.credential × FitsNewKey o.key)

unfoldable pub FitsCall : Call → Type 0
FitsCall (Read o) = Fits 2 o.block × (FitsCredential o.credential × Fits 4 o.interval)
FitsCall (Write o) = Fits 2 o.block × (FitsCredential o.credential × Fits 4 o.interval)
FitsCall (Alloc o) = FitsAlloc o
FitsCall (AllocContig o) = FitsAlloc o
FitsCall (Create o) = Fits 2 o.source × (FitsCredential o.credential × (Fits 2 o.destination × FitsCredential o.second))
FitsCall (Delete o) = FitsDelete o
FitsCall (DeleteTree o) = FitsDelete o
FitsCall (KeyRead o) = FitsKey o
FitsCall (KeyWrite o) = FitsKey o
FitsCall (Renew o) = Fits 1 o.mode × (Fits 2 o.block × (Fits 8 o.high × (Fits 8 o.low × Fits 4 o.interval)))
FitsCall (Force o) = Fits 2 o.block
FitsCall Free = Unit {0}
FitsCall (Tick o) = Fits 8 o.seconds
FitsCall Audit = Unit {0}
FitsCall (Rent o) = Unit {0}
FitsCall (Sweep o) = Unit {0}
