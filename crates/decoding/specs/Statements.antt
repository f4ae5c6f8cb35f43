-- What is promised of decoding, whatever bytes arrive at a port. It is proved in proofs/.
use Rattle.std.specs.Prelude.{ℕ, ◌<◌, ◌≡◌, Bool, true, false, List, ◌∷◌, length, drop, get_or, replicate, Option, Some, None}
use Rattle.card.specs.declared.Port.{Port}
use Rattle.card.specs.declared.RentOperands.{RentOperands}
use Rattle.card.specs.declared.SweepOperands.{SweepOperands}
use Rattle.card.specs.declared.Call.{Call}
use Rattle.card.specs.declared.Call.TheVariants.{Rent, Sweep}
use Rattle.kinds.specs.AllKinds.{expected}
use Rattle.decoding.specs.Decode.{Next, ended, refused, sent, decode}

-- ---- by the kind

-- What is left of the bytes behind a kind by a call that they hold.
abbrev pub Leaves : ℕ → List ℕ → Next → Type 0
Leaves n xs next = (port : Port) (call : Call) (payload rest : List ℕ) → next ≡ sent port call payload rest → rest ≡ drop n xs

abbrev pub is_call : Next → Bool
is_call ended = false
is_call refused = false
is_call (sent port call payload rest) = true

-- What the bytes behind a kind come to whose body has this length.
pub record Whole (n : ℕ) (next : List ℕ → Next) : Type 0 where
  pub short : (xs : List ℕ) → length xs < n → next xs ≡ refused
  pub leaves : (xs : List ℕ) → Leaves n xs (next xs)
  -- No length is too great: so many zeros are a call.
  pub enough : is_call (next (replicate n 0)) ≡ true

abbrev pub DecodedBy : Option ℕ → (List ℕ → Next) → Type 0
DecodedBy None next = (xs : List ℕ) → next xs ≡ refused
DecodedBy (Some n) next = Whole n next

-- What a record comes to by its kind, for all 256 kinds at each port and any bytes behind the kind: refused 13 where the table of all kinds has no length
-- or a greater one than there are bytes; otherwise, if the body holds a call, just the bytes behind the body are left, and a body of that length can hold one.
abbrev pub KindsDecoded : Type 0
KindsDecoded = (wire : Port) (kind : ℕ) → kind < 256 → DecodedBy (get_or (expected wire) kind None) (λ xs. decode wire (kind ∷ xs))

-- ---- calls that no record carries

-- 2026-08, of RENT: "no record carries it". Whatever bytes arrive at a port.
abbrev pub RentUncarried : Type 0
RentUncarried = (wire : Port) (xs : List ℕ) (o : RentOperands) (port : Port) (payload rest : List ℕ) → decode wire xs ≡ sent port (Rent o) payload rest → ⊥

-- 2026-09, of SWEEP: "no record carries it".
abbrev pub SweepUncarried : Type 0
SweepUncarried = (wire : Port) (xs : List ℕ) (o : SweepOperands) (port : Port) (payload rest : List ℕ) → decode wire xs ≡ sent port (Sweep o) payload rest → ⊥
