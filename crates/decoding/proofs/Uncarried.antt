-- Whatever bytes arrive at a port, they ask for no call without a name among records: not for RENT, nor for SWEEP.
use Rattle.std.specs.Prelude.{None, Some}
use Prim.Native.Nat.{ℕ}
use mathlib.Core.Path.{◌≡◌, refl, sym, ◌∙◌}
use mathlib.Core.List.{List, [], ◌∷◌}
use native.Mathlib.Omega.{arith}
use Rattle.card.specs.declared.Port.{Port}
use Rattle.card.specs.declared.Call.{Call}
use Rattle.card.specs.declared.Call.TheVariants.{Rent, Sweep}
use Rattle.kinds.specs.declared.Name.{Name}
use Rattle.decoding.specs.Decode.{sent, name_of, decode}
use Rattle.decoding.proofs.DecodeLaws.{sent_kind}
use Rattle.decoding.specs.Statements.{RentUncarried, SweepUncarried}

nameless : {name : Name} → Some name ≡ None → ⊥
nameless e = let z : ◌≡◌ {A = ℕ} 0 1 = cc in omega arith

uncarried : (wire : Port) (xs : List ℕ) (call : Call) → name_of call ≡ None → {port : Port} {payload rest : List ℕ} → decode wire xs ≡ sent port call payload rest → ⊥
unfolding decode
uncarried wire [] call unnamed e = let z : ◌≡◌ {A = ℕ} 0 1 = cc in omega arith
uncarried wire (kind ∷ xs) call unnamed e = nameless (sym (sent_kind wire kind xs e).named ∙ unnamed)

pub rent_uncarried : RentUncarried
unfolding name_of
rent_uncarried wire xs o port payload rest e = uncarried wire xs (Rent o) refl e

pub sweep_uncarried : SweepUncarried
unfolding name_of
sweep_uncarried wire xs o port payload rest e = uncarried wire xs (Sweep o) refl e
