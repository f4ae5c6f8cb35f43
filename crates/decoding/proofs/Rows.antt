-- `kinds_decoded`, `rent_uncarried` and `sweep_uncarried` as tests, and a row for each mistake in the rules of records that a must-fail edit makes: true by
-- the theorem, and false with the mistake.
use Rattle.std.specs.Prelude.{Option, Some, None}
use Prim.Native.Nat.{ℕ, ◌<◌}
use mathlib.Core.Path.{◌≡◌, refl, ap, ◌∙◌}
use mathlib.Core.Bool.{Bool, true, false, not, ◌&&◌}
use mathlib.Core.List.{List, [], ◌∷◌}
use lib.Dec.{ltb}
use lib.ListN.{length, drop, get_or, replicate}
use native.Mathlib.Omega.{arith}
use borrow.Author.Tests.{ltb-true}
use Rattle.laws.specs.ListsLaws.{and_true}
use Rattle.card.proofs.Computed.Same.{same_list}
use Rattle.card.proofs.Computed.Row.{Row, refutes, nothing, implies, true_implies}
use Rattle.card.proofs.Computed.TestLaws.{true_same_list}
use Rattle.card.specs.declared.Port.{Port}
use Rattle.card.specs.declared.Port.TheVariants.{Host, Service}
use Rattle.card.specs.declared.RentOperands.{RentOperands}
use Rattle.card.specs.declared.SweepOperands.{SweepOperands}
use Rattle.card.specs.declared.Call.{Call}
use Rattle.card.specs.declared.Call.TheVariants.{Read, Write, Alloc, AllocContig, Create, Delete, DeleteTree, KeyRead, KeyWrite, Renew, Force, Free, Tick, Audit, Rent, Sweep}
use Rattle.fields.specs.Bytes.{number, zeroed}
use Rattle.fields.specs.Fields.{credential}
use Rattle.kinds.specs.Kinds.{row, names, kind_number, length_of, data_length, operands_length, among, kind_of}
use Rattle.kinds.specs.AllKinds.{expected}
use Rattle.decoding.specs.Decode.{Next, ended, refused, sent, call_of, decode_call, decode_known, decode_body, name_of, data_of, next_of, decode, with_credential}
use Rattle.decoding.specs.Statements.{Leaves, is_call, DecodedBy, KindsDecoded, RentUncarried, SweepUncarried}

-- What is found leaves just the bytes behind a body that is whole, or is refused.
abbrev fits : Option ℕ → List ℕ → Next → Bool
fits l xs ended = true
fits l xs refused = true
fits None xs (sent port call payload rest) = false
fits (Some n) xs (sent port call payload rest) = not (ltb (length xs) n) && same_list rest (drop n xs)

-- A body of zeros is taken.
abbrev taken : Option ℕ → (List ℕ → Next) → Bool
taken None next = true
taken (Some n) next = is_call (next (replicate n 0))

abbrev decoded_test : Option ℕ → List ℕ → (List ℕ → Next) → Bool
decoded_test l xs next = fits l xs (next xs) && taken l next

abbrev pub kinds_decoded_test : Port → ℕ → List ℕ → Bool
kinds_decoded_test wire kind xs = implies (ltb kind 256) (decoded_test (get_or (expected wire) kind None) xs (λ ys. decode wire (kind ∷ ys)))

sent_apart : {port : Port} {call : Call} {payload rest : List ℕ} → sent port call payload rest ≡ refused → ⊥
sent_apart e = let z : ◌≡◌ {A = ℕ} 0 1 = cc in omega arith

fits_unknown : (xs : List ℕ) (next : Next) → next ≡ refused → fits None xs next ≡ true
fits_unknown xs ended e = refl
fits_unknown xs refused e = refl
fits_unknown xs (sent port call payload rest) e = absurd (sent_apart e)

fits_whole : (n : ℕ) (xs : List ℕ) (next : Next) → (length xs < n → next ≡ refused) → Leaves n xs next → fits (Some n) xs next ≡ true
fits_whole n xs ended short leaves = refl
fits_whole n xs refused short leaves = refl
fits_whole n xs (sent port call payload rest) short leaves = and_true _ _ (whole (ltb (length xs) n) refl) (true_same_list (leaves port call payload rest refl))
  where
    whole : (t : Bool) → ltb (length xs) n ≡ t → not t ≡ true
    whole true e = absurd (sent_apart (short (ltb-true _ _ e)))
    whole false e = refl

decoded_tests : (l : Option ℕ) (xs : List ℕ) (next : List ℕ → Next) → DecodedBy l next → decoded_test l xs next ≡ true
decoded_tests None xs next h = and_true _ _ (fits_unknown xs (next xs) (h xs)) refl
decoded_tests (Some n) xs next h = and_true _ _ (fits_whole n xs (next xs) (h.short xs) (h.leaves xs)) h.enough

pub kinds_decoded_tests : KindsDecoded → (wire : Port) (kind : ℕ) (xs : List ℕ) → kinds_decoded_test wire kind xs ≡ true
kinds_decoded_tests statement wire kind xs =
    true_implies (ltb kind 256) _
    (λ h. decoded_tests (get_or (expected wire) kind None) xs (λ ys. decode wire (kind ∷ ys)) (statement wire kind (ltb-true _ _ h)))

abbrev kinds_decoded_row : Port → ℕ → List ℕ → Row KindsDecoded
kinds_decoded_row wire kind xs = record { test = kinds_decoded_test wire kind xs; follows = λ statement. kinds_decoded_tests statement wire kind xs }

-- A call that no record carries, with its operands, or one that a record carries.
pub data Carriage : Type 0 where
  carried : Carriage
  rent : RentOperands → Carriage
  sweep : SweepOperands → Carriage

abbrev carriage_of : Call → Carriage
carriage_of (Read o) = carried
carriage_of (Write o) = carried
carriage_of (Alloc o) = carried
carriage_of (AllocContig o) = carried
carriage_of (Create o) = carried
carriage_of (Delete o) = carried
carriage_of (DeleteTree o) = carried
carriage_of (KeyRead o) = carried
carriage_of (KeyWrite o) = carried
carriage_of (Renew o) = carried
carriage_of (Force o) = carried
carriage_of Free = carried
carriage_of (Tick o) = carried
carriage_of Audit = carried
carriage_of (Rent o) = rent o
carriage_of (Sweep o) = sweep o

abbrev not_rent : Carriage → Bool
not_rent carried = true
not_rent (rent o) = false
not_rent (sweep o) = true

abbrev not_sweep : Carriage → Bool
not_sweep carried = true
not_sweep (rent o) = true
not_sweep (sweep o) = false

-- What is found, if it is a call, is of no carriage that the test refuses.
abbrev finds : (Carriage → Bool) → Next → Bool
finds test ended = true
finds test refused = true
finds test (sent port call payload rest) = test (carriage_of call)

abbrev pub rent_uncarried_test : Port → List ℕ → Bool
rent_uncarried_test wire xs = finds not_rent (decode wire xs)

abbrev pub sweep_uncarried_test : Port → List ℕ → Bool
sweep_uncarried_test wire xs = finds not_sweep (decode wire xs)

-- The call that a carriage is of.
abbrev Of : Call → Carriage → Type 0
Of call carried = Unit {0}
Of call (rent o) = call ≡ Rent o
Of call (sweep o) = call ≡ Sweep o

of_call : (call : Call) → Of call (carriage_of call)
of_call (Read o) = tt
of_call (Write o) = tt
of_call (Alloc o) = tt
of_call (AllocContig o) = tt
of_call (Create o) = tt
of_call (Delete o) = tt
of_call (DeleteTree o) = tt
of_call (KeyRead o) = tt
of_call (KeyWrite o) = tt
of_call (Renew o) = tt
of_call (Force o) = tt
of_call Free = tt
of_call (Tick o) = tt
of_call Audit = tt
of_call (Rent o) = refl
of_call (Sweep o) = refl

tests : (test : Carriage → Bool) (next : Next) → ((port : Port) (call : Call) (payload rest : List ℕ) → next ≡ sent port call payload rest → test (carriage_of call) ≡ true) → finds test next ≡ true
tests test ended h = refl
tests test refused h = refl
tests test (sent port call payload rest) h = h port call payload rest refl

not_rent_law : {call : Call} (k : Carriage) → Of call k → ((o : RentOperands) → call ≡ Rent o → ⊥) → not_rent k ≡ true
not_rent_law carried of h = refl
not_rent_law (rent o) of h = absurd (h o of)
not_rent_law (sweep o) of h = refl

not_sweep_law : {call : Call} (k : Carriage) → Of call k → ((o : SweepOperands) → call ≡ Sweep o → ⊥) → not_sweep k ≡ true
not_sweep_law carried of h = refl
not_sweep_law (rent o) of h = refl
not_sweep_law (sweep o) of h = absurd (h o of)

pub rent_uncarried_tests : RentUncarried → (wire : Port) (xs : List ℕ) → rent_uncarried_test wire xs ≡ true
rent_uncarried_tests statement wire xs =
    tests not_rent (decode wire xs)
    (λ port call payload rest e. not_rent_law (carriage_of call) (of_call call) (λ o same. statement wire xs o port payload rest (e ∙ ap (λ (c : Call). sent port c payload rest) same)))

abbrev rent_uncarried_row : Port → List ℕ → Row RentUncarried
rent_uncarried_row wire xs = record { test = rent_uncarried_test wire xs; follows = λ statement. rent_uncarried_tests statement wire xs }

pub sweep_uncarried_tests : SweepUncarried → (wire : Port) (xs : List ℕ) → sweep_uncarried_test wire xs ≡ true
sweep_uncarried_tests statement wire xs =
    tests not_sweep (decode wire xs)
    (λ port call payload rest e. not_sweep_law (carriage_of call) (of_call call) (λ o same. statement wire xs o port payload rest (e ∙ ap (λ (c : Call). sent port c payload rest) same)))

abbrev sweep_uncarried_row : Port → List ℕ → Row SweepUncarried
sweep_uncarried_row wire xs = record { test = sweep_uncarried_test wire xs; follows = λ statement. sweep_uncarried_tests statement wire xs }

-- ---- rows

-- To compute a row, its proof unfolds this one name.
unfoldable computing : Unit {0}
unfolding number zeroed credential same_list row names kind_number length_of data_length operands_length among kind_of call_of with_credential decode_call decode_known decode_body name_of data_of next_of decode
computing = tt

abbrev unknown_kind_taken_for_audit : Row KindsDecoded
unknown_kind_taken_for_audit = kinds_decoded_row Host 15 []

abbrev body_cut_short_taken : Row KindsDecoded
body_cut_short_taken = kinds_decoded_row Service 10 (replicate 7 0)

abbrev data_left_as_the_next_record : Row KindsDecoded
data_left_as_the_next_record = kinds_decoded_row Service 130 (replicate 535 0)

abbrev body_one_byte_longer : Row KindsDecoded
body_one_byte_longer = kinds_decoded_row Host 8 []

abbrev audit_taken_for_rent : Row RentUncarried
audit_taken_for_rent = rent_uncarried_row Host (11 ∷ [])

abbrev tick_taken_for_rent : Row RentUncarried
tick_taken_for_rent = rent_uncarried_row Service (10 ∷ replicate 8 0)

abbrev unknown_kind_taken_for_rent : Row RentUncarried
unknown_kind_taken_for_rent = rent_uncarried_row Host (15 ∷ 0 ∷ 0 ∷ 0 ∷ 0 ∷ [])

abbrev free_taken_for_sweep : Row SweepUncarried
free_taken_for_sweep = sweep_uncarried_row Host (9 ∷ [])

abbrev tick_taken_for_sweep : Row SweepUncarried
tick_taken_for_sweep = sweep_uncarried_row Service (10 ∷ replicate 8 0)

-- ---- the row of an edit

-- An edit puts here the statement that its mistake makes false, and the row that shows it.
pub refuted : ⊥ → ⊥
unfolding computing
refuted = refutes nothing refl

-- And the row here, as what it is by its theorem: with the mistake this is refused.
pub held : true ≡ true
unfolding computing
held = refl
