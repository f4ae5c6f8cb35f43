-- `all_kinds` and `lengths_worked_out` as tests, and a row for each mistake in the rules of kinds that a must-fail edit makes: true by the theorem, and
-- false with the mistake.
use Rattle.std.specs.Prelude.{Option, Some, None}
use Prim.Native.Nat.{ℕ, ◌+◌}
use mathlib.Core.Path.{◌≡◌, refl, ap}
use mathlib.Core.Bool.{Bool, true}
use mathlib.Core.List.{List, map}
use Rattle.card.specs.Lists.{numbers_below}
use Rattle.card.proofs.Computed.Same.{same_list}
use Rattle.card.proofs.Computed.Row.{Row, refutes, nothing}
use Rattle.card.proofs.Computed.TestLaws.{true_same_list}
use Rattle.card.specs.declared.Port.{Port}
use Rattle.card.specs.declared.Port.TheVariants.{Host, Service}
use Rattle.kinds.specs.Kinds.{row, names, kind_number, length_of, among, kind_of, kind_length, body_length}
use Rattle.kinds.specs.Arithmetic.{number_of, has_credential, part_of, behind_credential, without_credential, operands_at, lengths_numbered, lengths_at}
use Rattle.kinds.specs.AllKinds.{expected, AllKinds, worked_out, LengthsWorkedOut}

-- A length as a number, 0 where there is none.
abbrev length_number : Option ℕ → ℕ
length_number (Some n) = n + 1
length_number None = 0

abbrev numbers : List (Option ℕ) → List ℕ
numbers lengths = map length_number lengths

abbrev expected_of : (ℕ → Option ℕ) → Port → Bool
expected_of lengthOfKind wire = same_list (numbers (map lengthOfKind (numbers_below (λ kind. true) 256))) (numbers (expected wire))

abbrev pub all_kinds_test : Port → Bool
all_kinds_test wire = expected_of (body_length wire) wire

pub all_kinds_tests : AllKinds → (wire : Port) → all_kinds_test wire ≡ true
all_kinds_tests statement wire = true_same_list (ap numbers (statement wire))

abbrev all_kinds_row : Port → Row AllKinds
all_kinds_row wire = record { test = all_kinds_test wire; follows = λ statement. all_kinds_tests statement wire }

abbrev pub lengths_worked_out_test : Port → Bool
lengths_worked_out_test wire = expected_of (worked_out wire) wire

pub lengths_worked_out_tests : LengthsWorkedOut → (wire : Port) → lengths_worked_out_test wire ≡ true
lengths_worked_out_tests statement wire = true_same_list (ap numbers (statement wire))

abbrev lengths_worked_out_row : Port → Row LengthsWorkedOut
lengths_worked_out_row wire = record { test = lengths_worked_out_test wire; follows = λ statement. lengths_worked_out_tests statement wire }

-- ---- rows

-- To compute a row, its proof unfolds this one name.
unfoldable computing : Unit {0}
unfolding numbers_below same_list row names kind_number length_of among kind_of kind_length body_length number_of has_credential part_of behind_credential without_credential operands_at lengths_numbered lengths_at
computing = tt

abbrev renew_at_the_service_port : Row AllKinds
renew_at_the_service_port = all_kinds_row Service

abbrev service_kinds_exist_at_the_host_port : Row AllKinds
service_kinds_exist_at_the_host_port = all_kinds_row Host

abbrev alloc_contig_of_kind_13 : Row AllKinds
alloc_contig_of_kind_13 = all_kinds_row Host

abbrev key_write_of_kind_15 : Row AllKinds
key_write_of_kind_15 = all_kinds_row Host

abbrev key_body_of_53 : Row AllKinds
key_body_of_53 = all_kinds_row Host

abbrev key_write_for_hosts_alone : Row AllKinds
key_write_for_hosts_alone = all_kinds_row Service

abbrev alloc_one_byte_short : Row LengthsWorkedOut
alloc_one_byte_short = lengths_worked_out_row Service

abbrev renew_one_byte_short : Row LengthsWorkedOut
renew_one_byte_short = lengths_worked_out_row Host

abbrev service_length_of_the_next_call : Row LengthsWorkedOut
service_length_of_the_next_call = lengths_worked_out_row Service

-- ---- the row of an edit

-- An edit puts here the statement that its mistake makes false, and the row that shows it.
pub refuted : ⊥ → ⊥
unfolding computing
refuted = refutes nothing refl

-- And the row here, as what it is by its theorem: with the mistake this is refused.
pub held : true ≡ true
unfolding computing
held = refl
