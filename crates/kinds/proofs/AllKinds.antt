-- The lengths of all 256 kinds at each port are those of the table, by the rules and as they are worked out from the kind.
use mathlib.Core.Path.{refl}
use Rattle.card.specs.Lists.{numbers_below}
use Rattle.card.specs.declared.Port.TheVariants.{Host, Service}
use Rattle.kinds.specs.Kinds.{row, names, kind_number, length_of, among, kind_of, kind_length, body_length}
use Rattle.kinds.specs.Arithmetic.{number_of, has_credential, part_of, behind_credential, without_credential, operands_at, lengths_numbered, lengths_at}
use Rattle.kinds.specs.AllKinds.{AllKinds, LengthsWorkedOut}

pub all_kinds : AllKinds
unfolding numbers_below row names kind_number length_of among kind_of kind_length body_length
all_kinds Host = refl
all_kinds Service = refl

pub lengths_worked_out : LengthsWorkedOut
unfolding numbers_below row names kind_number among kind_of number_of has_credential part_of behind_credential without_credential operands_at lengths_numbered lengths_at
lengths_worked_out Host = refl
lengths_worked_out Service = refl
