-- Each test of a theorem is passed by the right rules.
use mathlib.Core.Path.{◌≡◌}
use mathlib.Core.Bool.{true}
use Rattle.card.specs.declared.Port.{Port}
use Rattle.kinds.proofs.AllKinds.{all_kinds, lengths_worked_out}
use Rattle.kinds.proofs.Rows.{all_kinds_test, all_kinds_tests, lengths_worked_out_test, lengths_worked_out_tests}

pub all_kinds_tested : (wire : Port) → all_kinds_test wire ≡ true
all_kinds_tested wire = all_kinds_tests all_kinds wire

pub lengths_worked_out_tested : (wire : Port) → lengths_worked_out_test wire ≡ true
lengths_worked_out_tested wire = lengths_worked_out_tests lengths_worked_out wire
