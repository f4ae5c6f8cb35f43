-- `lengths::behind_credential` meets its contract: the sizes of the fields that the call has, added up.
use native.Mathlib.Omega.{arith}
use Rattle.kinds.specs.Arithmetic.{behind_credential}
use Rattle.lengths.proofs.Table.{part_most}
use Rattle.lengths.proofs.behind_credential.Goals as goal

pub overflow_add-result : goal.overflow_add-result
overflow_add-result c = omega (arith, part_most _ _ c.part_of-2.ensures, part_most _ _ c.part_of.ensures)

pub overflow_add-result-2 : goal.overflow_add-result-2
overflow_add-result-2 c = omega (arith, part_most _ _ c.part_of-3.ensures, part_most _ _ c.part_of-2.ensures, part_most _ _ c.part_of.ensures)

pub overflow_add-result-3 : goal.overflow_add-result-3
overflow_add-result-3 c = omega (arith, part_most _ _ c.part_of-4.ensures, part_most _ _ c.part_of-3.ensures, part_most _ _ c.part_of-2.ensures, part_most _ _ c.part_of.ensures)

pub overflow_add-result-4 : goal.overflow_add-result-4
overflow_add-result-4 c = omega (arith, part_most _ _ c.part_of-5.ensures, part_most _ _ c.part_of-4.ensures, part_most _ _ c.part_of-3.ensures, part_most _ _ c.part_of-2.ensures, part_most _ _ c.part_of.ensures)

pub returns : goal.returns
unfolding behind_credential
returns c = rw (c.part_of-5.ensures, c.part_of-4.ensures, c.part_of-3.ensures, c.part_of-2.ensures, c.part_of.ensures)
