-- `lengths::operands_length` meets its contract: a block and a credential, and what follows, or the operands of a call without a credential.
use native.Mathlib.Omega.{arith}
use Rattle.kinds.specs.Arithmetic.{operands_at}
use Rattle.lengths.proofs.Table.{part_most, behind_most, without_most}
use Rattle.lengths.proofs.operands_length.Goals as goal

pub overflow_add-result : goal.overflow_add-result
overflow_add-result c = omega (arith, behind_most _ c.behind_credential.ensures, part_most _ _ c.part_of.ensures)

pub overflow_add-result-2 : goal.overflow_add-result-2
overflow_add-result-2 c = omega (arith, without_most _ c.without_credential.ensures, behind_most _ c.behind_credential.ensures, part_most _ _ c.part_of.ensures)

pub returns : goal.returns
unfolding operands_at
returns c = rw (c.without_credential.ensures, c.behind_credential.ensures, c.part_of.ensures, c.has_credential.ensures)
