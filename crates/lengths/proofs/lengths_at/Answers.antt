-- `lengths::lengths_at` meets its contract: a body is its operands, and behind those of WRITE its data.
use native.Mathlib.Omega.{arith}
use Rattle.kinds.specs.Arithmetic.{lengths_numbered, lengths_at}
use Rattle.lengths.proofs.Table.{part_most, operands_most}
use Rattle.lengths.proofs.lengths_at.Goals as goal

pub overflow_add-result : goal.overflow_add-result
overflow_add-result c = omega (arith, part_most _ _ c.part_of.ensures, operands_most _ c.operands_length-operands.ensures)

pub returns : goal.returns
unfolding lengths_at lengths_numbered
returns c = rw (c.part_of.ensures, c.operands_length-operands.ensures, c.number_of-call.ensures)
