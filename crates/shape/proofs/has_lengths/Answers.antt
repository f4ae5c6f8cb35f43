-- `shape::has_lengths` is the rest of the shape.
use native.Mathlib.Omega.{arith}
use Rattle.shape.proofs.ShapeTests.{contents_fit, in_lengths}
use Rattle.card.specs.Lent.{shared_card}
use Rattle.shape.proofs.has_lengths.Goals as goal

pub overflow_mul-result-3 : goal.overflow_mul-result-3
overflow_mul-result-3 c = omega (arith, contents_fit c.requires)

pub returns : goal.returns
returns c = search (in_lengths (shared_card c.args.card))
