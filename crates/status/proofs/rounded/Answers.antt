-- `status::rounded` rounds to the nearest.
use native.Mathlib.Omega.{arith}
use Rattle.status.proofs.Rounding.{twice_fits, whole_fits, above_half, at_half, below_half}
use Rattle.status.proofs.rounded.Goals as goal

pub overflow_mul-twice : goal.overflow_mul-twice
overflow_mul-twice c = search twice_fits

pub overflow_add-result : goal.overflow_add-result
overflow_add-result c = omega (arith, whole_fits c.args.parts c.args.size c.requires.fact_1)

pub returns-then-size-twice : goal.returns-then-size-twice
returns-then-size-twice c = search above_half

pub half_rounded-requires : goal.half_rounded-requires
half_rounded-requires c = search whole_fits

pub returns-then-twice-size : goal.returns-then-twice-size
returns-then-twice-size c = search at_half

pub returns : goal.returns
returns c = search below_half
