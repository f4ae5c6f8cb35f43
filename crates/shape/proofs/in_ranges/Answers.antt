-- `shape::in_ranges` is the ranges of the shape.
use Rattle.shape.proofs.ShapeTests.{few_bytes, in_ranges}
use Rattle.shape.proofs.in_ranges.Goals as goal

pub returns-then-bytes-lt512 : goal.returns-then-bytes-lt512
returns-then-bytes-lt512 c = few_bytes _ _ _ c.if-bytes-lt512.true

pub returns : goal.returns
returns c = in_ranges _ _ _
