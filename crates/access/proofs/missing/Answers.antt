-- `access::missing` is the test of the definition.
use Rattle.access.proofs.Blocks.{missing_above, missing_below}
use Rattle.access.proofs.missing.Goals as goal

pub returns-then-info-block : goal.returns-then-info-block
returns-then-info-block c = missing_above _ _ c.if-info-block.true

pub returns : goal.returns
returns c = search missing_below
