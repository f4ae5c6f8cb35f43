-- `keys::mode_of` is the operation of the definition.
use Rattle.keys.proofs.Keys.{mode_reading, mode_writing}
use Rattle.keys.proofs.mode_of.Goals as goal

pub returns-then-number-eq0 : goal.returns-then-number-eq0
returns-then-number-eq0 c = mode_reading _ c.if-number-eq0.true

pub returns : goal.returns
returns c = mode_writing _ c.if-number-eq0.false
