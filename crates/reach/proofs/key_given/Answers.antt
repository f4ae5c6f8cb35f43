-- `reach::key_given` meets its contract.
use Rattle.reach.proofs.Giving.{key_absent, read_key, write_key}
use Rattle.std.proofs.Common.{ap}
use mathlib.Core.Bool.{not}
use Rattle.reach.proofs.key_given.Goals as goal

pub returns-then-not-has_key : goal.returns-then-not-has_key
returns-then-not-has_key c = key_absent _ _ _ _ _ c.has_key.ensures (ap not c.if-not-has_key.true)

pub returns-in-Reading : goal.returns-in-Reading
returns-in-Reading c = read_key _ _ _ _ c.in-Reading.is c.has_key.ensures (ap not c.if-not-has_key.false) c.given.ensures

pub returns-in-Writing : goal.returns-in-Writing
returns-in-Writing c = write_key _ _ _ _ c.in-Writing.is c.has_key.ensures (ap not c.if-not-has_key.false) c.given-in-Writing.ensures
