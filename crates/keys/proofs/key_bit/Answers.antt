-- `keys::key_bit` is the flag of the definition.
use borrow.Author.Tests.{not-true, not-false}
use Rattle.std.proofs.Common.{ap}
use mathlib.Core.Bool.{not}
use Rattle.keys.proofs.key_bit.Goals as goal

pub returns-then-not-there : goal.returns-then-not-there
returns-then-not-there c = rw (not-true c.args.there (ap not c.if-not-there.true))

pub returns-in-Reading : goal.returns-in-Reading
returns-in-Reading c = rw (not-false c.args.there (ap not c.if-not-there.false), c.in-Reading.is)

pub returns-in-Writing : goal.returns-in-Writing
returns-in-Writing c = rw (not-false c.args.there (ap not c.if-not-there.false), c.in-Writing.is)
