-- `parameters::call_at` meets its contract.
use Rattle.parameters.specs.NumbersLaws.{call_at_law, call_nowhere}
use Rattle.parameters.proofs.call_at.Goals as goal

pub returns-in-Some : goal.returns-in-Some
returns-in-Some c = call_at_law c.args.port c.wire_of.ensures c.args.call c.in-Some.is

pub returns-in-None : goal.returns-in-None
returns-in-None c = call_nowhere c.args.port c.wire_of.ensures c.args.call c.in-None.is
