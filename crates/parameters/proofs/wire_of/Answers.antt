-- `parameters::wire_of` meets its contract.
use borrow.Author.Tests.{ne_eqb}
use Rattle.parameters.specs.Numbers.{wire_of}
use Rattle.parameters.proofs.wire_of.Goals as goal

pub returns-in-0 : goal.returns-in-0
unfolding wire_of
returns-in-0 c = rw c.in-0.is

pub returns-in-1 : goal.returns-in-1
unfolding wire_of
returns-in-1 c = rw c.in-1.is

pub returns-in_default : goal.returns-in_default
unfolding wire_of
returns-in_default c = rw (ne_eqb _ 0 c.in_default.in_default-own.rest.0.1, ne_eqb _ 1 c.in_default.in_default-own.rest.1)
