-- `records::renew_operands` meets its contract.
use Rattle.decoding.specs.Decode.{renew_operands}
use Rattle.records.proofs.Parsing.{refused}
use Rattle.records.proofs.renew_operands.Goals as goal

pub returns-in_err-high : goal.returns-in_err-high
unfolding renew_operands
returns-in_err-high c = rw (refused c.from_residual.result c.from_residual.ensures.0, c.in_err-high.was)

pub returns-in-Key : goal.returns-in-Key
unfolding renew_operands
returns-in-Key c = rw (c.in_ok-high.was, c.in-Key.is)

pub returns-in-Nothing : goal.returns-in-Nothing
unfolding renew_operands
returns-in-Nothing c = rw (c.in_ok-high.was, c.in-Nothing.is)

pub returns-in-Reference : goal.returns-in-Reference
unfolding renew_operands
returns-in-Reference c = rw (c.in_ok-high.was, c.in-Reference.is)
