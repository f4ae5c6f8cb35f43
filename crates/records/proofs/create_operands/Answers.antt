-- `records::create_operands` meets its contract.
use Rattle.decoding.specs.Decode.{create_operands}
use Rattle.records.proofs.Parsing.{refused}
use Rattle.records.proofs.create_operands.Goals as goal

pub returns-in_err-credential : goal.returns-in_err-credential
unfolding create_operands
returns-in_err-credential c = rw (refused c.from_residual.result c.from_residual.ensures.0, c.in_err-credential.was)

pub returns-in_err-second : goal.returns-in_err-second
unfolding create_operands
returns-in_err-second c = rw (refused c.from_residual-in_err-second.result c.from_residual-in_err-second.ensures.0, c.in_ok-credential.was, c.in_err-second.was)

pub returns : goal.returns
unfolding create_operands
returns c = rw (c.in_ok-credential.was, c.in_ok-second.was)
