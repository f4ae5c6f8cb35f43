-- `records::key_operands` meets its contract.
use Rattle.decoding.specs.Decode.{key_operands}
use Rattle.records.proofs.Parsing.{refused}
use Rattle.records.proofs.key_operands.Goals as goal

pub returns-in_err-credential : goal.returns-in_err-credential
unfolding key_operands
returns-in_err-credential c = rw (refused c.from_residual.result c.from_residual.ensures.0, c.in_err-credential.was)

pub returns-in_err-key : goal.returns-in_err-key
unfolding key_operands
returns-in_err-key c = rw (refused c.from_residual-in_err-key.result c.from_residual-in_err-key.ensures.0, c.in_ok-credential.was, c.in_err-key.was)

pub returns : goal.returns
unfolding key_operands
returns c = rw (c.in_ok-credential.was, c.in_ok-key.was)
