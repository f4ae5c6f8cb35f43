-- `records::delete_operands` meets its contract.
use Rattle.decoding.specs.Decode.{with_credential}
use Rattle.records.proofs.Parsing.{refused}
use Rattle.records.proofs.delete_operands.Goals as goal

pub returns-in_err-credential : goal.returns-in_err-credential
unfolding with_credential
returns-in_err-credential c = rw (refused c.from_residual.result c.from_residual.ensures.0, c.in_err-credential.was)

pub returns : goal.returns
unfolding with_credential
returns c = rw c.in_ok-credential.was
