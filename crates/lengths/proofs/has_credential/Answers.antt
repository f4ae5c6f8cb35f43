-- `lengths::has_credential` meets its contract.
use borrow.Author.Rules.{rules}
use Rattle.kinds.specs.Arithmetic.{has_credential}
use Rattle.lengths.proofs.has_credential.Goals as goal

pub returns : goal.returns
unfolding has_credential
returns c = search rules
