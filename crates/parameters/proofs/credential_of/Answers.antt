-- `parameters::credential_of` meets its contract.
use borrow.Author.Tests.{eq-eqb, ne_eqb}
use Rattle.parameters.specs.Numbers.{credential_of}
use Rattle.parameters.proofs.credential_of.Goals as goal

pub returns-then-bytes-ne-CREDENTIAL_LENGTH : goal.returns-then-bytes-ne-CREDENTIAL_LENGTH
unfolding credential_of
returns-then-bytes-ne-CREDENTIAL_LENGTH c = rw (ne_eqb _ 17 c.if-bytes-ne-CREDENTIAL_LENGTH.true)

pub returns : goal.returns
unfolding credential_of
returns c = rw (eq-eqb _ 17 c.if-bytes-ne-CREDENTIAL_LENGTH.false) c.credential.ensures
