-- `parameters::write_at` meets its contract.
use Rattle.card.specs.declared.Port.TheVariants.{Host}
use Rattle.card.specs.declared.Call.TheVariants.{Write}
use Rattle.records.proofs.Parsing.{refused}
use Rattle.parameters.specs.NumbersLaws.{made, not_made}
use Rattle.parameters.proofs.write_at.Goals as goal

pub returns-in_err-o : goal.returns-in_err-o
returns-in_err-o c = rw (← c.credential_of.ensures) (not_made c.args.port Host Write (refused c.from_residual.result c.from_residual.ensures.0) c.in_err-o.ensures)

pub returns : goal.returns
returns c = rw (← c.credential_of.ensures) (made c.args.port Host Write c.in_ok-o.ensures c.call_at.ensures)
