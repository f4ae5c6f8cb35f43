-- `parameters::key_at` meets its contract.
use Rattle.card.specs.Session.{key_call}
use Rattle.card.specs.declared.Port.TheVariants.{Host}
use Rattle.card.specs.declared.Call.TheVariants.{KeyRead, KeyWrite}
use Rattle.records.proofs.Parsing.{refused}
use Rattle.parameters.specs.NumbersLaws.{made, not_made}
use Rattle.parameters.proofs.key_at.Goals as goal

pub returns-in_err-o : goal.returns-in_err-o
returns-in_err-o c = rw (← c.credential_of.ensures, ← c.new_key_of.ensures) (not_made c.args.port Host (key_call c.args.mode) (refused c.from_residual.result c.from_residual.ensures.0) c.in_err-o.ensures)

pub returns-in-Reading : goal.returns-in-Reading
returns-in-Reading c = rw (← c.credential_of.ensures, ← c.new_key_of.ensures, c.in-Reading.is) (made c.args.port Host KeyRead c.in_ok-o.ensures c.call_at.ensures)

pub returns-in-Writing : goal.returns-in-Writing
returns-in-Writing c = rw (← c.credential_of.ensures, ← c.new_key_of.ensures, c.in-Writing.is) (made c.args.port Host KeyWrite c.in_ok-o.ensures c.call_at-in-Writing.ensures)
