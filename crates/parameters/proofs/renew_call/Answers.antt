-- `parameters::renew_call` meets its contract.
use mathlib.Core.Path.{ap, ◌∙◌}
use Rattle.card.specs.declared.Port.TheVariants.{Host}
use Rattle.card.specs.declared.Call.TheVariants.{Renew}
use Rattle.decoding.specs.Decode.{call_of}
use Rattle.records.proofs.Parsing.{refused}
use Rattle.parameters.proofs.renew_call.Goals as goal

pub returns-in_err-o : goal.returns-in_err-o
unfolding call_of
returns-in_err-o c = rw (← c.credential_of.ensures) (refused c.from_residual.result c.from_residual.ensures.0 ∙ ap (call_of Host Renew) c.in_err-o.ensures)

pub returns : goal.returns
unfolding call_of
returns c = rw (← c.credential_of.ensures) (ap (call_of Host Renew) c.in_ok-o.ensures)
