-- `fields::credential` meets its contract: an arm for each first byte.
use Rattle.fields.proofs.Arms.{nothing, not_nothing, reference, not_reference, key, no_credential}
use Rattle.fields.proofs.credential.Goals as goal

pub returns-in-0 : goal.returns-in-0
returns-in-0 c = search nothing

pub returns-in-1 : goal.returns-in-1
returns-in-1 c = search reference

pub returns-in-2 : goal.returns-in-2
returns-in-2 c = search key

pub returns-in_default : goal.returns-in_default
returns-in_default c = search not_nothing

pub returns-in_default-2 : goal.returns-in_default-2
returns-in_default-2 c = search not_reference

pub returns-in_default-3 : goal.returns-in_default-3
returns-in_default-3 c = search no_credential
