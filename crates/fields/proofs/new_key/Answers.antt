-- `fields::new_key` meets its contract: an arm for each first byte.
use Rattle.fields.proofs.Arms.{absent, not_absent, present, no_new_key}
use Rattle.fields.proofs.new_key.Goals as goal

pub returns-in-0 : goal.returns-in-0
returns-in-0 c = search absent

pub returns-in-1 : goal.returns-in-1
returns-in-1 c = search present

pub returns-in_default : goal.returns-in_default
returns-in_default c = search not_absent

pub returns-in_default-2 : goal.returns-in_default-2
returns-in_default-2 c = search no_new_key
