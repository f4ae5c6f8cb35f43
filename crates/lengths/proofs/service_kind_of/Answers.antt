-- `lengths::service_kind_of` meets its contract: each arm is one kind of the table, and any other number is none.
use Rattle.card.specs.declared.Port.TheVariants.{Service}
use Rattle.lengths.proofs.Table.{table_rules, at_kind, unknown_service}
use Rattle.lengths.proofs.service_kind_of.Goals as goal

pub returns-in-129 : goal.returns-in-129
unfolding table_rules
returns-in-129 c = at_kind Service c.in-129.is

pub returns-in-130 : goal.returns-in-130
unfolding table_rules
returns-in-130 c = at_kind Service c.in-130.is

pub returns-in-131 : goal.returns-in-131
unfolding table_rules
returns-in-131 c = at_kind Service c.in-131.is

pub returns-in-132 : goal.returns-in-132
unfolding table_rules
returns-in-132 c = at_kind Service c.in-132.is

pub returns-in-133 : goal.returns-in-133
unfolding table_rules
returns-in-133 c = at_kind Service c.in-133.is

pub returns-in-134 : goal.returns-in-134
unfolding table_rules
returns-in-134 c = at_kind Service c.in-134.is

pub returns-in-140 : goal.returns-in-140
unfolding table_rules
returns-in-140 c = at_kind Service c.in-140.is

pub returns-in-141 : goal.returns-in-141
unfolding table_rules
returns-in-141 c = at_kind Service c.in-141.is

pub returns-in-142 : goal.returns-in-142
unfolding table_rules
returns-in-142 c = at_kind Service c.in-142.is

pub returns-in_default : goal.returns-in_default
returns-in_default c = unknown_service _ c.requires c.in_default.in_default-own.rest
