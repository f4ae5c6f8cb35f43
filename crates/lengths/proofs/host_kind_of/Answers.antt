-- `lengths::host_kind_of` meets its contract: each arm is one kind of the table, and any other number is none.
use Rattle.card.specs.declared.Port.TheVariants.{Host}
use Rattle.lengths.proofs.Table.{table_rules, at_kind, unknown_host}
use Rattle.lengths.proofs.host_kind_of.Goals as goal

pub returns-in-1 : goal.returns-in-1
unfolding table_rules
returns-in-1 c = at_kind Host c.in-1.is

pub returns-in-2 : goal.returns-in-2
unfolding table_rules
returns-in-2 c = at_kind Host c.in-2.is

pub returns-in-3 : goal.returns-in-3
unfolding table_rules
returns-in-3 c = at_kind Host c.in-3.is

pub returns-in-4 : goal.returns-in-4
unfolding table_rules
returns-in-4 c = at_kind Host c.in-4.is

pub returns-in-5 : goal.returns-in-5
unfolding table_rules
returns-in-5 c = at_kind Host c.in-5.is

pub returns-in-6 : goal.returns-in-6
unfolding table_rules
returns-in-6 c = at_kind Host c.in-6.is

pub returns-in-7 : goal.returns-in-7
unfolding table_rules
returns-in-7 c = at_kind Host c.in-7.is

pub returns-in-8 : goal.returns-in-8
unfolding table_rules
returns-in-8 c = at_kind Host c.in-8.is

pub returns-in-9 : goal.returns-in-9
unfolding table_rules
returns-in-9 c = at_kind Host c.in-9.is

pub returns-in-10 : goal.returns-in-10
unfolding table_rules
returns-in-10 c = at_kind Host c.in-10.is

pub returns-in-11 : goal.returns-in-11
unfolding table_rules
returns-in-11 c = at_kind Host c.in-11.is

pub returns-in-12 : goal.returns-in-12
unfolding table_rules
returns-in-12 c = at_kind Host c.in-12.is

pub returns-in-13 : goal.returns-in-13
unfolding table_rules
returns-in-13 c = at_kind Host c.in-13.is

pub returns-in-14 : goal.returns-in-14
unfolding table_rules
returns-in-14 c = at_kind Host c.in-14.is

pub returns-in_default : goal.returns-in_default
returns-in_default c = unknown_host _ c.in_default.in_default-own.rest
