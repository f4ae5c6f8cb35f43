-- `lengths::kind_of` meets its contract: below 128 a kind is the same at both ports.
use Rattle.lengths.proofs.Table.{same_below, at_wire}
use Rattle.lengths.proofs.kind_of.Goals as goal

pub returns-in-Host : goal.returns-in-Host
returns-in-Host c = search at_wire

pub returns-then-kind-lt128 : goal.returns-then-kind-lt128
returns-then-kind-lt128 c = search (at_wire, same_below)

pub returns-else-kind-lt128 : goal.returns-else-kind-lt128
returns-else-kind-lt128 c = search at_wire
