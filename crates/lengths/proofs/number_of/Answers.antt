-- `lengths::number_of` meets its contract: the kinds of the service port are 128 above the numbers of their calls.
use Rattle.lengths.proofs.Table.{number_below, number_above}
use Rattle.lengths.proofs.number_of.Goals as goal

pub returns-then-kind-lt128 : goal.returns-then-kind-lt128
returns-then-kind-lt128 c = search number_below

pub returns-else-kind-lt128 : goal.returns-else-kind-lt128
returns-else-kind-lt128 c = search number_above
