-- `lengths::body_length` meets its contract: the length worked out from the kind is that of its call.
use Rattle.lengths.proofs.Table.{known_length, unknown_length}
use Rattle.lengths.proofs.body_length.Goals as goal

pub returns-in_err-kind_of : goal.returns-in_err-kind_of
returns-in_err-kind_of c = rw c.from_residual.ensures (unknown_length _ _ c.in_err-kind_of.ensures)

pub returns : goal.returns
returns c = known_length _ _ c.in_ok-kind_of.ensures c.lengths_at.ensures
