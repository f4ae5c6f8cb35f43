-- `allocation::take` leaves the tables with one block more taken.
use Rattle.allocation.proofs.Taking.{block_taken}
use Rattle.allocation.proofs.take.Goals as goal

pub returns : goal.returns
returns c = search block_taken
