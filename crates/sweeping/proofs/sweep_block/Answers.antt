-- `sweeping::sweep_block` leaves the tables with the block swept.
use Rattle.sweeping.proofs.Swept.{block_swept}
use Rattle.sweeping.proofs.sweep_block.Goals as goal

pub returns : goal.returns
returns c = block_swept c.requires c.clear.ensures
