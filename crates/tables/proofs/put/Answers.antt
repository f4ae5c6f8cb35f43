-- `tables::put` meets its contract: both tables are raised by one from the place on, and the pointer and its multiplicity are put there.
use Rattle.tables.proofs.Shift.{put_both}
use Rattle.tables.proofs.put.Goals as goal

pub returns : goal.returns
returns c = search put_both
