use Rattle.allocation.proofs.Listing.{listed_more, listed_whole}
use Rattle.allocation.proofs.list_run.Goals as goal

pub loop-listed-preserved : goal.loop-listed-preserved
loop-listed-preserved c = search listed_more

pub returns : goal.returns
returns c = search listed_whole
