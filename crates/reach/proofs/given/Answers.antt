use Rattle.reach.proofs.Giving.{passed_found, passed_more, passed_whole}
use Rattle.reach.proofs.given.Goals as goal

pub returns-then-high-words : goal.returns-then-high-words
returns-then-high-words c = search passed_found

pub loop-key-preserved : goal.loop-key-preserved
loop-key-preserved c = search passed_more

pub returns : goal.returns
returns c = search passed_whole
