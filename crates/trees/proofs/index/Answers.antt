use Rattle.trees.proofs.Starting.{indexed_none, indexed_more}
use Rattle.trees.proofs.index.Goals as goal

pub loop-at-init : goal.loop-at-init
loop-at-init c = search indexed_none

pub loop-at-preserved : goal.loop-at-preserved
loop-at-preserved c = search indexed_more
