use Rattle.walks.proofs.Linking.{linking_none, linking_more}
use Rattle.walks.proofs.link.Goals as goal

pub loop-at-init : goal.loop-at-init
loop-at-init c = search linking_none

pub loop-at-preserved : goal.loop-at-preserved
loop-at-preserved c = search linking_more
