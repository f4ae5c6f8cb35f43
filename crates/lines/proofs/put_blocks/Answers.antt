use Rattle.lines.proofs.WrittenPart.{spacing_none, spacing_room, spacing_more, spacing_done}
use Rattle.lines.proofs.put_blocks.Goals as goal

pub loop-block-init : goal.loop-block-init
loop-block-init c = search spacing_none

pub put_spaced-next-requires : goal.put_spaced-next-requires
put_spaced-next-requires c = search spacing_room

pub loop-block-preserved : goal.loop-block-preserved
loop-block-preserved c = search spacing_more

pub returns : goal.returns
returns c = search spacing_done
