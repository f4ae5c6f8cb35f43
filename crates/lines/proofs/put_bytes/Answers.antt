use Rattle.lines.proofs.WrittenPart.{spacing_none, spacing_room, spacing_more, spacing_done}
use Rattle.lines.proofs.put_bytes.Goals as goal

pub loop-byte-init : goal.loop-byte-init
loop-byte-init c = search spacing_none

pub put_spaced-next-requires : goal.put_spaced-next-requires
put_spaced-next-requires c = search spacing_room

pub loop-byte-preserved : goal.loop-byte-preserved
loop-byte-preserved c = search spacing_more

pub returns : goal.returns
returns c = search spacing_done
