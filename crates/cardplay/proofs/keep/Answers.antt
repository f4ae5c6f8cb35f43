-- `cardplay::keep` moves the bytes.
use Rattle.cardplay.proofs.InputBufferLaws.{moved}
use Rattle.cardplay.proofs.keep.Goals as goal

pub returns : goal.returns
returns c = moved _ _ _ c.requires.fact_2 c.copy_within.ensures.after
