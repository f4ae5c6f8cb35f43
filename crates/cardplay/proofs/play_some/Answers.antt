use Rattle.cardplay.proofs.ProgressLaws.{piece_is}
use Rattle.cardplay.proofs.play_some.Goals as goal

pub returns-clause-plays : goal.returns-clause-plays
returns-clause-plays c = piece_is c.args.buffer.now c.args.filled c.requires.in_buffer c.play-part.ensures.plays c.keep-left.ensures
