-- `cardplay::play_all` plays piece after piece. The invariant: what was read so far is played, but for what stands in the buffer.
use Rattle.cardplay.proofs.PiecesLoop.{PiecesLoop}
use Rattle.cardplay.proofs.play_all.Given as goal

abbrev pub invariant-loop-turn : goal.invariant-loop-turn
invariant-loop-turn g l =
    PiecesLoop l.initial.card l.card l.buffer l.output l.progress.stop l.progress.records l.progress.filled l.progress.wrote l.progress.on
