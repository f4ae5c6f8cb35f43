-- `batch::put_pairs` meets its contract.
use Rattle.batch.proofs.AnswerBytesLaws.{Pairing}
use Rattle.batch.proofs.put_pairs.Given as goal

abbrev pub invariant-loop-block : goal.invariant-loop-block
invariant-loop-block l = Pairing l.values l.initial.to l.at l.to l.next l.block-index
