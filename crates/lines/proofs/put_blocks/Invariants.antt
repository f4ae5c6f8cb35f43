-- `lines::put_blocks` meets its contract.
use Rattle.lines.proofs.WrittenPart.{Spacing}
use Rattle.lines.proofs.put_blocks.Given as goal

abbrev pub invariant-loop-block : goal.invariant-loop-block
invariant-loop-block l = Spacing l.values l.initial.to l.at l.to l.next l.block-index
