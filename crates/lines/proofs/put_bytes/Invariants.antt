-- `lines::put_bytes` meets its contract.
use Rattle.lines.proofs.WrittenPart.{Spacing}
use Rattle.lines.proofs.put_bytes.Given as goal

abbrev pub invariant-loop-byte : goal.invariant-loop-byte
invariant-loop-byte l = Spacing l.values l.initial.to l.at l.to l.next l.byte-index
