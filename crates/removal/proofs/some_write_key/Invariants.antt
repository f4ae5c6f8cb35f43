-- `removal::some_write_key` tells whether some marked block has a write key. The loop's invariant: no marked block passed has one.
use Rattle.removal.proofs.Marked.{Keyless}
use Rattle.removal.proofs.some_write_key.Given as goal

abbrev pub invariant-loop-at : goal.invariant-loop-at
invariant-loop-at l = Keyless l.marks l.flags l.blocks l.at
