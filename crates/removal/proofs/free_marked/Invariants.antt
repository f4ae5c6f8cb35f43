-- `removal::free_marked` frees each marked block. The loop's invariant: the marked blocks passed are freed.
use Rattle.removal.proofs.Marked.{Freeing}
use Rattle.removal.proofs.free_marked.Given as goal

abbrev pub invariant-loop-at : goal.invariant-loop-at
invariant-loop-at l = Freeing l.marks l.initial.flags l.initial.keys l.initial.windows l.blocks l.flags l.keys l.windows l.at
