-- `allocation::take_all` takes the blocks: the first of them are taken so far.
use Rattle.allocation.proofs.Collecting.{Collects}
use Rattle.allocation.proofs.take_all.Given as goal

abbrev pub invariant-loop-taken : goal.invariant-loop-taken
invariant-loop-taken l = Collects l.initial.card l.card l.reference l.numbers l.added l.taken
