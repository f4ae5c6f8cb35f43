-- `sweeping::sweep_lowest` sweeps the lowest waiting blocks. The loop's invariant: the waiting blocks passed are swept.
use Rattle.sweeping.proofs.Swept.{Walked}
use Rattle.sweeping.proofs.sweep_lowest.Given as goal

abbrev pub invariant-loop-block : goal.invariant-loop-block
invariant-loop-block l = Walked l.bytes l.most l.initial.flags l.initial.contents l.flags l.contents l.swept l.block
