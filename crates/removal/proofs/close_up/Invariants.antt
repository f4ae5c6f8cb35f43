-- `removal::close_up` leaves the pointers that stay in the first places, counted alone. The loop's invariant: so it is of the places passed.
use Rattle.removal.proofs.Closing.{Closing}
use Rattle.removal.proofs.close_up.Given as goal

abbrev pub invariant-loop-at : goal.invariant-loop-at
invariant-loop-at l = Closing l.marks l.gone l.used l.initial.counts l.initial.pointers l.initial.multiplicities l.counts l.pointers l.multiplicities l.kept l.at
