-- `allocation::list_run` puts the numbers into the first places: those so far are there.
use Rattle.allocation.proofs.Listing.{Listed}
use Rattle.allocation.proofs.list_run.Given as goal

abbrev pub invariant-loop-listed : goal.invariant-loop-listed
invariant-loop-listed l = Listed l.first l.count l.initial.places l.places l.listed
