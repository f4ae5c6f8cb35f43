-- `reach::list` puts one marked block after the other into the places.
use Rattle.reach.proofs.Listing.{Listed}
use Rattle.reach.proofs.list.Given as goal

abbrev pub invariant-loop-block : goal.invariant-loop-block
invariant-loop-block l = Listed l.marks l.initial.places l.places l.blocks l.block l.listed
