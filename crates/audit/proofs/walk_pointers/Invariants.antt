-- `audit::walk_pointers` tests the pointers in use and tallies them. The invariant is that of the walk with its tally.
use Prim.Native.Nat.{◌-◌}
use Rattle.audit.proofs.Tallying.{TalliedAt}
use Rattle.audit.proofs.walk_pointers.Given as goal

abbrev pub invariant-walk : goal.invariant-walk
invariant-walk l = TalliedAt l.info l.flags l.pointers l.multiplicities l.tally l.least l.i

abbrev pub decreases-walk : goal.decreases-walk
decreases-walk l = l.info.used - l.i
