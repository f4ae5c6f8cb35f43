-- `audit::walk_unused` tests the unused places of both tables. The invariant: the places from `i` on pass exactly when all of them do.
use Prim.Native.Nat.{◌-◌}
use lib.Dec.{eqb}
use lib.ListN.{length}
use Rattle.audit.proofs.Passing.{Remaining}
use Rattle.audit.proofs.walk_unused.Given as goal

abbrev pub invariant-walk : goal.invariant-walk
invariant-walk l = Remaining (λ w. eqb w 0) (λ n. eqb n 0) l.pointers l.multiplicities l.used l.i

abbrev pub decreases-walk : goal.decreases-walk
decreases-walk l = length l.pointers - l.i
