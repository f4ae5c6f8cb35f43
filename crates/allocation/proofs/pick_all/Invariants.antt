-- `allocation::pick_all` puts the picks into the first places: those so far are there. The measure is what is left to pass.
use Prim.Native.Nat.{◌+◌, ◌-◌}
use lib.ListN.{length}
use Rattle.allocation.proofs.Outward.{Picked}
use Rattle.allocation.proofs.pick_all.Given as goal

abbrev pub invariant-loop-taken : goal.invariant-loop-taken
invariant-loop-taken l = Picked l.flags l.want l.count l.initial.places l.places l.low l.high l.taken

abbrev pub decreases-loop-taken : goal.decreases-loop-taken
decreases-loop-taken l = l.low + (length l.flags - l.high)
