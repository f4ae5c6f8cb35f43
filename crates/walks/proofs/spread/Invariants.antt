-- `walks::spread` comes to the whole least set. The invariant is what a turn leaves. The measure is what the queue has room for behind the head.
use Prim.Native.Nat.{◌-◌}
use lib.ListN.{take}
use Rattle.walks.specs.Walk.{Edge, Followed}
use Rattle.walks.proofs.spread.Given as goal

abbrev pub invariant-loop-head : goal.invariant-loop-head
invariant-loop-head l = Followed (Edge l.direction l.shut (take l.used l.pointers)) l.initial.reached.marks l.reached.marks l.reached.queue l.head l.reached.count

abbrev pub decreases-loop-head : goal.decreases-loop-head
decreases-loop-head l = 4096 - l.head
