-- `batch::serve` meets its contract: the verdict is that of the card at the start and of the card at every turn, and the rule's batch is the answers written
-- and then the batch from here. The measure is the input that is left.
use Rattle.batch.proofs.Serving.{ServeLoop}
use Prim.Native.Nat.{◌-◌}
use lib.ListN.{length}
use Rattle.batch.proofs.serve.Given as goal

abbrev pub invariant-loop-stop : goal.invariant-loop-stop
invariant-loop-stop l = ServeLoop l.wire l.initial.card l.card l.input l.initial.answers l.answers l.count l.from l.at

abbrev pub decreases-loop-stop : goal.decreases-loop-stop
decreases-loop-stop l = length l.input - l.from
