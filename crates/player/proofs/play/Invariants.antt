-- `player::play` meets its contract.
use Prim.Native.Nat.{◌-◌}
use lib.ListN.{length}
use Rattle.player.proofs.Playing.{PlayLoop}
use Rattle.player.proofs.play.Given as goal

abbrev pub invariant-loop-output : goal.invariant-loop-output
invariant-loop-output l = PlayLoop l.initial.card l.card l.records l.input l.initial.output l.output l.count l.from l.at

abbrev pub decreases-loop-output : goal.decreases-loop-output
decreases-loop-output l = length l.input - l.from
