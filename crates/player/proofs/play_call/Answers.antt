-- `player::play_call` meets its contract.
use native.Mathlib.Omega.{arith}
use Rattle.input.specs.Play.{played}
use Rattle.player.proofs.TurnPlayed.{call_played}
use Rattle.player.proofs.play_call.Goals as goal

pub put_line-requires : goal.put_line-requires
put_line-requires c = record { fact_1 = record { bytes = omega (arith, c.perform-answer.auto.out); numbers = omega (arith, c.perform-answer.auto.places) }; fact_2 = c.requires }

pub returns-clause-writes : goal.returns-clause-writes
unfolding played
returns-clause-writes c = call_played c.args.ordinal c.args.kind c.args.call (record { bytes = omega (arith, c.perform-answer.auto.out); numbers = omega (arith, c.perform-answer.auto.places) })
    c.perform-answer.ensures.performs c.put_line.ensures
