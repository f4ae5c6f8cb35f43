use Prim.Native.Nat.{ℕ}
use native.Mathlib.Omega.{arith}
use mathlib.Core.Path.{◌∙◌}
use mathlib.Core.Bool.{true≢false}
use lib.ListN.{length-replicate}
use Rattle.input.proofs.SameTables.{same_tables, same_still}
use Rattle.cardplay.proofs.PiecesLaws.{pieces_none, played_in_pieces}
use Rattle.cardplay.proofs.PiecesLoop.{pieces_more, pieces_halt}
use Rattle.cardplay.proofs.play_all.Goals as goal

pub loop-turn-init : goal.loop-turn-init
loop-turn-init g c =
    record { same = same_tables c.args.card.now; size_buffer = length-replicate {A = ℕ} 65536 0; size_output = length-replicate {A = ℕ} 65536 0; within = omega arith; pieces = pieces_none _; halts = λ on wrote. absurd (true≢false on) }

pub loop-turn-preserved : goal.loop-turn-preserved
loop-turn-preserved g c = record {
  same = same_still c.args.card.now c.loop-turn.card c.play_on-progress.new.card c.loop-turn.invariant.same c.play_on-progress.ensures.same;
  size_buffer = c.play_on-progress.auto.buffer ∙ c.loop-turn.invariant.size_buffer;
  size_output = c.play_on-progress.auto.output ∙ c.loop-turn.invariant.size_output;
  within = c.play_on-progress.ensures.progresses.within;
  pieces = pieces_more _ _ _ _ c.play_on-progress.ensures.progresses c.loop-turn.invariant.pieces;
  halts = pieces_halt _ _ _ _ c.play_on-progress.ensures.progresses;
}

pub returns-then-progress-clause-plays : goal.returns-then-progress-clause-plays
returns-then-progress-clause-plays g c = played_in_pieces c.loop-turn.invariant.pieces c.loop-turn.invariant.halts

pub returns-after-loop-turn-clause-plays : goal.returns-after-loop-turn-clause-plays
returns-after-loop-turn-clause-plays g c = played_in_pieces c.loop-turn.invariant.pieces c.loop-turn.invariant.halts
