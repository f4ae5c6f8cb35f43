use mathlib.Core.Path.{refl, ◌∙◌}
use native.Mathlib.Omega.{arith}
use Rattle.input.proofs.SameTables.{same_tables, same_still}
use Rattle.player.proofs.Playing.{playing_none, playing_at, playing_full, playing_stopped, playing_further, playing_more}
use Rattle.player.proofs.play.Goals as goal

pub loop-output-init : goal.loop-output-init
loop-output-init c = record { same = same_tables c.args.card.now; same_output = refl; playing = playing_none c.args.records _ c.args.input.now c.args.output.now }

pub overflow_sub-output : goal.overflow_sub-output
overflow_sub-output c = search playing_at

pub returns-then-output-at-lt2048-clause-plays : goal.returns-then-output-at-lt2048-clause-plays
returns-then-output-at-lt2048-clause-plays c = search playing_full

pub overflow_add-count : goal.overflow_add-count
overflow_add-count c = omega (arith, c.loop-output.invariant.playing.counted, c.loop-output.invariant.playing.within, c.requires)

pub play_turn-turned-requires : goal.play_turn-turned-requires
play_turn-turned-requires c = record { in_input = c.loop-output.invariant.playing.within; has_room = omega (arith, c.if-output-at-lt2048.false, playing_at c.args.records _ c.args.input.now c.args.output.now c.loop-output.invariant.playing) }

pub overflow_add-count-in-loop-output : goal.overflow_add-count-in-loop-output
overflow_add-count-in-loop-output c = omega (arith, c.loop-output.invariant.playing.counted, c.loop-output.invariant.playing.within, c.requires)

pub loop-output-smaller : goal.loop-output-smaller
loop-output-smaller c = omega (arith, playing_further c.args.records _ c.args.input.now c.args.output.now c.loop-output.invariant.playing c.if-output-at-lt2048.false c.play_turn-turned.ensures.turns c.in_default.is, c.play_turn-turned.ensures.turns.within)

pub loop-output-preserved : goal.loop-output-preserved
loop-output-preserved c = record {
  same = same_still c.args.card.now c.loop-output.card c.play_turn-turned.new.card c.loop-output.invariant.same c.play_turn-turned.ensures.same;
  same_output = c.play_turn-turned.auto.to ∙ c.loop-output.invariant.same_output;
  playing = playing_more c.args.records _ c.args.input.now c.args.output.now c.loop-output.invariant.playing c.if-output-at-lt2048.false c.play_turn-turned.ensures.turns c.in_default.is;
}

pub returns-in-Some-clause-plays : goal.returns-in-Some-clause-plays
returns-in-Some-clause-plays c = playing_stopped c.args.records _ c.args.input.now c.args.output.now c.loop-output.invariant.playing c.if-output-at-lt2048.false c.play_turn-turned.ensures.turns c.in-Some.is
