use mathlib.Core.Path.{refl, sym, ap, ◌∙◌}
use native.Mathlib.Omega.{arith}
use Rattle.card.specs.Soundness.{verdict}
use Rattle.laws.specs.LentLaws.{shown_card}
use Rattle.input.proofs.SameTables.{same_tables, same_still}
use Rattle.batch.proofs.Serving.{serving_none, serving_at, serving_stopped, serving_further, serving_more}
use Rattle.batch.proofs.serve.Goals as goal

pub loop-stop-init : goal.loop-stop-init
loop-stop-init c = record { same = same_tables c.args.card.now; same_answers = refl; serving = serving_none c.args.wire _ c.args.input.now c.args.answers.now }

pub serve_turn-turned-requires-clause-judged : goal.serve_turn-turned-requires-clause-judged
serve_turn-turned-requires-clause-judged c = c.audit-found.ensures ∙ ap verdict (shown_card c.shared.ensures) ∙ sym c.loop-stop.invariant.serving.judged

pub serve_turn-turned-requires-clause-in_output : goal.serve_turn-turned-requires-clause-in_output
serve_turn-turned-requires-clause-in_output c = search serving_at

pub overflow_add-count : goal.overflow_add-count
overflow_add-count c = omega (arith, c.loop-stop.invariant.serving.counted, c.loop-stop.invariant.serving.within)

pub loop-stop-smaller : goal.loop-stop-smaller
loop-stop-smaller c = omega (arith, serving_further c.args.wire _ c.args.input.now c.args.answers.now c.loop-stop.invariant.serving c.serve_turn-turned.ensures.turns c.in_default.is, c.serve_turn-turned.ensures.turns.within)

pub loop-stop-preserved : goal.loop-stop-preserved
loop-stop-preserved c = record {
  same = same_still c.args.card.now c.loop-stop.card c.serve_turn-turned.new.card c.loop-stop.invariant.same c.serve_turn-turned.ensures.same;
  same_answers = c.serve_turn-turned.auto.to ∙ c.loop-stop.invariant.same_answers;
  serving = serving_more c.args.wire _ c.args.input.now c.args.answers.now c.loop-stop.invariant.serving c.serve_turn-turned.ensures.turns c.in_default.is;
}

pub returns-in-Some-clause-plays : goal.returns-in-Some-clause-plays
returns-in-Some-clause-plays c = serving_stopped c.args.wire _ c.args.input.now c.args.answers.now c.loop-stop.invariant.serving c.serve_turn-turned.ensures.turns c.in-Some.is
