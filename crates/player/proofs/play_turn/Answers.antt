-- `player::play_turn` meets its contract.
use Rattle.input.specs.Play.{player_port}
use Rattle.input.proofs.FoundLaws.{whole_within}
use Rattle.player.proofs.TurnPlayed.{nothing_played, whole_played}
use Rattle.player.proofs.play_turn.Goals as goal

pub slice_bounds-payload-count : goal.slice_bounds-payload-count
slice_bounds-payload-count c = (whole_within player_port c.args.input.now c.args.from c.find.ensures c.in-Ok.is).0

pub slice_bounds-payload-start : goal.slice_bounds-payload-start
slice_bounds-payload-start c = (whole_within player_port c.args.input.now c.args.from c.find.ensures c.in-Ok.is).0

pub slice_bounds-payload-end : goal.slice_bounds-payload-end
slice_bounds-payload-end c = (whole_within player_port c.args.input.now c.args.from c.find.ensures c.in-Ok.is).1

pub returns-in-Err-clause-turns : goal.returns-in-Err-clause-turns
returns-in-Err-clause-turns c = search nothing_played

pub returns-in-Ok-clause-turns : goal.returns-in-Ok-clause-turns
returns-in-Ok-clause-turns c = whole_played c.args.ordinal _ c.args.input.now c.args.from c.requires.in_input c.args.to.now c.args.at c.find.ensures c.in-Ok.is
    c.play_call-behind.ensures.writes
