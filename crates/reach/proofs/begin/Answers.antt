use mathlib.Core.Path.{ap}
use mathlib.Core.Logic.{inl, inr}
use Rattle.walks.specs.declared.Reached.{Reached}
use Rattle.reach.proofs.Beginning.{beginning_none, beginning_low, beginning_room, beginning_more, beginning_whole}
use Rattle.reach.proofs.begin.Goals as goal
use Rattle.reach.proofs.begin.Goals.{else-found, then-found}

pub loop-block-init : goal.loop-block-init
loop-block-init c = beginning_none _ _ _ c.requires.sound_card.shaped.in_ranges.blocks_high c.requires.shut_value c.requires.none_reached

pub look_at-found-requires : goal.look_at-found-requires
look_at-found-requires c = record { sound_card = c.requires.sound_card; block_lt_blocks = c.loop-block-test.true }

pub enter-requires : goal.enter-requires
enter-requires c = let inv = c.loop-block.invariant in
    let low = c.loop-block-test.true in
    record { block_bound = beginning_low inv low; count_bound = beginning_room inv low }

pub loop-block-preserved : goal.loop-block-preserved
loop-block-preserved c = beginning_more c.loop-block.invariant c.loop-block-test.true c.look_at-found.ensures
    (elim c.if-found.branch [ then-found w ↦ inl (w.if-found.true, rw w.reached-is w.enter.ensures) | else-found w ↦ inr (w.if-found.false, (ap (λ (r : Reached). r.marks) w.reached-is, (ap (λ (r : Reached). r.queue) w.reached-is, ap (λ (r : Reached). r.count) w.reached-is))) ])

pub returns : goal.returns
returns c = search beginning_whole
