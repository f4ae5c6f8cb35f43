use native.Mathlib.Omega.{arith}
use Rattle.walks.specs.WalkLaws.{walking_most}
use Rattle.trees.proofs.Dropping.{dropping_none, drop_ended, drop_stopped, drop_low, drop_room, drop_enough, drop_more}
use Rattle.trees.proofs.release.Goals as goal

pub offset_bounds-reached-head : goal.offset_bounds-reached-head
offset_bounds-reached-head c = omega (arith, walking_most c.requires.releasing.walking)

pub bounds-reached-head : goal.bounds-reached-head
bounds-reached-head c = omega (arith, walking_most c.requires.releasing.walking)

pub loop-at-init : goal.loop-at-init
loop-at-init c = search dropping_none

pub returns-then-pointer-block : goal.returns-then-pointer-block
returns-then-pointer-block c = drop_stopped c.requires.releasable c.loop-at.invariant c.loop-at-test.true c.if-pointer-block.true

pub lose-requires : goal.lose-requires
lose-requires c = record { block_bound = drop_low c.requires.releasable c.loop-at.invariant c.loop-at-test.true; times_bound = drop_enough c.requires.releasable c.loop-at.invariant c.loop-at-test.true c.if-pointer-block.false; count_bound = drop_room c.requires.releasable c.loop-at.invariant c.loop-at-test.true }

pub loop-at-preserved : goal.loop-at-preserved
loop-at-preserved c = drop_more c.requires.releasable c.loop-at.invariant c.loop-at-test.true c.if-pointer-block.false c.lose.ensures

pub returns : goal.returns
returns c = drop_ended c.requires.releasable c.loop-at.invariant (omega arith)
