use native.Mathlib.Omega.{arith}
use Rattle.walks.specs.WalkLaws.{walking_most}
use Rattle.trees.proofs.Spreading.{spreading_none, spreading_more, spreading_whole}
use Rattle.trees.proofs.spread.Goals as goal

pub loop-head-init : goal.loop-head-init
loop-head-init c = spreading_none c.requires.releasable c.requires.loosened c.requires.none_reached.none_marked c.requires.none_reached.has_queue (rw c.requires.none_reached.none_queued at c.enter.ensures)

pub overflow_add-head : goal.overflow_add-head
overflow_add-head c = omega (arith, walking_most c.loop-head.invariant.releasing.walking)

pub loop-head-smaller : goal.loop-head-smaller
loop-head-smaller c = omega (arith, walking_most c.loop-head.invariant.releasing.walking)

pub loop-head-preserved : goal.loop-head-preserved
loop-head-preserved c = search spreading_more

pub returns : goal.returns
returns c = search spreading_whole
