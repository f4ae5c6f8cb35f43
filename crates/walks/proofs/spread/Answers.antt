use native.Mathlib.Omega.{arith}
use Rattle.walks.specs.WalkLaws.{walking_most, grown_none, grown_on, walking_whole}
use Rattle.walks.proofs.spread.Goals as goal

pub loop-head-init : goal.loop-head-init
loop-head-init c = record { walking = c.requires.walking; grown = grown_none }

pub overflow_add-head : goal.overflow_add-head
overflow_add-head c = omega (arith, walking_most c.loop-head.invariant.walking)

pub loop-head-smaller : goal.loop-head-smaller
loop-head-smaller c = omega (arith, walking_most c.loop-head.invariant.walking)

pub loop-head-preserved : goal.loop-head-preserved
loop-head-preserved c = search grown_on

pub returns : goal.returns
returns c = search walking_whole
