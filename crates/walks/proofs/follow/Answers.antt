use native.Mathlib.Omega.{arith}
use Rattle.walks.specs.WalkLaws.{walking_most}
use Rattle.walks.proofs.Following.{following_whole, follow_none, follow_less, follow_low, follow_room, follow_open, follow_shut}
use Rattle.walks.proofs.follow.Goals as goal

pub offset_bounds-reached-head : goal.offset_bounds-reached-head
offset_bounds-reached-head c = omega (arith, walking_most c.requires.walking)

pub bounds-reached-head : goal.bounds-reached-head
bounds-reached-head c = omega (arith, walking_most c.requires.walking)

pub loop-at-init : goal.loop-at-init
loop-at-init c = search follow_none

pub enter-requires : goal.enter-requires
enter-requires c = search (follow_low, follow_room)

pub loop-at-smaller-then-shut-pointer-eq0 : goal.loop-at-smaller-then-shut-pointer-eq0
loop-at-smaller-then-shut-pointer-eq0 c = search follow_less

pub loop-at-preserved-then-shut-pointer-eq0 : goal.loop-at-preserved-then-shut-pointer-eq0
loop-at-preserved-then-shut-pointer-eq0 c = search follow_open

pub loop-at-smaller : goal.loop-at-smaller
loop-at-smaller c = search follow_less

pub loop-at-preserved : goal.loop-at-preserved
loop-at-preserved c = search follow_shut

pub returns : goal.returns
returns c = search following_whole
