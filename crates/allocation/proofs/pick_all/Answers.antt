use Rattle.allocation.proofs.Outward.{Moves, picked_start, picked_spread, moves_down, moves_up, picked_passed, picked_taken, picked_whole}
use Rattle.allocation.proofs.pick_all.Goals as goal
use Rattle.allocation.proofs.pick_all.Goals.{Joined-block-low, then-block-low, else-block-low}

-- Where the two ways of the first test meet, one end has moved.
moved : (c : Joined-block-low) → (let loop = c.loop-taken in Moves loop.low loop.high c.next-block.result c.if-block-low.low c.if-block-low.high)
moved c =
    let inv = c.loop-taken.invariant in
    let next = c.next-block.ensures in
    elim c.if-block-low.branch [
      | then-block-low w ↦ moves_down inv next w.if-block-low.true w.low-is w.high-is
      | else-block-low w ↦ moves_up inv next w.if-block-low.false w.low-is w.high-is
    ]

pub loop-taken-init : goal.loop-taken-init
loop-taken-init c = search picked_start

pub next-block-requires : goal.next-block-requires
next-block-requires c = picked_spread c.loop-taken.invariant c.loop-taken-test.true

pub loop-taken-preserved-then-free : goal.loop-taken-preserved-then-free
loop-taken-preserved-then-free c = search (picked_taken, moved (goal.at.loop-taken-preserved-then-free c).Joined-block-low)

pub loop-taken-preserved : goal.loop-taken-preserved
loop-taken-preserved c = search (picked_passed, moved (goal.at.loop-taken-preserved c).Joined-block-low)

pub returns : goal.returns
returns c = search picked_whole
