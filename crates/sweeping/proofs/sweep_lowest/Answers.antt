use mathlib.Core.Logic.{inl, inr}
use native.Mathlib.Omega.{arith}
use Rattle.sweeping.proofs.Swept.{walked_none, walked_pass, walked_more, walked_same, walked_whole}
use Rattle.sweeping.proofs.sweep_lowest.Goals as goal
use Rattle.sweeping.proofs.sweep_lowest.Goals.{else-waiting, then-waiting}

pub loop-block-init : goal.loop-block-init
loop-block-init c = walked_none _ _ _ _

pub loop-block-preserved : goal.loop-block-preserved
loop-block-preserved c = let w = c.loop-block.invariant in
    let inside = c.loop-block-test.true in
    let told = c.waiting.ensures in
    elim c.if-waiting.branch [ then-waiting m ↦ walked_same (walked_more w inside (omega (arith, w.few)) c.requires told m.if-waiting.true m.sweep_block.ensures) m.flags-is m.contents-is m.swept-is | else-waiting m ↦ walked_same (walked_pass w inside (omega (arith, w.few)) told m.if-waiting.false) m.flags-is m.contents-is m.swept-is ]

pub returns-then-swept-most : goal.returns-then-swept-most
returns-then-swept-most c = walked_whole c.loop-block.invariant (inl c.if-swept-most.true)

pub returns : goal.returns
returns c = walked_whole c.loop-block.invariant (inr (omega arith))
