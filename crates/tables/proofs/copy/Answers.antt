use mathlib.Core.Path.{refl}
use native.Mathlib.Omega.{arith}
use Rattle.tables.proofs.Overlay.{overlaid_start, overlaid_more, overlaid_whole}
use Rattle.tables.proofs.copy.Goals as goal

pub loop-i-init : goal.loop-i-init
loop-i-init c = overlaid_start _ _ c.requires

pub loop-i-preserved : goal.loop-i-preserved
loop-i-preserved c = overlaid_more _ c.loop-i.invariant (omega (arith, c.loop-i.invariant.same)) refl

pub shape_of-to : goal.shape_of-to
shape_of-to c = c.loop-i.invariant.same

pub returns : goal.returns
returns c = overlaid_whole c.loop-i.invariant (omega (arith, c.loop-i.invariant.same))
