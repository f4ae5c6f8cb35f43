use native.Mathlib.Omega.{arith}
use Rattle.removal.proofs.Marked.{keyless_none, keyless_more, some_key_law, no_key}
use Rattle.removal.proofs.some_write_key.Goals as goal

pub loop-at-init : goal.loop-at-init
loop-at-init c = keyless_none _ _ _

pub returns-then-marks-at : goal.returns-then-marks-at
returns-then-marks-at c = some_key_law c.args.marks.now c.args.flags.now c.loop-at-test.true c.has_key.ensures c.if-marks-at.true

pub loop-at-preserved : goal.loop-at-preserved
loop-at-preserved c = keyless_more _ _ c.loop-at-test.true c.has_key.ensures c.loop-at.invariant c.if-marks-at.false

pub returns : goal.returns
returns c = no_key _ _ c.loop-at.invariant (omega arith)
