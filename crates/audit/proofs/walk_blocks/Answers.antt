use native.Mathlib.Omega.{arith}
use mathlib.Core.Path.{ap, sym, ◌∙◌}
use Rattle.audit.specs.Walks.{judged}
use Rattle.audit.proofs.Passing.{passed_none, passed_more, passed_fault, passed_whole}
use Rattle.audit.proofs.walk_blocks.Goals as goal

pub loop-b-init : goal.loop-b-init
loop-b-init c = passed_none _ _

pub block_sound-requires : goal.block_sound-requires
block_sound-requires c = record { fact_1 = c.requires; fact_2 = omega arith }

pub loop-b-preserved : goal.loop-b-preserved
loop-b-preserved c = passed_more c.loop-b.invariant (omega arith) (sym c.block_sound.ensures ∙ c.if-block_sound.true)

pub returns-then-b-blocks : goal.returns-then-b-blocks
returns-then-b-blocks c = sym (ap judged (passed_whole c.loop-b.invariant c.if-b-blocks.true))

pub returns-else-block_sound : goal.returns-else-block_sound
returns-else-block_sound c = sym (ap judged (passed_fault c.loop-b.invariant (omega arith) (sym c.block_sound.ensures ∙ c.if-block_sound.false)))
