-- `access::reference_opens` meets its contract: no where the reference is outside or not allocated, else by its pointer and its window.
use mathlib.Core.Path.{ap}
use mathlib.Core.Bool.{not}
use Rattle.card.specs.Lent.{shared_card}
use Rattle.access.proofs.Answers.{reference_outside, reference_unallocated, reference_followed}
use Rattle.access.proofs.reference_opens.Goals as goal

pub returns-then-card-source : goal.returns-then-card-source
returns-then-card-source c = reference_outside _ _ _ _ c.if-card-source.true

pub returns-then-not-allocated : goal.returns-then-not-allocated
returns-then-not-allocated c = reference_unallocated _ _ _ _ c.allocated.ensures (ap not c.if-not-allocated.true)

pub returns : goal.returns
returns c = let at = c.args in
    reference_followed (shared_card at.card).public at.mode at.block at.reference
    c.if-card-source.false c.allocated.ensures (ap not c.if-not-allocated.false) c.holds.ensures c.window_open.ensures
