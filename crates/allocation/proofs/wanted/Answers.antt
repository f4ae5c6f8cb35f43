-- `allocation::wanted` is the wanted block of the definition.
use Rattle.allocation.proofs.Shared.{wanted_none, wanted_hint}
use Rattle.allocation.proofs.wanted.Goals as goal

pub returns-then-hint-eq-NO_HINT : goal.returns-then-hint-eq-NO_HINT
returns-then-hint-eq-NO_HINT c = wanted_none c.if-hint-eq-NO_HINT.true

pub returns-else-hint-eq-NO_HINT : goal.returns-else-hint-eq-NO_HINT
returns-else-hint-eq-NO_HINT c = wanted_hint c.if-hint-eq-NO_HINT.false
