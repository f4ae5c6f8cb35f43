-- What the checks of a call find.
use Rattle.std.specs.Prelude.{⊤, Option, None, Some, Result, Ok, Err}
use Rattle.card.specs.Card.{Card}
use Rattle.card.specs.Plan.{first, FirstHolds, NoneHolds}
use Rattle.card.specs.Session.{Request, plan}
use Rattle.card.specs.declared.Port.{Port}
use Rattle.card.specs.declared.Refusal.{Refusal}

-- No condition holds, or the refusal of the first that does.
abbrev pub Checked : Type 0
Checked = Result ⊤ Refusal

unfoldable pub by_refusal : Option Refusal → Checked
by_refusal None = Ok tt
by_refusal (Some r) = Err r

-- The call's own checks, on a card that has been audited.
unfoldable pub checked : Port → Card → Request → Checked
checked port c q = by_refusal (first (plan port c q.call q.lent).checks)

-- The refusal's check is the first of the call's that holds.
abbrev pub Refuses : Port → Card → Request → Refusal → Type 0
Refuses port c q r = FirstHolds (plan port c q.call q.lent).checks r

-- No check of the call holds.
abbrev pub Passes : Port → Card → Request → Type 0
Passes port c q = NoneHolds (plan port c q.call q.lent).checks
