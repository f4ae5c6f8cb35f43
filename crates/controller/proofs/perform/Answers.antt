-- `controller::perform` audits the card that the call is made on.
use mathlib.Core.Path.{ap, ◌∙◌}
use Rattle.card.specs.Soundness.{verdict}
use Rattle.laws.specs.LentLaws.{shown_card}
use Rattle.controller.proofs.perform.Goals as goal

pub perform_judged-requires : goal.perform_judged-requires
perform_judged-requires c = c.audit-found.ensures ∙ ap verdict (shown_card c.shared.ensures)
