-- `audit::audit` is the verdict of the definition.
use Rattle.card.specs.Lent.{shared_card}
use Rattle.audit.proofs.Whole.{shaped_fit, shaped_verdict, fault_shape}
use Rattle.audit.proofs.audit.Goals as goal

pub walk-requires : goal.walk-requires
walk-requires c =
    let fit = shaped_fit (shared_card c.args.card) _ c.shaped.ensures c.if-shaped.true in
    record { fact_1 = fit.0; fact_2 = fit.1 }

pub returns-then-shaped : goal.returns-then-shaped
returns-then-shaped c = search shaped_verdict

pub returns-else-shaped : goal.returns-else-shaped
returns-else-shaped c = search fault_shape
