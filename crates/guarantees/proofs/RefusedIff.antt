-- Demand 2: a call is refused r if and only if r's condition holds and no earlier one does; it is done if and only if none holds.
use mathlib.Core.Path.{refl, ap}
use Rattle.card.specs.Plan.{settle, judge}
use Rattle.laws.specs.PlanLaws.{holds_first, none_first}
use Rattle.card.specs.Session.{plan, refusals, perform, free, tick, audit, rent, sweep}
use Rattle.card.specs.Statements.Refusals.{PortsAlike, RefusedIff, RefusedBy}
use Rattle.laws.proofs.Judged.{judged_iff}
use Rattle.guarantees.proofs.Unchanged.{plan_done}

pub refused_iff : RefusedIff
unfolding perform judge refusals settle
refused_iff port c q =
    let p = plan port c q.call q.lent in
    let by : RefusedBy (refusals port c q) (perform port c q).answer = judged_iff c q.lent p (plan_done port c q.call q.lent) in
    record {
      refused_iff = by.refused_iff;
      done_iff = by.done_iff;
      when_refused = λ r h. ap (settle c q.lent p) (holds_first h);
      when_done = λ h. ap (settle c q.lent p) (none_first (refusals port c q) h);
    }

pub ports_alike : PortsAlike
unfolding perform plan
ports_alike call free port other c lent = refl
ports_alike call (tick o) port other c lent = refl
ports_alike call audit port other c lent = refl
ports_alike call (rent o) port other c lent = refl
ports_alike call (sweep o) port other c lent = refl
