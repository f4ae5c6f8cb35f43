-- 2026-08: the rent tells nothing of hidden and unallocated contents.
use Rattle.std.specs.Prelude.{Option, None, Some}
use mathlib.Core.Path.{◌≡◌, refl, sym, ap, ◌∙◌}
use Rattle.card.specs.Card.{Public, Card}
use Rattle.card.specs.SoundCard.{SoundCard}
use Rattle.card.specs.Plan.{Plan, Buffers, Result, first, settle, judge_sound}
use Rattle.laws.specs.PlanLaws.{judge_sound_law}
use Rattle.card.specs.Calls.{rent_plan}
use Rattle.card.specs.Session.{plan, perform, host_session}
use Rattle.card.specs.declared.Port.{Port}
use Rattle.card.specs.declared.RentOperands.{RentOperands}
use Rattle.card.specs.declared.Refusal.{Refusal}
use Rattle.guarantees.proofs.Ledger.{after_sound}
use Rattle.card.specs.Statements.Rent.{asked, RentAlike}
use Rattle.guarantees.proofs.Secrecy.Theorem.{secrecy}

-- What a plan answers does not hang on the card.
answer_alike : (c d : Card) (lent : Buffers) (p : Plan) (o : Option Refusal) → (settle c lent p o).answer ≡ (settle d lent p o).answer
unfolding settle
answer_alike c d lent p None = refl
answer_alike c d lent p (Some r) = refl

asked_alike : {c d : Card} → SoundCard c → SoundCard d → c.public ≡ d.public → (port : Port) (o : RentOperands) (lent : Buffers) → asked port c o lent ≡ asked port d o lent
unfolding perform plan judge_sound
asked_alike {c} {d} s t same port o lent =
    let p : Plan = rent_plan d.public o in
    ap (λ (r : Result). r.answer) (judge_sound_law c lent (rent_plan c.public o) s)
    ∙ ap (λ (q : Public). (judge_sound c lent (rent_plan q o)).answer) same
    ∙ answer_alike c d lent p (first p.checks)
    ∙ sym (ap (λ (r : Result). r.answer) (judge_sound_law d lent p t))

pub rent_alike : RentAlike
rent_alike session c d s t same =
    let public = (secrecy session c d s t same).cards.same_public in
    record {
      totals = ap (λ (p : Public). p.info.total) public;
      cents = asked_alike (after_sound c (host_session session) s) (after_sound d (host_session session) t) public;
    }
