-- The trials of the rules: what is reported of the calls of each table is what document 01 and the requests say.
use mathlib.Core.Path.{◌≡◌, refl}
use mathlib.Core.List.{[], ◌∷◌}
use Rattle.card.specs.Session.{reports}
use Rattle.card.specs.declared.Port.TheVariants.{Service}
use Rattle.card.specs.declared.Credential.TheVariants.{Nothing}
use Rattle.card.specs.Trials.{rules, player_card, free, trial_table, trial_reports, made_often, rent_table, rent_reports, waiting_table, waiting_reports, create, delete}
use Rattle.card.specs.Statements.Trials.{RentTrials, Trials, WaitingTrials}

pub trials : Trials
unfolding rules player_card trial_table trial_reports
trials = refl

-- A pointer of multiplicity 65,534 is made once more, one of 65,535 is not: 7. One of 0 is unsound: 2.
pub highest_multiplicity : reports (made_often 65534) (create Service 0 Nothing 1 Nothing ∷ create Service 0 Nothing 1 Nothing ∷ delete Service 0 1 ∷ delete Service 0 1 ∷ [])
    ≡ (0 ∷ []) ∷ (7 ∷ []) ∷ (0 ∷ 0 ∷ []) ∷ (0 ∷ 0 ∷ []) ∷ []
unfolding rules
highest_multiplicity = refl

pub lowest_multiplicity : reports (made_often 0) (free ∷ []) ≡ (2 ∷ []) ∷ []
unfolding rules
lowest_multiplicity = refl

pub rent_trials : RentTrials
unfolding rules rent_table rent_reports
rent_trials = refl

pub waiting_trials : WaitingTrials
unfolding rules waiting_table waiting_reports
waiting_trials = refl
