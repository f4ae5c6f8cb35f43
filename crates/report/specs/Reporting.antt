-- What the contracts of the report's functions cite.
use Rattle.std.specs.Prelude.{ℕ, List, [], length}
use Rattle.card.specs.Lent.{shared_card}
use Rattle.card.specs.Card.{Card}
use Rattle.card.specs.Plan.{Result, judge_sound}
use Rattle.card.specs.Promises.{Is}
use Rattle.card.specs.declared.SharedCard.{SharedCard}
use Rattle.card.specs.Answers.{Answer}
use Rattle.report.specs.Report.{reach_plan, unlocking_plan, lent_places}

-- The two calls on a card that has been audited.
abbrev pub reach_sound : List ℕ → List ℕ → Card → Result
reach_sound words places c = judge_sound c (lent_places places) (reach_plan words (length places) c)

abbrev pub unlocking_sound : List ℕ → ℕ → List ℕ → Card → Result
unlocking_sound words chosen places c = judge_sound c (lent_places places) (unlocking_plan words chosen (length places) c)

-- What a function answers, the card, which is only read, and the places at its exit are what the rule makes of the card and the places at its entry.
abbrev pub Reports : (List ℕ → Card → Result) → SharedCard → List ℕ → List ℕ → Answer → Type 0
Reports rule card places left answer = Is (rule places (shared_card card)) answer (shared_card card) [] left
