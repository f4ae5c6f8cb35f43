-- FORMAT on the program's tables, whatever the record was: done, and document 01's fresh player card is left.
use mathlib.Core.Path.{◌≡◌, refl, ap, ◌∙◌}
use mathlib.Core.List.{[]}
use Rattle.card.specs.Card.{Card}
use Rattle.card.specs.Plan.{Result}
use Rattle.card.specs.Calls.{format}
use Rattle.card.specs.Trials.{rules, blank_card, player_card}
use Rattle.card.specs.declared.Info.{Info}
use Rattle.card.specs.Answers.{Done}
use Rattle.cardplay.specs.Pieces.{with_info}

pub blank_formatted : (info : Info) → format 16 1 512 (with_info info blank_card) ≡ record { answer = Done; after = player_card; out = []; places = [] }
unfolding rules player_card
blank_formatted info = refl

-- The same of tables that equal the blank ones.
pub fresh_left : {c d : Card} (info : Info) → d ≡ blank_card → c ≡ (format 16 1 512 (with_info info d)).after → c ≡ player_card
fresh_left info h e = e ∙ ap (λ (x : Card). (format 16 1 512 (with_info info x)).after) h ∙ ap (λ (x : Result). x.after) (blank_formatted info)
