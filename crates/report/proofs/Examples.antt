-- Both lists and both calls on a small card, computed.
use Rattle.std.specs.Prelude.{ℕ, ◌≡◌, refl, List, [], ◌∷◌}
use Rattle.card.specs.Plan.{Result}
use Rattle.card.specs.Calls.{answer_number, answer_values}
use Rattle.card.proofs.Computed.Rows.{computing, nested}
use Rattle.card.specs.Least.{rounds, least}
use Rattle.report.specs.Report.{given, bad_keys, root_unsealed, some_key, some_window, within_by_itself, within_by_pointer, within, within_reach, with_write_key, unlocks, unlocking, listing, reach_plan, unlocking_plan, reach_report, unlocking_report}
use Rattle.report.specs.Leading.{leads_on, leading}

-- To compute with the rules of the report, a proof unfolds this one name.
unfoldable pub reporting : Unit {0}
unfolding computing rounds least given bad_keys root_unsealed some_key some_window within_by_itself within_by_pointer within within_reach with_write_key unlocks unlocking listing reach_plan unlocking_plan reach_report unlocking_report leads_on leading
reporting = tt

-- The answer's number with its result, and the places.
abbrev told : Result → List (List ℕ)
told r = (answer_number r.answer ∷ answer_values r.answer) ∷ r.places ∷ []

-- On the nested card the root points to block 1, that to 2 and 4, and 2 to 3. Block 1 has the keys 1 2 and 3 4, blocks 2 and 4 both have 5 6 and 7 8,
-- and block 3 has none.
abbrev computed : List (List (List ℕ))
computed =
    (within_reach (given []) nested ∷ within_reach (given (1 ∷ 2 ∷ [])) nested ∷ within_reach (given (5 ∷ 6 ∷ [])) nested ∷ [])
    ∷ (unlocking [] nested 3 ∷ unlocking [] nested 2 ∷ unlocking [] nested 1 ∷ unlocking (3 ∷ 4 ∷ []) nested 3 ∷ [])
    ∷ (leading (given []) nested 3 ∷ leading (given (3 ∷ 4 ∷ [])) nested 4 ∷ [])
    ∷ told (reach_report (1 ∷ 2 ∷ []) (9 ∷ 9 ∷ 9 ∷ []) nested)
    ∷ told (unlocking_report [] 3 (9 ∷ 9 ∷ 9 ∷ []) nested)
    ∷ told (unlocking_report [] 3 (9 ∷ []) nested)
    ∷ told (unlocking_report [] 5 [] nested)
    ∷ []

-- Without keys the root alone is within reach. The key of block 1 opens that block and no sealed one below it; the key of blocks 2 and 4 opens both,
-- and block 3 with them. Of the two sealed blocks with one write key both unlock block 3, and each of them; the sealed block 1 unlocks itself.
pub examples : computed ≡
    ((0 ∷ []) ∷ (0 ∷ 1 ∷ []) ∷ (0 ∷ 2 ∷ 3 ∷ 4 ∷ []) ∷ [])
    ∷ ((2 ∷ 4 ∷ []) ∷ (2 ∷ 4 ∷ []) ∷ (1 ∷ []) ∷ (2 ∷ 4 ∷ []) ∷ [])
    ∷ ((2 ∷ 3 ∷ []) ∷ (4 ∷ []) ∷ [])
    ∷ ((0 ∷ 2 ∷ []) ∷ (0 ∷ 1 ∷ 9 ∷ []) ∷ [])
    ∷ ((0 ∷ 2 ∷ []) ∷ (2 ∷ 4 ∷ 9 ∷ []) ∷ [])
    ∷ ((4 ∷ []) ∷ (9 ∷ []) ∷ [])
    ∷ ((3 ∷ []) ∷ [] ∷ [])
    ∷ []
unfolding reporting
examples = refl
