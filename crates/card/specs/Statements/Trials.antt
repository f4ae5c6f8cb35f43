-- The examples of document 01 and of the requests: what the rules report of each row of a table is just what is expected.
use Rattle.std.specs.Prelude.{map, ◌≡◌}
use Rattle.card.specs.Trials.{trial_table, trial_reports, rent_table, rent_reports, rent_expected, waiting_table, waiting_reports, waiting_expected}

abbrev pub Trials : Type 0
Trials = map trial_reports trial_table ≡ map (λ t. t.expected) trial_table

abbrev pub RentTrials : Type 0
RentTrials = map rent_reports rent_table ≡ map rent_expected rent_table

abbrev pub WaitingTrials : Type 0
WaitingTrials = map waiting_reports waiting_table ≡ map waiting_expected waiting_table
