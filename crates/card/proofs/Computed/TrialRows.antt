-- The rows of the tables of trials, each by its place. They rest on no proof about the rules, so that they are computed also where one breaks.
use mathlib.Core.Bool.{true}
use mathlib.Core.Path.{◌≡◌, refl}
use Rattle.card.specs.Statements.Trials.{Trials, RentTrials, WaitingTrials}
use Rattle.card.proofs.Computed.Row.{Row, refutes, nothing}
use Rattle.card.proofs.Computed.Trials.{trials_row, rent_trials_row, waiting_trials_row}
use Rattle.card.proofs.Computed.Rows.{computing}

abbrev root_counted_as_free : Row Trials
root_counted_as_free = trials_row 0

abbrev window_open_at_its_end : Row Trials
window_open_at_its_end = trials_row 7

abbrev destination_tested_for_reading : Row Trials
destination_tested_for_reading = trials_row 13

abbrev write_window_serves_reading : Row Trials
write_window_serves_reading = trials_row 15

abbrev nine_judged_on_places : Row Trials
nine_judged_on_places = trials_row 22

abbrev eleven_on_an_existing_pointer : Row Trials
eleven_on_an_existing_pointer = trials_row 24

abbrev rent_for_the_roots : Row Trials
rent_for_the_roots = trials_row 31

abbrev free_counts_waiting_blocks : Row Trials
free_counts_waiting_blocks = trials_row 12

abbrev waiting_block_pays_rent : Row Trials
waiting_block_pays_rent = trials_row 32

abbrev waiting_block_goes_with_a_tree : Row Trials
waiting_block_goes_with_a_tree = trials_row 35

abbrev waiting_block_refused : Row WaitingTrials
waiting_block_refused = waiting_trials_row 1

abbrev window_of_a_waiting_block_allowed : Row WaitingTrials
window_of_a_waiting_block_allowed = waiting_trials_row 4

abbrev flag_9_taken_for_allocated : Row WaitingTrials
flag_9_taken_for_allocated = waiting_trials_row 8

abbrev highest_price_refused : Row RentTrials
highest_price_refused = rent_trials_row 5

abbrev total_compared_with_the_blocks_of_the_card : Row RentTrials
total_compared_with_the_blocks_of_the_card = rent_trials_row 7

-- ---- the row of an edit

-- An edit puts here the statement that its mistake makes false, and the row that shows it.
pub refuted : ⊥ → ⊥
unfolding computing
refuted = refutes nothing refl

-- And the row here, as what it is by its theorem: with the mistake this is refused.
pub held : true ≡ true
unfolding computing
held = refl
