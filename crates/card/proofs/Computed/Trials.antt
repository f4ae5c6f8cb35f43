-- The trials as tests of one row, which follow from them.
use Prim.Native.Nat.{ℕ, zero, suc}
use mathlib.Core.Bool.{Bool, true}
use mathlib.Core.List.{List, [], ◌∷◌, ◌++◌, map}
use mathlib.Core.Path.{◌≡◌, refl, ap}
use lib.ListN.{take, drop}
use Rattle.card.specs.Trials.{trial_table, trial_reports, rent_table, rent_reports, rent_expected, waiting_table, waiting_reports, waiting_expected}
use Rattle.card.specs.Statements.Trials.{Trials, RentTrials, WaitingTrials}
use Rattle.card.proofs.Computed.Same.{same_lists}
use Rattle.card.proofs.Computed.TestLaws.{true_same_lists}
use Rattle.card.proofs.Computed.Row.{Row}

-- The lines of all rows, one behind the other.
unfoldable pub all_lines : List (List (List ℕ)) → List (List ℕ)
all_lines [] = []
all_lines (x ∷ xs) = x ++ all_lines xs

-- A row of the table, by its place.
abbrev pub trials_test : ℕ → Bool
trials_test n = same_lists (all_lines (map trial_reports (take 1 (drop n trial_table)))) (all_lines (map (λ t. t.expected) (take 1 (drop n trial_table))))

abbrev pub rent_trials_test : ℕ → Bool
rent_trials_test n = same_lists (all_lines (map rent_reports (take 1 (drop n rent_table)))) (all_lines (map rent_expected (take 1 (drop n rent_table))))

abbrev pub waiting_trials_test : ℕ → Bool
waiting_trials_test n = same_lists (all_lines (map waiting_reports (take 1 (drop n waiting_table)))) (all_lines (map waiting_expected (take 1 (drop n waiting_table))))

module _ {A : Type 0} {B : Type 0} (f g : A → B) where
  row_at : (n : ℕ) (rows : List A) → map f rows ≡ map g rows → map f (take 1 (drop n rows)) ≡ map g (take 1 (drop n rows))
  row_at zero [] e = refl
  row_at zero (x ∷ rows) e = ap (take 1) e
  row_at (suc n) [] e = refl
  row_at (suc n) (x ∷ rows) e = row_at n rows (ap (drop 1) e)

pub trials_tests : Trials → (n : ℕ) → trials_test n ≡ true
trials_tests trials n = true_same_lists (ap all_lines (row_at trial_reports (λ t. t.expected) n trial_table trials))

pub rent_trials_tests : RentTrials → (n : ℕ) → rent_trials_test n ≡ true
rent_trials_tests rent_trials n = true_same_lists (ap all_lines (row_at rent_reports rent_expected n rent_table rent_trials))

pub waiting_trials_tests : WaitingTrials → (n : ℕ) → waiting_trials_test n ≡ true
waiting_trials_tests waiting_trials n = true_same_lists (ap all_lines (row_at waiting_reports waiting_expected n waiting_table waiting_trials))

abbrev pub trials_row : (n : ℕ) → Row Trials
trials_row n = record { test = trials_test n; follows = λ statement. trials_tests statement n }

abbrev pub rent_trials_row : (n : ℕ) → Row RentTrials
rent_trials_row n = record { test = rent_trials_test n; follows = λ statement. rent_trials_tests statement n }

abbrev pub waiting_trials_row : (n : ℕ) → Row WaitingTrials
waiting_trials_row n = record { test = waiting_trials_test n; follows = λ statement. waiting_trials_tests statement n }
