-- One row for each mistake in the rules that a must-fail edit makes: true by its theorem, and false with the mistake.
use Prim.Native.Nat.{ℕ}
use mathlib.Core.Path.{◌≡◌, refl}
use mathlib.Core.Bool.{Bool, true, false}
use mathlib.Core.List.{List, [], ◌∷◌, ◌++◌}
use lib.Dec.{eqb}
use lib.ListN.{replicate}
use Rattle.card.specs.Pointers.{pointer}
use Rattle.card.specs.Contents.{zeros}
use Rattle.card.specs.Card.{Card, card}
use Rattle.card.specs.Plan.{with_used}
use Rattle.card.specs.Calls.{fresh_info}
use Rattle.card.specs.declared.Mode.TheVariants.{Reading, Writing}
use Rattle.card.proofs.Computed.Rows.{nested}
use Rattle.card.proofs.Computed.Row.{Row, refutes, nothing}
use Rattle.report.proofs.Examples.{reporting}
use Rattle.report.specs.Statements.{ReachListed, UnlockingListed, HiddenUnlisted, within_reach_of, unlocking_of, ReportUnchanged, up_to64, ReportRefused, UnknownChosen}
use Rattle.report.proofs.Tests.{by_way, reach_listed_row, unlocking_listed_row, key_reads, hidden_unlisted_row, report_unchanged_row, report_refused_row, unknown_chosen_row}

-- To compute a row, its proof unfolds this one name.
unfoldable computing : Unit {0}
unfolding reporting up_to64 by_way key_reads
computing = tt

-- ---- cards, drawn by hand: no rule has made them

-- N 16, R 1 and P 32 at second 0. No list looks at counts, multiplicities and contents.
abbrev drawn : (used : ℕ) (flags keys pointers windows : List ℕ) → Card
drawn used flags keys pointers windows = card (with_used (fresh_info 16 1 512) used) flags keys (zeros 16) pointers (zeros 32) windows []

-- A chain of pointers through all blocks, from each to the next.
abbrev path : Card
path =
    drawn 15 (replicate 16 1) (zeros 64)
    (pointer 0 1 ∷ pointer 1 2 ∷ pointer 2 3 ∷ pointer 3 4 ∷ pointer 4 5 ∷ pointer 5 6 ∷ pointer 6 7 ∷ pointer 7 8 ∷ pointer 8 9
    ∷ pointer 9 10 ∷ pointer 10 11 ∷ pointer 11 12 ∷ pointer 12 13 ∷ pointer 13 14 ∷ pointer 14 15 ∷ zeros 17)
    (zeros 32)

-- The root points to block 1, which is sealed; its window for writing is open.
abbrev opened : Card
opened = drawn 1 (1 ∷ 7 ∷ zeros 14) (zeros 4 ++ (1 ∷ 2 ∷ 3 ∷ 4 ∷ zeros 56)) (pointer 0 1 ∷ zeros 31) (0 ∷ 0 ∷ 0 ∷ 10 ∷ zeros 28)

-- The root points to blocks 1 and 2. Both have the write key of 7 and 8; only block 2 has a read key, so block 1 is not sealed.
abbrev one_sealed : Card
one_sealed = drawn 2 (1 ∷ 5 ∷ 7 ∷ zeros 13) (zeros 6 ++ (7 ∷ 8 ∷ 5 ∷ 6 ∷ 7 ∷ 8 ∷ zeros 52)) (pointer 0 1 ∷ pointer 0 2 ∷ zeros 30) (zeros 32)

-- The root points to blocks 1 and 2, both sealed, with the same write key and different read keys.
abbrev one_write_key : Card
one_write_key = drawn 2 (1 ∷ 7 ∷ 7 ∷ zeros 13) (zeros 4 ++ (1 ∷ 2 ∷ 7 ∷ 8 ∷ 3 ∷ 4 ∷ 7 ∷ 8 ∷ zeros 52)) (pointer 0 1 ∷ pointer 0 2 ∷ zeros 30) (zeros 32)

abbrev none : ℕ → Bool
none b = false

abbrev root_alone : ℕ → Bool
root_alone b = eqb b 0

-- ---- reach_listed

abbrev windows_left_out : Row ReachListed
windows_left_out = reach_listed_row [] opened none Writing 0 1

abbrev sealed_block_let_in_by_a_pointer : Row ReachListed
sealed_block_let_in_by_a_pointer = reach_listed_row [] nested root_alone Reading 0 1

abbrev pointers_from_roots_alone : Row ReachListed
pointers_from_roots_alone = reach_listed_row [] path none Reading 1 2

abbrev one_round_too_few : Row ReachListed
one_round_too_few = reach_listed_row [] path none Reading 14 15

-- ---- unlocking_listed

abbrev read_key_added : Row UnlockingListed
read_key_added = unlocking_listed_row [] one_write_key 2 1 none Writing []

-- Block 2 points to block 3, which has no key.
abbrev chosen_block_alone_looked_at : Row UnlockingListed
chosen_block_alone_looked_at = unlocking_listed_row [] nested 3 2 none Writing (2 ∷ [])

abbrev unsealed_block_listed : Row UnlockingListed
unsealed_block_listed = unlocking_listed_row [] one_sealed 2 1 none Writing []

-- ---- hidden_unlisted

-- The high word of the read keys of blocks 2 and 4, with another low word.
abbrev low_word_not_compared : Row HiddenUnlisted
low_word_not_compared = hidden_unlisted_row (5 ∷ 9 ∷ []) nested root_alone Reading 2

abbrev first_key_alone_given : Row HiddenUnlisted
first_key_alone_given = hidden_unlisted_row (1 ∷ 2 ∷ 5 ∷ 6 ∷ []) nested none Reading 2

-- ---- report_unchanged

-- With the key of block 1: blocks 0 and 1.
abbrev list_begins_in_the_second_place : Row ReportUnchanged
list_begins_in_the_second_place = report_unchanged_row within_reach_of (1 ∷ 2 ∷ []) (replicate 4 9) nested

abbrev result_is_zero : Row ReportUnchanged
result_is_zero = report_unchanged_row (unlocking_of 3) [] (replicate 4 9) nested

-- ---- report_refused

-- Block 9 is not allocated, and one word makes no key.
abbrev three_before_four : Row ReportRefused
three_before_four = report_refused_row (unlocking_of 9) (1 ∷ []) [] nested

abbrev sixty_fifth_key_taken : Row ReportRefused
sixty_fifth_key_taken = report_refused_row within_reach_of (replicate 130 9) (zeros 16) nested

abbrev odd_word_passed_over : Row ReportRefused
odd_word_passed_over = report_refused_row within_reach_of (1 ∷ []) (zeros 16) nested

abbrev chosen_block_within_reach_taken : Row ReportRefused
chosen_block_within_reach_taken = report_refused_row (unlocking_of 0) [] (zeros 16) nested

-- ---- unknown_chosen

abbrev unallocated_block_taken : Row UnknownChosen
unallocated_block_taken = unknown_chosen_row [] [] 9 nested

abbrev place_to_spare_asked_for : Row UnknownChosen
place_to_spare_asked_for = unknown_chosen_row [] [] 16 nested

-- ---- the row of an edit

-- An edit puts here the statement that its mistake makes false, and the row that shows it.
pub refuted : ⊥ → ⊥
unfolding computing
refuted = refutes nothing refl

-- And the row here, as what it is by its theorem: with the mistake this is refused.
pub held : true ≡ true
unfolding computing
held = refl
