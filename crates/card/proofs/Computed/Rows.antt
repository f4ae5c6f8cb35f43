-- One row for each mistake in the rules that a must-fail edit makes. Each is true by its theorem; with the mistake it computes to false, and so the
-- theorem is false. And rows by which what a theorem excepts is seen to happen.
use Rattle.std.specs.Prelude.{Option, Some, None}
use Prim.Native.Nat.{ℕ, ◌-◌}
use mathlib.Core.Bool.{Bool, true, false, ◌&&◌, ◌||◌}
use mathlib.Core.List.{List, [], ◌∷◌, ◌++◌}
use mathlib.Core.Option.{or_else}
use mathlib.Core.Path.{◌≡◌, refl}
use lib.Dec.{eqb, ltb, leb}
use lib.ListN.{length, replicate}
use Rattle.card.specs.Lists.{sum_below}
use Rattle.card.specs.Pointers.{pointer}
use Rattle.card.specs.Contents.{zeros}
use Rattle.card.specs.Card.{Card, card}
use Rattle.card.specs.Plan.{with_used, with_time}
use Rattle.card.specs.Calls.{fresh_info, format}
use Rattle.card.specs.Session.{Request, port_of, free as freeEither, tick as tickEither, sweep as sweepEither, is_sweep, refusals, Sent, performed, replies, after_all, traits}
use Rattle.card.specs.Ledger.{made, taken, made_in_all, taken_in_all}
use Rattle.card.specs.RentAdded.{added, added_in_all}
use Rattle.card.specs.Reach.{shows, some_shows, presents, presented, is_one, takes_last, last_taken, key_presented, sealed}
use Rattle.card.specs.Trials.{rules, blank_card, player_card, lending, send, read, write_all, alloc, create, delete, delete_tree, key, free, tick, trial_table, trial_reports, rented_for, rent_table, rent_reports, waiting_table, waiting_reports}
use Rattle.card.specs.Statements.Refusals.{RefusalUnchanged, RefusedIff, PortsAlike}
use Rattle.card.specs.Statements.Sound.{DoneSound, CountsRight, PointersAscending, FormatSound}
use Rattle.card.specs.Statements.Unallocated.{Untouched, FreedWaits}
use Rattle.card.specs.Statements.Sweeping.{SweptGone}
use Rattle.card.specs.Statements.Ledger.{MadeAndTaken, Ledger, CountsLedger}
use Rattle.card.specs.Statements.Runs.{RunFound, RunAdjoins, RunNearest}
use Rattle.card.specs.Statements.Keys.{OneKeyUnsealed, OtherKeyKept, OwnKeySet, BothWindowsClosed, WriteAccessNeeded}
use Rattle.card.specs.Statements.Windows.{by_read, by_write, by_renew, WindowSetBy, WindowLater, IntervalZeroKept, WindowsKept}
use Rattle.card.specs.Statements.Trees.{TreeLeast, TreeSpares, TreeCycle, TreeKeyed, TreeHides}
use Rattle.card.specs.Statements.Secrecy.{SameHidden, Secrecy}
use Rattle.card.specs.Statements.Rent.{RentSummed, RentUnchanged, RentNearest, RentAlike}
use Rattle.card.specs.declared.Port.TheVariants.{Host, Service}
use Rattle.card.specs.declared.Mode.{Mode}
use Rattle.card.specs.declared.Mode.TheVariants.{Reading, Writing}
use Rattle.card.specs.declared.Credential.{Credential}
use Rattle.card.specs.declared.Credential.TheVariants.{Nothing, Reference, Key as KeyCredential}
use Rattle.card.specs.declared.Call.{Call}
use Rattle.card.specs.declared.Call.TheVariants.{Delete, Renew, Force, Tick, Sweep}
use Rattle.card.specs.declared.AllocOperands.{AllocOperands}
use Rattle.card.specs.declared.DeleteOperands.{DeleteOperands}
use Rattle.card.specs.declared.KeyOperands.{KeyOperands}
use Rattle.card.proofs.Computed.Same.{same_list, same_lists, reply_numbers}
use Rattle.card.proofs.Computed.Row.{Row, refutes, nothing}
use Rattle.card.proofs.Computed.SoundLaws.{is_sound}
use Rattle.card.proofs.Computed.Bounds.{bounds}
use Rattle.card.proofs.Computed.Refusals.{refusal_unchanged_row, first_number, refused_iff_row, ports_alike_row}
use Rattle.card.proofs.Computed.Sound.{done_sound_row, counts_right_row, pointers_ascending_row, format_sound_row}
use Rattle.card.proofs.Computed.Unallocated.{untouched_row, freed_waits_row}
use Rattle.card.proofs.Computed.Secrecy.{with_contents, same_hidden_row, secrecy_row}
use Rattle.card.proofs.Computed.Sweeping.{swept_gone_row}
use Rattle.card.proofs.Computed.Ledger.{made_and_taken_row, ledger_row, counts_ledger_row}
use Rattle.card.proofs.Computed.Rent.{rent_summed_row, rent_unchanged_row, rent_nearest_row, rent_alike_row}
use Rattle.card.proofs.Computed.Runs.{none_hold, run_found_row, run_adjoins_row, run_nearest_row}
use Rattle.card.proofs.Computed.Trees.{tree_least_row, tree_spares_row, tree_cycle_row, tree_keyed_row, tree_hides_row}
use Rattle.card.proofs.Computed.Keys.{one_key_unsealed_row, other_key_kept_row, own_key_set_row, both_windows_closed_row, write_access_needed_row}
use Rattle.card.proofs.Computed.Windows.{ends_sooner, window_set_by_row, window_later_row, interval_zero_kept_row, windows_kept_row}
use Rattle.card.proofs.Computed.Trials.{all_lines}

-- To compute a row, its proof unfolds this one name. A wrong rule makes use of `or_else`.
unfoldable pub computing : Unit {0}
unfolding or_else rules player_card refusals port_of is_sweep replies after_all sum_below made taken made_in_all taken_in_all added added_in_all traits shows some_shows presents presented key_presented sealed is_one takes_last last_taken trial_table trial_reports rent_table rent_reports waiting_table waiting_reports bounds same_list same_lists reply_numbers all_lines first_number none_hold
computing = tt

-- ---- cards, drawn by hand: no rule has made them

-- N 16, R 1, B 512 and P 32, at second 0 with no window open, each pointer once.
abbrev drawn : (used : ℕ) (flags keys counts pointers contents : List ℕ) → Card
drawn used flags keys counts pointers contents =
    card (with_used (fresh_info 16 1 512) used) flags keys counts pointers (replicate used 1 ++ zeros (length pointers - used)) (zeros 32) contents

-- A card at this second, with these windows.
abbrev timed : Card → ℕ → List ℕ → Card
timed c time windows =
    card (with_time c.public.info time c.public.info.total) c.public.flags c.keys c.public.counts c.public.pointers c.public.multiplicities windows c.contents

-- The root points to blocks 1 and 2.
abbrev two_below : Card
two_below = drawn 2 (1 ∷ 1 ∷ 1 ∷ zeros 13) (zeros 64) (0 ∷ 1 ∷ 1 ∷ zeros 13) (1 ∷ 2 ∷ zeros 30) (zeros 8192)

-- The root points to block 1, and that to block 2.
abbrev chain : Card
chain = drawn 2 (1 ∷ 1 ∷ 1 ∷ zeros 13) (zeros 64) (0 ∷ 1 ∷ 1 ∷ zeros 13) (1 ∷ 65538 ∷ zeros 30) (zeros 8192)

-- The root points to blocks 1 and 2, and block 1 to block 2.
abbrev twice : Card
twice = drawn 3 (1 ∷ 1 ∷ 1 ∷ zeros 13) (zeros 64) (0 ∷ 1 ∷ 2 ∷ zeros 13) (1 ∷ 2 ∷ 65538 ∷ zeros 29) (zeros 8192)

-- The root points to block 1, and that to block 2, which has a write key.
abbrev chain_keyed : Card
chain_keyed = drawn 2 (1 ∷ 1 ∷ 5 ∷ zeros 13) (zeros 10 ++ (3 ∷ 4 ∷ zeros 52)) (0 ∷ 1 ∷ 1 ∷ zeros 13) (1 ∷ 65538 ∷ zeros 30) (zeros 8192)

-- A chain of pointers through all blocks, from each to the next.
abbrev path : Card
path =
    drawn 15 (replicate 16 1) (zeros 64) (0 ∷ replicate 15 1)
    (pointer 0 1 ∷ pointer 1 2 ∷ pointer 2 3 ∷ pointer 3 4 ∷ pointer 4 5 ∷ pointer 5 6 ∷ pointer 6 7 ∷ pointer 7 8 ∷ pointer 8 9
    ∷ pointer 9 10 ∷ pointer 10 11 ∷ pointer 11 12 ∷ pointer 12 13 ∷ pointer 13 14 ∷ pointer 14 15 ∷ zeros 17)
    (zeros 8192)

-- The root points to block 1, and blocks 1 and 2 to each other.
abbrev cycle : Card
cycle = drawn 3 (1 ∷ 1 ∷ 1 ∷ zeros 13) (zeros 64) (0 ∷ 2 ∷ 1 ∷ zeros 13) (1 ∷ 65538 ∷ 131073 ∷ zeros 29) (zeros 8192)

-- The root points to blocks 1 and 2, and those to block 3, block 1 twice.
abbrev shared : Card
shared =
    card (with_used (fresh_info 16 1 512) 4) (1 ∷ 1 ∷ 1 ∷ 1 ∷ zeros 12) (zeros 64) (0 ∷ 1 ∷ 1 ∷ 3 ∷ zeros 12) (1 ∷ 2 ∷ 65539 ∷ 131075 ∷ zeros 28)
    (1 ∷ 1 ∷ 2 ∷ 1 ∷ zeros 28)
    (zeros 32)
    (zeros 8192)

-- The root points to block 2, so many times, and no other block is taken.
abbrev often : ℕ → Card
often times =
    card (with_used (fresh_info 16 1 512) 1) (1 ∷ 0 ∷ 1 ∷ zeros 13) (zeros 64) (0 ∷ 0 ∷ times ∷ zeros 13) (2 ∷ zeros 31) (times ∷ zeros 31) (zeros 32) (zeros 8192)

-- The root points to block 2 alone, so that block 1 is free between two that are not.
abbrev gapped : Card
gapped = often 1

-- The root points to all blocks but 5 to 7 and 12 to 15, and there are so many places left for pointers.
abbrev apart : ℕ → Card
apart left =
    drawn 8
    (1 ∷ 1 ∷ 1 ∷ 1 ∷ 1 ∷ 0 ∷ 0 ∷ 0 ∷ 1 ∷ 1 ∷ 1 ∷ 1 ∷ zeros 4)
    (zeros 64)
    (0 ∷ 1 ∷ 1 ∷ 1 ∷ 1 ∷ 0 ∷ 0 ∷ 0 ∷ 1 ∷ 1 ∷ 1 ∷ 1 ∷ zeros 4)
    (1 ∷ 2 ∷ 3 ∷ 4 ∷ 8 ∷ 9 ∷ 10 ∷ 11 ∷ zeros left)
    (zeros 8192)

-- The root points to block 2, between the blocks 1 and 3, which wait.
abbrev two_waiting : List ℕ → Card
two_waiting contents = drawn 1 (1 ∷ 8 ∷ 1 ∷ 8 ∷ zeros 12) (zeros 64) (0 ∷ 0 ∷ 1 ∷ zeros 13) (2 ∷ zeros 31) contents

-- One byte all over the contents of a card; or all over the blocks 1 and 3, and 7 over the others.
abbrev filled : ℕ → List ℕ
filled byte = replicate 8192 byte

abbrev differing : ℕ → List ℕ
differing byte = replicate 512 7 ++ (replicate 512 byte ++ (replicate 512 7 ++ (replicate 512 byte ++ replicate 6144 7)))

-- The root points to block 1, which has both keys.
abbrev keyed : List ℕ → Card
keyed contents = drawn 1 (1 ∷ 7 ∷ zeros 14) (zeros 4 ++ (1 ∷ 2 ∷ 3 ∷ 4 ∷ zeros 56)) (0 ∷ 1 ∷ zeros 14) (1 ∷ zeros 31) contents

-- The root points to block 1, which has a read key alone, or a write key alone.
abbrev read_keyed : Card
read_keyed = drawn 1 (1 ∷ 3 ∷ zeros 14) (zeros 4 ++ (1 ∷ 2 ∷ zeros 58)) (0 ∷ 1 ∷ zeros 14) (1 ∷ zeros 31) (zeros 8192)

abbrev write_keyed : Card
write_keyed = drawn 1 (1 ∷ 5 ∷ zeros 14) (zeros 6 ++ (3 ∷ 4 ∷ zeros 56)) (0 ∷ 1 ∷ zeros 14) (1 ∷ zeros 31) (zeros 8192)

-- The root has both keys, and there is no other block.
abbrev keyed_root : List ℕ → Card
keyed_root contents = drawn 0 (7 ∷ zeros 15) (1 ∷ 2 ∷ 3 ∷ 4 ∷ zeros 60) (zeros 16) (zeros 32) contents

-- The fresh card with an open window in its table, and 7 in every byte.
abbrev opened : Card
opened = card (fresh_info 16 1 512) (1 ∷ zeros 15) (zeros 64) (zeros 16) (zeros 32) (zeros 32) (0 ∷ 0 ∷ 10 ∷ zeros 29) (replicate 8192 7)

-- One byte in every place from block 2 on.
abbrev pub below : ℕ → List ℕ
below byte = zeros 1024 ++ replicate 7168 byte

-- The root points to block 1, that to 2 and 4, and 2 to 3. Block 1 has keys of its own, 2 and 4 have others, and 3 has none.
abbrev pub nested : Card
nested =
    drawn 4
    (1 ∷ 7 ∷ 7 ∷ 1 ∷ 7 ∷ zeros 11)
    (zeros 4 ++ (1 ∷ 2 ∷ 3 ∷ 4 ∷ 5 ∷ 6 ∷ 7 ∷ 8 ∷ 0 ∷ 0 ∷ 0 ∷ 0 ∷ 5 ∷ 6 ∷ 7 ∷ 8 ∷ zeros 44))
    (0 ∷ 1 ∷ 1 ∷ 1 ∷ 1 ∷ zeros 11)
    (1 ∷ 65538 ∷ 65540 ∷ 131075 ∷ zeros 28)
    (below 5)

-- A call of a host, with no buffers lent.
abbrev pub hosted : Call → Request
hosted call = record { call = call; lent = lending [] }

-- ---- host sessions on the nested card, of which the root and block 1 alone are within reach without the keys of 2 and 4

abbrev reads : ℕ → Credential → ℕ → Request
reads b credential interval = (read Host b credential interval).request

abbrev pub at_most_one : ℕ → Bool
at_most_one b = leb b 1

-- ---- refusal_unchanged

abbrev refused_read_empties_its_buffer : Row RefusalUnchanged
refused_read_empties_its_buffer = refusal_unchanged_row player_card (read Host 5 Nothing 0)

abbrev delete_answers_a_refusal_and_deletes : Row RefusalUnchanged
delete_answers_a_refusal_and_deletes = refusal_unchanged_row two_below (delete Service 0 1)

abbrev tree_deleted_before_fifteen_is_judged : Row RefusalUnchanged
tree_deleted_before_fifteen_is_judged = refusal_unchanged_row (keyed (zeros 8192)) (delete_tree Service 0 1)

-- ---- ports_alike

abbrev service_free_answers_nothing : Row PortsAlike
service_free_answers_nothing = ports_alike_row freeEither player_card (lending [])

abbrev service_tick_stands_still : Row PortsAlike
service_tick_stands_still = ports_alike_row (tickEither (record { seconds = 5 })) player_card (lending [])

abbrev service_sweep_sweeps_nothing : Row PortsAlike
service_sweep_sweeps_nothing = ports_alike_row (sweepEither (record { most = 1 })) (two_waiting (filled 7)) (lending [])

-- ---- done_sound

abbrev freed_block_keeps_its_keys : Row DoneSound
freed_block_keeps_its_keys = done_sound_row (keyed (zeros 8192)) (delete Service 0 1)

abbrev root_pointed_to_at_the_service_port : Row DoneSound
root_pointed_to_at_the_service_port = done_sound_row two_below (create Service 1 Nothing 0 Nothing)

abbrev no_seven_at_the_highest_multiplicity : Row DoneSound
no_seven_at_the_highest_multiplicity = done_sound_row (often 65535) (create Service 0 Nothing 2 Nothing)

abbrev multiplicity_left_behind_the_pointers : Row DoneSound
multiplicity_left_behind_the_pointers = done_sound_row two_below (delete Service 0 2)

-- ---- counts_right

abbrev dropped_pointer_still_counted : Row CountsRight
dropped_pointer_still_counted = counts_right_row twice (delete Service 1 2)

abbrev created_pointer_counted_at_its_source : Row CountsRight
created_pointer_counted_at_its_source = counts_right_row two_below (create Service 1 Nothing 2 Nothing)

abbrev pointer_counted_once_whatever_its_multiplicity : Row CountsRight
pointer_counted_once_whatever_its_multiplicity = counts_right_row two_below (create Service 0 Nothing 1 Nothing)

-- ---- made_and_taken, ledger and counts_ledger

abbrev existing_pointer_not_raised : Row MadeAndTaken
existing_pointer_not_raised = made_and_taken_row two_below (create Service 0 Nothing 1 Nothing) 0 1

abbrev delete_takes_the_pointer_whole : Row MadeAndTaken
delete_takes_the_pointer_whole = made_and_taken_row (often 2) (delete Service 0 2) 0 2

abbrev allotted_block_pointed_to_twice : Row Ledger
allotted_block_pointed_to_twice = ledger_row player_card (alloc Service 0 65535 1 ∷ []) 0 1

abbrev multiplicities_not_shifted : Row Ledger
multiplicities_not_shifted = ledger_row (often 2) (alloc Service 0 65535 1 ∷ delete Service 0 2 ∷ []) 0 2

abbrev removed_pointer_taken_once : Row MadeAndTaken
removed_pointer_taken_once = made_and_taken_row (often 2) (delete_tree Service 0 2) 0 2

abbrev raised_pointer_counted_twice : Row CountsLedger
raised_pointer_counted_twice = counts_ledger_row two_below (create Service 0 Nothing 1 Nothing ∷ []) 1

abbrev lowered_pointer_still_counted : Row CountsLedger
lowered_pointer_still_counted = counts_ledger_row (often 2) (delete Service 0 2 ∷ []) 2

-- ---- pointers_ascending

abbrev dropped_pointer_leaves_a_one : Row PointersAscending
dropped_pointer_leaves_a_one = pointers_ascending_row two_below (delete Service 0 2)

abbrev created_pointer_put_last : Row PointersAscending
created_pointer_put_last = pointers_ascending_row chain (create Service 0 Nothing 2 Nothing)

-- ---- format_sound

abbrev format_leaves_the_pointers : Row FormatSound
format_leaves_the_pointers = format_sound_row 16 1 512 two_below

abbrev format_leaves_the_multiplicities : Row FormatSound
format_leaves_the_multiplicities = format_sound_row 16 1 512 two_below

abbrev format_leaves_the_windows : Row FormatSound
format_leaves_the_windows = format_sound_row 16 1 512 opened

-- ---- untouched

abbrev unallocated_block_written : Row Untouched
unallocated_block_written = untouched_row player_card (write_all Service 5 Nothing 0 7) 5

abbrev reused_block_unzeroed : Row Untouched
reused_block_unzeroed = untouched_row (with_contents player_card (replicate 8192 7)) (alloc Service 0 65535 1) 1

abbrev waiting_block_taken : Row Untouched
waiting_block_taken = untouched_row (two_waiting (filled 7)) (alloc Service 0 1 1) 1

abbrev free_sweeps_a_block : Row Untouched
free_sweeps_a_block = untouched_row (two_waiting (filled 7)) free 1

-- ---- freed_waits and swept_gone

abbrev freed_at_once : Row FreedWaits
freed_at_once = freed_waits_row two_below (delete Service 0 1) 1

abbrev freed_block_overwritten : Row FreedWaits
freed_block_overwritten = freed_waits_row (with_contents chain (filled 7)) (delete_tree Service 0 1) 2

-- The other card differs in the blocks that wait.
abbrev swept_block_unfilled : Row SweptGone
swept_block_unfilled = swept_gone_row (two_waiting (filled 7)) (differing 6) (record { most = 1 })

abbrev swept_block_left_waiting : Row SweptGone
swept_block_left_waiting = swept_gone_row (two_waiting (filled 7)) (differing 6) (record { most = 1 })

abbrev highest_swept : Row SweptGone
highest_swept = swept_gone_row (two_waiting (filled 7)) (differing 6) (record { most = 1 })

abbrev one_more_swept : Row SweptGone
one_more_swept = swept_gone_row (two_waiting (filled 7)) (differing 6) (record { most = 1 })

abbrev sweep_answers_what_was_asked_for : Row SweptGone
sweep_answers_what_was_asked_for = swept_gone_row (two_waiting (filled 7)) (differing 6) (record { most = 5 })

-- ---- refused_iff

abbrev done_though_refused : Row RefusedIff
done_though_refused = refused_iff_row blank_card free

abbrev last_refusal_answered : Row RefusedIff
last_refusal_answered = refused_iff_row player_card (read Host 5 Nothing 86401)

-- ---- run_found, run_adjoins and run_nearest: a run below the root, by its hint and count

abbrev below0 : ℕ → ℕ → AllocOperands
below0 hint count = record { reference = 0; credential = Nothing; hint = hint; count = count }

abbrev run_in_the_first_stretch_alone : Row RunFound
run_in_the_first_stretch_alone = run_found_row Service gapped (below0 65535 3) (lending [])

abbrev fourteen_before_ten : Row RunFound
fourteen_before_ten = run_found_row Service player_card (below0 65535 16) (lending [])

abbrev eleven_before_fourteen : Row RunFound
eleven_before_fourteen = run_found_row Service (apart 0) (below0 65535 5) (lending [])

abbrev allocated_block_in_the_middle : Row RunAdjoins
allocated_block_in_the_middle = run_adjoins_row Service gapped (below0 65535 3) (lending [])

abbrev run_past_the_last_block : Row RunAdjoins
run_past_the_last_block = run_adjoins_row Service player_card (below0 15 2) (lending [])

abbrev waiting_block_in_a_run : Row RunAdjoins
waiting_block_in_a_run = run_adjoins_row Service (two_waiting (filled 7)) (below0 65535 2) (lending [])

abbrev run_given_descending : Row RunAdjoins
run_given_descending = run_adjoins_row Service player_card (below0 8 3) (lending [])

abbrev nearest_block_for_the_first : Row RunNearest
nearest_block_for_the_first = run_nearest_row Service (apart 24) (below0 9 3) (lending []) 12

abbrev hint_passed_over : Row RunNearest
hint_passed_over = run_nearest_row Service player_card (below0 8 3) (lending []) 8

-- ---- tree_least, tree_spares, tree_cycle and tree_keyed: a pointer removed, by its ends, and with it a tree

abbrev tree_of : ℕ → ℕ → DeleteOperands
tree_of a b = record { source = a; credential = Nothing; destination = b }

abbrev no_root : ℕ → Bool
no_root b = ltb 0 b

abbrev one_generation_only : Row TreeLeast
one_generation_only = tree_least_row Service chain (tree_of 0 1) (lending []) no_root

abbrev two_rounds_too_few : Row TreeLeast
two_rounds_too_few = tree_least_row Service path (tree_of 0 1) (lending []) no_root

abbrev pointer_from_outside_overlooked : Row TreeLeast
pointer_from_outside_overlooked = tree_least_row Service twice (tree_of 0 1) (lending []) (λ b. eqb b 1)

abbrev root_freed_with_its_tree : Row TreeLeast
root_freed_with_its_tree = tree_least_row Service chain (tree_of 0 1) (lending []) no_root

abbrev counts_left_with_freed_sources : Row TreeSpares
counts_left_with_freed_sources = tree_spares_row Service twice (tree_of 0 1) (lending [])

abbrev freed_blocks_keep_their_pointers : Row TreeSpares
freed_blocks_keep_their_pointers = tree_spares_row Service twice (tree_of 0 1) (lending [])

abbrev multiplicities_left_in_their_places : Row TreeSpares
multiplicities_left_in_their_places = tree_spares_row Service shared (tree_of 0 1) (lending [])

abbrev greatest_set_freed : Row TreeCycle
greatest_set_freed = tree_cycle_row Service cycle (tree_of 0 1) (lending []) no_root

abbrev destination_freed_though_pointed_to : Row TreeCycle
destination_freed_though_pointed_to = tree_cycle_row Service cycle (tree_of 0 1) (lending []) no_root

abbrev fifteen_judged_on_read_keys : Row TreeKeyed
fifteen_judged_on_read_keys = tree_keyed_row Service write_keyed (tree_of 0 1) (lending [])

abbrev fifteen_judged_on_the_destination_alone : Row TreeKeyed
fifteen_judged_on_the_destination_alone = tree_keyed_row Service chain_keyed (tree_of 0 1) (lending [])

-- ---- tree_hides

-- The root points to block 1, and that to block 2, which has both keys. The root's window for writing is open.
abbrev below_open : Card
below_open =
    timed (drawn 2 (1 ∷ 1 ∷ 7 ∷ zeros 13) (zeros 8 ++ (5 ∷ 6 ∷ 7 ∷ 8 ∷ zeros 52)) (0 ∷ 1 ∷ 1 ∷ zeros 13) (1 ∷ 65538 ∷ zeros 30) (below 5)) 0 (0 ∷ 10 ∷ zeros 30)

abbrev tree_from1 : Credential → DeleteOperands
tree_from1 credential = record { source = 1; credential = credential; destination = 2 }

abbrev fifteen_never_judged : Row TreeHides
fifteen_never_judged = tree_hides_row nested (tree_from1 (KeyCredential 3 4)) (lending []) at_most_one

abbrev fifteen_judged_on_the_source : Row TreeHides
fifteen_judged_on_the_source = tree_hides_row below_open (tree_from1 (Reference 0)) (lending []) at_most_one

-- ---- one_key_unsealed

abbrev sealed_by_one_key : Row OneKeyUnsealed
sealed_by_one_key = one_key_unsealed_row (λ high low. false) read_keyed Reading 1

abbrev sealed_by_the_write_key : Row OneKeyUnsealed
sealed_by_the_write_key = one_key_unsealed_row (λ high low. false) write_keyed Writing 1

-- ---- other_key_kept, own_key_set, both_windows_closed and write_access_needed: a key of block 1, by its credential and the new key

abbrev of1 : Credential → Option (ℕ × ℕ) → KeyOperands
of1 credential key = record { block = 1; credential = credential; key = key }

-- Block 1 has both keys, and both of its windows are open.
abbrev keyed_open : Card
keyed_open = timed (keyed (zeros 8192)) 0 (0 ∷ 0 ∷ 10 ∷ 10 ∷ zeros 28)

abbrev write_key_cleared_with_the_read_key : Row OtherKeyKept
write_key_cleared_with_the_read_key = other_key_kept_row Service (keyed (zeros 8192)) Reading (of1 Nothing (Some (5, 6))) (lending [])

abbrev flag_of_the_other_key_cleared : Row OtherKeyKept
flag_of_the_other_key_cleared = other_key_kept_row Service (keyed (zeros 8192)) Reading (of1 Nothing (Some (5, 6))) (lending [])

abbrev absent_key_flagged : Row OwnKeySet
absent_key_flagged = own_key_set_row Service (keyed (zeros 8192)) Writing (of1 Nothing None) (lending [])

abbrev low_word_set_first : Row OwnKeySet
low_word_set_first = own_key_set_row Service two_below Writing (of1 Nothing (Some (3, 4))) (lending [])

abbrev window_of_its_own_mode_closed : Row BothWindowsClosed
window_of_its_own_mode_closed = both_windows_closed_row Host keyed_open Writing (of1 (KeyCredential 3 4) (Some (3, 4))) (lending [])

abbrev windows_left_by_an_absent_key : Row BothWindowsClosed
windows_left_by_an_absent_key = both_windows_closed_row Service keyed_open Reading (of1 Nothing None) (lending [])

abbrev old_read_key_sets_a_new_one : Row WriteAccessNeeded
old_read_key_sets_a_new_one = write_access_needed_row (keyed (zeros 8192)) Reading (of1 (KeyCredential 1 2) (Some (5, 6))) (lending [])

abbrev key_taken_away_without_access : Row WriteAccessNeeded
key_taken_away_without_access = write_access_needed_row two_below Writing (of1 Nothing None) (lending [])

-- ---- window_set_by

abbrev window_set_by_a_refused_read : Row WindowSetBy
window_set_by_a_refused_read = window_set_by_row two_below (read Host 1 Nothing 10) Reading 1

abbrev service_read_opens_a_window : Row WindowSetBy
service_read_opens_a_window = window_set_by_row player_card (read Service 0 Nothing 10) Reading 0

-- ---- window_later, interval_zero_kept and windows_kept: the root with both keys, at second 20, its windows with these ends

abbrev at20 : ℕ → ℕ → Card
at20 reading writing = timed (keyed_root (zeros 8192)) 20 (reading ∷ writing ∷ zeros 30)

abbrev force : ℕ → Sent
force b = send Host (Force (record { block = b }))

abbrev renew_reading : ℕ → Sent
renew_reading interval = send Host (Renew (record { mode = 0; block = 0; high = 1; low = 2; interval = interval }))

abbrev interval_counted_from_the_end : Row WindowLater
interval_counted_from_the_end = window_later_row (at20 30 0) (read Host 0 (KeyCredential 1 2) 15) (by_read _)

abbrev renew_leaves_an_open_window : Row WindowLater
renew_leaves_an_open_window = window_later_row (at20 30 0) (renew_reading 15) (by_renew _)

abbrev later_end_by_interval_0 : Row IntervalZeroKept
later_end_by_interval_0 = interval_zero_kept_row (at20 10 0) (read Host 0 (KeyCredential 1 2) 0) (by_read _)

abbrev interval_0_closes : Row IntervalZeroKept
interval_0_closes = interval_zero_kept_row (at20 0 30) (write_all Host 0 (KeyCredential 3 4) 0 7) (by_write _)

abbrev renew_cuts : Row WindowsKept
renew_cuts = windows_kept_row (at20 30 0) (renew_reading 5) Reading 0

abbrev interval_of_5_cuts : Row WindowsKept
interval_of_5_cuts = windows_kept_row (at20 30 0) (read Host 0 (KeyCredential 1 2) 5) Reading 0

abbrev write_compares_with_the_read_window : Row WindowsKept
write_compares_with_the_read_window = windows_kept_row (at20 30 60) (write_all Host 0 (KeyCredential 3 4) 5 7) Writing 0

abbrev force_shuts_another_block : Row WindowsKept
force_shuts_another_block = windows_kept_row keyed_open (force 0) Reading 1

-- What `windows_kept` excepts happens: on a sound card FORCE, either key change, freeing and FORMAT each let a window end sooner.
abbrev shortens : Card → Card → Mode → ℕ → Bool
shortens c d m b = is_sound c && ends_sooner c d m b

pub force_shortens : shortens (at20 30 60) (performed (at20 30 60) (force 0)).after Reading 0 ≡ true
unfolding computing
force_shortens = refl

pub key_read_shortens : shortens (at20 30 60) (performed (at20 30 60) (key Service Reading 0 Nothing (Some (5, 6)))).after Writing 0 ≡ true
unfolding computing
key_read_shortens = refl

pub key_write_shortens : shortens (at20 30 60) (performed (at20 30 60) (key Service Writing 0 Nothing (Some (5, 6)))).after Reading 0 ≡ true
unfolding computing
key_write_shortens = refl

pub freeing_shortens : shortens keyed_open (performed keyed_open (delete Service 0 1)).after Reading 1 ≡ true
unfolding computing
freeing_shortens = refl

pub format_shortens : shortens (at20 30 60) (format 16 1 512 (at20 30 60)).after Writing 0 ≡ true
unfolding computing
format_shortens = refl

-- ---- same_hidden

abbrev reach_looks_at_contents : Row SameHidden
reach_looks_at_contents = same_hidden_row (λ high low. eqb high 9 && eqb low 2) (keyed (replicate 8192 9)) (zeros 8192) (λ b. eqb b 0) Reading 1

-- Without a key presented a root with both keys is sealed, whatever it holds.
abbrev sealed_by_its_contents : Row SameHidden
sealed_by_its_contents = same_hidden_row (λ high low. false) (keyed_root (replicate 8192 9)) (zeros 8192) (λ b. false) Reading 0

-- ---- secrecy

abbrev any_key_opens : Row Secrecy
any_key_opens = secrecy_row nested (below 6) at_most_one (reads 2 (KeyCredential 5 0) 0 ∷ [])

abbrev reference_stands_in_for_a_key : Row Secrecy
reference_stands_in_for_a_key = secrecy_row nested (below 6) at_most_one (reads 1 (KeyCredential 1 2) 10 ∷ reads 2 (Reference 1) 0 ∷ [])

abbrev closed_parent_opens_its_children : Row Secrecy
closed_parent_opens_its_children = secrecy_row nested (below 6) at_most_one (reads 3 (Reference 2) 0 ∷ [])

abbrev renew_presents_no_key : Row Secrecy
renew_presents_no_key = secrecy_row nested (below 6) at_most_one (hosted (Renew (record { mode = 0; block = 2; high = 5; low = 6; interval = 10 })) ∷ reads 3 (Reference 2) 0 ∷ [])

abbrev last_pointer_to_the_source : Row Secrecy
last_pointer_to_the_source = secrecy_row nested (below 6) at_most_one (hosted (Delete (record { source = 1; credential = KeyCredential 3 4; destination = 4 })) ∷ hosted (Sweep (record { most = 1 })) ∷ [])

-- Two blocks wait, and differ; the others are within reach, or free.
abbrev sweeps : ℕ → List Request
sweeps most = hosted (Sweep (record { most = most })) ∷ []

abbrev sweep_reads_what_it_sweeps : Row Secrecy
sweep_reads_what_it_sweeps = secrecy_row (two_waiting (differing 1)) (differing 2) (λ b. eqb b 0 || eqb b 2) (sweeps 2)

abbrev byte_left_by_sweep : Row Secrecy
byte_left_by_sweep = secrecy_row (two_waiting (differing 1)) (differing 2) (λ b. eqb b 0 || eqb b 2) (sweeps 2)

-- ---- rent_summed, rent_unchanged, rent_nearest and rent_alike

abbrev rent_left_to_the_next_tick : Row RentSummed
rent_left_to_the_next_tick = rent_summed_row two_below (tick 5 ∷ [])

abbrev rent_replaces_the_total : Row RentSummed
rent_replaces_the_total = rent_summed_row two_below (tick 5 ∷ tick 7 ∷ [])

abbrev rent_paid_by_asking : Row RentUnchanged
rent_paid_by_asking = rent_unchanged_row (rented_for 86400 43200) (record { price = 1000 })

abbrev second_passes_by_asking : Row RentUnchanged
second_passes_by_asking = rent_unchanged_row (rented_for 86400 43200) (record { price = 1000 })

abbrev half_a_cent_downward : Row RentNearest
half_a_cent_downward = rent_nearest_row (rented_for 86400 43200) (record { price = 1000 }) 1

abbrev every_fraction_upward : Row RentNearest
every_fraction_upward = rent_nearest_row (rented_for 86400 43199) (record { price = 1000 }) 0

-- Four blocks for so long that another thousandth of a cent is seen.
abbrev ticks : List Request
ticks = hosted (Tick (record { seconds = 100000000 })) ∷ []

abbrev price_read_from_contents : Row RentAlike
price_read_from_contents = rent_alike_row nested (below 6) at_most_one ticks (record { price = 1000 })

abbrev seconds_read_from_contents : Row RentAlike
seconds_read_from_contents = rent_alike_row nested (below 6) at_most_one ticks (record { price = 1000 })

-- ---- the row of an edit

-- An edit puts here the statement that its mistake makes false, and the row that shows it.
pub refuted : ⊥ → ⊥
unfolding computing
refuted = refutes nothing refl

-- And the row here, as what it is by its theorem: with the mistake this is refused.
pub held : true ≡ true
unfolding computing
held = refl
