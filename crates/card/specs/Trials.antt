-- Document 01, "Marked trials" T1 to T12, its example of ten records as calls, and its mistakes to exclude, each in a row of its own or one of these:
-- rows of one table, shown of the rules by one proof that is computed. Behind them rows of the requests.
use Rattle.std.specs.Prelude.{ℕ, List, [], ◌∷◌, ◌++◌, map, replicate, Option, Some, None}
use Rattle.card.specs.Lists.{every, all, any, all_below, numbers_below, numbers_from, tabulate}
use Rattle.card.specs.Pointers.{ascending, contains, points_from, insert, remove, beside, total, insert_beside, remove_beside, set_beside, keep_beside, keep, not_from}
use Rattle.card.specs.Least.{rounds, least}
use Rattle.card.specs.Contents.{overwrite, part, fill, zeros}
use Rattle.card.specs.Card.{Card, card, allocated, waiting, free as freeOf, has_key, free_blocks, waiting_blocks, window_open, multiplicity, points_to, has_pointers}
use Rattle.card.specs.Tree.{ordinary, only_from, orphaned, orphans}
use Rattle.card.specs.Rent.{rented, rent_for, half_rounded, rounded, cents}
use Rattle.card.specs.Soundness.{ranges, lengths, shape, flags_low, root_allocated, key_zero, unallocated_empty, absent_key_zero, count_right, pointed_to, window_in_time, pointer_right, multiplicity_right, total_in_time, sound}
use Rattle.card.specs.Access.{key_is, key_opens, opens_keyed, opens_root, opens_pointed, opens, admits}
use Rattle.card.specs.Plan.{first, audited, change_public, change_keys, change_contents, change, changes, out_after, places_after, settle, judge, with_used, with_time, Buffers}
use Rattle.card.specs.Calls.{root_at_host, window_after, opens_window, fresh_info, format_result, format, read_plan, write_plan, wanted, nearest, picks, take_all, alloc_plan, is_run, run_starts, nearest_run, alloc_contig_plan, create_plan, delete_plan, freed_with, free_each, delete_tree_plan, key_plan, mode_of, renew_plan, force_plan, free_plan, tick_plan, audit_plan, rent_plan, lowest_waiting, sweep_each, sweep_plan}
use Rattle.card.specs.Session.{key_call, Sent, plan, perform, reported, reports, traits}
use Rattle.card.specs.declared.Port.{Port}
use Rattle.card.specs.declared.Port.TheVariants.{Host, Service}
use Rattle.card.specs.declared.Mode.{Mode}
use Rattle.card.specs.declared.Mode.TheVariants.{Reading, Writing}
use Rattle.card.specs.declared.Credential.{Credential}
use Rattle.card.specs.declared.Credential.TheVariants.{Nothing, Reference, Key as KeyCredential}
use Rattle.card.specs.declared.Call.{Call}
use Rattle.card.specs.declared.Call.TheVariants.{Read, Write, Alloc, AllocContig, Create, Delete, DeleteTree, Free, Tick, Rent, Sweep}

-- To compute by the rules, a proof unfolds this one name.
unfoldable pub rules : Unit {0}
unfolding every all any all_below numbers_below numbers_from tabulate rounds least ascending contains points_from insert remove beside total insert_beside remove_beside set_beside keep_beside keep not_from overwrite part fill allocated waiting freeOf has_key free_blocks waiting_blocks window_open multiplicity points_to has_pointers ordinary only_from orphaned orphans rented rent_for half_rounded rounded cents ranges lengths shape flags_low root_allocated key_zero unallocated_empty absent_key_zero count_right pointed_to window_in_time pointer_right multiplicity_right total_in_time sound key_is key_opens opens_keyed opens_root opens_pointed opens admits first audited change_public change_keys change_contents change changes out_after places_after settle judge root_at_host window_after opens_window format_result format read_plan write_plan wanted nearest picks take_all alloc_plan is_run run_starts nearest_run alloc_contig_plan create_plan delete_plan freed_with free_each delete_tree_plan key_plan mode_of renew_plan force_plan free_plan tick_plan audit_plan rent_plan lowest_waiting sweep_each sweep_plan plan perform reported reports traits
rules = tt

-- ---- the player's card

-- Tables of the player's lengths, N 16, R 1, B 512 and P 32, before FORMAT. The contents are 8,192 zero bytes.
abbrev pub blank_card : Card
blank_card = card (fresh_info 16 1 512) (zeros 16) (zeros 64) (zeros 16) (zeros 32) (zeros 32) (zeros 32) (zeros 8192)

-- Document 01, "fresh player card".
unfoldable pub player_card : Card
player_card = (format 16 1 512 blank_card).after

-- ---- calls, as short as the trials have them

-- The player lends READ 512 bytes, and ALLOC and ALLOC_CONTIG 64 places. They hold 255 beforehand, so that what a call leaves is seen.
abbrev pub lending : List ℕ → Buffers
lending input = record { input = input; out = replicate 512 255; places = replicate 64 255 }

abbrev pub send : Port → Call → Sent
send port call = record { port = port; request = record { call = call; lent = lending [] } }

module _ (port : Port) where
  abbrev pub read : ℕ → Credential → ℕ → Sent
  read b credential interval = send port (Read (record { block = b; credential = credential; interval = interval }))

  -- A block filled with one byte.
  abbrev pub write_all : ℕ → Credential → ℕ → ℕ → Sent
  write_all b credential interval byte = record {
    port = port;
    request = record {
      call = Write (record { block = b; credential = credential; interval = interval });
      lent = lending (replicate 512 byte);
    };
  }

  abbrev pub alloc : ℕ → ℕ → ℕ → Sent
  alloc reference hint count = send port (Alloc (record { reference = reference; credential = Nothing; hint = hint; count = count }))

  abbrev pub alloc_contig : ℕ → ℕ → ℕ → Sent
  alloc_contig reference hint count = send port (AllocContig (record { reference = reference; credential = Nothing; hint = hint; count = count }))

  abbrev pub create : ℕ → Credential → ℕ → Credential → Sent
  create a credential b second = send port (Create (record { source = a; credential = credential; destination = b; second = second }))

  abbrev pub delete : ℕ → ℕ → Sent
  delete a b = send port (Delete (record { source = a; credential = Nothing; destination = b }))

  abbrev pub delete_tree : ℕ → ℕ → Sent
  delete_tree a b = send port (DeleteTree (record { source = a; credential = Nothing; destination = b }))

  abbrev pub key : Mode → ℕ → Credential → Option (ℕ × ℕ) → Sent
  key mode b credential new = send port (key_call mode (record { block = b; credential = credential; key = new }))

abbrev pub free : Sent
free = send Host Free

abbrev pub tick : ℕ → Sent
tick n = send Host (Tick (record { seconds = n }))

abbrev pub rent : ℕ → Sent
rent price = send Host (Rent (record { price = price }))

abbrev pub sweep : ℕ → Sent
sweep n = send Host (Sweep (record { most = n }))

-- ---- the table

-- Calls from a fresh player card, and what is reported of each.
pub record Trial : Type 0 where
  pub calls : List Sent
  pub expected : List (List ℕ)

infix 10 ◌yields◌
abbrev pub ◌yields◌ : List Sent → List (List ℕ) → Trial
calls yields expected = record { calls = calls; expected = expected }

abbrev zeros8 : List ℕ
zeros8 = zeros 8

unfoldable pub trial_table : List Trial
trial_table =
    -- T1
    (free ∷ [] yields (0 ∷ 15 ∷ []) ∷ [])
    -- T2
    ∷ (alloc Service 0 8 3 ∷ [] yields (0 ∷ 8 ∷ 7 ∷ 9 ∷ []) ∷ [])
    -- T3
    ∷ (alloc Service 0 15 2 ∷ [] yields (0 ∷ 15 ∷ 14 ∷ []) ∷ [])
    -- T4
    ∷ (alloc Service 0 65535 15 ∷ [] yields (0 ∷ 1 ∷ 2 ∷ 3 ∷ 4 ∷ 5 ∷ 6 ∷ 7 ∷ 8 ∷ 9 ∷ 10 ∷ 11 ∷ 12 ∷ 13 ∷ 14 ∷ 15 ∷ []) ∷ [])
    -- T5
    ∷ (alloc Service 0 65535 16 ∷ [] yields (10 ∷ []) ∷ [])
    -- T6
    ∷ (alloc Service 0 65535 0 ∷ alloc Service 0 65535 65 ∷ [] yields (4 ∷ []) ∷ (4 ∷ []) ∷ [])
    -- T7
    ∷ (read Host 0 Nothing 86400 ∷ read Host 0 Nothing 86401 ∷ [] yields (0 ∷ zeros8) ∷ (4 ∷ []) ∷ [])
    -- T8
    ∷ (alloc Service 0 65535 1
    ∷ read Host 0 Nothing 10
    ∷ tick 9
    ∷ read Host 1 (Reference 0) 0
    ∷ tick 1
    ∷ read Host 1 (Reference 0) 0
    ∷ []
    yields (0 ∷ 1 ∷ []) ∷ (0 ∷ zeros8) ∷ (0 ∷ 9 ∷ []) ∷ (0 ∷ zeros8) ∷ (0 ∷ 10 ∷ []) ∷ (5 ∷ []) ∷ [])
    -- T9
    ∷ (alloc Service 0 65535 1 ∷ create Service 1 Nothing 1 Nothing ∷ [] yields (0 ∷ 1 ∷ []) ∷ (7 ∷ []) ∷ [])
    -- T10
    ∷ (alloc Service 0 65535 1 ∷ alloc Service 1 65535 1 ∷ delete Service 0 1 ∷ [] yields (0 ∷ 1 ∷ []) ∷ (0 ∷ 2 ∷ []) ∷ (9 ∷ []) ∷ [])
    -- T11
    ∷ (tick 1099511627775 ∷ tick 1 ∷ [] yields (0 ∷ 1099511627775 ∷ []) ∷ (12 ∷ []) ∷ [])
    -- T12, which by 2026-09 "sweeps before it asks for 2"
    ∷ (alloc Service 0 65535 2
    ∷ write_all Service 2 Nothing 0 7
    ∷ read Service 2 Nothing 0
    ∷ delete Service 0 2
    ∷ sweep 1
    ∷ alloc Service 0 2 1
    ∷ read Service 2 Nothing 0
    ∷ []
    yields (0 ∷ 1 ∷ 2 ∷ []) ∷ (0 ∷ []) ∷ (0 ∷ replicate 8 7) ∷ (0 ∷ 1 ∷ []) ∷ (0 ∷ 1 ∷ []) ∷ (0 ∷ 2 ∷ []) ∷ (0 ∷ zeros8) ∷ [])
    -- the example of ten records, its second as 2026-02 has it and its last answer as 2026-09 has it
    ∷ (alloc Service 0 65535 2
    ∷ key Service Reading 1 Nothing (Some (1, 2))
    ∷ read Host 1 Nothing 0
    ∷ free
    ∷ read Host 0 Nothing 10
    ∷ read Host 2 (Reference 0) 0
    ∷ tick 10
    ∷ read Host 2 (Reference 0) 0
    ∷ delete Service 0 2
    ∷ free
    ∷ []
    yields (0 ∷ 1 ∷ 2 ∷ [])
    ∷ (0 ∷ [])
    ∷ (5 ∷ [])
    ∷ (0 ∷ 13 ∷ [])
    ∷ (0 ∷ zeros8)
    ∷ (0 ∷ zeros8)
    ∷ (0 ∷ 10 ∷ [])
    ∷ (5 ∷ [])
    ∷ (0 ∷ 1 ∷ [])
    ∷ (0 ∷ 13 ∷ [])
    ∷ [])
    -- CREATE tests the destination for writing: its write key opens it, its read key does not
    ∷ (alloc Service 0 65535 2
    ∷ key Service Writing 1 Nothing (Some (3, 4))
    ∷ key Service Reading 2 Nothing (Some (1, 2))
    ∷ key Service Writing 2 Nothing (Some (3, 4))
    ∷ create Host 1 (KeyCredential 3 4) 2 (KeyCredential 1 2)
    ∷ create Host 1 (KeyCredential 3 4) 2 (KeyCredential 3 4)
    ∷ []
    yields (0 ∷ 1 ∷ 2 ∷ []) ∷ (0 ∷ []) ∷ (0 ∷ []) ∷ (0 ∷ []) ∷ (5 ∷ []) ∷ (0 ∷ []) ∷ [])
    -- a reference does not stand in for a key
    ∷ (alloc Service 0 65535 1
    ∷ key Service Reading 1 Nothing (Some (1, 2))
    ∷ read Host 0 Nothing 10
    ∷ read Host 1 (Reference 0) 0
    ∷ read Host 1 (KeyCredential 1 2) 0
    ∷ []
    yields (0 ∷ 1 ∷ []) ∷ (0 ∷ []) ∷ (0 ∷ zeros8) ∷ (5 ∷ []) ∷ (0 ∷ zeros8) ∷ [])
    -- the write window does not serve reading
    ∷ (alloc Service 0 65535 1
    ∷ write_all Host 0 Nothing 10 0
    ∷ read Host 1 (Reference 0) 0
    ∷ write_all Host 1 (Reference 0) 0 7
    ∷ []
    yields (0 ∷ 1 ∷ []) ∷ (0 ∷ []) ∷ (5 ∷ []) ∷ (0 ∷ []) ∷ [])
    -- 2026-01: nearest is measured at the run's first block
    ∷ (alloc_contig Service 0 8 3 ∷ [] yields (0 ∷ 8 ∷ 9 ∷ 10 ∷ []) ∷ [])
    ∷ (alloc_contig Service 0 15 2 ∷ [] yields (0 ∷ 14 ∷ 15 ∷ []) ∷ [])
    -- 2026-01: with block 8 taken 14 are free, of which 7 adjoin at most; without a hint the lowest run
    ∷ (alloc Service 0 8 1
    ∷ alloc_contig Service 0 65535 15
    ∷ alloc_contig Service 0 65535 8
    ∷ alloc_contig Service 0 65535 7
    ∷ []
    yields (0 ∷ 8 ∷ []) ∷ (10 ∷ []) ∷ (14 ∷ []) ∷ (0 ∷ 1 ∷ 2 ∷ 3 ∷ 4 ∷ 5 ∷ 6 ∷ 7 ∷ []) ∷ [])
    -- 2026-02: a new read key needs the write key, the old read key is not enough; the write key stays
    ∷ (alloc Service 0 65535 1
    ∷ key Service Reading 1 Nothing (Some (1, 2))
    ∷ key Service Writing 1 Nothing (Some (3, 4))
    ∷ key Host Reading 1 (KeyCredential 1 2) (Some (5, 6))
    ∷ key Host Reading 1 (KeyCredential 3 4) (Some (5, 6))
    ∷ read Host 1 (KeyCredential 1 2) 0
    ∷ read Host 1 (KeyCredential 5 6) 0
    ∷ write_all Host 1 (KeyCredential 3 4) 0 7
    ∷ []
    yields (0 ∷ 1 ∷ []) ∷ (0 ∷ []) ∷ (0 ∷ []) ∷ (5 ∷ []) ∷ (0 ∷ []) ∷ (5 ∷ []) ∷ (0 ∷ zeros8) ∷ (0 ∷ []) ∷ [])
    -- 2026-02: between the two calls a reference still opens the block for the operation that has no key
    ∷ (alloc Service 0 65535 1
    ∷ write_all Host 0 Nothing 10 0
    ∷ key Host Reading 1 (Reference 0) (Some (1, 2))
    ∷ write_all Host 1 (Reference 0) 0 7
    ∷ key Host Writing 1 (Reference 0) (Some (3, 4))
    ∷ write_all Host 1 (Reference 0) 0 7
    ∷ []
    yields (0 ∷ 1 ∷ []) ∷ (0 ∷ []) ∷ (0 ∷ []) ∷ (0 ∷ []) ∷ (0 ∷ []) ∷ (5 ∷ []) ∷ [])
    -- 2026-04: a poll by an interval of 5 leaves the window of a running download
    ∷ (alloc Service 0 65535 1
    ∷ read Host 0 Nothing 10
    ∷ read Host 0 Nothing 5
    ∷ tick 9
    ∷ read Host 1 (Reference 0) 0
    ∷ tick 1
    ∷ read Host 1 (Reference 0) 0
    ∷ []
    yields (0 ∷ 1 ∷ []) ∷ (0 ∷ zeros8) ∷ (0 ∷ zeros8) ∷ (0 ∷ 9 ∷ []) ∷ (0 ∷ zeros8) ∷ (0 ∷ 10 ∷ []) ∷ (5 ∷ []) ∷ [])
    -- 2026-05: a pointer made twice is taken away twice, and 9 is judged on the sum
    ∷ (alloc Service 0 65535 1
    ∷ alloc Service 1 65535 1
    ∷ create Service 0 Nothing 1 Nothing
    ∷ delete Service 0 1
    ∷ delete Service 0 1
    ∷ delete Service 1 2
    ∷ delete Service 0 1
    ∷ delete Service 0 1
    ∷ free
    ∷ []
    yields (0 ∷ 1 ∷ []) ∷ (0 ∷ 2 ∷ []) ∷ (0 ∷ []) ∷ (0 ∷ 0 ∷ []) ∷ (9 ∷ []) ∷ (0 ∷ 1 ∷ []) ∷ (0 ∷ 1 ∷ []) ∷ (3 ∷ []) ∷ (0 ∷ 13 ∷ []) ∷ [])
    -- 2026-05: a block is freed with its last pointer, whichever block it comes from
    ∷ (alloc Service 0 65535 2
    ∷ create Service 2 Nothing 1 Nothing
    ∷ delete Service 0 1
    ∷ delete Service 2 1
    ∷ []
    yields (0 ∷ 1 ∷ 2 ∷ []) ∷ (0 ∷ []) ∷ (0 ∷ 0 ∷ []) ∷ (0 ∷ 1 ∷ []) ∷ [])
    -- 2026-05: in a full table CREATE is done on a pointer that is there, and refused 11 for a new one
    ∷ (alloc Service 0 65535 15
    ∷ (map (λ b. create Service 1 Nothing b Nothing) (2 ∷ 3 ∷ 4 ∷ 5 ∷ 6 ∷ 7 ∷ 8 ∷ 9 ∷ 10 ∷ 11 ∷ 12 ∷ 13 ∷ 14 ∷ 15 ∷ [])
    ++ (create Service 2 Nothing 3 Nothing
    ∷ create Service 2 Nothing 4 Nothing
    ∷ create Service 2 Nothing 5 Nothing
    ∷ create Service 2 Nothing 6 Nothing
    ∷ create Service 2 Nothing 5 Nothing
    ∷ create Service 1 Nothing 15 Nothing
    ∷ []))
    yields (0 ∷ 1 ∷ 2 ∷ 3 ∷ 4 ∷ 5 ∷ 6 ∷ 7 ∷ 8 ∷ 9 ∷ 10 ∷ 11 ∷ 12 ∷ 13 ∷ 14 ∷ 15 ∷ [])
    ∷ (replicate 17 (0 ∷ []) ++ ((11 ∷ []) ∷ (0 ∷ []) ∷ (0 ∷ []) ∷ [])))
    -- 2026-07: a chain goes whole, where DELETE refuses 9
    ∷ (alloc Service 0 65535 1
    ∷ alloc Service 1 65535 1
    ∷ alloc Service 2 65535 1
    ∷ delete Service 0 1
    ∷ delete_tree Service 0 1
    ∷ free
    ∷ []
    yields (0 ∷ 1 ∷ []) ∷ (0 ∷ 2 ∷ []) ∷ (0 ∷ 3 ∷ []) ∷ (9 ∷ []) ∷ (0 ∷ 3 ∷ []) ∷ (0 ∷ 12 ∷ []) ∷ [])
    -- 2026-07: a block with a pointer from outside stays, with all below it; its count is right, so that its last pointer frees it
    ∷ (alloc Service 0 65535 2
    ∷ alloc Service 1 65535 1
    ∷ alloc Service 3 65535 1
    ∷ create Service 2 Nothing 3 Nothing
    ∷ delete_tree Service 0 1
    ∷ delete_tree Service 2 3
    ∷ free
    ∷ []
    yields (0 ∷ 1 ∷ 2 ∷ []) ∷ (0 ∷ 3 ∷ []) ∷ (0 ∷ 4 ∷ []) ∷ (0 ∷ []) ∷ (0 ∷ 1 ∷ []) ∷ (0 ∷ 2 ∷ []) ∷ (0 ∷ 11 ∷ []) ∷ [])
    -- 2026-07: a cycle through the destination stays; then its blocks point to each other alone, and with a pointer of it the source goes too
    ∷ (alloc Service 0 65535 1
    ∷ alloc Service 1 65535 1
    ∷ create Service 2 Nothing 1 Nothing
    ∷ delete_tree Service 0 1
    ∷ free
    ∷ delete_tree Service 1 2
    ∷ free
    ∷ []
    yields (0 ∷ 1 ∷ []) ∷ (0 ∷ 2 ∷ []) ∷ (0 ∷ []) ∷ (0 ∷ 0 ∷ []) ∷ (0 ∷ 13 ∷ []) ∷ (0 ∷ 2 ∷ []) ∷ (0 ∷ 13 ∷ []) ∷ [])
    -- 2026-07: a write key deep in the tree refuses 15, a read key does not
    ∷ (alloc Service 0 65535 1
    ∷ alloc Service 1 65535 1
    ∷ alloc Service 2 65535 1
    ∷ key Service Reading 3 Nothing (Some (1, 2))
    ∷ key Service Writing 3 Nothing (Some (3, 4))
    ∷ delete_tree Service 0 1
    ∷ key Service Writing 3 Nothing None
    ∷ delete_tree Service 0 1
    ∷ []
    yields (0 ∷ 1 ∷ []) ∷ (0 ∷ 2 ∷ []) ∷ (0 ∷ 3 ∷ []) ∷ (0 ∷ []) ∷ (0 ∷ []) ∷ (15 ∷ []) ∷ (0 ∷ []) ∷ (0 ∷ 3 ∷ []) ∷ [])
    -- 2026-07: a pointer made twice goes wholly, though its destination stays; then it is not there: 8
    ∷ (alloc Service 0 65535 2
    ∷ create Service 0 Nothing 1 Nothing
    ∷ create Service 2 Nothing 1 Nothing
    ∷ delete_tree Service 0 1
    ∷ delete_tree Service 0 1
    ∷ delete Service 2 1
    ∷ []
    yields (0 ∷ 1 ∷ 2 ∷ []) ∷ (0 ∷ []) ∷ (0 ∷ []) ∷ (0 ∷ 0 ∷ []) ∷ (8 ∷ []) ∷ (0 ∷ 1 ∷ []) ∷ [])
    -- 2026-07: a root as the source refuses 6 at the host port, a source that is not opened 5; a destination that is not allocated refuses 3
    ∷ (alloc Service 0 65535 1
    ∷ alloc Service 1 65535 1
    ∷ delete_tree Host 0 1
    ∷ delete_tree Host 1 2
    ∷ delete_tree Service 1 3
    ∷ []
    yields (0 ∷ 1 ∷ []) ∷ (0 ∷ 2 ∷ []) ∷ (6 ∷ []) ∷ (5 ∷ []) ∷ (3 ∷ []) ∷ [])
    -- 2026-08: of a fresh card nothing is asked for a day, for its root is not counted; two blocks for 21,600 seconds at 1,000 are half a cent, which is 1
    ∷ (tick 86400
    ∷ rent 1000
    ∷ alloc Service 0 65535 2
    ∷ rent 1000
    ∷ tick 21600
    ∷ rent 1000
    ∷ []
    yields (0 ∷ 86400 ∷ []) ∷ (0 ∷ 0 ∷ []) ∷ (0 ∷ 1 ∷ 2 ∷ []) ∷ (0 ∷ 0 ∷ []) ∷ (0 ∷ 108000 ∷ []) ∷ (0 ∷ 1 ∷ []) ∷ [])
    -- 2026-08: a TICK counts the blocks that it finds, so a block that was freed before it is not counted; a refused TICK adds nothing
    ∷ (alloc Service 0 65535 2
    ∷ tick 86399
    ∷ delete Service 0 2
    ∷ tick 1099511541376
    ∷ tick 86400
    ∷ tick 1
    ∷ rent 1000
    ∷ []
    yields (0 ∷ 1 ∷ 2 ∷ []) ∷ (0 ∷ 86399 ∷ []) ∷ (0 ∷ 1 ∷ []) ∷ (0 ∷ 1099511627775 ∷ []) ∷ (12 ∷ []) ∷ (12 ∷ []) ∷ (0 ∷ 12725830 ∷ []) ∷ [])
    -- 2026-09: a freed block waits, so it is neither free for FREE and ALLOC, by hint and as the last one, nor allocated for a call that names it
    ∷ (alloc Service 0 65535 3
    ∷ delete Service 0 2
    ∷ free
    ∷ read Service 2 Nothing 0
    ∷ alloc Service 0 2 1
    ∷ alloc Service 0 65535 12
    ∷ alloc Service 0 65535 11
    ∷ alloc Service 0 65535 1
    ∷ sweep 1
    ∷ free
    ∷ alloc Service 0 65535 1
    ∷ []
    yields (0 ∷ 1 ∷ 2 ∷ 3 ∷ [])
    ∷ (0 ∷ 1 ∷ [])
    ∷ (0 ∷ 12 ∷ [])
    ∷ (3 ∷ [])
    ∷ (0 ∷ 4 ∷ [])
    ∷ (10 ∷ [])
    ∷ (0 ∷ 5 ∷ 6 ∷ 7 ∷ 8 ∷ 9 ∷ 10 ∷ 11 ∷ 12 ∷ 13 ∷ 14 ∷ 15 ∷ [])
    ∷ (10 ∷ [])
    ∷ (0 ∷ 1 ∷ [])
    ∷ (0 ∷ 1 ∷ [])
    ∷ (0 ∷ 2 ∷ [])
    ∷ [])
    -- 2026-09: a run has no waiting block: 14
    ∷ (alloc Service 0 65535 15
    ∷ delete Service 0 5
    ∷ delete Service 0 6
    ∷ delete Service 0 7
    ∷ sweep 3
    ∷ alloc Service 0 6 1
    ∷ delete Service 0 6
    ∷ alloc_contig Service 0 65535 2
    ∷ sweep 1
    ∷ alloc_contig Service 0 65535 2
    ∷ []
    yields (0 ∷ 1 ∷ 2 ∷ 3 ∷ 4 ∷ 5 ∷ 6 ∷ 7 ∷ 8 ∷ 9 ∷ 10 ∷ 11 ∷ 12 ∷ 13 ∷ 14 ∷ 15 ∷ [])
    ∷ (0 ∷ 1 ∷ [])
    ∷ (0 ∷ 1 ∷ [])
    ∷ (0 ∷ 1 ∷ [])
    ∷ (0 ∷ 3 ∷ [])
    ∷ (0 ∷ 6 ∷ [])
    ∷ (0 ∷ 1 ∷ [])
    ∷ (14 ∷ [])
    ∷ (0 ∷ 1 ∷ [])
    ∷ (0 ∷ 5 ∷ 6 ∷ [])
    ∷ [])
    -- 2026-09: SWEEP takes the lowest, all if fewer wait, and none where none is asked for or none waits; a block that waits goes with no other tree
    ∷ (alloc Service 0 65535 1
    ∷ alloc Service 1 65535 3
    ∷ sweep 5
    ∷ delete_tree Service 0 1
    ∷ sweep 0
    ∷ free
    ∷ sweep 3
    ∷ alloc_contig Service 0 65535 3
    ∷ delete_tree Service 0 1
    ∷ sweep 4294967295
    ∷ free
    ∷ []
    yields (0 ∷ 1 ∷ [])
    ∷ (0 ∷ 2 ∷ 3 ∷ 4 ∷ [])
    ∷ (0 ∷ 0 ∷ [])
    ∷ (0 ∷ 4 ∷ [])
    ∷ (0 ∷ 0 ∷ [])
    ∷ (0 ∷ 11 ∷ [])
    ∷ (0 ∷ 3 ∷ [])
    ∷ (0 ∷ 1 ∷ 2 ∷ 3 ∷ [])
    ∷ (0 ∷ 1 ∷ [])
    ∷ (0 ∷ 2 ∷ [])
    ∷ (0 ∷ 13 ∷ [])
    ∷ [])
    ∷ []

-- What the rules report of a row's calls.
unfoldable pub trial_reports : Trial → List (List ℕ)
trial_reports t = reports player_card t.calls

-- The player's card with one pointer, from 0 to 1, made so often.
abbrev pub made_often : ℕ → Card
made_often times =
    card (with_used (fresh_info 16 1 512) 1)
    (1 ∷ 1 ∷ zeros 14)
    (zeros 64)
    (0 ∷ times ∷ zeros 14)
    (1 ∷ zeros 31)
    (times ∷ zeros 31)
    (zeros 32)
    (zeros 8192)

-- ---- 2026-08, RENT

-- A fresh player card at a time, with a total.
abbrev pub rented_for : ℕ → ℕ → Card
rented_for time total =
    card (with_time (fresh_info 16 1 512) time total)
    (1 ∷ zeros 15)
    (zeros 64)
    (zeros 16)
    (zeros 32)
    (zeros 32)
    (zeros 32)
    (zeros 8192)

infix 10 ◌for◌at◌asks◌
-- A time, a total and a price, and what is reported of RENT.
pub data RentTrial : Type 0 where
  ◌for◌at◌asks◌ : ℕ → ℕ → ℕ → List ℕ → RentTrial

unfoldable pub rent_table : List RentTrial
rent_table =
    -- "A total of 43,200 at 1,000 is half a cent and gives 1; 43,199 gives 0."
    (86400 for 43200 at 1000 asks (0 ∷ 1 ∷ []))
    ∷ (86400 for 43199 at 1000 asks (0 ∷ 0 ∷ []))
    ∷ (86400 for 43201 at 1000 asks (0 ∷ 1 ∷ []))
    ∷ (86400 for 129600 at 1000 asks (0 ∷ 2 ∷ []))
    -- the lowest price and the highest, and 16 for one above it
    ∷ (86400 for 129600 at 0 asks (0 ∷ 0 ∷ []))
    ∷ (86400 for 129600 at 2000 asks (0 ∷ 3 ∷ []))
    ∷ (86400 for 129600 at 2001 asks (16 ∷ []))
    -- the largest total, T × 4,096 at the last second; one more is refused 2, before 16
    ∷ (1099511627775 for 4503599627366400 at 2000 asks (0 ∷ 104249991374 ∷ []))
    ∷ (1099511627775 for 4503599627366400 at 2001 asks (16 ∷ []))
    ∷ (1099511627775 for 4503599627366401 at 2001 asks (2 ∷ []))
    ∷ (0 for 0 at 2000 asks (0 ∷ 0 ∷ []))
    ∷ (0 for 1 at 2000 asks (2 ∷ []))
    ∷ []

unfoldable pub rent_reports : RentTrial → List (List ℕ)
rent_reports (time for total at price asks expected) = reports (rented_for time total) (rent price ∷ [])

abbrev pub rent_expected : RentTrial → List (List ℕ)
rent_expected (time for total at price asks expected) = expected ∷ []

-- ---- 2026-09, AUDIT and waiting blocks

-- A fresh player card but for the flags of its root and of block 1, a word of block 1's read key, its count and the end of its read window.
abbrev pub damaged : ℕ → ℕ → ℕ → ℕ → ℕ → Card
damaged root flags word count end =
    card (fresh_info 16 1 512)
    (root ∷ flags ∷ zeros 14)
    (zeros 4 ++ (word ∷ zeros 59))
    (0 ∷ count ∷ zeros 14)
    (zeros 32)
    (zeros 32)
    (zeros 2 ++ (end ∷ zeros 29))
    (zeros 8192)

-- These five, and what is reported of FREE.
pub data WaitingTrial : Type 0 where
  given : ℕ → ℕ → ℕ → ℕ → ℕ → List ℕ → WaitingTrial

unfoldable pub waiting_table : List WaitingTrial
waiting_table =
    given 1 0 0 0 0 (0 ∷ 15 ∷ [])
    -- "AUDIT allows flag 8 with keys, count and windows 0"
    ∷ given 1 8 0 0 0 (0 ∷ 14 ∷ [])
    ∷ given 1 8 1 0 0 (2 ∷ [])
    ∷ given 1 8 0 1 0 (2 ∷ [])
    ∷ given 1 8 0 0 1 (2 ∷ [])
    -- "flag 8 alone": not beside another, of an allocated block neither, nor a higher one
    ∷ given 1 10 0 0 0 (2 ∷ [])
    ∷ given 1 12 0 0 0 (2 ∷ [])
    ∷ given 1 16 0 0 0 (2 ∷ [])
    ∷ given 9 0 0 0 0 (2 ∷ [])
    -- a root does not wait
    ∷ given 8 0 0 0 0 (2 ∷ [])
    ∷ []

unfoldable pub waiting_reports : WaitingTrial → List (List ℕ)
waiting_reports (given root flags word count end expected) = reports (damaged root flags word count end) (free ∷ [])

abbrev pub waiting_expected : WaitingTrial → List (List ℕ)
waiting_expected (given root flags word count end expected) = expected ∷ []
