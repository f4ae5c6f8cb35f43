-- Each test of a theorem is passed by the right rules.
use Prim.Native.Nat.{ℕ, ◌<◌, ◌≤◌}
use mathlib.Core.Path.{◌≡◌, sym, ap, ◌∙◌, subst}
use mathlib.Core.Bool.{Bool, true, ◌&&◌, not}
use mathlib.Core.List.{List, [], ◌∷◌}
use native.Mathlib.Omega.{arith}
use lib.Dec.{eqb, leb}
use lib.ListN.{length}
use borrow.Author.Tests.{eq-eqb, eqb-true, le-leb, not-true}
use Rattle.card.specs.Lists.{every, all, any, all_below, numbers_below}
use Rattle.card.specs.Pointers.{pointer, source, destination, contains}
use Rattle.card.specs.Card.{Card, allocated, is_root, in_use, points_to}
use Rattle.card.specs.Tree.{orphaned, orphans}
use Rattle.card.specs.Plan.{Check, ◌⇒◌, NoneHolds, change_public, Buffers, Result}
use Rattle.card.specs.Calls.{answer_number, answer_values, is_done, freed_with}
use Rattle.card.specs.Session.{Request, Sent, EitherPort}
use Rattle.card.specs.Statements.Refusals.{RefusedBy}
use Rattle.card.specs.Statements.Windows.{SetsWindow}
use Rattle.card.specs.Statements.Trees.{Freed, removed, HoldsDestination, HoldsFollowers, LeastFreed, PointedWithin}
use Rattle.card.specs.declared.Port.{Port}
use Rattle.card.specs.declared.Mode.{Mode}
use Rattle.card.specs.Answers.{Answer}
use Rattle.card.specs.declared.Call.{Call}
use Rattle.card.specs.declared.AllocOperands.{AllocOperands}
use Rattle.card.specs.declared.DeleteOperands.{DeleteOperands}
use Rattle.card.specs.declared.KeyOperands.{KeyOperands}
use Rattle.card.specs.declared.RentOperands.{RentOperands}
use Rattle.card.specs.declared.SweepOperands.{SweepOperands}
use Rattle.card.proofs.Computed.Same.{same_list}
use Rattle.card.proofs.Computed.TestLaws.{and_left, and_right, and_true, or_else, absurd_test, Holds, every_true, true_every, all_below_true, true_all_below, true_same_list, false_unless, source_pointer, destination_pointer, contains_all, all_contains, any_member, Some, member_any}
use Rattle.card.proofs.Computed.Row.{implies, true_implies}
use Rattle.card.proofs.Computed.SoundLaws.{allocated_below}
use Rattle.laws.specs.ListsLaws.{same_test}
use Rattle.laws.specs.LeastLaws.{least_own}
use Rattle.laws.proofs.PointerSteps.{block_narrow}
use Rattle.card.proofs.Computed.Refusals.{first_number, refused_by_tests, refusal_unchanged_test, refusal_unchanged_tests, ports_alike_test, ports_alike_tests, refused_iff_test, refused_iff_tests}
use Rattle.card.proofs.Computed.Sound.{done_sound_test, done_sound_tests, counts_right_test, counts_right_tests, pointers_ascending_test, pointers_ascending_tests, format_sound_test, format_sound_tests}
use Rattle.card.proofs.Computed.Ledger.{made_and_taken_test, made_and_taken_tests, ledger_test, ledger_tests, counts_ledger_test, counts_ledger_tests}
use Rattle.card.proofs.Computed.Rent.{rent_summed_test, rent_summed_tests, rent_unchanged_test, rent_unchanged_tests, rent_nearest_test, rent_nearest_tests, rent_alike_test, rent_alike_tests}
use Rattle.card.proofs.Computed.Unallocated.{untouched_test, untouched_tests, freed_waits_test, freed_waits_tests}
use Rattle.card.proofs.Computed.Sweeping.{swept_gone_test, swept_gone_tests}
use Rattle.card.proofs.Computed.Runs.{none_hold, made, no_run_test, run_found_tests, run_adjoins_test, run_adjoins_tests, run_nearest_test, run_nearest_tests}
use Rattle.card.proofs.Computed.Trees.{tree_result, tree_left, is_freed, inside, tree_spares_test, tree_spares_tests, tree_keyed_test, tree_keyed_tests, tree_hides_test, tree_hides_tests}
use Rattle.card.proofs.Computed.Keys.{one_key_unsealed_test, one_key_unsealed_tests, other_key_kept_test, other_key_kept_tests, own_key_set_test, own_key_set_tests, both_windows_closed_test, both_windows_closed_tests, write_access_needed_test, write_access_needed_tests}
use Rattle.card.proofs.Computed.Windows.{window_set_by_test, window_set_by_tests, window_later_test, window_later_tests, interval_zero_kept_test, interval_zero_kept_tests, windows_kept_test, windows_kept_tests}
use Rattle.card.proofs.Computed.Secrecy.{same_hidden_test, same_hidden_tests, secrecy_test, secrecy_tests}
use Rattle.card.proofs.Computed.Trials.{trials_test, trials_tests, rent_trials_test, rent_trials_tests, waiting_trials_test, waiting_trials_tests}
use Rattle.guarantees.proofs.Unchanged.{refusal_unchanged}
use Rattle.guarantees.proofs.RefusedIff.{ports_alike, refused_iff}
use Rattle.guarantees.proofs.Sound.{done_sound, counts_right, pointers_ascending}
use Rattle.guarantees.proofs.Format.{format_sound}
use Rattle.guarantees.proofs.Ledger.{made_and_taken, ledger, counts_ledger}
use Rattle.guarantees.proofs.Rent.{rent_summed, rent_unchanged, rent_nearest}
use Rattle.guarantees.proofs.Untouched.{untouched}
use Rattle.guarantees.proofs.Freed.{freed_waits}
use Rattle.guarantees.proofs.Swept.{swept_gone}
use Rattle.guarantees.proofs.Runs.{some_blocks, run_found, run_adjoins, run_nearest}
use Rattle.guarantees.proofs.Trees.{DoneTree, done_tree, tree_least, tree_spares, tree_cycle, tree_keyed, removed_points}
use Rattle.guarantees.proofs.Secrecy.Trees.{tree_hides}
use Rattle.guarantees.proofs.Keys.{one_key_unsealed, other_key_kept, own_key_set, both_windows_closed, write_access_needed}
use Rattle.guarantees.proofs.Windows.{window_set_by, window_later, interval_zero_kept, windows_kept}
use Rattle.guarantees.proofs.Secrecy.Theorem.{same_hidden, secrecy}
use Rattle.guarantees.proofs.Secrecy.Rent.{rent_alike}
use Rattle.guarantees.proofs.Trials.{trials, rent_trials, waiting_trials}

pub refusal_unchanged_tested : (c : Card) (s : Sent) → refusal_unchanged_test c s ≡ true
refusal_unchanged_tested c s = refusal_unchanged_tests refusal_unchanged c s

pub ports_alike_tested : {call : Call} → EitherPort call → (c : Card) (lent : Buffers) → ports_alike_test c call lent ≡ true
ports_alike_tested {call} either c lent = ports_alike_tests ports_alike call either c lent

pub done_sound_tested : (c : Card) (s : Sent) → done_sound_test c s ≡ true
done_sound_tested c s = done_sound_tests done_sound c s

pub counts_right_tested : (c : Card) (s : Sent) → counts_right_test c s ≡ true
counts_right_tested c s = counts_right_tests counts_right c s

pub pointers_ascending_tested : (c : Card) (s : Sent) → pointers_ascending_test c s ≡ true
pointers_ascending_tested c s = pointers_ascending_tests pointers_ascending c s

pub format_sound_tested : (blocks roots bytes : ℕ) (c : Card) → format_sound_test blocks roots bytes c ≡ true
format_sound_tested blocks roots bytes c = format_sound_tests format_sound blocks roots bytes c

pub made_and_taken_tested : (c : Card) (s : Sent) (a b : ℕ) → made_and_taken_test c s a b ≡ true
made_and_taken_tested c s a b = made_and_taken_tests made_and_taken c s a b

pub ledger_tested : (c : Card) (ss : List Sent) (a b : ℕ) → ledger_test c ss a b ≡ true
ledger_tested c ss a b = ledger_tests ledger c ss a b

pub counts_ledger_tested : (c : Card) (ss : List Sent) (b : ℕ) → counts_ledger_test c ss b ≡ true
counts_ledger_tested c ss b = counts_ledger_tests counts_ledger c ss b

pub rent_summed_tested : (c : Card) (ss : List Sent) → rent_summed_test c ss ≡ true
rent_summed_tested c ss = rent_summed_tests rent_summed c ss

pub rent_unchanged_tested : (c : Card) (o : RentOperands) → rent_unchanged_test c o ≡ true
rent_unchanged_tested c o = rent_unchanged_tests rent_unchanged c o

pub rent_nearest_tested : (c : Card) (o : RentOperands) (other : ℕ) → rent_nearest_test c o other ≡ true
rent_nearest_tested c o other = rent_nearest_tests rent_nearest c o other

pub untouched_tested : (c : Card) (s : Sent) (b : ℕ) → untouched_test c s b ≡ true
untouched_tested c s b = untouched_tests untouched c s b

pub freed_waits_tested : (c : Card) (s : Sent) (b : ℕ) → freed_waits_test c s b ≡ true
freed_waits_tested c s b = freed_waits_tests freed_waits c s b

pub swept_gone_tested : (c : Card) (contents : List ℕ) (o : SweepOperands) → swept_gone_test c contents o ≡ true
swept_gone_tested c contents o = swept_gone_tests swept_gone c contents o

pub refused_by_tested : {checks : List Check} {a : Answer} → RefusedBy checks a → eqb (answer_number a) (first_number checks) ≡ true
refused_by_tested by = refused_by_tests by

pub refused_iff_tested : (c : Card) (s : Sent) → refused_iff_test c s ≡ true
refused_iff_tested c s = refused_iff_tests refused_iff c s

pub run_adjoins_tested : (port : Port) (c : Card) (o : AllocOperands) (lent : Buffers) → run_adjoins_test port c o lent ≡ true
run_adjoins_tested port c o lent = run_adjoins_tests run_adjoins port c o lent

pub run_nearest_tested : (port : Port) (c : Card) (o : AllocOperands) (lent : Buffers) (other : ℕ) → run_nearest_test port c o lent other ≡ true
run_nearest_tested port c o lent other = run_nearest_tests run_nearest port c o lent other

pub tree_spares_tested : (port : Port) (c : Card) (o : DeleteOperands) (lent : Buffers) → tree_spares_test port c o lent ≡ true
tree_spares_tested port c o lent = tree_spares_tests tree_spares port c o lent

pub tree_keyed_tested : (port : Port) (c : Card) (o : DeleteOperands) (lent : Buffers) → tree_keyed_test port c o lent ≡ true
tree_keyed_tested port c o lent = tree_keyed_tests tree_keyed port c o lent

pub tree_hides_tested : (c : Card) (o : DeleteOperands) (lent : Buffers) (named : ℕ → Bool) → tree_hides_test c o lent named ≡ true
tree_hides_tested c o lent named = tree_hides_tests tree_hides c o lent named

pub one_key_unsealed_tested : (K : ℕ → ℕ → Bool) (c : Card) (mode : Mode) (b : ℕ) → one_key_unsealed_test K c mode b ≡ true
one_key_unsealed_tested K c mode b = one_key_unsealed_tests one_key_unsealed K c mode b

pub other_key_kept_tested : (port : Port) (c : Card) (mode : Mode) (o : KeyOperands) (lent : Buffers) → other_key_kept_test port c mode o lent ≡ true
other_key_kept_tested port c mode o lent = other_key_kept_tests other_key_kept port c mode o lent

pub own_key_set_tested : (port : Port) (c : Card) (mode : Mode) (o : KeyOperands) (lent : Buffers) → own_key_set_test port c mode o lent ≡ true
own_key_set_tested port c mode o lent = own_key_set_tests own_key_set port c mode o lent

pub both_windows_closed_tested : (port : Port) (c : Card) (mode : Mode) (o : KeyOperands) (lent : Buffers) → both_windows_closed_test port c mode o lent ≡ true
both_windows_closed_tested port c mode o lent = both_windows_closed_tests both_windows_closed port c mode o lent

pub write_access_needed_tested : (c : Card) (mode : Mode) (o : KeyOperands) (lent : Buffers) → write_access_needed_test c mode o lent ≡ true
write_access_needed_tested c mode o lent = write_access_needed_tests write_access_needed c mode o lent

pub window_set_by_tested : (c : Card) (s : Sent) (m : Mode) (b : ℕ) → window_set_by_test c s m b ≡ true
window_set_by_tested c s m b = window_set_by_tests window_set_by c s m b

pub window_later_tested : (c : Card) (s : Sent) {m : Mode} {b interval : ℕ} (sets : SetsWindow s.request.call m b interval) → window_later_test c s sets ≡ true
window_later_tested c s {m} {b} {interval} sets = window_later_tests window_later c s m b interval sets

pub interval_zero_kept_tested : (c : Card) (s : Sent) {m : Mode} {b interval : ℕ} (sets : SetsWindow s.request.call m b interval) → interval_zero_kept_test c s sets ≡ true
interval_zero_kept_tested c s {m} {b} {interval} sets = interval_zero_kept_tests interval_zero_kept c s m b interval sets

pub windows_kept_tested : (c : Card) (s : Sent) (m : Mode) (b : ℕ) → windows_kept_test c s m b ≡ true
windows_kept_tested c s m b = windows_kept_tests windows_kept c s m b

pub same_hidden_tested : (K : ℕ → ℕ → Bool) (c : Card) (contents : List ℕ) (named : ℕ → Bool) (mode : Mode) (b : ℕ) → same_hidden_test K c contents named mode b ≡ true
same_hidden_tested K c contents named mode b = same_hidden_tests same_hidden K c contents named mode b

pub secrecy_tested : (c : Card) (contents : List ℕ) (named : ℕ → Bool) (session : List Request) → secrecy_test c contents named session ≡ true
secrecy_tested c contents named session = secrecy_tests secrecy c contents named session

pub rent_alike_tested : (c : Card) (contents : List ℕ) (named : ℕ → Bool) (session : List Request) (o : RentOperands) → rent_alike_test c contents named session o ≡ true
rent_alike_tested c contents named session o = rent_alike_tests rent_alike c contents named session o

pub trials_tested : (n : ℕ) → trials_test n ≡ true
trials_tested n = trials_tests trials n

pub rent_trials_tested : (n : ℕ) → rent_trials_test n ≡ true
rent_trials_tested n = rent_trials_tests rent_trials n

pub waiting_trials_tested : (n : ℕ) → waiting_trials_test n ≡ true
waiting_trials_tested n = waiting_trials_tests waiting_trials n

-- ---- run_found

none_hold_true : (checks : List Check) → none_hold checks ≡ true → NoneHolds checks
unfolding none_hold
none_hold_true [] h = tt
none_hold_true ((test ⇒ r) ∷ checks) h = (not-true _ (and_left _ _ h), none_hold_true checks (and_right (not test) _ h))

-- The test of the rows, for 0 blocks too: that is refused before.
abbrev pub run_found_test : Port → Card → AllocOperands → Buffers → Bool
run_found_test port c o lent =
    let refused = eqb (answer_number (made port c o lent).answer) 14 in
    implies refused (no_run_test port c o lent) && implies (no_run_test port c o lent) refused

pub run_found_tested : (port : Port) (c : Card) (o : AllocOperands) (lent : Buffers) → run_found_test port c o lent ≡ true
run_found_tested port c o lent =
    let refused = eqb (answer_number (made port c o lent).answer) 14 in
    let tested = run_found_tests run_found port c o lent in
    and_true _ _ (and_left _ _ tested)
    (true_implies (no_run_test port c o lent) _
    (λ h.
    let some : 1 ≤ o.count = some_blocks port c o lent (none_hold_true _ (and_left _ _ h)) in
    or_else (not (leb 1 o.count && no_run_test port c o lent)) _
    (and_right (implies refused (no_run_test port c o lent)) _ tested)
    (ap not (and_true _ _ (le-leb _ _ some) h))))

-- ---- tree_least and tree_cycle

-- The tests of the rows, told by the pointers before the call and by the blocks that it frees, and for each call that is done.
module _ (port : Port) (c : Card) (o : DeleteOperands) (lent : Buffers) where
  abbrev result : Result
  result = tree_result port c o lent

  abbrev after : Card
  after = tree_left port c o lent

  abbrev freed : ℕ → Bool
  freed b = is_freed port c o lent b

  -- Of a pointer in use: it leads to the block, and is not the one that is removed.
  abbrev leads : ℕ → ℕ → Bool
  leads b w = eqb (destination w) b && not (eqb (source w) o.source && eqb b o.destination)

  -- An allocated block that is no root and has a pointer, every one from a block of the set.
  abbrev follows_tests : (ℕ → Bool) → ℕ → List Bool
  follows_tests G b =
      allocated c.public b
      ∷ not (is_root c.public b)
      ∷ any (leads b) (in_use c.public)
      ∷ all (λ w. implies (leads b w) (G (source w))) (in_use c.public)
      ∷ []

  -- The set holds the destination, where no pointer leads to it, and each block that follows.
  abbrev holds : (ℕ → Bool) → Bool
  holds G =
      implies (not (any (leads o.destination) (in_use c.public))) (G o.destination)
      && all_below (λ b. implies (every (follows_tests G b)) (G b)) c.public.info.blocks

  -- The freed blocks are such a set, within the given set if that is one, and the answer is how many they are.
  abbrev least_tests : (ℕ → Bool) → List Bool
  least_tests named =
      holds freed
      ∷ implies (holds named) (all_below (λ b. implies (freed b) (named b)) c.public.info.blocks)
      ∷ same_list (answer_values result.answer) (length (numbers_below freed c.public.info.blocks) ∷ [])
      ∷ []

  abbrev pub tree_least_test : (ℕ → Bool) → Bool
  tree_least_test named = implies (is_done result.answer) (every (least_tests named))

  -- Where each allocated block of the given set has a pointer from such a block, all of them stay.
  module _ (named : ℕ → Bool) where
    abbrev cycle : ℕ → Bool
    cycle b = inside port c o lent named b

    abbrev led_from_inside : ℕ → Bool
    led_from_inside b = implies (cycle b) (any (λ w. leads b w && cycle (source w)) (in_use c.public))

    abbrev pub tree_cycle_test : Bool
    tree_cycle_test =
        implies (is_done result.answer && all_below led_from_inside c.public.info.blocks)
        (all_below (λ b. implies (cycle b) (allocated after.public b)) c.public.info.blocks)

  freed_is : (b : ℕ) → Freed c after b → freed b ≡ true
  freed_is b f = and_true _ _ f.before (ap not f.after)

  is_freed_law : (b : ℕ) → freed b ≡ true → Freed c after b
  is_freed_law b e = record { before = and_left _ _ e; after = not-true _ (and_right (allocated c.public b) _ e) }

  module _ (e : is_done result.answer ≡ true) where
    known : DoneTree port c o lent result
    known = done_tree port c o lent e

    narrow : (b : ℕ) → b < c.public.info.blocks → b < 65536
    narrow b l = block_narrow known.sound l

    -- The pointers that lead to the block are those that are there once the one is removed.
    leads_points : (b w : ℕ) → contains w (in_use c.public) ≡ true → leads b w ≡ true → points_to (removed c o) (source w) b ≡ true
    unfolding points_to
    leads_points b w h l =
        let to : destination w ≡ b = eqb-true _ _ (and_left _ _ l) in
        let whole : pointer (source w) b ≡ w = omega arith in
        removed_points port c o lent e (source w) b (omega arith)
        ∙ and_true (contains (pointer (source w) b) (in_use c.public)) _ (rw whole h) (and_right (eqb (destination w) b) _ l)

    points_leads : (a b : ℕ) → b < 65536 → points_to (removed c o) a b ≡ true
        → (contains (pointer a b) (in_use c.public) ≡ true) × (leads b (pointer a b) ≡ true)
    unfolding points_to
    points_leads a b low h =
        let both : contains (pointer a b) (in_use c.public) && not (eqb a o.source && eqb b o.destination) ≡ true =
        sym (removed_points port c o lent e a b low) ∙ h in (
          and_left _ _ both,
          and_true _ _ (eq-eqb (destination (pointer a b)) b (destination_pointer a b low))
              (subst (λ (k : ℕ). not (eqb k o.source && eqb b o.destination) ≡ true) (sym (source_pointer a b low))
              (and_right (contains (pointer a b) (in_use c.public)) _ both)),
        )

    true_holds : (G : ℕ → Bool) → HoldsDestination c o (λ b. G b ≡ true) → HoldsFollowers c o (λ b. G b ≡ true) → holds G ≡ true
    true_holds G first next =
        let ws : List ℕ = in_use c.public in
        let d : ℕ = o.destination in
        and_true _ _
        (true_implies (not (any (leads d) ws)) _
        (λ none.
        first
        (λ a q.
        let there : (contains (pointer a d) ws ≡ true) × (leads d (pointer a d) ≡ true) = points_leads a d (narrow d (allocated_below c.public d known.held)) q in
        absurd_test (any_member (leads d) ws (pointer a d) there.0 there.1) (not-true _ none))))
        (true_all_below (λ b. implies (every (follows_tests G b)) (G b)) c.public.info.blocks
        (λ b l.
        true_implies (every (follows_tests G b)) _
        (λ h.
        let t : Holds (follows_tests G b) = every_true (follows_tests G b) h in
        let some : Some (leads b) ws = member_any (leads b) ws t.1.1.0 in
        next b t.0 (not-true _ t.1.0) (source some.which) (leads_points b some.which some.within some.passes)
        (λ a q.
        let there : (contains (pointer a b) ws ≡ true) × (leads b (pointer a b) ≡ true) = points_leads a b (narrow b l) q in
        subst (λ (k : ℕ). G k ≡ true) (source_pointer a b (narrow b l))
        (or_else (not (leads b (pointer a b))) _
        (contains_all (λ w. implies (leads b w) (G (source w))) (pointer a b) ws there.0 t.1.1.1.0)
        (ap not there.1))))))

    holds_destination : (G : ℕ → Bool) → holds G ≡ true → HoldsDestination c o (λ b. G b ≡ true)
    holds_destination G h none =
        let ws : List ℕ = in_use c.public in
        let d : ℕ = o.destination in
        or_else (not (not (any (leads d) ws))) _ (and_left _ _ h)
        (ap (λ (t : Bool). not (not t))
        (false_unless _
        (λ q.
        let some : Some (leads d) ws = member_any (leads d) ws q in
        none (source some.which) (leads_points d some.which some.within some.passes))))

    holds_followers : (G : ℕ → Bool) → holds G ≡ true → HoldsFollowers c o (λ b. G b ≡ true)
    holds_followers G h b held no_root a q from =
        let ws : List ℕ = in_use c.public in
        let l : b < c.public.info.blocks = allocated_below c.public b held in
        let there : (contains (pointer a b) ws ≡ true) × (leads b (pointer a b) ≡ true) = points_leads a b (narrow b l) q in
        or_else (not (every (follows_tests G b))) _
        (all_below_true (λ b. implies (every (follows_tests G b)) (G b)) c.public.info.blocks
        (and_right (implies (not (any (leads o.destination) ws)) (G o.destination)) _ h)
        b
        l)
        (ap not
        (true_every (follows_tests G b) (
          held,
          (
            ap not no_root,
            (
              any_member (leads b) ws (pointer a b) there.0 there.1,
              (
                all_contains (λ w. implies (leads b w) (G (source w))) ws (λ w m. true_implies (leads b w) _ (λ t. from (source w) (leads_points b w m t))),
                tt,
              ),
            ),
          ),
        )))

    -- The blocks that are freed, in order, are those that the rules list.
    freed_numbers : LeastFreed c after o result.answer → numbers_below freed c.public.info.blocks ≡ freed_with c.public o.source o.destination
    unfolding freed_with orphans change_public
    freed_numbers t =
        least_own (orphaned (removed c o)) c.public.info.blocks freed
        (λ b l. same_test _ _ (λ f. (t.listed b).1 (is_freed_law b f)) (λ f. freed_is b ((t.listed b).0 f)))

    least_tests_law : (named : ℕ → Bool) → Holds (least_tests named)
    least_tests_law named =
        let t : LeastFreed c after o result.answer = tree_least port c o lent e in (
          true_holds freed (λ none. freed_is o.destination (t.destination_freed none))
              (λ b held no_root a q from. freed_is b (t.followers_freed b held no_root (λ a q. is_freed_law a (from a q)))),
          (
            true_implies (holds named) _
                (λ h.
                true_all_below (λ b. implies (freed b) (named b)) _
                (λ b l. true_implies (freed b) _ (λ f. t.least (λ b. named b ≡ true) (holds_destination named h) (holds_followers named h) b (is_freed_law b f)))),
            (true_same_list (ap answer_values t.answers ∙ ap (λ (bs : List ℕ). length bs ∷ []) (sym (freed_numbers t))), tt),
          ),
        )

    led_within : (named : ℕ → Bool) → all_below (led_from_inside named) c.public.info.blocks ≡ true
        → (b : ℕ) → cycle named b ≡ true → PointedWithin (removed c o) (λ b. cycle named b ≡ true) b
    led_within named h b i =
        let q : ℕ → Bool = λ w. leads b w && cycle named (source w) in
        let some : Some q (in_use c.public) =
        member_any q (in_use c.public)
        (or_else (not (cycle named b)) _
        (all_below_true (led_from_inside named) c.public.info.blocks h b (allocated_below c.public b (and_left _ _ i)))
        (ap not i)) in
        record {
          from = source some.which;
          within = and_right (leads b some.which) _ some.passes;
          points = leads_points b some.which some.within (and_left _ _ some.passes);
        }

pub tree_least_tested : (port : Port) (c : Card) (o : DeleteOperands) (lent : Buffers) (named : ℕ → Bool) → tree_least_test port c o lent named ≡ true
tree_least_tested port c o lent named =
    true_implies (is_done (result port c o lent).answer) _ (λ e. true_every (least_tests port c o lent named) (least_tests_law port c o lent e named))

pub tree_cycle_tested : (port : Port) (c : Card) (o : DeleteOperands) (lent : Buffers) (named : ℕ → Bool) → tree_cycle_test port c o lent named ≡ true
tree_cycle_tested port c o lent named =
    let n = c.public.info.blocks in
    let stays = cycle port c o lent named in
    true_implies (is_done (result port c o lent).answer && all_below (led_from_inside port c o lent named) n) _
    (λ h.
    let e : is_done (result port c o lent).answer ≡ true = and_left _ _ h in
    true_all_below (λ b. implies (stays b) (allocated (after port c o lent).public b)) n
    (λ b l.
    true_implies (stays b) _
    (tree_cycle port c o lent e (λ b. stays b ≡ true) (λ b i. and_left _ _ i)
    (led_within port c o lent e named (and_right (is_done (result port c o lent).answer) _ h))
    b)))
