-- Each call changes multiplicities by just the pointers that it made and took away, and so does a list of calls.
use Rattle.std.specs.Prelude.{None}
use Prim.Native.Nat.{ℕ, zero, suc, ◌+◌, ◌-◌, ◌≤◌, ◌<◌}
use mathlib.Core.Path.{◌≡◌, refl, sym, ap, ap₂, ◌∙◌, subst}
use mathlib.Core.Logic.{⊎_elim}
use mathlib.Core.Bool.{Bool, true, false, ◌&&◌, ◌||◌, not, cond}
use mathlib.Core.List.{List, [], ◌∷◌}
use native.Mathlib.Omega.{arith}
use lib.Dec.{eqb, ltb}
use lib.ListN.{length, take, drop}
use lib.Seq.{take_at}
use borrow.Author.Tests.{lt-ltb, eq-eqb, ne_eqb, eqb-true, eqb-false, ltb-true, ltb-false, not-true, not-false}
use Rattle.card.specs.Lists.{all, any, sum_below}
use Rattle.laws.specs.ListsLaws.{and_left, and_right, and_true, absurd_test, false_unless, same_test, same_or_other, all_head, all_tail, all_map}
use Rattle.card.specs.Pointers.{pointer, source, destination, ascending, contains, insert, remove, beside, total, pointers_to, insert_beside, remove_beside, set_beside}
use Rattle.laws.specs.PointersLaws.{contains_all, insert_ascending, remove_ascending, total_beside}
use Rattle.laws.specs.BesideLaws.{InStep, Moved, moved_insert, moved_remove, moved_set}
use Rattle.card.specs.Contents.{overwrite}
use Rattle.card.specs.Card.{Public, Card, allocated, free_blocks, count, in_use, times_in_use, multiplicity, points_to}
use Rattle.card.specs.SoundCard.{SoundCard}
use Rattle.laws.specs.SoundnessLaws.{allocated_below, pointer_right_true, multiplicity_right_low}
use Rattle.card.specs.Soundness.{pointer_right}
use Rattle.card.specs.Plan.{NoneHolds, Change, set_window, set_block, set_key, take_block, free_block, sweep_block, add_pointer, raise_pointer, lower_pointer, drop_pointer, drop_from, set_time, change_public, change, changes, Buffers, Result, refused, places_after, settle}
use Rattle.laws.specs.ChangesLaws.{used_in_step, inserted_take, inserted_times_take, set_times_take, removed_take, removed_times_take}
use Rattle.card.specs.Calls.{fresh_card, window_after, opens_window, wanted, picks, take_all, read_plan, write_plan, alloc_plan, run_starts, nearest_run, alloc_contig_plan, create_plan, delete_plan, freed_with, delete_tree_plan, key_plan, renew_plan, force_plan, free_plan, tick_plan, audit_plan, rent_plan, sweep_each, sweep_plan}
use Rattle.laws.specs.Takeable.{Without, Takeable}
use Rattle.laws.specs.PicksLaws.{distinct_head, picks_takeable, picks_length}
use Rattle.laws.specs.RunsLaws.{run_takeable, run_length}
use Rattle.card.specs.Access.{admits}
use Rattle.laws.specs.SessionLaws.{after_all_blocks}
use Rattle.card.specs.Session.{Sent, reply, plan, perform, performed, after_all}
use Rattle.card.specs.Ledger.{once, made, goes, taken, made_in_all, taken_in_all}
use Rattle.card.specs.declared.Port.{Port}
use Rattle.card.specs.declared.Port.TheVariants.{Host, Service}
use Rattle.card.specs.declared.Mode.{Mode}
use Rattle.card.specs.declared.Mode.TheVariants.{Writing}
use Rattle.card.specs.declared.Refusal.{Refusal}
use Rattle.card.specs.declared.AllocOperands.{AllocOperands}
use Rattle.card.specs.declared.CreateOperands.{CreateOperands}
use Rattle.card.specs.declared.DeleteOperands.{DeleteOperands}
use Rattle.card.specs.declared.Call.{Call}
use Rattle.card.specs.declared.Call.TheVariants.{Read, Write, Alloc, AllocContig, Create, Delete, DeleteTree, KeyRead, KeyWrite, Renew, Force, Free, Tick, Audit, Rent, Sweep}
use Rattle.laws.proofs.PointerSteps.{block_narrow, no_pointer, times_right_law}
use Rattle.laws.proofs.Severing.{tree_deleted, deleted_multiplicity}
use Rattle.laws.proofs.KeepsSound.{not_missing, takeable_below, takeable_free, taken_sound, taken_allocated, taken_rest, taken_room}
use Rattle.guarantees.proofs.Sound.{done_sound}
use Rattle.laws.proofs.Judged.{judge_cases}
use Rattle.card.specs.Statements.Ledger.{CountsLedger, Ledger, MadeAndTaken}

-- ---- two pointers

-- Two pointers are the same where their ends are.
pub pointer_same : (x y a b : ℕ) → y < 65536 → b < 65536 → eqb (pointer x y) (pointer a b) ≡ eqb x a && eqb y b
pointer_same x y a b low narrow =
    same_test (eqb (pointer x y) (pointer a b)) (eqb x a && eqb y b)
    (λ e.
    let same : pointer x y ≡ pointer a b = eqb-true _ _ e in
    and_true (eqb x a) (eqb y b) (eq-eqb x a (omega arith)) (eq-eqb y b (omega arith)))
    (λ e.
    let s : x ≡ a = eqb-true x a (and_left (eqb x a) (eqb y b) e) in
    let d : y ≡ b = eqb-true y b (and_right (eqb x a) (eqb y b) e) in
    eq-eqb (pointer x y) (pointer a b) (omega arith))

-- ---- the multiplicities that one change leaves

-- Where the number beside one pointer moves, its multiplicity alone does.
multiplicity_moved : (p q : Public) (x y old new : ℕ) → ascending (in_use p) ≡ true → ascending (in_use q) ≡ true
    → Moved (pointer x y) old new (in_use p) (times_in_use p) (in_use q) (times_in_use q)
    → (a b : ℕ) → y < 65536 → b < 65536
    → cond (eqb x a && eqb y b) old 0 + multiplicity q a b ≡ cond (eqb x a && eqb y b) new 0 + multiplicity p a b
unfolding multiplicity
multiplicity_moved p q x y old new up ups moved a b low narrow =
    rw (← pointer_same x y a b low narrow, ← total_beside (pointer a b) (in_use p) (times_in_use p) up, ← total_beside (pointer a b) (in_use q) (times_in_use q) ups)
    (moved.sums (λ w. eqb w (pointer a b)))

more_by_one : (t : Bool) (old new after before : ℕ) → new ≡ old + 1 → cond t old 0 + after ≡ cond t new 0 + before → after ≡ once t + before
more_by_one true old new after before l e = omega arith
more_by_one false old new after before l e = omega arith

fewer_by_one : (t : Bool) (old new after before : ℕ) → old ≡ new + 1 → cond t old 0 + after ≡ cond t new 0 + before → once t + after ≡ before
fewer_by_one true old new after before l e = omega arith
fewer_by_one false old new after before l e = omega arith

-- A change that touches no pointer.
abbrev Plain : Change → Type 0
Plain (set_window mode b end) = Unit {0}
Plain (set_block b ys) = Unit {0}
Plain (set_key m b key) = Unit {0}
Plain (take_block b) = Unit {0}
Plain (free_block b) = Unit {0}
Plain (sweep_block b) = Unit {0}
Plain (add_pointer a b) = ⊥
Plain (raise_pointer a b) = ⊥
Plain (lower_pointer a b) = ⊥
Plain (drop_pointer a b) = ⊥
Plain (drop_from bs) = ⊥
Plain (set_time t total) = Unit {0}

plain_kept : (p : Public) (step : Change) → Plain step → (a b : ℕ) → multiplicity (change_public step p) a b ≡ multiplicity p a b
unfolding change_public multiplicity
plain_kept p (set_window mode b end) h x y = refl
plain_kept p (set_block b ys) h x y = refl
plain_kept p (set_key m b key) h x y = refl
plain_kept p (take_block b) h x y = refl
plain_kept p (free_block b) h x y = refl
plain_kept p (sweep_block b) h x y = refl
plain_kept p (add_pointer a b) h x y = absurd h
plain_kept p (raise_pointer a b) h x y = absurd h
plain_kept p (lower_pointer a b) h x y = absurd h
plain_kept p (drop_pointer a b) h x y = absurd h
plain_kept p (drop_from bs) h x y = absurd h
plain_kept p (set_time t total) h x y = refl

abbrev PlainAll : List Change → Type 0
PlainAll [] = Unit {0}
PlainAll (step ∷ steps) = Plain step × PlainAll steps

plain_all : (c : Card) (steps : List Change) → PlainAll steps → (a b : ℕ) → multiplicity (changes c steps).public a b ≡ multiplicity c.public a b
unfolding changes change
plain_all c [] h a b = refl
plain_all c (step ∷ steps) h a b = plain_all (change c step) steps h.1 a b ∙ plain_kept c.public step h.0 a b

opens_window_plain : (port : Port) (p : Public) (mode : Mode) (b interval : ℕ) → PlainAll (opens_window port p mode b interval)
unfolding opens_window
opens_window_plain Host p mode b interval = go (eqb interval 0)
  where
    go : (t : Bool) → PlainAll (cond t [] (set_window mode b (window_after p mode b interval) ∷ []))
    go true = tt
    go false = (tt, tt)
opens_window_plain Service p mode b interval = tt

sweeps_plain : (bs : List ℕ) → PlainAll (sweep_each bs)
unfolding sweep_each
sweeps_plain [] = tt
sweeps_plain (b ∷ bs) = (tt, sweeps_plain bs)

-- What a table of pointers and one of multiplicities must be for the four changes of pointers.
record Linked (p : Public) : Type 0 where
  fit : p.info.used ≤ length p.pointers
  same : length p.multiplicities ≡ length p.pointers
  ascends : ascending (in_use p) ≡ true

sound_linked : {c : Card} → SoundCard c → Linked c.public
sound_linked s = record { fit = s.shaped.used_high; same = s.shaped.has_lengths.multiplicities; ascends = s.is_sound.ascends }

module _ (p : Public) (x y : ℕ) (linked : Linked p) (low : y < 65536) (a b : ℕ) (narrow : b < 65536) where
  -- The pointer is the one from a to b.
  abbrev it : Bool
  it = eqb x a && eqb y b

  step : InStep (in_use p) (times_in_use p)
  step = used_in_step 0 0 p.info.used p.pointers p.multiplicities linked.fit linked.same

  added : points_to p x y ≡ false → multiplicity (change_public (add_pointer x y) p) a b ≡ once it + multiplicity p a b
  unfolding change_public points_to
  added absent =
      let q : Public = change_public (add_pointer x y) p in
      let listed : in_use q ≡ insert (pointer x y) (in_use p) = inserted_take (pointer x y) p.info.used p.pointers linked.fit in
      let timed : times_in_use q ≡ insert_beside (pointer x y) 1 (in_use p) (times_in_use p) =
      inserted_times_take (pointer x y) 1 p.info.used p.pointers p.multiplicities linked.fit linked.same in
      let moved : Moved (pointer x y) 0 1 (in_use p) (times_in_use p) (in_use q) (times_in_use q) = rw (listed, timed) (moved_insert (pointer x y) 1 step) in
      let up : ascending (in_use q) ≡ true = rw listed (insert_ascending (pointer x y) (in_use p) linked.ascends absent) in
      more_by_one it 0 1 _ _ refl (multiplicity_moved p q x y 0 1 linked.ascends up moved a b low narrow)

  raised : points_to p x y ≡ true → multiplicity (change_public (raise_pointer x y) p) a b ≡ once it + multiplicity p a b
  unfolding change_public points_to multiplicity
  raised there =
      let q : Public = change_public (raise_pointer x y) p in
      let times : ℕ = multiplicity p x y in
      let timed : times_in_use q ≡ set_beside (pointer x y) (times + 1) (in_use p) (times_in_use p) =
      set_times_take (pointer x y) (times + 1) p.info.used p.pointers p.multiplicities linked.fit linked.same in
      let moved : Moved (pointer x y) times (times + 1) (in_use p) (times_in_use p) (in_use q) (times_in_use q) = rw timed (moved_set (pointer x y) (times + 1) step there) in
      more_by_one it times (times + 1) _ _ refl (multiplicity_moved p q x y times (times + 1) linked.ascends linked.ascends moved a b low narrow)

  lowered : points_to p x y ≡ true → 1 ≤ multiplicity p x y → once it + multiplicity (change_public (lower_pointer x y) p) a b ≡ multiplicity p a b
  unfolding change_public points_to multiplicity
  lowered there least =
      let q : Public = change_public (lower_pointer x y) p in
      let times : ℕ = multiplicity p x y in
      let timed : times_in_use q ≡ set_beside (pointer x y) (times - 1) (in_use p) (times_in_use p) =
      set_times_take (pointer x y) (times - 1) p.info.used p.pointers p.multiplicities linked.fit linked.same in
      let moved : Moved (pointer x y) times (times - 1) (in_use p) (times_in_use p) (in_use q) (times_in_use q) = rw timed (moved_set (pointer x y) (times - 1) step there) in
      fewer_by_one it times (times - 1) _ _ (omega (arith, least)) (multiplicity_moved p q x y times (times - 1) linked.ascends linked.ascends moved a b low narrow)

  dropped : points_to p x y ≡ true → cond it (multiplicity p x y) 0 + multiplicity (change_public (drop_pointer x y) p) a b ≡ multiplicity p a b
  unfolding change_public points_to multiplicity
  dropped there =
      let q : Public = change_public (drop_pointer x y) p in
      let times : ℕ = multiplicity p x y in
      let listed : in_use q ≡ remove (pointer x y) (in_use p) = removed_take (pointer x y) p.info.used p.pointers linked.fit there in
      let timed : times_in_use q ≡ remove_beside (pointer x y) (in_use p) (times_in_use p) =
      removed_times_take (pointer x y) p.info.used p.pointers p.multiplicities linked.fit linked.same there in
      let moved : Moved (pointer x y) times 0 (in_use p) (times_in_use p) (in_use q) (times_in_use q) = rw (listed, timed) (moved_remove (pointer x y) step there) in
      let up : ascending (in_use q) ≡ true = rw listed (remove_ascending (pointer x y) (in_use p) linked.ascends) in
      multiplicity_moved p q x y times 0 linked.ascends up moved a b low narrow ∙ nothing it
    where
      nothing : (t : Bool) → cond t 0 0 + multiplicity p a b ≡ multiplicity p a b
      nothing true = omega arith
      nothing false = omega arith

  -- The pointer that is dropped goes wholly, and every other stays as it was.
  dropped_wholly : points_to p x y ≡ true → multiplicity (change_public (drop_pointer x y) p) a b ≡ cond it 0 (multiplicity p a b)
  dropped_wholly there = go it refl (dropped there)
    where
      go : (t : Bool) → it ≡ t → cond t (multiplicity p x y) 0 + multiplicity (change_public (drop_pointer x y) p) a b ≡ multiplicity p a b
          → multiplicity (change_public (drop_pointer x y) p) a b ≡ cond t 0 (multiplicity p a b)
      go true e h =
          let same : multiplicity p x y ≡ multiplicity p a b =
          ap₂ (λ (m n : ℕ). multiplicity p m n) (eqb-true x a (and_left (eqb x a) _ e)) (eqb-true y b (and_right (eqb x a) _ e)) in
          omega arith
      go false e h = omega arith

-- ---- CREATE and DELETE

create_made : (port : Port) (c : Card) (source_opened destination_opened : Bool) (o : CreateOperands) → SoundCard c
    → NoneHolds (create_plan port c.public source_opened destination_opened o).checks → (a b : ℕ) → b < 65536
    → multiplicity (changes c (create_plan port c.public source_opened destination_opened o).steps).public a b
    ≡ once (eqb o.source a && eqb o.destination b) + multiplicity c.public a b
unfolding create_plan changes change
create_made port c source_opened destination_opened o s h a b narrow = go (points_to c.public o.source o.destination) refl
  where
    low : o.destination < 65536
    low = block_narrow s (allocated_below c.public o.destination (not_missing _ _ h.1.0))

    go : (t : Bool) → points_to c.public o.source o.destination ≡ t
        → multiplicity (change_public (cond t (raise_pointer o.source o.destination) (add_pointer o.source o.destination)) c.public) a b
        ≡ once (eqb o.source a && eqb o.destination b) + multiplicity c.public a b
    go true e = raised c.public o.source o.destination (sound_linked s) low a b narrow e
    go false e = added c.public o.source o.destination (sound_linked s) low a b narrow e

delete_taken : (port : Port) (c : Card) (opened : Bool) (o : DeleteOperands) → SoundCard c → NoneHolds (delete_plan port c.public opened o).checks
    → (a b : ℕ) → b < 65536
    → once (eqb o.source a && eqb o.destination b) + multiplicity (changes c (delete_plan port c.public opened o).steps).public a b
    ≡ multiplicity c.public a b
unfolding delete_plan changes change
delete_taken port c opened o s h a b narrow =
    go (eqb (multiplicity c.public o.source o.destination) 1) (eqb (count c.public o.destination) 1) refl
  where
    held : allocated c.public o.destination ≡ true
    held = not_missing _ _ h.1.0

    there : points_to c.public o.source o.destination ≡ true
    there = not-false _ h.1.1.1.1.0

    low : o.destination < 65536
    low = block_narrow s (allocated_below c.public o.destination held)

    least : 1 ≤ multiplicity c.public o.source o.destination
    least = multiplicity_right_low _ (times_right_law o.source o.destination s there)

    lessened : (once-only : Bool) → eqb (multiplicity c.public o.source o.destination) 1 ≡ once-only
        → once (eqb o.source a && eqb o.destination b)
        + multiplicity (change_public (cond once-only (drop_pointer o.source o.destination) (lower_pointer o.source o.destination)) c.public) a b
        ≡ multiplicity c.public a b
    lessened true e =
        subst
        (λ (n : ℕ).
        cond (eqb o.source a && eqb o.destination b) n 0 + multiplicity (change_public (drop_pointer o.source o.destination) c.public) a b
        ≡ multiplicity c.public a b)
        (eqb-true _ _ e)
        (dropped c.public o.source o.destination (sound_linked s) low a b narrow there)
    lessened false e = lowered c.public o.source o.destination (sound_linked s) low a b narrow there least

    go : (once-only last : Bool) → eqb (multiplicity c.public o.source o.destination) 1 ≡ once-only
        → once (eqb o.source a && eqb o.destination b)
        + multiplicity (changes c (cond once-only (drop_pointer o.source o.destination) (lower_pointer o.source o.destination) ∷ cond last (free_block o.destination ∷ []) [])).public a b
        ≡ multiplicity c.public a b
    go once-only true e =
        ap (λ (n : ℕ). once (eqb o.source a && eqb o.destination b) + n)
        (plain_kept (change_public (cond once-only (drop_pointer o.source o.destination) (lower_pointer o.source o.destination)) c.public) (free_block o.destination) tt a b)
        ∙ lessened once-only e
    go once-only false e = lessened once-only e

-- ---- DELETE_TREE

-- A done DELETE_TREE leaves every pointer but those that go as it was.
pub tree_left : (c : Card) (o : DeleteOperands) → SoundCard c → allocated c.public o.destination ≡ true
    → points_to c.public o.source o.destination ≡ true
    → (a b : ℕ) → b < 65536
    → multiplicity (tree_deleted c o.source o.destination).public a b ≡ cond (goes c o a b) 0 (multiplicity c.public a b)
tree_left c o s held there a b narrow =
    let low : o.destination < 65536 = block_narrow s (allocated_below c.public o.destination held) in
    deleted_multiplicity c o.source o.destination s held there a b narrow
    ∙ ap (λ (n : ℕ). cond (contains a (freed_with c.public o.source o.destination)) 0 n)
    (dropped_wholly c.public o.source o.destination (sound_linked s) low a b narrow there)
    ∙ either (eqb o.source a && eqb o.destination b) (contains a (freed_with c.public o.source o.destination))
  where
    either : (t u : Bool) → cond u 0 (cond t 0 (multiplicity c.public a b)) ≡ cond (t || u) 0 (multiplicity c.public a b)
    either true true = refl
    either true false = refl
    either false true = refl
    either false false = refl

tree_taken : (t : Bool) (after before : ℕ) → after ≡ cond t 0 before → cond t before 0 + after ≡ before
tree_taken true after before e = omega arith
tree_taken false after before e = omega arith

-- ---- ALLOC

-- A number that each of the list differs from is not in it.
absent : (b x : ℕ) (bs : List ℕ) → x ≡ b → Without x bs → contains b bs ≡ false
absent b x bs e w = false_unless _ (λ there. absurd_test (eq-eqb b x (sym e)) (not-true _ (contains_all (λ y. not (eqb y x)) b bs there w)))

-- Of two tests at most one holds.
either_one : (r t u : Bool) → (t ≡ true → u ≡ false) → once (r && u) + once (r && t) ≡ once (r && (t || u))
either_one true true u f = rw (f refl) refl
either_one true false u f = omega arith
either_one false t u f = refl

take_all_made : {c : Card} (reference : ℕ) (bs : List ℕ) → SoundCard c → allocated c.public reference ≡ true → Takeable c.public bs
    → c.public.info.used + length bs ≤ length c.public.pointers
    → (a b : ℕ) → b < 65536 → multiplicity (changes c (take_all reference bs)).public a b ≡ once (eqb reference a && contains b bs) + multiplicity c.public a b
unfolding take_all changes change change_public allocated contains any points_to
take_all_made {c = c} reference [] s held t room a b narrow = none_made (eqb reference a)
  where
    none_made : (r : Bool) → multiplicity c.public a b ≡ once (r && false) + multiplicity c.public a b
    none_made true = omega arith
    none_made false = omega arith
take_all_made {c = c} reference (x ∷ bs) s held t room a b narrow =
    let p : Public = c.public in
    let rest : _ =
    take_all_made {c = changes c (take_all reference (x ∷ []))} reference bs (taken_sound reference s held t room) (taken_allocated reference s held t room) (taken_rest reference s held t room)
    (taken_room reference s held t room) a b narrow in
    let one : multiplicity (change_public (add_pointer reference x) (change_public (take_block x) p)) a b ≡ once (eqb reference a && eqb x b) + multiplicity p a b =
    added (change_public (take_block x) p) reference x
    (record { fit = s.shaped.used_high; same = s.shaped.has_lengths.multiplicities; ascends = s.is_sound.ascends })
    (block_narrow s (takeable_below t)) a b narrow
    (no_pointer reference x s (takeable_below t) (takeable_free t))
    ∙ ap (λ (n : ℕ). once (eqb reference a && eqb x b) + n) (plain_kept p (take_block x) tt a b) in
    let apart : (eqb x b ≡ true → contains b bs ≡ false) = λ e. absent b x bs (eqb-true x b e) (distinct_head t.distinct) in
    omega (arith, rest, one, either_one (eqb reference a) (eqb x b) (contains b bs) apart)

-- The numbers that are given stand in the first places.
placed : (places ns : List ℕ) (n : ℕ) → length ns ≡ n → take n (overwrite places 0 ns) ≡ ns
unfolding overwrite
placed places ns n e = take_at ns (drop (0 + length ns) places) n e

-- The blocks that are taken below a reference are those whose numbers are given.
allotted_made : {c : Card} (o : AllocOperands) (bs places : List ℕ) → SoundCard c → allocated c.public o.reference ≡ true → Takeable c.public bs
    → length bs ≡ o.count → c.public.info.used + o.count ≤ length c.public.pointers → (a b : ℕ) → b < 65536
    → multiplicity (changes c (take_all o.reference bs)).public a b
    ≡ once (eqb o.reference a && contains b (take o.count (overwrite places 0 bs))) + multiplicity c.public a b
allotted_made o bs places s held t many room a b narrow =
    rw (placed places bs o.count many) (take_all_made o.reference bs s held t (omega (arith, many)) a b narrow)

alloc_made : (port : Port) (c : Card) (opened : Bool) (o : AllocOperands) (places : List ℕ) → SoundCard c
    → NoneHolds (alloc_plan port c.public opened o (length places)).checks → (a b : ℕ) → b < 65536
    → multiplicity (changes c (alloc_plan port c.public opened o (length places)).steps).public a b
    ≡ once (eqb o.reference a && contains b (take o.count (places_after (alloc_plan port c.public opened o (length places)).shown places))) + multiplicity c.public a b
unfolding alloc_plan places_after
alloc_made port c opened o places s h a b narrow =
    let p : Public = c.public in
    allotted_made o (picks (wanted o.hint) o.count (free_blocks p)) places s (not_missing _ _ h.1.0)
    (picks_takeable p (wanted o.hint) o.count)
    (picks_length (wanted o.hint) o.count (free_blocks p) (ltb-false _ _ h.1.1.1.1.0))
    (ltb-false _ _ h.1.1.1.1.1.0) a b narrow

contig_made : (port : Port) (c : Card) (opened : Bool) (o : AllocOperands) (places : List ℕ) → SoundCard c
    → NoneHolds (alloc_contig_plan port c.public opened o (length places)).checks → (a b : ℕ) → b < 65536
    → multiplicity (changes c (alloc_contig_plan port c.public opened o (length places)).steps).public a b
    ≡ once (eqb o.reference a && contains b (take o.count (places_after (alloc_contig_plan port c.public opened o (length places)).shown places))) + multiplicity c.public a b
unfolding alloc_contig_plan places_after
contig_made port c opened o places s h a b narrow =
    let p : Public = c.public in
    allotted_made o (nearest_run (wanted o.hint) o.count (run_starts p o.count)) places s (not_missing _ _ h.1.0)
    (run_takeable p o.count (wanted o.hint))
    (run_length p o.count (wanted o.hint) (eqb-false _ _ h.1.1.1.1.1.0))
    (ltb-false _ _ h.1.1.1.1.1.1.0) a b narrow

-- ---- every call

-- From card c to a result, each multiplicity changed by just what the call made and took away.
abbrev Booked : Card → Call → Result → ℕ → ℕ → Type 0
Booked c call result a b =
    multiplicity result.after.public a b + taken c call (reply result) a b ≡ multiplicity c.public a b + made call (reply result) a b

made_booked : (after before n : ℕ) → after ≡ n + before → after + 0 ≡ before + n
made_booked after before n e = omega arith

taken_booked : (after before n : ℕ) → n + after ≡ before → after + n ≡ before + 0
taken_booked after before n e = omega arith

refused_booked : (c : Card) (call : Call) (lent : Buffers) (r : Refusal) (a b : ℕ)
    → Booked c call (refused c lent r) a b
unfolding made taken
refused_booked c (Read o) lent r a b = refl
refused_booked c (Write o) lent r a b = refl
refused_booked c (Alloc o) lent r a b = refl
refused_booked c (AllocContig o) lent r a b = refl
refused_booked c (Create o) lent r a b = refl
refused_booked c (Delete o) lent r a b = refl
refused_booked c (DeleteTree o) lent r a b = refl
refused_booked c (KeyRead o) lent r a b = refl
refused_booked c (KeyWrite o) lent r a b = refl
refused_booked c (Renew o) lent r a b = refl
refused_booked c (Force o) lent r a b = refl
refused_booked c Free lent r a b = refl
refused_booked c (Tick o) lent r a b = refl
refused_booked c Audit lent r a b = refl
refused_booked c (Rent o) lent r a b = refl
refused_booked c (Sweep o) lent r a b = refl

module _ (port : Port) (c : Card) (lent : Buffers) (s : SoundCard c) (a b : ℕ) (narrow : b < 65536) where
  -- Where no pointer is touched.
  plain_booked : (steps : List Change) → PlainAll steps → multiplicity (changes c steps).public a b + 0 ≡ multiplicity c.public a b + 0
  plain_booked steps h = ap (λ (n : ℕ). n + 0) (plain_all c steps h a b)

  call_booked : (call : Call) → NoneHolds (plan port c call lent).checks → Booked c call (settle c lent (plan port c call lent) None) a b
  unfolding plan settle made taken read_plan write_plan alloc_plan alloc_contig_plan create_plan delete_plan delete_tree_plan key_plan renew_plan force_plan free_plan tick_plan audit_plan rent_plan sweep_plan changes
  call_booked (Read o) h = plain_booked (plan port c (Read o) lent).steps (opens_window_plain port c.public _ o.block o.interval)
  call_booked (Write o) h = plain_booked (plan port c (Write o) lent).steps (tt, opens_window_plain port c.public _ o.block o.interval)
  call_booked (Alloc o) h = made_booked _ _ _ (alloc_made port c (admits port c Writing o.reference o.credential) o lent.places s h a b narrow)
  call_booked (AllocContig o) h = made_booked _ _ _ (contig_made port c (admits port c Writing o.reference o.credential) o lent.places s h a b narrow)
  call_booked (Create o) h = made_booked _ _ _ (create_made port c (admits port c Writing o.source o.credential) (admits port c Writing o.destination o.second) o s h a b narrow)
  call_booked (Delete o) h = taken_booked _ _ _ (delete_taken port c (admits port c Writing o.source o.credential) o s h a b narrow)
  call_booked (DeleteTree o) h =
      taken_booked _ _ _
      (tree_taken (goes c o a b) _ _ (tree_left c o s (not_missing c.public o.destination h.1.0) (not-false _ h.1.1.1.1.0) a b narrow))
  call_booked (KeyRead o) h = plain_booked (plan port c (KeyRead o) lent).steps (tt, (tt, (tt, tt)))
  call_booked (KeyWrite o) h = plain_booked (plan port c (KeyWrite o) lent).steps (tt, (tt, (tt, tt)))
  call_booked (Renew o) h = plain_booked (plan port c (Renew o) lent).steps (tt, tt)
  call_booked (Force o) h = plain_booked (plan port c (Force o) lent).steps (tt, (tt, tt))
  call_booked Free h = refl
  call_booked (Tick o) h = plain_booked (plan port c (Tick o) lent).steps (tt, tt)
  call_booked Audit h = refl
  call_booked (Rent o) h = refl
  call_booked (Sweep o) h = plain_booked (plan port c (Sweep o) lent).steps (sweeps_plain _)

pub made_and_taken : MadeAndTaken
unfolding perform settle
made_and_taken port c q a b narrow =
    judge_cases (λ (result : Result). Booked c q.call result a b) c q.lent (plan port c q.call q.lent)
    (λ r. refused_booked c q.call q.lent r a b)
    (λ s h. call_booked port c q.lent s a b narrow q.call h)

-- ---- a list of calls

pub ledger : Ledger
unfolding after_all made_in_all taken_in_all
ledger c [] a b narrow = refl
ledger c (s ∷ ss) a b narrow =
    omega (arith, made_and_taken s.port c s.request a b narrow, ledger (performed c s).after ss a b narrow)

-- ---- counts

sum_same : (f g : ℕ → ℕ) (n : ℕ) → ((i : ℕ) → f i ≡ g i) → sum_below f n ≡ sum_below g n
unfolding sum_below
sum_same f g zero e = refl
sum_same f g (suc n) e = omega (arith, e n, sum_same f g n e)

sum_add : (f g : ℕ → ℕ) (n : ℕ) → sum_below (λ i. f i + g i) n ≡ sum_below f n + sum_below g n
unfolding sum_below
sum_add f g zero = refl
sum_add f g (suc n) = omega (arith, sum_add f g n)

sum_zero : (n : ℕ) → sum_below (λ i. 0) n ≡ 0
unfolding sum_below
sum_zero zero = refl
sum_zero (suc n) = omega (arith, sum_zero n)

-- A sum of which one term alone may not be 0.
sum_outside : (k m n : ℕ) → n ≤ k → sum_below (λ i. cond (eqb k i) m 0) n ≡ 0
unfolding sum_below
sum_outside k m zero l = refl
sum_outside k m (suc n) l =
    let other : cond (eqb k n) m 0 ≡ 0 = rw (ne_eqb k n (λ (e : k ≡ n). omega arith)) in
    omega (arith, sum_outside k m n (omega arith))

sum_single : (k m n : ℕ) → k < n → sum_below (λ i. cond (eqb k i) m 0) n ≡ m
unfolding sum_below
sum_single k m zero l = absurd (omega arith)
sum_single k m (suc n) l =
    ⊎_elim
    (λ (e : k ≡ n).
    let here : cond (eqb k n) m 0 ≡ m = rw (eq-eqb k n e) in
    omega (arith, sum_outside k m n (omega arith)))
    (λ (other : k ≡ n → ⊥).
    let there : cond (eqb k n) m 0 ≡ 0 = rw (ne_eqb k n other) in
    omega (arith, sum_single k m n (omega arith)))
    (same_or_other k n)

-- The numbers beside the pointers to b, by their sources.
module _ (n b : ℕ) (narrow : b < 65536) where
  one_source : (w m : ℕ) → source w < n → cond (eqb (destination w) b) m 0 ≡ sum_below (λ a. cond (eqb w (pointer a b)) m 0) n
  one_source w m l =
      let parts : (a : ℕ) → eqb w (pointer a b) ≡ eqb (source w) a && eqb (destination w) b =
      λ a. ap (λ (k : ℕ). eqb k (pointer a b)) (omega arith) ∙ pointer_same (source w) (destination w) a b (omega arith) narrow in
      go (eqb (destination w) b) ∙ sym (sum_same (λ a. cond (eqb w (pointer a b)) m 0) (λ a. cond (eqb (source w) a && eqb (destination w) b) m 0) n (λ a. rw (parts a) refl))
    where
      last : (s : Bool) → cond (s && false) m 0 ≡ 0
      last true = refl
      last false = refl

      whole : (s : Bool) → cond (s && true) m 0 ≡ cond s m 0
      whole true = refl
      whole false = refl

      go : (t : Bool) → cond t m 0 ≡ sum_below (λ a. cond (eqb (source w) a && t) m 0) n
      go true = sym (sum_single (source w) m n l) ∙ sym (sum_same (λ a. cond (eqb (source w) a && true) m 0) (λ a. cond (eqb (source w) a) m 0) n (λ a. whole (eqb (source w) a)))
      go false = sym (sum_zero n) ∙ sym (sum_same (λ a. cond (eqb (source w) a && false) m 0) (λ a. 0) n (λ a. last (eqb (source w) a)))

  by_source : (ws ns : List ℕ) → all (λ w. ltb (source w) n) ws ≡ true → pointers_to b ws ns ≡ sum_below (λ a. total (λ x. eqb x (pointer a b)) ws ns) n
  unfolding total
  by_source [] ns h = sym (sum_zero n)
  by_source (w ∷ ws) [] h = sym (sum_zero n)
  by_source (w ∷ ws) (m ∷ ns) h =
      let l : source w < n = ltb-true _ _ (all_head (λ w. ltb (source w) n) w ws h) in
      omega (
        arith,
        one_source w m l,
        by_source ws ns (all_tail (λ w. ltb (source w) n) w ws h),
        sum_add (λ a. cond (eqb w (pointer a b)) m 0) (λ a. total (λ x. eqb x (pointer a b)) ws ns) n,
      )

-- On a sound card a block's count is the sum of the multiplicities of the pointers to it, from each block of the card.
pub count_sum : {c : Card} → SoundCard c → (b : ℕ) → b < c.public.info.blocks
    → count c.public b ≡ sum_below (λ a. multiplicity c.public a b) c.public.info.blocks
unfolding multiplicity
count_sum {c} s b l =
    let p : Public = c.public in
    s.is_sound.counts b l
    ∙ by_source p.info.blocks b (block_narrow s l) (in_use p) (times_in_use p)
    (all_map (λ w. pointer_right p w) (λ w. ltb (source w) p.info.blocks)
    (λ w e. lt-ltb _ _ (allocated_below p (source w) (pointer_right_true p w e).source_allocated)) (in_use p) s.is_sound.pointers_right)
    ∙ sum_same (λ a. total (λ x. eqb x (pointer a b)) (in_use p) (times_in_use p)) (λ a. beside (pointer a b) (in_use p) (times_in_use p)) p.info.blocks
    (λ a. total_beside (pointer a b) (in_use p) (times_in_use p) s.is_sound.ascends)

-- ---- counts after a list of calls

pub after_sound : (c : Card) (ss : List Sent) → SoundCard c → SoundCard (after_all c ss)
unfolding after_all
after_sound c [] sound = sound
after_sound c (s ∷ ss) sound = after_sound (performed c s).after ss (done_sound s.port c s.request sound)

pub counts_ledger : CountsLedger
counts_ledger c ss s b l =
    let n : ℕ = c.public.info.blocks in
    let d : Card = after_all c ss in
    let same : d.public.info.blocks ≡ n = after_all_blocks c ss in
    let late : count d.public b ≡ sum_below (λ a. multiplicity d.public a b) n =
    subst (λ (k : ℕ). count d.public b ≡ sum_below (λ a. multiplicity d.public a b) k) same (count_sum (after_sound c ss s) b (omega arith)) in
    omega (
      arith,
      late,
      count_sum s b l,
      sum_add (λ a. multiplicity d.public a b) (λ a. taken_in_all c ss a b) n,
      sum_add (λ a. multiplicity c.public a b) (λ a. made_in_all c ss a b) n,
      sum_same (λ a. multiplicity d.public a b + taken_in_all c ss a b) (λ a. multiplicity c.public a b + made_in_all c ss a b) n
          (λ a. ledger c ss a b (block_narrow s l)),
    )

-- On a fresh card no pointer is there.
pub fresh_none : (blocks roots bytes : ℕ) (c : Card) (a b : ℕ) → multiplicity (fresh_card blocks roots bytes c).public a b ≡ 0
unfolding multiplicity beside
fresh_none blocks roots bytes c a b = refl
