-- A call on a sound card leaves a sound card: one lemma for each paragraph of document 01, "Calls".
use Prim.Native.Nat.{ℕ, ◌+◌, ◌≤◌, ◌<◌}
use mathlib.Core.Path.{◌≡◌, refl, ◌∙◌}
use mathlib.Core.Bool.{Bool, true, false, ◌&&◌, ◌||◌, not, cond}
use mathlib.Core.List.{List, [], ◌∷◌}
use native.Mathlib.Nat.{max-le}
use native.Mathlib.Omega.{arith}
use lib.Dec.{eqb, ltb}
use lib.ListN.{length, set}
use borrow.Author.Tests.{eqb-true, eqb-false, ltb-false, leb-false, not-true, not-false}
use Rattle.laws.specs.ListsLaws.{or_false_left, or_false_right, all_head, all_tail, all_both}
use Rattle.card.specs.Pointers.{pointer}
use Rattle.card.specs.Card.{Public, Card, flag, allocated_flag, free_flag, allocated, free, is_root, free_blocks, longest_interval, count, multiplicity, points_to, has_pointers}
use Rattle.card.specs.Soundness.{time_limit}
use Rattle.card.specs.SoundCard.{SoundCard}
use Rattle.laws.specs.SoundnessLaws.{multiplicity_right_low, allocated_below, free_below, free_unallocated}
use Rattle.laws.specs.RentLaws.{rent_in_time}
use Rattle.card.specs.Plan.{NoneHolds, set_window, free_block, add_pointer, raise_pointer, lower_pointer, drop_pointer, with_flags, change_public, change, changes, Buffers}
use Rattle.card.specs.Calls.{missing, window_after, opens_window, wanted, picks, take_all, close_windows, mode_of, read_plan, write_plan, alloc_plan, run_starts, nearest_run, alloc_contig_plan, create_plan, delete_plan, delete_tree_plan, key_plan, renew_plan, force_plan, free_plan, tick_plan, audit_plan, rent_plan, lowest_waiting, sweep_plan}
use Rattle.card.specs.Session.{Request, plan, perform}
use Rattle.card.specs.declared.Port.{Port}
use Rattle.card.specs.declared.Port.TheVariants.{Host, Service}
use Rattle.card.specs.declared.Mode.{Mode}
use Rattle.card.specs.declared.Mode.TheVariants.{Reading, Writing}
use Rattle.card.specs.declared.TransferOperands.{TransferOperands}
use Rattle.card.specs.declared.AllocOperands.{AllocOperands}
use Rattle.card.specs.declared.CreateOperands.{CreateOperands}
use Rattle.card.specs.declared.DeleteOperands.{DeleteOperands}
use Rattle.card.specs.declared.KeyOperands.{KeyOperands}
use Rattle.card.specs.declared.RenewOperands.{RenewOperands}
use Rattle.card.specs.declared.ForceOperands.{ForceOperands}
use Rattle.card.specs.declared.TickOperands.{TickOperands}
use Rattle.card.specs.declared.Call.{Call}
use Rattle.card.specs.declared.Call.TheVariants.{Read, Write, Alloc, AllocContig, Create, Delete, DeleteTree, KeyRead, KeyWrite, Renew, Force, Free, Tick, Audit, Rent, Sweep}
use Rattle.laws.proofs.Steps.{allocated_set, state_other, unallocated_flag, set_window_sound, set_block_sound, set_key_sound, set_time_sound}
use Rattle.laws.specs.ChangesLaws.{keyed_allocated, inserted_length}
use Rattle.laws.proofs.PointerSteps.{sound_but, add_pointer_sound, take_add_sound, raise_sound, lower_sound, times_right_law, times_counted, drop_one_sound, drop_last_sound}
use Rattle.laws.proofs.Severing.{deleted_sound}
use Rattle.laws.specs.Takeable.{Without, Takeable}
use Rattle.laws.specs.PicksLaws.{distinct_head, distinct_tail, picks_takeable, picks_length}
use Rattle.laws.specs.RunsLaws.{run_takeable, run_length}
use Rattle.laws.specs.SweepLaws.{lowest_sweepable}
use Rattle.laws.proofs.Sweeping.{sweep_each_sound}
use Rattle.laws.proofs.Judged.{judge_after}

-- A block that passes the check "allocated" is allocated.
pub not_missing : (p : Public) (b : ℕ) → missing p b ≡ false → allocated p b ≡ true
not_missing p b e = not-false _ e

-- ---- READ, WRITE, RENEW and FORCE

-- The later of two ends lies within T + 86,400, as both do.
after_low : (c : Card) (mode : Mode) (b interval : ℕ) → SoundCard c → allocated c.public b ≡ true → interval ≤ longest_interval
    → window_after c.public mode b interval ≤ c.public.info.time + longest_interval
unfolding window_after
after_low c mode b interval s a low = max-le (s.is_sound.windows_low mode b (allocated_below c.public b a)) (omega arith)

opens_window_sound : (port : Port) {c : Card} (mode : Mode) (b interval : ℕ) → SoundCard c → allocated c.public b ≡ true → interval ≤ longest_interval
    → SoundCard (changes c (opens_window port c.public mode b interval))
unfolding opens_window changes
opens_window_sound Host {c} mode b interval s a low = go (eqb interval 0)
  where
    go : (t : Bool) → SoundCard (changes c (cond t [] (set_window mode b (window_after c.public mode b interval) ∷ [])))
    go true = s
    go false = set_window_sound mode b _ s a (after_low c mode b interval s a low)
opens_window_sound Service mode b interval s a low = s

close_windows_sound : {c : Card} (b : ℕ) → SoundCard c → allocated c.public b ≡ true → SoundCard (changes c (close_windows b))
unfolding changes change change_public allocated
close_windows_sound b s a = set_window_sound Writing b 0 (set_window_sound Reading b 0 s a (omega arith)) a (omega arith)

read_sound : (port : Port) (c : Card) (opened : Bool) (o : TransferOperands) (size : ℕ) → SoundCard c
    → NoneHolds (read_plan port c.public opened o size).checks → SoundCard (changes c (read_plan port c.public opened o size).steps)
unfolding read_plan
read_sound port c opened o size s h =
    opens_window_sound port Reading o.block o.interval s (not_missing _ _ h.1.0)
    (ltb-false longest_interval o.interval (or_false_right (not (eqb size c.public.info.bytes)) _ h.0))

write_sound : (port : Port) (c : Card) (opened : Bool) (o : TransferOperands) (input : List ℕ) → SoundCard c
    → NoneHolds (write_plan port c.public opened o input).checks → SoundCard (changes c (write_plan port c.public opened o input).steps)
unfolding write_plan changes change change_public
write_sound port c opened o input s h =
    let a : allocated c.public o.block ≡ true = not_missing _ _ h.1.0 in
    opens_window_sound port Writing o.block o.interval
    (set_block_sound o.block input s (allocated_below c.public o.block a)
    (eqb-true _ _ (not-false _ (or_false_left _ _ h.0))))
    a
    (ltb-false longest_interval o.interval (or_false_right (not (eqb (length input) c.public.info.bytes)) _ h.0))

renew_sound : (c : Card) (opened : Bool) (o : RenewOperands) → SoundCard c → NoneHolds (renew_plan c.public opened o).checks
    → SoundCard (changes c (renew_plan c.public opened o).steps)
unfolding renew_plan changes
renew_sound c opened o s h =
    let low : o.interval ≤ longest_interval = ltb-false _ _ (or_false_right (ltb 1 o.mode || eqb o.interval 0) _ h.0) in
    let a : allocated c.public o.block ≡ true = not_missing _ _ h.1.0 in
    set_window_sound (mode_of o.mode) o.block _ s a (after_low c (mode_of o.mode) o.block o.interval s a low)

force_sound : (c : Card) (o : ForceOperands) → SoundCard c → NoneHolds (force_plan c.public o).checks → SoundCard (changes c (force_plan c.public o).steps)
unfolding force_plan
force_sound c o s h = close_windows_sound o.block s (not_missing _ _ h.0)

-- ---- KEY_READ and KEY_WRITE

key_sound : (port : Port) (c : Card) (opened : Bool) (mode : Mode) (o : KeyOperands) → SoundCard c
    → NoneHolds (key_plan port c.public opened mode o).checks → SoundCard (changes c (key_plan port c.public opened mode o).steps)
unfolding key_plan changes change change_public
key_sound port c opened mode o s h =
    let a : allocated c.public o.block ≡ true = not_missing _ _ h.0 in
    close_windows_sound o.block (set_key_sound mode o.block o.key s a)
    (allocated_set c.public o.block _ o.block (keyed_allocated (flag c.public o.block) mode o.key) a)

-- ---- TICK

tick_sound : (c : Card) (o : TickOperands) → SoundCard c → NoneHolds (tick_plan c.public o).checks → SoundCard (changes c (tick_plan c.public o).steps)
unfolding tick_plan changes
tick_sound c o s h =
    set_time_sound (c.public.info.time + o.seconds) _ s (omega arith) (leb-false time_limit (c.public.info.time + o.seconds) h.0)
    (rent_in_time c.public o.seconds s.shaped.in_ranges.blocks_high s.is_sound.total_low)

-- ---- CREATE and DELETE

create_sound : (port : Port) (c : Card) (source_opened destination_opened : Bool) (o : CreateOperands) → SoundCard c
    → NoneHolds (create_plan port c.public source_opened destination_opened o).checks
    → SoundCard (changes c (create_plan port c.public source_opened destination_opened o).steps)
unfolding create_plan changes
create_sound port c source_opened destination_opened o s h =
    go (points_to p o.source o.destination) refl h.1.1.1.1.1.1.0
  where
    p : Public
    p = c.public

    held : allocated p o.destination ≡ true
    held = not_missing p o.destination h.1.0

    go : (t : Bool) → points_to p o.source o.destination ≡ t → not t && eqb p.info.used (length p.pointers) ≡ false
        → SoundCard (changes c (cond t (raise_pointer o.source o.destination) (add_pointer o.source o.destination) ∷ []))
    go true e f =
        raise_sound o.source o.destination s held e
        (eqb-false _ _ (or_false_right (eqb o.source o.destination) _ h.1.1.1.1.1.0))
    go false e f =
        let full : (p.info.used ≡ length p.pointers → ⊥) = eqb-false _ _ f in
        add_pointer_sound o.source o.destination (sound_but o.destination s)
        (not_missing p o.source h.0)
        held
        (ltb-false _ _ (or_false_left (is_root p o.destination) _ h.1.1.0))
        (eqb-false _ _ (or_false_left (eqb o.source o.destination) _ h.1.1.1.1.1.0))
        e
        (omega (arith, s.shaped.used_high))

delete_sound : (port : Port) (c : Card) (opened : Bool) (o : DeleteOperands) → SoundCard c → NoneHolds (delete_plan port c.public opened o).checks
    → SoundCard (changes c (delete_plan port c.public opened o).steps)
unfolding delete_plan changes
delete_sound port c opened o s h =
    go (eqb (multiplicity c.public o.source o.destination) 1) (eqb (count c.public o.destination) 1) refl refl h.1.1.1.1.1.0
  where
    held : allocated c.public o.destination ≡ true
    held = not_missing _ _ h.1.0

    there : points_to c.public o.source o.destination ≡ true
    there = not-false _ h.1.1.1.1.0

    low : 1 ≤ multiplicity c.public o.source o.destination
    low = multiplicity_right_low _ (times_right_law o.source o.destination s there)

    counted : multiplicity c.public o.source o.destination ≤ count c.public o.destination
    counted = times_counted o.source o.destination s held there

    go : (once last : Bool) → eqb (multiplicity c.public o.source o.destination) 1 ≡ once → eqb (count c.public o.destination) 1 ≡ last
        → last && has_pointers c.public o.destination ≡ false
        → SoundCard (changes c (cond once (drop_pointer o.source o.destination) (lower_pointer o.source o.destination) ∷ cond last (free_block o.destination ∷ []) []))
    go true true m e f = drop_last_sound o.source o.destination s held there (eqb-true _ _ m) (eqb-true _ _ e) f
    go true false m e f = drop_one_sound o.source o.destination s held there (eqb-true _ _ m) (eqb-false _ _ e)
    go false true m e f =
        let several : (multiplicity c.public o.source o.destination ≡ 1 → ⊥) = eqb-false _ _ m in
        let single : count c.public o.destination ≡ 1 = eqb-true _ _ e in
        absurd (several (omega (arith, low, counted)))
    go false false m e f = lower_sound o.source o.destination s held there (eqb-false _ _ m)

-- ---- DELETE_TREE

tree_sound : (port : Port) (c : Card) (opened : Bool) (o : DeleteOperands) → SoundCard c
    → NoneHolds (delete_tree_plan port c.public opened o).checks → SoundCard (changes c (delete_tree_plan port c.public opened o).steps)
unfolding delete_tree_plan
tree_sound port c opened o s h = deleted_sound c o.source o.destination s (not_missing _ _ h.1.0) (not-false _ h.1.1.1.1.0)

-- ---- ALLOC

-- The first of the blocks that can be taken.
module _ {p : Public} {b : ℕ} {bs : List ℕ} (t : Takeable p (b ∷ bs)) where
  pub takeable_below : b < p.info.blocks
  takeable_below = free_below p b (all_head (λ x. free p x) b bs t.free)

  pub takeable_free : allocated_flag (flag p b) ≡ false
  takeable_free = unallocated_flag p b takeable_below (free_unallocated p b (all_head (λ x. free p x) b bs t.free))

-- It is taken and pointed to, and then the others can still be.
module _ {c : Card} (reference : ℕ) {b : ℕ} {bs : List ℕ} (s : SoundCard c) (a : allocated c.public reference ≡ true) (t : Takeable c.public (b ∷ bs))
    (room : c.public.info.used + length (b ∷ bs) ≤ length c.public.pointers) where
  abbrev taken : Card
  taken = changes c (take_all reference (b ∷ []))

  place : c.public.info.used < length c.public.pointers
  place = omega arith

  pub taken_sound : SoundCard taken
  unfolding take_all changes
  taken_sound = take_add_sound reference b s a (takeable_below t) (takeable_free t) place

  pub taken_allocated : allocated taken.public reference ≡ true
  unfolding take_all changes change change_public allocated
  taken_allocated = allocated_set c.public b 1 reference refl a

  pub taken_rest : Takeable taken.public bs
  unfolding take_all changes change change_public free
  taken_rest =
      let p = c.public in
      let without : Without b bs = distinct_head t.distinct in
      record {
        free =
            all_both (λ x. free p x) (λ x. not (eqb x b)) (λ x. free (with_flags p (set p.flags b 1)) x)
            (λ x e f. state_other free_flag p b 1 x (eqb-false _ _ (not-true _ f)) ∙ e)
            bs
            (all_tail (λ x. free p x) b bs t.free)
            without;
        distinct = distinct_tail t.distinct;
      }

  pub taken_room : taken.public.info.used + length bs ≤ length taken.public.pointers
  unfolding take_all changes change change_public
  taken_room = omega (arith, inserted_length (pointer reference b) c.public.info.used c.public.pointers (omega arith) place)

take_all_sound : {c : Card} (reference : ℕ) (bs : List ℕ) → SoundCard c → allocated c.public reference ≡ true → Takeable c.public bs
    → c.public.info.used + length bs ≤ length c.public.pointers
    → SoundCard (changes c (take_all reference bs))
unfolding take_all changes
take_all_sound reference [] s a t room = s
take_all_sound {c = c} reference (b ∷ bs) s a t room =
    take_all_sound {c = changes c (take_all reference (b ∷ []))} reference bs (taken_sound reference s a t room) (taken_allocated reference s a t room) (taken_rest reference s a t room)
    (taken_room reference s a t room)

alloc_sound : (port : Port) (c : Card) (opened : Bool) (o : AllocOperands) (places : ℕ) → SoundCard c
    → NoneHolds (alloc_plan port c.public opened o places).checks → SoundCard (changes c (alloc_plan port c.public opened o places).steps)
unfolding alloc_plan
alloc_sound port c opened o places s h =
    let p : Public = c.public in
    let enough : o.count ≤ length (free_blocks p) = ltb-false _ _ h.1.1.1.1.0 in
    let room : p.info.used + o.count ≤ length p.pointers = ltb-false _ _ h.1.1.1.1.1.0 in
    take_all_sound o.reference (picks (wanted o.hint) o.count (free_blocks p)) s (not_missing _ _ h.1.0)
    (picks_takeable p (wanted o.hint) o.count)
    (omega (arith, picks_length (wanted o.hint) o.count (free_blocks p) enough))

contig_sound : (port : Port) (c : Card) (opened : Bool) (o : AllocOperands) (places : ℕ) → SoundCard c
    → NoneHolds (alloc_contig_plan port c.public opened o places).checks → SoundCard (changes c (alloc_contig_plan port c.public opened o places).steps)
unfolding alloc_contig_plan
contig_sound port c opened o places s h =
    let p : Public = c.public in
    let room : p.info.used + o.count ≤ length p.pointers = ltb-false _ _ h.1.1.1.1.1.1.0 in
    take_all_sound o.reference (nearest_run (wanted o.hint) o.count (run_starts p o.count)) s (not_missing _ _ h.1.0)
    (run_takeable p o.count (wanted o.hint))
    (omega (arith, run_length p o.count (wanted o.hint) (eqb-false _ _ h.1.1.1.1.1.0)))

-- ---- every call

pub call_sound : (port : Port) (c : Card) (call : Call) (lent : Buffers) → SoundCard c → NoneHolds (plan port c call lent).checks
    → SoundCard (changes c (plan port c call lent).steps)
unfolding plan free_plan audit_plan rent_plan sweep_plan changes
call_sound port c (Read o) lent = read_sound port c _ o _
call_sound port c (Write o) lent = write_sound port c _ o _
call_sound port c (Alloc o) lent = alloc_sound port c _ o _
call_sound port c (AllocContig o) lent = contig_sound port c _ o _
call_sound port c (Create o) lent = create_sound port c _ _ o
call_sound port c (Delete o) lent = delete_sound port c _ o
call_sound port c (DeleteTree o) lent = tree_sound port c _ o
call_sound port c (KeyRead o) lent = key_sound port c _ Reading o
call_sound port c (KeyWrite o) lent = key_sound port c _ Writing o
call_sound port c (Renew o) lent = renew_sound c _ o
call_sound port c (Force o) lent = force_sound c o
call_sound port c Free lent = λ s h. s
call_sound port c (Tick o) lent = tick_sound c o
call_sound port c Audit lent = λ s h. s
call_sound port c (Rent o) lent = λ s h. s
call_sound port c (Sweep o) lent = λ s h. sweep_each_sound (lowest_waiting c.public o.most) s (lowest_sweepable c.public o.most)

-- A refused call leaves the card itself.
pub perform_sound : (port : Port) (c : Card) (q : Request) → SoundCard c → SoundCard (perform port c q).after
unfolding perform
perform_sound port c q s = judge_after SoundCard c q.lent (plan port c q.call q.lent) s (call_sound port c q.call q.lent)
