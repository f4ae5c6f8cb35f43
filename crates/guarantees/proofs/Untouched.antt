-- A call touches no unallocated block but those that it takes, which were free and which it leaves allocated and filled with zeros, and those that
-- SWEEP sweeps, which waited and which it leaves free and filled with zeros.
use Prim.Native.Nat.{ℕ, ◌*◌, ◌<◌}
use mathlib.Core.Path.{◌≡◌, refl, sym, ap, ◌∙◌, subst}
use mathlib.Core.Logic.{◌⊎◌, inl, inr, ⊎_elim}
use mathlib.Core.Bool.{Bool, true, false, cond}
use mathlib.Core.List.{List, [], ◌∷◌}
use lib.Dec.{eqb, ltb}
use lib.ListN.{length, get_or, set, length-set, length-replicate}
use lib.Seq.{get_or-set_same, get_or-set_other}
use borrow.Author.Tests.{lt-ltb, eqb-true, ltb-true, not-false}
use Rattle.card.specs.Lists.{all}
use Rattle.laws.specs.ListsLaws.{absurd_test, false_unless, or_false_left, same_or_other, not_cases, all_head, all_tail, all_map}
use Rattle.card.specs.Pointers.{contains}
use Rattle.card.specs.Contents.{zeros}
use Rattle.laws.specs.ContentsLaws.{fill_length, part_fill_same, part_fill_other}
use Rattle.card.specs.Card.{Public, Card, flag, allocated_flag, allocated, waiting, free, count, multiplicity, points_to, block}
use Rattle.card.specs.SoundCard.{SoundCard}
use Rattle.laws.specs.SoundnessLaws.{allocated_below, flag_allocated, free_below, flag_free, waiting_below}
use Rattle.card.specs.Plan.{NoneHolds, freed_flags, set_window, set_block, take_block, free_block, add_pointer, raise_pointer, lower_pointer, drop_pointer, with_flags, change_public, change_contents, change, changes, Buffers}
use Rattle.card.specs.Calls.{window_after, opens_window, wanted, take_all, freed_with, read_plan, write_plan, alloc_plan, alloc_contig_plan, create_plan, delete_plan, delete_tree_plan, key_plan, renew_plan, force_plan, free_plan, tick_plan, audit_plan, rent_plan, lowest_waiting, sweep_each, sweep_plan}
use Rattle.card.specs.Session.{plan, perform, is_sweep}
use Rattle.card.specs.Statements.Unallocated.{Untouched, LeftAlone, LeftOrZeroed}
use Rattle.card.specs.declared.Port.{Port}
use Rattle.card.specs.declared.Port.TheVariants.{Host, Service}
use Rattle.card.specs.declared.Mode.{Mode}
use Rattle.card.specs.declared.Mode.TheVariants.{Reading, Writing}
use Rattle.card.specs.declared.TransferOperands.{TransferOperands}
use Rattle.card.specs.declared.DeleteOperands.{DeleteOperands}
use Rattle.card.specs.declared.KeyOperands.{KeyOperands}
use Rattle.card.specs.declared.Call.{Call}
use Rattle.card.specs.declared.Call.TheVariants.{Read, Write, Alloc, AllocContig, Create, Delete, DeleteTree, KeyRead, KeyWrite, Renew, Force, Free, Tick, Audit, Rent, Sweep}
use Rattle.laws.proofs.Steps.{block_within, allocated_other}
use Rattle.laws.specs.NearestLaws.{contains_here, contains_there}
use Rattle.laws.specs.PointersLaws.{contains_all}
use Rattle.laws.specs.Takeable.{Takeable, Sweepable}
use Rattle.laws.specs.SweepLaws.{lowest_sweepable}
use Rattle.card.specs.declared.Info.{Info}
use Rattle.card.specs.declared.SweepOperands.{SweepOperands}
use Rattle.laws.specs.PicksLaws.{picks_takeable}
use Rattle.laws.specs.RunsLaws.{run_takeable}
use Rattle.laws.proofs.Severing.{freed_allocated, deleted_allocated, deleted_spares, deleted_contents}
use Rattle.laws.proofs.Sweeping.{same_state, sweep_each_alone, sweep_each_spares, sweep_each_sweeps}
use Rattle.laws.proofs.KeepsSound.{not_missing}
use Rattle.laws.proofs.Judged.{judge_after}

-- An unallocated block is not the one that passed the check "allocated".
other_block : (p : Public) {a b : ℕ} → allocated p b ≡ false → allocated p a ≡ true → b ≡ a → ⊥
other_block p free held e = absurd_test held (subst (λ (n : ℕ). allocated p n ≡ false) e free)

-- ---- READ and WRITE

opens_window_left : (port : Port) (c : Card) (p : Public) (mode : Mode) (a interval b : ℕ) → allocated c.public b ≡ false
    → LeftAlone c (changes c (opens_window port p mode a interval)) b
unfolding opens_window changes change change_public change_contents allocated
opens_window_left Host c p mode a interval b free = go (eqb interval 0)
  where
    go : (t : Bool) → LeftAlone c (changes c (cond t [] (set_window mode a (window_after p mode a interval) ∷ []))) b
    go true = record { not_allocated = free; same_flags = refl; same = refl }
    go false = record { not_allocated = free; same_flags = refl; same = refl }
opens_window_left Service c p mode a interval b free = record { not_allocated = free; same_flags = refl; same = refl }

write_left : (port : Port) (c : Card) (opened : Bool) (o : TransferOperands) (input : List ℕ) (b : ℕ) → allocated c.public b ≡ false → SoundCard c
    → NoneHolds (write_plan port c.public opened o input).checks → LeftAlone c (changes c (write_plan port c.public opened o input).steps) b
unfolding write_plan changes change change_public change_contents
write_left port c opened o input b free s h =
    let held : allocated c.public o.block ≡ true = not_missing _ _ h.1.0 in
    let opens : LeftAlone (change c (set_block o.block input)) (changes (change c (set_block o.block input)) (opens_window port c.public Writing o.block o.interval)) b =
    opens_window_left port (change c (set_block o.block input)) c.public Writing o.block o.interval b free in
    record {
      not_allocated = opens.not_allocated;
      same_flags = opens.same_flags;
      same =
          opens.same
          ∙ part_fill_other c.public.info.bytes c.contents o.block input
          (block_within c o.block s.shaped.has_lengths.contents (allocated_below c.public o.block held))
          (eqb-true _ _ (not-false _ (or_false_left _ _ h.0)))
          b
          (other_block c.public free held);
    }

-- ---- DELETE, DELETE_TREE, CREATE, KEY_READ and KEY_WRITE

delete_left : (port : Port) (c : Card) (opened : Bool) (o : DeleteOperands) (b : ℕ) → allocated c.public b ≡ false
    → NoneHolds (delete_plan port c.public opened o).checks → LeftAlone c (changes c (delete_plan port c.public opened o).steps) b
unfolding delete_plan changes change change_public change_contents allocated
delete_left port c opened o b free h = go (eqb (multiplicity c.public o.source o.destination) 1) (eqb (count c.public o.destination) 1)
  where
    other : b ≡ o.destination → ⊥
    other = other_block c.public free (not_missing c.public o.destination h.1.0)

    freed : allocated (with_flags c.public (set c.public.flags o.destination freed_flags)) b ≡ false
    freed = allocated_other c.public o.destination freed_flags b other ∙ free

    kept : get_or (set c.public.flags o.destination freed_flags) b 0 ≡ flag c.public b
    kept = get_or-set_other c.public.flags o.destination b freed_flags 0 other

    go : (once last : Bool)
        → LeftAlone c (changes c (cond once (drop_pointer o.source o.destination) (lower_pointer o.source o.destination) ∷ cond last (free_block o.destination ∷ []) [])) b
    go true true = record { not_allocated = freed; same_flags = kept; same = refl }
    go true false = record { not_allocated = free; same_flags = refl; same = refl }
    go false true = record { not_allocated = freed; same_flags = kept; same = refl }
    go false false = record { not_allocated = free; same_flags = refl; same = refl }

tree_left : (port : Port) (c : Card) (opened : Bool) (o : DeleteOperands) (b : ℕ) → allocated c.public b ≡ false
    → LeftAlone c (changes c (delete_tree_plan port c.public opened o).steps) b
unfolding delete_tree_plan
tree_left port c opened o b free =
    let other : contains b (freed_with c.public o.source o.destination) ≡ false =
    false_unless _ (λ e. absurd_test (freed_allocated c o.source o.destination b e) free) in
    record {
      not_allocated = deleted_allocated c o.source o.destination b other ∙ free;
      same_flags = (deleted_spares c o.source o.destination b other).flags;
      same = deleted_contents c o.source o.destination b;
    }

create_left : (c : Card) (a d b : ℕ) (t : Bool) → allocated c.public b ≡ false → LeftAlone c (changes c (cond t (raise_pointer a d) (add_pointer a d) ∷ [])) b
unfolding changes change change_public change_contents allocated
create_left c a d b true free = record { not_allocated = free; same_flags = refl; same = refl }
create_left c a d b false free = record { not_allocated = free; same_flags = refl; same = refl }

key_left : (port : Port) (c : Card) (opened : Bool) (mode : Mode) (o : KeyOperands) (b : ℕ) → allocated c.public b ≡ false
    → NoneHolds (key_plan port c.public opened mode o).checks → LeftAlone c (changes c (key_plan port c.public opened mode o).steps) b
unfolding key_plan changes change change_public change_contents allocated
key_left port c opened mode o b free h =
    let other : (b ≡ o.block → ⊥) = other_block c.public free (not_missing c.public o.block h.0) in
    record {
      not_allocated = allocated_other c.public o.block _ b other ∙ free;
      same_flags = get_or-set_other c.public.flags o.block b _ 0 other;
      same = refl;
    }

-- ---- ALLOC

-- The block is allocated and holds so many zeros.
record AllottedZeroed (bytes : ℕ) (d : Card) (b : ℕ) : Type 0 where
  is_allocated : allocated d.public b ≡ true
  holds_zeros : block d b ≡ zeros bytes

-- Flags and contents have their lengths.
record Fitted (c : Card) : Type 0 where
  pub flags : length c.public.flags ≡ c.public.info.blocks
  pub contents : length c.contents ≡ c.public.info.blocks * c.public.info.bytes

-- One block x taken and pointed to.
module _ (c : Card) (reference x : ℕ) (fits : Fitted c) (below : x < c.public.info.blocks) where
  abbrev taken : Card
  taken = change (change c (take_block x)) (add_pointer reference x)

  whole : length (zeros c.public.info.bytes) ≡ c.public.info.bytes
  whole = length-replicate c.public.info.bytes 0

  taken_fits : Fitted taken
  unfolding change change_public change_contents
  taken_fits = record {
    flags = length-set c.public.flags x 1 ∙ fits.flags;
    contents =
        fill_length c.public.info.bytes c.contents x (zeros c.public.info.bytes) (block_within c x fits.contents below) whole
        ∙ fits.contents;
  }

  taken_fresh : AllottedZeroed c.public.info.bytes taken x
  unfolding change change_public change_contents allocated
  taken_fresh = record {
    is_allocated =
        flag_allocated (with_flags c.public (set c.public.flags x 1)) x below
        (ap allocated_flag (get_or-set_same c.public.flags x 1 0 (subst (λ (n : ℕ). x < n) (sym fits.flags) below)));
    holds_zeros = part_fill_same c.public.info.bytes c.contents x (zeros c.public.info.bytes) (block_within c x fits.contents below) whole;
  }

  taken_other : (b : ℕ) → (b ≡ x → ⊥) → block taken b ≡ block c b
  unfolding change change_public change_contents
  taken_other b other =
      part_fill_other c.public.info.bytes c.contents x (zeros c.public.info.bytes) (block_within c x fits.contents below) whole b other

  still_free : (b : ℕ) → (b ≡ x → ⊥) → allocated taken.public b ≡ allocated c.public b
  unfolding change change_public allocated
  still_free b other = allocated_other c.public x 1 b other

  fresh_kept : (b : ℕ) → AllottedZeroed c.public.info.bytes c b → AllottedZeroed c.public.info.bytes taken b
  unfolding change change_public change_contents allocated
  fresh_kept b f =
      ⊎_elim
      (λ (e : b ≡ x). subst (λ (n : ℕ). AllottedZeroed c.public.info.bytes taken n) (sym e) taken_fresh)
      (λ (other : b ≡ x → ⊥). record {
        is_allocated = still_free b other ∙ f.is_allocated;
        holds_zeros = taken_other b other ∙ f.holds_zeros;
      })
      (same_or_other b x)

  same_flags_law : (b : ℕ) → (b ≡ x → ⊥) → flag taken.public b ≡ flag c.public b
  unfolding change change_public
  same_flags_law b other = get_or-set_other c.public.flags x b 1 0 other

module _ (reference b : ℕ) where
  take_all_fresh : (bs : List ℕ) (c : Card) → Fitted c → all (λ x. ltb x c.public.info.blocks) bs ≡ true → AllottedZeroed c.public.info.bytes c b
      → AllottedZeroed c.public.info.bytes (changes c (take_all reference bs)) b
  unfolding take_all changes change change_public
  take_all_fresh [] c fits h f = f
  take_all_fresh (x ∷ bs) c fits h f =
      let below : x < c.public.info.blocks = ltb-true _ _ (all_head (λ x. ltb x c.public.info.blocks) x bs h) in
      take_all_fresh bs (taken c reference x fits below) (taken_fits c reference x fits below) (all_tail (λ x. ltb x c.public.info.blocks) x bs h)
      (fresh_kept c reference x fits below b f)

  take_all_untouched : (bs : List ℕ) (c : Card) → Fitted c → all (λ x. ltb x c.public.info.blocks) bs ≡ true → allocated c.public b ≡ false
      → LeftAlone c (changes c (take_all reference bs)) b ⊎ (AllottedZeroed c.public.info.bytes (changes c (take_all reference bs)) b × (contains b bs ≡ true))
  unfolding take_all changes change change_public
  take_all_untouched [] c fits h free = inl (record { not_allocated = free; same_flags = refl; same = refl })
  take_all_untouched (x ∷ bs) c fits h free =
      let below : x < c.public.info.blocks = ltb-true _ _ (all_head (λ x. ltb x c.public.info.blocks) x bs h) in
      let next : Card = taken c reference x fits below in
      let next_fits : Fitted next = taken_fits c reference x fits below in
      let rest : all (λ x. ltb x c.public.info.blocks) bs ≡ true = all_tail (λ x. ltb x c.public.info.blocks) x bs h in
      ⊎_elim
      (λ (e : b ≡ x).
      inr (
        take_all_fresh bs next next_fits rest (subst (λ (n : ℕ). AllottedZeroed c.public.info.bytes next n) (sym e) (taken_fresh c reference x fits below)),
        subst (λ (n : ℕ). contains b (n ∷ bs) ≡ true) e (contains_here b bs),
      ))
      (λ (other : b ≡ x → ⊥).
      ⊎_elim
      (λ (left : LeftAlone next (changes next (take_all reference bs)) b).
      inl
      (record {
        not_allocated = left.not_allocated;
        same_flags = left.same_flags ∙ same_flags_law c reference x fits below b other;
        same = left.same ∙ taken_other c reference x fits below b other;
      }))
      (λ f. inr (f.0, contains_there b x bs f.1))
      (take_all_untouched bs next next_fits rest (still_free c reference x fits below b other ∙ free)))
      (same_or_other b x)

allotted_untouched : (call : Call) (c : Card) (reference : ℕ) (bs : List ℕ) (b : ℕ) → allocated c.public b ≡ false → SoundCard c → Takeable c.public bs
    → LeftOrZeroed call c (changes c (take_all reference bs)) b
allotted_untouched call c reference bs b unallocated s t =
    let below : all (λ x. ltb x c.public.info.blocks) bs ≡ true =
    all_map (λ x. free c.public x) (λ x. ltb x c.public.info.blocks) (λ x e. lt-ltb _ _ (free_below c.public x e)) bs t.free in
    ⊎_elim
    (λ left. inl left)
    (λ (f : AllottedZeroed c.public.info.bytes (changes c (take_all reference bs)) b × (contains b bs ≡ true)).
    inr
    (inl
    (record {
      was_free = contains_all (λ x. free c.public x) b bs f.1 t.free;
      is_allocated = f.0.is_allocated;
      holds_zeros = f.0.holds_zeros;
    })))
    (take_all_untouched reference b bs c (record { flags = s.shaped.has_lengths.flags; contents = s.shaped.has_lengths.contents }) below unallocated)

-- ---- SWEEP

sweep_untouched : (c : Card) (o : SweepOperands) (b : ℕ) → allocated c.public b ≡ false → SoundCard c
    → LeftOrZeroed (Sweep o) c (changes c (sweep_each (lowest_waiting c.public o.most))) b
unfolding is_sweep
sweep_untouched c o b unallocated s =
    let bs : List ℕ = lowest_waiting c.public o.most in
    let t : Sweepable c.public bs = lowest_sweepable c.public o.most in
    let d : Card = changes c (sweep_each bs) in
    let sized : d.public.info.blocks ≡ c.public.info.blocks = ap (λ (i : Info). i.blocks) (sweep_each_alone c bs).info in
    ⊎_elim
    (λ (e : contains b bs ≡ true).
    let waits : waiting c.public b ≡ true = contains_all (λ x. waiting c.public x) b bs e t.waiting in
    let below : b < d.public.info.blocks = subst (λ (n : ℕ). b < n) (sym sized) (waiting_below c.public b waits) in
    inr
    (inr
    (record {
      by_sweep = refl;
      was_waiting = waits;
      is_free = flag_free d.public b below (sweep_each_sweeps bs b s t e).flagged;
      holds_zeros = (sweep_each_sweeps bs b s t e).held;
    })))
    (λ (e : contains b bs ≡ false).
    let kept = sweep_each_spares bs b s t e in
    inl (record { not_allocated = same_state c.public d.public b sized kept.flagged ∙ unallocated; same_flags = kept.flagged; same = kept.held }))
    (not_cases (contains b bs))

-- ---- every call

call_untouched : (port : Port) (c : Card) (call : Call) (lent : Buffers) (b : ℕ) → allocated c.public b ≡ false → SoundCard c
    → NoneHolds (plan port c call lent).checks → LeftOrZeroed call c (changes c (plan port c call lent).steps) b
unfolding plan read_plan alloc_plan alloc_contig_plan create_plan renew_plan force_plan free_plan tick_plan audit_plan rent_plan sweep_plan changes change change_public change_contents allocated
call_untouched port c (Read o) lent b free s h = inl (opens_window_left port c c.public Reading o.block o.interval b free)
call_untouched port c (Write o) lent b free s h = inl (write_left port c _ o lent.input b free s h)
call_untouched port c (Alloc o) lent b free s h = allotted_untouched _ c o.reference _ b free s (picks_takeable c.public (wanted o.hint) o.count)
call_untouched port c (AllocContig o) lent b free s h = allotted_untouched _ c o.reference _ b free s (run_takeable c.public o.count (wanted o.hint))
call_untouched port c (Create o) lent b free s h = inl (create_left c o.source o.destination b (points_to c.public o.source o.destination) free)
call_untouched port c (Delete o) lent b free s h = inl (delete_left port c _ o b free h)
call_untouched port c (DeleteTree o) lent b free s h = inl (tree_left port c _ o b free)
call_untouched port c (KeyRead o) lent b free s h = inl (key_left port c _ Reading o b free h)
call_untouched port c (KeyWrite o) lent b free s h = inl (key_left port c _ Writing o b free h)
call_untouched port c (Renew o) lent b free s h = inl (record { not_allocated = free; same_flags = refl; same = refl })
call_untouched port c (Force o) lent b free s h = inl (record { not_allocated = free; same_flags = refl; same = refl })
call_untouched port c Free lent b free s h = inl (record { not_allocated = free; same_flags = refl; same = refl })
call_untouched port c (Tick o) lent b free s h = inl (record { not_allocated = free; same_flags = refl; same = refl })
call_untouched port c Audit lent b free s h = inl (record { not_allocated = free; same_flags = refl; same = refl })
call_untouched port c (Rent o) lent b free s h = inl (record { not_allocated = free; same_flags = refl; same = refl })
call_untouched port c (Sweep o) lent b free s h = sweep_untouched c o b free s

pub untouched : Untouched
unfolding perform
untouched port c q b free =
    judge_after (λ (d : Card). LeftOrZeroed q.call c d b) c q.lent (plan port c q.call q.lent) (inl (record { not_allocated = free; same_flags = refl; same = refl }))
    (call_untouched port c q.call q.lent b free)
