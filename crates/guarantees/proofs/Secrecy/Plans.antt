-- Each call of a host, where it is done: it shows and writes blocks of the closed set alone.
use Prim.Native.Nat.{ℕ, ◌≤◌, ◌<◌}
use mathlib.Core.Path.{◌≡◌, refl, sym, ap, ◌∙◌, subst}
use mathlib.Core.Logic.{inl, inr}
use mathlib.Core.Bool.{Bool, true, false, not, cond}
use mathlib.Core.List.{List, [], ◌∷◌}
use native.Mathlib.Omega.{arith}
use lib.Dec.{eqb}
use lib.ListN.{length, set}
use lib.Seq.{get_or-set_other}
use borrow.Author.Tests.{eqb-true, eqb-false, not-false, not-true, ne_eqb}
use Rattle.card.specs.Lists.{all}
use Rattle.laws.specs.ListsLaws.{or_right, or_false_left, all_head, all_tail, all_map, absurd_test}
use Rattle.card.specs.Pointers.{pointer, source, contains}
use Rattle.laws.specs.PointersLaws.{all_insert, source_pointer, contains_all}
use Rattle.card.specs.Card.{Public, Card, allocated, waiting, free, in_use, points_to, has_key, count, multiplicity}
use Rattle.card.specs.Soundness.{pointer_right}
use Rattle.card.specs.SoundCard.{SoundCard}
use Rattle.laws.specs.SoundnessLaws.{pointer_right_true, allocated_below, free_below, free_unallocated, waiting_below, waiting_unallocated}
use Rattle.card.specs.Access.{admits}
use Rattle.card.specs.Plan.{NoneHolds, set_window, set_block, set_key, take_block, free_block, sweep_block, add_pointer, raise_pointer, lower_pointer, drop_pointer, with_flags, change_public, Shown, nothing, block_part, numbers, Plan, Buffers}
use Rattle.card.specs.Calls.{window_after, opens_window, close_windows, mode_of, wanted, take_all, read_plan, write_plan, alloc_plan, alloc_contig_plan, create_plan, delete_plan, freed_with, free_each, delete_tree_plan, key_plan, renew_plan, force_plan, free_plan, tick_plan, audit_plan, rent_plan, lowest_waiting, sweep_each, sweep_plan}
use Rattle.card.specs.Session.{key_call, plan, traits}
use Rattle.card.specs.Reach.{CallPresents, shows, presents, some_shows}
use Rattle.card.specs.declared.Port.TheVariants.{Host}
use Rattle.card.specs.declared.Mode.{Mode}
use Rattle.card.specs.declared.Mode.TheVariants.{Reading, Writing}
use Rattle.card.specs.declared.Credential.TheVariants.{Key as KeyCredential}
use Rattle.card.specs.declared.TransferOperands.{TransferOperands}
use Rattle.card.specs.declared.AllocOperands.{AllocOperands}
use Rattle.card.specs.declared.CreateOperands.{CreateOperands}
use Rattle.card.specs.declared.DeleteOperands.{DeleteOperands}
use Rattle.card.specs.declared.KeyOperands.{KeyOperands}
use Rattle.card.specs.declared.RenewOperands.{RenewOperands}
use Rattle.card.specs.declared.ForceOperands.{ForceOperands}
use Rattle.card.specs.declared.TickOperands.{TickOperands}
use Rattle.card.specs.declared.RentOperands.{RentOperands}
use Rattle.card.specs.declared.SweepOperands.{SweepOperands}
use Rattle.card.specs.declared.Call.{Call}
use Rattle.card.specs.declared.Call.TheVariants.{Read, Write, Alloc, AllocContig, Create, Delete, DeleteTree, KeyRead, KeyWrite, Renew, Force, Free, Tick, Audit, Rent, Sweep}
use Rattle.laws.specs.NearestLaws.{contains_here, contains_there}
use Rattle.laws.specs.TreeLaws.{ordinary_below, orphans_ordinary}
use Rattle.laws.specs.Takeable.{Without, Distinct, none, more, Takeable}
use Rattle.laws.specs.PicksLaws.{picks_takeable}
use Rattle.laws.specs.RunsLaws.{run_takeable}
use Rattle.laws.specs.SweepLaws.{lowest_sweepable}
use Rattle.laws.proofs.Steps.{unallocated_set}
use Rattle.guarantees.proofs.Secrecy.Closed.{Closed, Regular, Idle, Grown, in_use_added, used_added}
use Rattle.guarantees.proofs.Secrecy.StepsAlike.{AllowedAll}
use Rattle.guarantees.proofs.Secrecy.Opened.{AllPresented, opened_within}

-- A sound card has the lengths that every change keeps.
pub sound_regular : {c : Card} → SoundCard c → Regular c
sound_regular s = record {
  blocks_high = s.shaped.in_ranges.blocks_high;
  flags = s.shaped.has_lengths.flags;
  contents = s.shaped.has_lengths.contents;
  used_high = s.shaped.used_high;
}

-- What is shown is a block of the set, or no block.
abbrev pub ShownIn : (ℕ → Type 0) → Shown → Type 0
ShownIn G nothing = Unit {0}
ShownIn G (block_part b) = G b
ShownIn G (numbers ns) = Unit {0}

-- What a done call shows and changes is allowed.
pub record Safe (G : ℕ → Type 0) (c : Card) (done : Plan) : Type 0 where
  pub shown_in : ShownIn G done.shown
  pub allowed : AllowedAll G c.public done.steps

-- A host's READ or WRITE opens a window of the block that it opened.
window_allowed : (G : ℕ → Type 0) (p q : Public) (mode : Mode) (b interval : ℕ) → G b → AllowedAll G q (opens_window Host p mode b interval)
unfolding opens_window
window_allowed G p q mode b interval g = go (eqb interval 0)
  where
    go : (t : Bool) → AllowedAll G q (cond t [] (set_window mode b (window_after p mode b interval) ∷ []))
    go true = tt
    go false = (inl g, tt)

-- ---- ALLOC takes blocks that no pointer leaves

-- No pointer in use starts at the block.
abbrev Unpointing : Public → ℕ → Type 0
Unpointing p b = all (λ w. not (eqb (source w) b)) (in_use p) ≡ true

-- A block that can be taken, and pointed to by the reference.
record Pickable (p : Public) (reference b : ℕ) : Type 0 where
  below : b < p.info.blocks
  unallocated : allocated p b ≡ false
  unpointing : Unpointing p b
  other : reference ≡ b → ⊥

-- Blocks that can be taken one after the other.
abbrev Ready : Public → ℕ → List ℕ → Type 0
Ready p reference [] = Unit {0}
Ready p reference (b ∷ bs) = Pickable p reference b × Without b bs × Ready p reference bs

-- The public part after one block is taken and pointed to.
abbrev taken_one : Public → ℕ → ℕ → Public
taken_one p reference b = change_public (add_pointer reference b) (change_public (take_block b) p)

module _ (p : Public) (reference b : ℕ) (used : p.info.used ≤ length p.pointers) (low : b < 65536) where
  free_next : (x : ℕ) → (x ≡ b → ⊥) → Pickable p reference x → Pickable (taken_one p reference b) reference x
  unfolding change_public allocated
  free_next x apart f = record {
    below = f.below;
    unallocated = rw (get_or-set_other p.flags b x 1 0 apart) f.unallocated;
    unpointing =
        rw (in_use_added (change_public (take_block b) p) reference b used)
        (all_insert (λ w. not (eqb (source w) x)) (pointer reference b) (in_use p)
        (ap not (ne_eqb (source (pointer reference b)) x (λ e. f.other (sym (source_pointer reference b low) ∙ e))))
        f.unpointing);
    other = f.other;
  }

  -- The other blocks are still ready.
  ready_next : (bs : List ℕ) → Without b bs → Ready p reference bs → Ready (taken_one p reference b) reference bs
  ready_next [] w r = tt
  ready_next (x ∷ xs) w r =
      (free_next x (eqb-false x b (not-true _ (all_head (λ y. not (eqb y b)) x xs w))) r.0, r.1, ready_next xs (all_tail (λ y. not (eqb y b)) x xs w) r.2)

take_all_allowed : (G : ℕ → Type 0) (p : Public) (reference : ℕ) (bs : List ℕ) → p.info.blocks ≤ 4096 → p.info.used ≤ length p.pointers
    → Ready p reference bs → AllowedAll G p (take_all reference bs)
unfolding take_all change_public
take_all_allowed G p reference [] high used r = tt
take_all_allowed G p reference (b ∷ bs) high used r =
    let f = r.0 in (
      (f.below, f.unallocated, f.unpointing),
      (
        (inr refl, f.below),
        take_all_allowed _ (taken_one p reference b) reference bs high (used_added (change_public (take_block b) p) reference b used)
            (ready_next p reference b used (omega (arith, f.below)) bs r.1 r.2),
      ),
    )

-- On a sound card no pointer starts at an unallocated block.
sound_unpointing : {c : Card} → SoundCard c → (b : ℕ) → allocated c.public b ≡ false → Unpointing c.public b
sound_unpointing {c} s b a =
    all_map (λ w. pointer_right c.public w) (λ w. not (eqb (source w) b))
    (λ w h.
    ap not
    (ne_eqb (source w) b
    (λ e. absurd_test (pointer_right_true c.public w h).source_allocated (subst (λ (n : ℕ). allocated c.public n ≡ false) (sym e) a))))
    (in_use c.public) s.is_sound.pointers_right

ready : {c : Card} → SoundCard c → (reference : ℕ) → allocated c.public reference ≡ true → (bs : List ℕ)
    → all (λ b. free c.public b) bs ≡ true → Distinct bs → Ready c.public reference bs
ready s reference a [] u none = tt
ready {c} s reference a (b ∷ bs) u (more w d) =
    let is_free : free c.public b ≡ true = all_head (λ x. free c.public x) b bs u in
    let unallocated : allocated c.public b ≡ false = free_unallocated c.public b is_free in (
      record {
        below = free_below c.public b is_free;
        unallocated = unallocated;
        unpointing = sound_unpointing s b unallocated;
        other = λ e. absurd_test a (subst (λ (n : ℕ). allocated c.public n ≡ false) (sym e) unallocated);
      },
      w,
      ready s reference a bs (all_tail (λ x. free c.public x) b bs u) d,
    )

-- ---- SWEEP sweeps blocks that no pointer leaves

sweep_each_allowed : (G : ℕ → Type 0) (p : Public) (bs : List ℕ) → ((b : ℕ) → contains b bs ≡ true → Idle p b) → AllowedAll G p (sweep_each bs)
unfolding sweep_each change_public
sweep_each_allowed G p [] idle = tt
sweep_each_allowed G p (b ∷ bs) idle =
    (idle b (contains_here b bs), sweep_each_allowed _ (change_public (sweep_block b) p) bs (λ x h. still_idle p b x (idle x (contains_there x b bs h))))
  where
    still_idle : (p : Public) (b x : ℕ) → Idle p x → Idle (with_flags p (set p.flags b 0)) x
    still_idle p b x i = (i.0, unallocated_set p b x i.1, i.2)

-- ---- DELETE_TREE frees blocks below N

freed_below : (p : Public) (a d b : ℕ) → contains b (freed_with p a d) ≡ true → b < p.info.blocks
unfolding freed_with change_public
freed_below p a d b h = ordinary_below (change_public (drop_pointer a d) p) b (orphans_ordinary (change_public (drop_pointer a d) p) b h)

free_each_allowed : (G : ℕ → Type 0) (p : Public) (bs : List ℕ) → ((b : ℕ) → contains b bs ≡ true → b < p.info.blocks) → AllowedAll G p (free_each bs)
unfolding free_each change_public
free_each_allowed G p [] low = tt
free_each_allowed G p (b ∷ bs) low = (low b (contains_here b bs), free_each_allowed _ (change_public (free_block b) p) bs (λ x h. low x (contains_there x b bs h)))

module _ (K : ℕ → ℕ → Bool) (G : ℕ → Type 0) (c : Card) (s : SoundCard c) (closed : Closed K G c) where
  -- A block that is allocated and opened to a presented credential is in the set.
  pub within : (mode : Mode) (b : ℕ) (credential : _) → not (allocated c.public b) ≡ false → not (admits Host c mode b credential) ≡ false
      → AllPresented K credential → G b
  unfolding admits
  within mode b credential a o k = opened_within K G c closed b (not-false _ a) mode credential (not-false _ o) k

  below : (b : ℕ) → not (allocated c.public b) ≡ false → b < c.public.info.blocks
  below b a = allocated_below c.public b (not-false _ a)

  safe_read : (o : TransferOperands) (lent : Buffers) → CallPresents K (Read o) → NoneHolds (plan Host c (Read o) lent).checks → Safe G c (plan Host c (Read o) lent)
  unfolding plan read_plan presents some_shows traits
  safe_read o lent k n =
      let g = within Reading o.block o.credential n.1.0 n.1.1.0 k in
      record { shown_in = g; allowed = window_allowed G c.public c.public Reading o.block o.interval g }

  safe_write : (o : TransferOperands) (lent : Buffers) → CallPresents K (Write o) → NoneHolds (plan Host c (Write o) lent).checks → Safe G c (plan Host c (Write o) lent)
  unfolding plan write_plan presents some_shows change_public traits
  safe_write o lent k n =
      let g = within Writing o.block o.credential n.1.0 n.1.1.0 k in
      record {
        shown_in = tt;
        allowed =
            ((g, below o.block n.1.0, eqb-true _ _ (not-false _ (or_false_left _ _ n.0))), window_allowed (Grown G (set_block o.block lent.input)) c.public c.public Writing o.block o.interval (inl g));
      }

  -- Blocks that can be taken may be taken and pointed to.
  allotted : (reference : ℕ) → not (allocated c.public reference) ≡ false → {bs : List ℕ} → Takeable c.public bs → AllowedAll G c.public (take_all reference bs)
  allotted reference a {bs} t =
      take_all_allowed G c.public reference bs s.shaped.in_ranges.blocks_high s.shaped.used_high
      (ready s reference (not-false _ a) bs t.free t.distinct)

  safe_alloc : (o : AllocOperands) (lent : Buffers) → NoneHolds (plan Host c (Alloc o) lent).checks → Safe G c (plan Host c (Alloc o) lent)
  unfolding plan alloc_plan
  safe_alloc o lent n = record { shown_in = tt; allowed = allotted o.reference n.1.0 (picks_takeable c.public (wanted o.hint) o.count) }

  safe_contig : (o : AllocOperands) (lent : Buffers) → NoneHolds (plan Host c (AllocContig o) lent).checks → Safe G c (plan Host c (AllocContig o) lent)
  unfolding plan alloc_contig_plan
  safe_contig o lent n = record { shown_in = tt; allowed = allotted o.reference n.1.0 (run_takeable c.public o.count (wanted o.hint)) }

  safe_create : (o : CreateOperands) (lent : Buffers) → CallPresents K (Create o) → NoneHolds (plan Host c (Create o) lent).checks → Safe G c (plan Host c (Create o) lent)
  unfolding plan create_plan presents some_shows traits
  safe_create o lent k n = record {
    shown_in = tt;
    allowed = go (points_to c.public o.source o.destination);
  }
    where
      go : (t : Bool) → AllowedAll G c.public (cond t (raise_pointer o.source o.destination) (add_pointer o.source o.destination) ∷ [])
      go true = (tt, tt)
      go false =
          ((within Writing o.destination o.second n.1.0 n.1.1.1.1.0 (λ high low h. k high low (or_right (shows o.credential high low) _ h)), below o.destination n.1.0), tt)

  safe_delete : (o : DeleteOperands) (lent : Buffers) → NoneHolds (plan Host c (Delete o) lent).checks → Safe G c (plan Host c (Delete o) lent)
  unfolding plan delete_plan points_to change_public
  safe_delete o lent n = record { shown_in = tt; allowed = go (eqb (multiplicity c.public o.source o.destination) 1) (eqb (count c.public o.destination) 1) }
    where
      there : points_to c.public o.source o.destination ≡ true
      there = not-false _ n.1.1.1.1.0

      go : (once last : Bool)
          → AllowedAll G c.public (cond once (drop_pointer o.source o.destination) (lower_pointer o.source o.destination) ∷ cond last (free_block o.destination ∷ []) [])
      go true true = (there, (below o.destination n.1.0, tt))
      go true false = (there, tt)
      go false true = (tt, (below o.destination n.1.0, tt))
      go false false = (tt, tt)

  safe_delete_tree : (o : DeleteOperands) (lent : Buffers) → NoneHolds (plan Host c (DeleteTree o) lent).checks → Safe G c (plan Host c (DeleteTree o) lent)
  unfolding plan delete_tree_plan points_to change_public
  safe_delete_tree o lent n = record {
    shown_in = tt;
    allowed = (
      not-false _ n.1.1.1.1.0,
      (
        tt,
        free_each_allowed _ _ (freed_with c.public o.source o.destination) (freed_below c.public o.source o.destination),
      ),
    );
  }

  closing_allowed : (H : ℕ → Type 0) (p : Public) (b : ℕ) → AllowedAll H p (close_windows b)
  closing_allowed H p b = (inr (omega arith), (inr (omega arith), tt))

  key_allowed : (mode : Mode) (o : KeyOperands) → G o.block → AllowedAll G c.public (set_key mode o.block o.key ∷ close_windows o.block)
  key_allowed mode o g = (g, closing_allowed (Grown G (set_key mode o.block o.key)) _ o.block)

  safe_key : (mode : Mode) (o : KeyOperands) (lent : Buffers) → CallPresents K (key_call mode o) → NoneHolds (plan Host c (key_call mode o) lent).checks
      → Safe G c (plan Host c (key_call mode o) lent)
  unfolding plan key_plan presents some_shows traits
  safe_key Reading o lent k n = record { shown_in = tt; allowed = key_allowed Reading o (within Writing o.block o.credential n.0 n.1.1.0 k) }
  safe_key Writing o lent k n = record { shown_in = tt; allowed = key_allowed Writing o (within Writing o.block o.credential n.0 n.1.1.0 k) }

  safe_renew : (o : RenewOperands) (lent : Buffers) → CallPresents K (Renew o) → NoneHolds (plan Host c (Renew o) lent).checks → Safe G c (plan Host c (Renew o) lent)
  unfolding plan renew_plan presents some_shows traits
  safe_renew o lent k n =
      let opened = not-false _ (Rattle.laws.specs.ListsLaws.or_false_right (not (has_key c.public (mode_of o.mode) o.block)) _ n.1.1.0) in
      record {
        shown_in = tt;
        allowed = (inl (opened_within K G c closed o.block (not-false _ n.1.0) (mode_of o.mode) (KeyCredential o.high o.low) opened k), tt);
      }

  safe_force : (o : ForceOperands) (lent : Buffers) → Safe G c (plan Host c (Force o) lent)
  unfolding plan force_plan
  safe_force o lent = record { shown_in = tt; allowed = closing_allowed G c.public o.block }

  safe_free : (lent : Buffers) → Safe G c (plan Host c Free lent)
  unfolding plan free_plan
  safe_free lent = record { shown_in = tt; allowed = tt }

  safe_tick : (o : TickOperands) (lent : Buffers) → Safe G c (plan Host c (Tick o) lent)
  unfolding plan tick_plan
  safe_tick o lent = record { shown_in = tt; allowed = (omega arith, tt) }

  safe_audit : (lent : Buffers) → Safe G c (plan Host c Audit lent)
  unfolding plan audit_plan
  safe_audit lent = record { shown_in = tt; allowed = tt }

  safe_rent : (o : RentOperands) (lent : Buffers) → Safe G c (plan Host c (Rent o) lent)
  unfolding plan rent_plan
  safe_rent o lent = record { shown_in = tt; allowed = tt }

  safe_sweep : (o : SweepOperands) (lent : Buffers) → Safe G c (plan Host c (Sweep o) lent)
  unfolding plan sweep_plan
  safe_sweep o lent =
      let bs : List ℕ = lowest_waiting c.public o.most in
      record {
        shown_in = tt;
        allowed = sweep_each_allowed G c.public bs
            (λ b h.
            let waits : waiting c.public b ≡ true = contains_all (λ x. waiting c.public x) b bs h (lowest_sweepable c.public o.most).waiting in
            let unallocated : allocated c.public b ≡ false = waiting_unallocated c.public b waits in
            (waiting_below c.public b waits, unallocated, sound_unpointing s b unallocated));
      }

  -- A host's call that no check refuses is safe.
  pub safe : (call : Call) (lent : Buffers) → CallPresents K call → NoneHolds (plan Host c call lent).checks → Safe G c (plan Host c call lent)
  safe (Read o) lent k n = safe_read o lent k n
  safe (Write o) lent k n = safe_write o lent k n
  safe (Alloc o) lent k n = safe_alloc o lent n
  safe (AllocContig o) lent k n = safe_contig o lent n
  safe (Create o) lent k n = safe_create o lent k n
  safe (Delete o) lent k n = safe_delete o lent n
  safe (DeleteTree o) lent k n = safe_delete_tree o lent n
  safe (KeyRead o) lent k n = safe_key Reading o lent k n
  safe (KeyWrite o) lent k n = safe_key Writing o lent k n
  safe (Renew o) lent k n = safe_renew o lent k n
  safe (Force o) lent k n = safe_force o lent
  safe Free lent k n = safe_free lent
  safe (Tick o) lent k n = safe_tick o lent
  safe Audit lent k n = safe_audit lent
  safe (Rent o) lent k n = safe_rent o lent
  safe (Sweep o) lent k n = safe_sweep o lent
