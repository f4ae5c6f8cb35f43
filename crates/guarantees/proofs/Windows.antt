-- What moves the end of a window. A host's READ, WRITE or RENEW of the block, done by an interval that is not 0, sets it: by the request 2026-04 to the later
-- of its present end and T + interval. FORCE, a key change and freeing set it to 0, and so shorten it. Nothing else moves it.
use Prim.Native.Nat.{ℕ, ◌+◌, ◌≤◌, ◌<◌, max}
use mathlib.Core.Path.{◌≡◌, refl, sym, ap, ap₂, ◌∙◌, subst}
use mathlib.Core.Logic.{◌⊎◌, inl, inr, ⊎_elim}
use mathlib.Core.Bool.{Bool, true, false, ◌&&◌, cond}
use mathlib.Core.List.{List, [], ◌∷◌}
use native.Mathlib.Nat.{le_refl, le-max_left}
use native.Mathlib.Omega.{arith}
use lib.Dec.{eqb, ltb}
use lib.ListN.{length, get_or, set}
use lib.Seq.{get_or-set_same}
use borrow.Author.Tests.{eq-eqb, ne_eqb, not-false}
use Rattle.laws.specs.ListsLaws.{and_false_right, or_false_left, or_false_right, absurd_test, not_cases, same_or_other}
use Rattle.card.specs.Pointers.{contains}
use Rattle.card.specs.Card.{Public, Card, allocated_flag, allocated, free_blocks, longest_interval, window_at, window_end, count, multiplicity, points_to}
use Rattle.card.specs.SoundCard.{SoundCard}
use Rattle.laws.specs.SoundnessLaws.{allocated_below}
use Rattle.card.specs.Plan.{NoneHolds, freed_flags, set_window, set_block, take_block, free_block, sweep_block, add_pointer, raise_pointer, lower_pointer, drop_pointer, change_public, change, changes, Buffers, Result, done, settle}
use Rattle.laws.specs.ChangesLaws.{get_d_set_raised, get_d_set_changed, window_at_block, window_at_mode, window_at_within}
use Rattle.card.specs.Calls.{is_done, window_after, opens_window, wanted, picks, take_all, freed_with, mode_of, read_plan, write_plan, alloc_plan, run_starts, nearest_run, alloc_contig_plan, create_plan, delete_plan, delete_tree_plan, key_plan, renew_plan, force_plan, free_plan, tick_plan, audit_plan, rent_plan, lowest_waiting, sweep_each, sweep_plan}
use Rattle.card.specs.Session.{plan, port_of, perform}
use Rattle.card.specs.declared.Port.{Port}
use Rattle.card.specs.declared.Port.TheVariants.{Host, Service}
use Rattle.card.specs.declared.Mode.{Mode}
use Rattle.card.specs.declared.Mode.TheVariants.{Reading, Writing}
use Rattle.card.specs.Answers.{Done}
use Rattle.card.specs.declared.Call.{Call}
use Rattle.card.specs.declared.Call.TheVariants.{Read, Write, Alloc, AllocContig, Create, Delete, DeleteTree, KeyRead, KeyWrite, Renew, Force, Free, Tick, Audit, Rent, Sweep}
use Rattle.laws.proofs.Steps.{unallocated_flag}
use Rattle.laws.proofs.Severing.{tree_deleted, freed_allocated, deleted_frees, deleted_spares, deleted_blocks, deleted_sound}
use Rattle.laws.proofs.KeepsSound.{not_missing}
use Rattle.laws.proofs.PointerSteps.{closed, closed_either, closed_other}
use Rattle.laws.proofs.Judged.{judge_cases, judge_after}
use Rattle.card.specs.Statements.Windows.{SetsWindow, by_read, by_write, by_renew, SetBy, Shortens, by_force, by_key_read, by_key_write, by_freeing, IntervalZeroKept, WindowLater, WindowSetBy, WindowsKept}

-- ---- the table of windows that a done call leaves

-- As it was; or with one window set; or with both windows of a block closed; or with some windows closed, each for a reason of its own.
data WindowsLeft (port : Port) (c d : Card) (call : Call) : Type 0 where
  same : d.public.windows ≡ c.public.windows → WindowsLeft port c d call
  one_set : {m : Mode} {a interval : ℕ} → port_of port call ≡ Host → SetsWindow call m a interval
      → d.public.windows ≡ set c.public.windows (window_at m a) (window_after c.public m a interval) → WindowsLeft port c d call
  both_closed : (a : ℕ) → Shortens c.public d.public a call → d.public.windows ≡ closed c.public.windows a → WindowsLeft port c d call
  some_closed : ((m : Mode) (b : ℕ) → (window_end d.public m b ≡ window_end c.public m b) ⊎ (Shortens c.public d.public b call × (window_end d.public m b ≡ 0))) → WindowsLeft port c d call

-- What a READ or a WRITE does, at the host port alone.
opens_left : (port : Port) (c : Card) (p : Public) (mode : Mode) (a interval : ℕ)
    → ((changes c (opens_window port p mode a interval)).public.windows ≡ c.public.windows)
    ⊎ ((port ≡ Host) × ((changes c (opens_window port p mode a interval)).public.windows ≡ set c.public.windows (window_at mode a) (window_after p mode a interval)))
unfolding opens_window changes change change_public
opens_left Host c p mode a interval = go (eqb interval 0)
  where
    go : (t : Bool) → ((changes c (cond t [] (set_window mode a (window_after p mode a interval) ∷ []))).public.windows ≡ c.public.windows)
        ⊎ ((Host ≡ Host) × ((changes c (cond t [] (set_window mode a (window_after p mode a interval) ∷ []))).public.windows ≡ set c.public.windows (window_at mode a) (window_after p mode a interval)))
    go true = inl refl
    go false = inr (refl, refl)
opens_left Service c p mode a interval = inl refl

takes_left : (c : Card) (reference : ℕ) (bs : List ℕ) → (changes c (take_all reference bs)).public.windows ≡ c.public.windows
unfolding take_all changes change change_public
takes_left c reference [] = refl
takes_left c reference (b ∷ bs) = takes_left (change (change c (take_block b)) (add_pointer reference b)) reference bs

sweeps_left : (c : Card) (bs : List ℕ) → (changes c (sweep_each bs)).public.windows ≡ c.public.windows
unfolding sweep_each changes change change_public
sweeps_left c [] = refl
sweeps_left c (b ∷ bs) = sweeps_left (change c (sweep_block b)) bs

-- A block that is freed is not allocated any more.
freed : (c : Card) (flags : List ℕ) (b : ℕ) → b < length flags → ltb b c.public.info.blocks && allocated_flag (get_or (set flags b freed_flags) b 0) ≡ false
freed c flags b l = and_false_right (ltb b c.public.info.blocks) _ (ap allocated_flag (get_or-set_same flags b freed_flags 0 l))

-- A block that a DELETE_TREE frees is unallocated then, so its windows are closed; another's stay.
tree_closed : (c : Card) (a b : ℕ) → SoundCard c → allocated c.public b ≡ true → points_to c.public a b ≡ true → (call : Call) (m : Mode) (x : ℕ)
    → (window_end (tree_deleted c a b).public m x ≡ window_end c.public m x)
    ⊎ (Shortens c.public (tree_deleted c a b).public x call × (window_end (tree_deleted c a b).public m x ≡ 0))
tree_closed c a b s held there call m x =
    ⊎_elim
    (λ (e : contains x (freed_with c.public a b) ≡ true).
    let was : allocated c.public x ≡ true = freed_allocated c a b x e in
    let gone : allocated (tree_deleted c a b).public x ≡ false = deleted_frees c a b x s.shaped.has_lengths.flags e in
    let below : x < (tree_deleted c a b).public.info.blocks = subst (λ (n : ℕ). x < n) (sym (deleted_blocks c a b)) (allocated_below c.public x was) in
    inr (by_freeing was gone, ((deleted_sound c a b s held there).is_sound.unallocated x below (unallocated_flag (tree_deleted c a b).public x below gone)).window_zero m))
    (λ (e : contains x (freed_with c.public a b) ≡ false). inl ((deleted_spares c a b x e).window m))
    (not_cases (contains x (freed_with c.public a b)))

plan_left : (port : Port) (c : Card) (call : Call) (lent : Buffers) → SoundCard c → NoneHolds (plan port c call lent).checks
    → WindowsLeft port c (changes c (plan port c call lent).steps) call
unfolding plan port_of read_plan write_plan alloc_plan alloc_contig_plan create_plan delete_plan delete_tree_plan key_plan renew_plan force_plan free_plan tick_plan audit_plan rent_plan sweep_plan changes change change_public allocated
plan_left port c (Read o) lent s h =
    ⊎_elim (λ e. same e) (λ r. one_set r.0 (by_read o) r.1) (opens_left port c c.public Reading o.block o.interval)
plan_left port c (Write o) lent s h =
    ⊎_elim (λ e. same e) (λ r. one_set r.0 (by_write o) r.1)
    (opens_left port (change c (set_block o.block lent.input)) c.public Writing o.block o.interval)
plan_left port c (Alloc o) lent s h = same (takes_left c o.reference (picks (wanted o.hint) o.count (free_blocks c.public)))
plan_left port c (AllocContig o) lent s h =
    same (takes_left c o.reference (nearest_run (wanted o.hint) o.count (run_starts c.public o.count)))
plan_left port c (Create o) lent s h = go (points_to c.public o.source o.destination)
  where
    go : (t : Bool) → WindowsLeft port c (change c (cond t (raise_pointer o.source o.destination) (add_pointer o.source o.destination))) (Create o)
    go true = same refl
    go false = same refl
plan_left port c (Delete o) lent s h = go (eqb (multiplicity c.public o.source o.destination) 1) (eqb (count c.public o.destination) 1)
  where
    held : allocated c.public o.destination ≡ true
    held = not_missing c.public o.destination h.1.0

    gone : ltb o.destination c.public.info.blocks && allocated_flag (get_or (set c.public.flags o.destination freed_flags) o.destination 0) ≡ false
    gone = freed c c.public.flags o.destination (omega (arith, allocated_below c.public o.destination held, s.shaped.has_lengths.flags))

    go : (once last : Bool)
        → WindowsLeft port c (changes (change c (cond once (drop_pointer o.source o.destination) (lower_pointer o.source o.destination))) (cond last (free_block o.destination ∷ []) [])) (Delete o)
    go true true = both_closed o.destination (by_freeing held gone) refl
    go true false = same refl
    go false true = both_closed o.destination (by_freeing held gone) refl
    go false false = same refl
plan_left port c (DeleteTree o) lent s h =
    some_closed
    (tree_closed c o.source o.destination s (not_missing c.public o.destination h.1.0) (not-false _ h.1.1.1.1.0) (DeleteTree o))
plan_left port c (KeyRead o) lent s h = both_closed o.block (by_key_read o refl) refl
plan_left port c (KeyWrite o) lent s h = both_closed o.block (by_key_write o refl) refl
plan_left port c (Renew o) lent s h = one_set refl (by_renew o) refl
plan_left port c (Force o) lent s h = both_closed o.block (by_force o refl) refl
plan_left port c Free lent s h = same refl
plan_left port c (Tick o) lent s h = same refl
plan_left port c Audit lent s h = same refl
plan_left port c (Rent o) lent s h = same refl
plan_left port c (Sweep o) lent s h = same (sweeps_left c (lowest_waiting c.public o.most))

-- ---- what sets a window

sets_done : (port : Port) (c : Card) (lent : Buffers) {call : Call} {m : Mode} {a interval : ℕ} → SetsWindow call m a interval → (plan port c call lent).answer ≡ Done
unfolding plan read_plan write_plan renew_plan
sets_done port c lent (by_read o) = refl
sets_done port c lent (by_write o) = refl
sets_done port c lent (by_renew o) = refl

left_set : (port : Port) (c : Card) (call : Call) (lent : Buffers) (m : Mode) (b : ℕ) → WindowsLeft port c (changes c (plan port c call lent).steps) call
    → (window_end (changes c (plan port c call lent).steps).public m b ≡ window_end c.public m b → ⊥)
    → (window_end (changes c (plan port c call lent).steps).public m b ≡ 0 → ⊥)
    → SetBy port c call (done c lent (plan port c call lent)) m b
left_set port c call lent m b (same e) changed notZero = absurd (changed (ap (λ (ws : List ℕ). get_or ws (window_at m b) 0) e))
left_set port c call lent m b (one_set {m = n} {a = a} {interval = interval} host sets e) changed notZero =
    let end = window_after c.public n a interval in
    let placed : window_end (changes c (plan port c call lent).steps).public m b ≡ get_or (set c.public.windows (window_at n a) end) (window_at m b) 0 =
    ap (λ (ws : List ℕ). get_or ws (window_at m b) 0) e in
    let r = get_d_set_changed c.public.windows (window_at n a) end (window_at m b) (λ k. changed (placed ∙ k)) in
    let same_mode : n ≡ m = window_at_mode n m a b r.0 in
    let same_block : a ≡ b = window_at_block n m a b r.0 in
    record {
      at_host = host;
      answer = sets_done port c lent sets;
      interval = interval;
      sets = subst (λ (k : Mode). SetsWindow call k b interval) same_mode (subst (λ (x : ℕ). SetsWindow call n x interval) same_block sets);
      end = placed ∙ r.1 ∙ ap₂ (λ (k : Mode) (x : ℕ). window_after c.public k x interval) same_mode same_block;
    }
left_set port c call lent m b (both_closed a why e) changed notZero =
    absurd
    (⊎_elim changed notZero
    (rw e (closed_either (λ (n : ℕ). (n ≡ window_end c.public m b) ⊎ (n ≡ 0)) c.public.windows a (window_at m b) (inr refl) (inl refl))))
left_set port c call lent m b (some_closed f) changed notZero = absurd (⊎_elim changed (λ e. notZero e.1) (f m b))

pub window_set_by : WindowSetBy
unfolding perform settle
window_set_by port c q m b =
    judge_cases
    (λ (r : Result). (window_end r.after.public m b ≡ window_end c.public m b → ⊥) → (window_end r.after.public m b ≡ 0 → ⊥) → SetBy port c q.call r m b)
    c
    q.lent
    (plan port c q.call q.lent)
    (λ r changed notZero. absurd (changed refl))
    (λ s h. left_set port c q.call q.lent m b (plan_left port c q.call q.lent s h))

-- ---- 2026-04: the later end

within : (c : Card) (mode : Mode) (b : ℕ) → SoundCard c → allocated c.public b ≡ true → window_at mode b < length c.public.windows
within c mode b s held = window_at_within mode b _ (omega (arith, allocated_below c.public b held, s.shaped.has_lengths.windows))

opens_later : (port : Port) (c : Card) (p : Public) (mode : Mode) (a interval : ℕ) → port ≡ Host → (interval ≡ 0 → ⊥) → window_at mode a < length c.public.windows
    → window_end (changes c (opens_window port p mode a interval)).public mode a ≡ window_after p mode a interval
unfolding opens_window changes change change_public
opens_later port c p mode a interval host nonzero l =
    rw (host, ne_eqb interval 0 nonzero) (get_or-set_same c.public.windows (window_at mode a) (window_after p mode a interval) 0 l)

plan_later : (port : Port) (c : Card) (lent : Buffers) {call : Call} {m : Mode} {b interval : ℕ} → SetsWindow call m b interval → port_of port call ≡ Host
    → (interval ≡ 0 → ⊥)
    → SoundCard c
    → NoneHolds (plan port c call lent).checks
    → window_end (changes c (plan port c call lent).steps).public m b ≡ window_after c.public m b interval
unfolding plan port_of read_plan write_plan renew_plan changes change change_public
plan_later port c lent (by_read o) host nonzero s h =
    opens_later port c c.public Reading o.block o.interval host nonzero (within c Reading o.block s (not_missing _ _ h.1.0))
plan_later port c lent (by_write o) host nonzero s h =
    opens_later port (change c (set_block o.block lent.input)) c.public Writing o.block o.interval host nonzero
    (within c Writing o.block s (not_missing _ _ h.1.0))
plan_later port c lent (by_renew o) host nonzero s h =
    get_or-set_same c.public.windows (window_at (mode_of o.mode) o.block) _ 0 (within c (mode_of o.mode) o.block s (not_missing _ _ h.1.0))

pub window_later : WindowLater
unfolding perform settle window_after
window_later port c q m b interval sets host nonzero =
    judge_cases
    (λ (r : Result). is_done r.answer ≡ true → window_end r.after.public m b ≡ max (window_end c.public m b) (c.public.info.time + interval))
    c
    q.lent
    (plan port c q.call q.lent)
    (λ r d. absurd_test d refl)
    (λ s h d. plan_later port c q.lent sets host nonzero s h)

-- ---- 2026-04: an interval of 0

opens_none : (port : Port) (c : Card) (p : Public) (mode : Mode) (a interval : ℕ) → interval ≡ 0
    → (changes c (opens_window port p mode a interval)).public.windows ≡ c.public.windows
unfolding opens_window changes
opens_none Host c p mode a interval z = rw (eq-eqb interval 0 z) refl
opens_none Service c p mode a interval z = refl

plan_none : (port : Port) (c : Card) (lent : Buffers) {call : Call} {m : Mode} {b interval : ℕ} → SetsWindow call m b interval → interval ≡ 0
    → NoneHolds (plan port c call lent).checks
    → (changes c (plan port c call lent).steps).public.windows ≡ c.public.windows
unfolding plan read_plan write_plan renew_plan changes change change_public
plan_none port c lent (by_read o) z h = opens_none port c c.public Reading o.block o.interval z
plan_none port c lent (by_write o) z h = opens_none port (change c (set_block o.block lent.input)) c.public Writing o.block o.interval z
plan_none port c lent (by_renew o) z h =
    absurd_test (eq-eqb o.interval 0 z) (or_false_right (ltb 1 o.mode) _ (or_false_left _ (ltb longest_interval o.interval) h.0))

pub interval_zero_kept : IntervalZeroKept
unfolding perform
interval_zero_kept port c q m b interval sets z =
    judge_after (λ (d : Card). d.public.windows ≡ c.public.windows) c q.lent (plan port c q.call q.lent) refl (λ s h. plan_none port c q.lent sets z h)

-- ---- 2026-04: what shortens a window

left_kept : (port : Port) (c d : Card) (call : Call) (m : Mode) (b : ℕ) → WindowsLeft port c d call
    → (window_end c.public m b ≤ window_end d.public m b) ⊎ Shortens c.public d.public b call
unfolding window_after
left_kept port c d call m b (same e) = inl (rw e (le_refl _))
left_kept port c d call m b (one_set {m = n} {a = a} {interval = interval} host sets e) =
    inl (rw e (get_d_set_raised c.public.windows (window_at n a) _ (window_at m b) (le-max_left (window_end c.public n a) (c.public.info.time + interval))))
left_kept port c d call m b (both_closed a why e) =
    ⊎_elim
    (λ (q : a ≡ b). inr (subst (λ (x : ℕ). Shortens c.public d.public x call) q why))
    (λ (other : a ≡ b → ⊥). inl (rw (e, closed_other c.public.windows a b m other) (le_refl _)))
    (same_or_other a b)
left_kept port c d call m b (some_closed f) = ⊎_elim (λ e. inl (rw e (le_refl _))) (λ e. inr e.0) (f m b)

pub windows_kept : WindowsKept
unfolding perform
windows_kept port c q m b =
    judge_after
    (λ (d : Card). (window_end c.public m b ≤ window_end d.public m b) ⊎ Shortens c.public d.public b q.call)
    c
    q.lent
    (plan port c q.call q.lent)
    (inl (le_refl _))
    (λ s h. left_kept port c _ q.call m b (plan_left port c q.call q.lent s h))
