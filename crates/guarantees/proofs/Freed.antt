-- 2026-09, "A freed block now waits": whatever the call, a block that was allocated and is not any more waits, and holds what it held.
use Prim.Native.Nat.{ℕ, ◌<◌}
use mathlib.Core.Path.{◌≡◌, refl, sym, ap, ◌∙◌, subst}
use mathlib.Core.Logic.{◌⊎◌, inl, inr, ⊎_elim}
use mathlib.Core.Bool.{Bool, true, false, cond}
use mathlib.Core.List.{List, [], ◌∷◌}
use native.Mathlib.Omega.{arith}
use lib.Dec.{eqb}
use lib.ListN.{length}
use lib.Seq.{get_or-set_same}
use Rattle.laws.specs.ListsLaws.{absurd_test, false_unless, same_or_other, not_cases}
use Rattle.card.specs.Pointers.{contains}
use Rattle.laws.specs.PointersLaws.{contains_all}
use Rattle.card.specs.Card.{Public, Card, flag, allocated, waiting, count, multiplicity, points_to}
use Rattle.card.specs.SoundCard.{SoundCard}
use Rattle.laws.specs.SoundnessLaws.{allocated_below, flag_waiting, waiting_unallocated}
use Rattle.card.specs.Plan.{freed_flags, set_window, set_block, take_block, free_block, add_pointer, raise_pointer, lower_pointer, drop_pointer, change_public, change_contents, change, changes, Buffers}
use Rattle.card.specs.Calls.{window_after, opens_window, take_all, freed_with, read_plan, write_plan, alloc_plan, alloc_contig_plan, create_plan, delete_plan, delete_tree_plan, key_plan, renew_plan, force_plan, free_plan, tick_plan, audit_plan, rent_plan, lowest_waiting, sweep_each, sweep_plan}
use Rattle.laws.specs.SweepLaws.{lowest_sweepable}
use Rattle.laws.specs.ChangesLaws.{keyed_allocated}
use Rattle.card.specs.Session.{plan, perform}
use Rattle.card.specs.declared.Info.{Info}
use Rattle.card.specs.declared.Port.{Port}
use Rattle.card.specs.declared.Port.TheVariants.{Host, Service}
use Rattle.card.specs.declared.Mode.TheVariants.{Reading, Writing}
use Rattle.card.specs.declared.Mode.{Mode}
use Rattle.card.specs.declared.DeleteOperands.{DeleteOperands}
use Rattle.card.specs.declared.SweepOperands.{SweepOperands}
use Rattle.card.specs.declared.Call.{Call}
use Rattle.card.specs.declared.Call.TheVariants.{Read, Write, Alloc, AllocContig, Create, Delete, DeleteTree, KeyRead, KeyWrite, Renew, Force, Free, Tick, Audit, Rent, Sweep}
use Rattle.laws.proofs.Steps.{allocated_set, allocated_other}
use Rattle.laws.proofs.Severing.{deleted_allocated, deleted_waits, deleted_contents}
use Rattle.laws.proofs.Sweeping.{sweep_each_alone, sweep_each_spares, same_state}
use Rattle.laws.proofs.Judged.{judge_after}
use Rattle.card.specs.Statements.Unallocated.{Waits, FreedWaits}

-- What becomes of an allocated block from card c to card d.
abbrev HeldOrWaits : Card → Card → ℕ → Type 0
HeldOrWaits c d b = (allocated d.public b ≡ true) ⊎ Waits c d b

opens_held : (port : Port) (c : Card) (p : Public) (mode : Mode) (a interval b : ℕ) → allocated c.public b ≡ true
    → allocated (changes c (opens_window port p mode a interval)).public b ≡ true
unfolding opens_window changes change change_public allocated
opens_held Host c p mode a interval b held = go (eqb interval 0)
  where
    go : (t : Bool) → allocated (changes c (cond t [] (set_window mode a (window_after p mode a interval) ∷ []))).public b ≡ true
    go true = held
    go false = held
opens_held Service c p mode a interval b held = held

takes_held : (c : Card) (reference : ℕ) (bs : List ℕ) (b : ℕ) → allocated c.public b ≡ true → allocated (changes c (take_all reference bs)).public b ≡ true
unfolding take_all changes change change_public allocated
takes_held c reference [] b held = held
takes_held c reference (x ∷ bs) b held =
    takes_held (change (change c (take_block x)) (add_pointer reference x)) reference bs b (allocated_set c.public x 1 b refl held)

delete_held : (port : Port) (c : Card) (opened : Bool) (o : DeleteOperands) (b : ℕ) → allocated c.public b ≡ true → SoundCard c
    → HeldOrWaits c (changes c (delete_plan port c.public opened o).steps) b
unfolding delete_plan changes change change_public change_contents allocated waiting
delete_held port c opened o b held s = go (eqb (multiplicity c.public o.source o.destination) 1) (eqb (count c.public o.destination) 1)
  where
    inside : b < length c.public.flags
    inside = omega (arith, allocated_below c.public b held, s.shaped.has_lengths.flags)

    freed : (d : Card) → d.public.info.blocks ≡ c.public.info.blocks → d.public.flags ≡ c.public.flags → d.public.info.bytes ≡ c.public.info.bytes
        → d.contents ≡ c.contents → HeldOrWaits c (change d (free_block o.destination)) b
    freed d n f z x =
        ⊎_elim
        (λ (e : b ≡ o.destination).
        inr
        (record {
          waits = flag_waiting (change d (free_block o.destination)).public b (subst (λ (k : ℕ). b < k) (sym n) (allocated_below c.public b held))
              (rw (← e, f) (get_or-set_same c.public.flags b freed_flags 0 inside));
          same = rw (z, x) refl;
        }))
        (λ (other : b ≡ o.destination → ⊥). inl (allocated_other d.public o.destination freed_flags b other ∙ rw (n, f) held))
        (same_or_other b o.destination)

    go : (once last : Bool)
        → HeldOrWaits c (changes c (cond once (drop_pointer o.source o.destination) (lower_pointer o.source o.destination) ∷ cond last (free_block o.destination ∷ []) [])) b
    go true true = freed (change c (drop_pointer o.source o.destination)) refl refl refl refl
    go true false = inl held
    go false true = freed (change c (lower_pointer o.source o.destination)) refl refl refl refl
    go false false = inl held

tree_held : (port : Port) (c : Card) (opened : Bool) (o : DeleteOperands) (b : ℕ) → allocated c.public b ≡ true → SoundCard c
    → HeldOrWaits c (changes c (delete_tree_plan port c.public opened o).steps) b
unfolding delete_tree_plan
tree_held port c opened o b held s =
    ⊎_elim
    (λ (e : contains b (freed_with c.public o.source o.destination) ≡ true).
    inr
    (record {
      waits = deleted_waits c o.source o.destination b s.shaped.has_lengths.flags e;
      same = deleted_contents c o.source o.destination b;
    }))
    (λ (e : contains b (freed_with c.public o.source o.destination) ≡ false). inl (deleted_allocated c o.source o.destination b e ∙ held))
    (not_cases (contains b (freed_with c.public o.source o.destination)))

create_held : (c : Card) (a d b : ℕ) (t : Bool) → allocated c.public b ≡ true → allocated (changes c (cond t (raise_pointer a d) (add_pointer a d) ∷ [])).public b ≡ true
unfolding changes change change_public allocated
create_held c a d b true held = held
create_held c a d b false held = held

-- A block that SWEEP takes waits, so no allocated one is among them.
sweep_held : (c : Card) (o : SweepOperands) (b : ℕ) → allocated c.public b ≡ true → SoundCard c
    → allocated (changes c (sweep_each (lowest_waiting c.public o.most))).public b ≡ true
sweep_held c o b held s =
    let bs : List ℕ = lowest_waiting c.public o.most in
    let t = lowest_sweepable c.public o.most in
    let other : contains b bs ≡ false =
    false_unless _ (λ e. absurd_test held (waiting_unallocated c.public b (contains_all (λ x. waiting c.public x) b bs e t.waiting))) in
    same_state c.public (changes c (sweep_each bs)).public b (ap (λ (i : Info). i.blocks) (sweep_each_alone c bs).info) (sweep_each_spares bs b s t other).flagged
    ∙ held

call_held : (port : Port) (c : Card) (call : Call) (lent : Buffers) (b : ℕ) → allocated c.public b ≡ true → SoundCard c
    → HeldOrWaits c (changes c (plan port c call lent).steps) b
unfolding plan read_plan write_plan alloc_plan alloc_contig_plan create_plan key_plan renew_plan force_plan free_plan tick_plan audit_plan rent_plan sweep_plan changes change change_public allocated
call_held port c (Read o) lent b held s = inl (opens_held port c c.public _ o.block o.interval b held)
call_held port c (Write o) lent b held s = inl (opens_held port (change c (set_block o.block lent.input)) c.public _ o.block o.interval b held)
call_held port c (Alloc o) lent b held s = inl (takes_held c o.reference _ b held)
call_held port c (AllocContig o) lent b held s = inl (takes_held c o.reference _ b held)
call_held port c (Create o) lent b held s = inl (create_held c o.source o.destination b (points_to c.public o.source o.destination) held)
call_held port c (Delete o) lent b held s = delete_held port c _ o b held s
call_held port c (DeleteTree o) lent b held s = tree_held port c _ o b held s
call_held port c (KeyRead o) lent b held s = inl (allocated_set c.public o.block _ b (keyed_allocated (flag c.public o.block) Reading o.key) held)
call_held port c (KeyWrite o) lent b held s = inl (allocated_set c.public o.block _ b (keyed_allocated (flag c.public o.block) Writing o.key) held)
call_held port c (Renew o) lent b held s = inl held
call_held port c (Force o) lent b held s = inl held
call_held port c Free lent b held s = inl held
call_held port c (Tick o) lent b held s = inl held
call_held port c Audit lent b held s = inl held
call_held port c (Rent o) lent b held s = inl held
call_held port c (Sweep o) lent b held s = inl (sweep_held c o b held s)

pub freed_waits : FreedWaits
unfolding perform
freed_waits port c q b held gone =
    ⊎_elim (λ still. absurd_test still gone) (λ w. w)
    (judge_after (λ (d : Card). HeldOrWaits c d b) c q.lent (plan port c q.call q.lent) (inl held) (λ s h. call_held port c q.call q.lent b held s))
