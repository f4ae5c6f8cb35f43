-- What DELETE_TREE answers at each way out, over plain values.
use Prim.Native.Nat.{ℕ, ◌*◌, ◌≤◌, ◌<◌}
use mathlib.Core.Path.{◌≡◌, refl, sym, ap, ◌∙◌, subst}
use mathlib.Core.Bool.{Bool, true, false}
use Rattle.std.specs.Prelude.{Result, Ok, Err}
use mathlib.Core.List.{List, []}
use native.Mathlib.Omega.{arith}
use lib.ListN.{length, get_or}
use lib.Seq.{get_or-take, length-take-le}
use borrow.Author.Tests.{not-false}
use Rattle.card.specs.Lists.{any}
use Rattle.card.specs.Pointers.{pointer}
use Rattle.card.specs.Card.{Card, key_flag, has_key, points_to}
use Rattle.card.specs.SoundCard.{SoundCard, RightPointer}
use Rattle.laws.specs.SoundnessLaws.{allocated_below}
use Rattle.card.specs.Plan.{FirstHolds, here, NoneHolds, change, change_public, change_keys, changes, out_after, places_after}
use Rattle.laws.specs.PlanLaws.{holds_front, holds_behind}
use Rattle.card.specs.Calls.{freed_with, free_each, delete_tree_plan}
use Rattle.card.specs.Promises.{Is}
use Rattle.laws.specs.PromisesLaws.{is_done}
use Rattle.card.specs.Session.{plan, perform_sound}
use Rattle.card.specs.declared.Port.{Port}
use Rattle.card.specs.declared.Mode.TheVariants.{Writing}
use Rattle.card.specs.declared.DeleteOperands.{DeleteOperands}
use Rattle.card.specs.declared.Refusal.{Refusal}
use Rattle.card.specs.declared.Refusal.TheVariants.{HasWriteKey}
use Rattle.card.specs.Answers.{Value}
use Rattle.tables.specs.InUseLaws.{sound_sorted, sound_paired}
use Rattle.checks.specs.Checked.{Refuses, Passes}
use Rattle.walks.specs.Walk.{marked_below}
use Rattle.walks.specs.WalkLaws.{sound_walkable, sound_right}
use Rattle.trees.specs.Freed.{Freed}
use Rattle.linking.specs.Removal.{removal}
use Rattle.linking.proofs.Deleting.{none_behind}
use Rattle.removal.specs.Dropping.{CanDrop, dropped_with}
use Rattle.removal.specs.TreeChecked.{tree_request, TreeFound, refuses, frees}

module _ (port : Port) (c : Card) (o : DeleteOperands) where
  -- ---- the checks

  pub refused_before : {r : Refusal} → FirstHolds (removal port c o) r → Refuses port c (tree_request o) r
  unfolding plan delete_tree_plan
  refused_before h = holds_front _ h

  module _ (none : NoneHolds (removal port c o)) {marks : List ℕ} {count : ℕ} (f : Freed c.public o.source o.destination marks count)
      {t : Bool} (e : t ≡ any (λ b. key_flag Writing (get_or c.public.flags b 0)) (marked_below marks c.public.info.blocks)) where
    key_told : any (λ b. has_key c.public Writing b) (freed_with c.public o.source o.destination) ≡ t
    unfolding has_key
    key_told = ap (any (λ b. has_key c.public Writing b)) (sym f.listed) ∙ sym e

    pub has_write_key : t ≡ true → Refuses port c (tree_request o) HasWriteKey
    unfolding plan delete_tree_plan
    has_write_key h = holds_behind (removal port c o) none (here (key_told ∙ h))

    pub tree_passes : t ≡ false → Passes port c (tree_request o)
    unfolding plan delete_tree_plan
    tree_passes h = none_behind (removal port c o) _ HasWriteKey none (key_told ∙ h)

  -- ---- what they found

  module _ {marks : List ℕ} where
    pub found_refused : {v : Result ℕ Refusal} {r : Refusal} → TreeFound port c o marks v → v ≡ Err r → Refuses port c (tree_request o) r
    found_refused (refuses h) e = subst (λ (x : Refusal). Refuses port c (tree_request o) x) (cc) h
    found_refused (frees h f) e = let z : ◌≡◌ {A = ℕ} 0 1 = cc in absurd (omega arith)

    pub found_passes : {v : Result ℕ Refusal} {count : ℕ} → TreeFound port c o marks v → v ≡ Ok count → Passes port c (tree_request o)
    found_passes (refuses h) e = let z : ◌≡◌ {A = ℕ} 0 1 = cc in absurd (omega arith)
    found_passes (frees h f) e = h

    pub found_freed : {v : Result ℕ Refusal} {count : ℕ} → TreeFound port c o marks v → v ≡ Ok count → Freed c.public o.source o.destination marks count
    found_freed (refuses h) e = let z : ◌≡◌ {A = ℕ} 0 1 = cc in absurd (omega arith)
    found_freed (frees h f) e = subst (λ (n : ℕ). Freed c.public o.source o.destination marks n) (cc) f

  -- ---- what the changes ask

  module _ (s : SoundCard c) where
    right : (k : ℕ) → k < c.public.info.used → RightPointer c.public (get_or c.public.pointers k 0)
    right k l =
        subst (λ (w : ℕ). RightPointer c.public w) (get_or-take c.public.info.used c.public.pointers k 0 l)
        (sound_right c s k (omega (arith, length-take-le c.public.info.used c.public.pointers s.shaped.used_high)))

    pub droppable : Passes port c (tree_request o)
        → CanDrop c.public.counts c.public.pointers c.public.multiplicities c.public.info.used c.public.info.blocks (pointer o.source o.destination)
    unfolding plan delete_tree_plan points_to
    droppable h = record {
      countable = record {
        walkable = sound_walkable c s;
        paired = sound_paired s;
        low = λ k l. omega (arith, allocated_below c.public _ (right k l).destination_allocated, s.shaped.has_lengths.counts);
        right = λ b l. s.is_sound.counts b (omega (arith, s.shaped.has_lengths.counts));
      };
      sorted = sound_sorted s;
      present = not-false _ h.1.1.1.1.0;
      source_below = λ k l. allocated_below c.public _ (right k l).source_allocated;
    }

    -- The dropped pointers leave the flags, the keys and the windows.
    pub freeable : {between : Card} (blocks : List ℕ) → between ≡ changes c (dropped_with o.source o.destination blocks)
        → (c.public.info.blocks ≤ length between.public.flags)
        × ((4 * c.public.info.blocks ≤ length between.keys) × (2 * c.public.info.blocks ≤ length between.public.windows))
    unfolding changes change change_public change_keys
    freeable blocks e = rw e (
      omega (arith, s.shaped.has_lengths.flags),
      (
        omega (arith, s.shaped.has_lengths.keys),
        omega (arith, s.shaped.has_lengths.windows),
      ),
    )

  -- ---- what they leave

  -- The blocks are freed on the card that the dropped pointers leave.
  pub tree_deleted : {marks : List ℕ} {count : ℕ} {between after : Card} → Passes port c (tree_request o) → Freed c.public o.source o.destination marks count
      → between ≡ changes c (dropped_with o.source o.destination (marked_below marks c.public.info.blocks))
      → after ≡ changes between (free_each (marked_below marks c.public.info.blocks))
      → Is (perform_sound port c (tree_request o)) (Value count) after [] []
  unfolding perform_sound plan delete_tree_plan changes out_after places_after
  tree_deleted {marks} h f e g =
      rw f.counted
      (is_done c (tree_request o).lent (plan port c (tree_request o).call (tree_request o).lent) h
      (rw f.listed at (g ∙ ap (λ (d : Card). changes d (free_each (marked_below marks c.public.info.blocks))) e)) refl refl)
