-- What DELETE answers at each way out, and what DELETE_TREE finds of the checks that both have, over plain values.
use Prim.Native.Nat.{ℕ, ◌+◌, ◌*◌, ◌≤◌, ◌<◌}
use mathlib.Core.Path.{◌≡◌, refl, sym, ap, ◌∙◌, subst}
use mathlib.Core.Bool.{Bool, true, false, not, cond}
use mathlib.Core.List.{List, [], ◌∷◌, ◌++◌}
use native.Mathlib.Omega.{arith}
use lib.Dec.{eqb}
use lib.ListN.{length, get_or}
use borrow.Author.Tests.{eq-eqb, ne_eqb, not-false}
use Rattle.laws.specs.ListsLaws.{and_true, and_false_left, and_false_right}
use Rattle.card.specs.Pointers.{pointer, points_from, beside}
use Rattle.card.specs.Card.{Card, card, allocated, in_use, times_in_use, multiplicity, points_to, has_pointers}
use Rattle.card.specs.SoundCard.{SoundCard}
use Rattle.laws.specs.SoundnessLaws.{allocated_below, multiplicity_right_low}
use Rattle.card.specs.Access.{admits}
use Rattle.card.specs.Plan.{Check, ◌⇒◌, FirstHolds, here, later, NoneHolds, Change, free_block, drop_pointer, lower_pointer, change_public, change_keys, change, changes, out_after, places_after}
use Rattle.laws.specs.PlanLaws.{holds_front, holds_behind, none_append}
use Rattle.card.specs.Calls.{missing, root_at_host, delete_plan}
use Rattle.card.specs.Promises.{Is}
use Rattle.laws.specs.PromisesLaws.{is_done}
use Rattle.card.specs.Session.{Request, request, plan, perform_sound}
use Rattle.card.specs.declared.Port.{Port}
use Rattle.card.specs.declared.Mode.TheVariants.{Writing}
use Rattle.card.specs.declared.Call.TheVariants.{Delete}
use Rattle.card.specs.declared.DeleteOperands.{DeleteOperands}
use Rattle.card.specs.declared.Refusal.{Refusal}
use Rattle.card.specs.declared.Refusal.TheVariants.{NotAllocated, IsRoot, NotOpened, NoPointer, HasPointers}
use Rattle.card.specs.Answers.{Value}
use Rattle.laws.proofs.PointerSteps.{times_right_law, times_counted}
use Rattle.tables.specs.InUseLaws.{sound_sorted, sound_paired}
use Rattle.changes.specs.OnTables.{CanTakePointer, taken_by}
use Rattle.checks.specs.Checked.{Refuses, Passes}
use Rattle.access.proofs.Blocks.{missing_told, root_told, closed_told}
use Rattle.linking.specs.Removal.{removal}
use Rattle.linking.proofs.Points.{Times, points_whole, not_not}

-- ---- the checks that DELETE and DELETE_TREE have in common

module _ (port : Port) (c : Card) (o : DeleteOperands) where
  module _ {t1 : Bool} (e1 : t1 ≡ missing (card c.public.info c.public.flags [] [] [] [] [] []).public o.source) where
    pub source_missing : t1 ≡ true → FirstHolds (removal port c o) NotAllocated
    unfolding allocated
    source_missing h = here (missing_told c.public _ e1 h)

    module _ (h1 : t1 ≡ false) {t2 : Bool} (e2 : t2 ≡ missing (card c.public.info c.public.flags [] [] [] [] [] []).public o.destination) where
      pub destination_missing : t2 ≡ true → FirstHolds (removal port c o) NotAllocated
      unfolding allocated
      destination_missing h = later (missing_told c.public _ e1 h1) (here (missing_told c.public _ e2 h))

      module _ (h2 : t2 ≡ false) {t3 : Bool} (e3 : t3 ≡ root_at_host port (card c.public.info [] [] [] [] [] [] []).public o.source) where
        pub root_source : t3 ≡ true → FirstHolds (removal port c o) IsRoot
        unfolding allocated
        root_source h = later (missing_told c.public _ e1 h1) (later (missing_told c.public _ e2 h2) (here (root_told port c.public _ e3 h)))

        module _ (h3 : t3 ≡ false) {t4 : Bool} (e4 : t4 ≡ admits port c Writing o.source o.credential) where
          pub source_shut : not t4 ≡ true → FirstHolds (removal port c o) NotOpened
          unfolding allocated
          source_shut h =
              later (missing_told c.public _ e1 h1) (later (missing_told c.public _ e2 h2)
              (later (root_told port c.public _ e3 h3)
              (here (closed_told port c Writing _ _ e4 h))))

          module _ (h4 : not t4 ≡ false) {times : ℕ} (e5 : Times c times o.source o.destination) (s : SoundCard c) where
            absent_told : not (points_to c.public o.source o.destination) ≡ eqb times 0
            absent_told = ap not (points_whole c o.source o.destination e5 s) ∙ not_not (eqb times 0)

            pub no_pointer : times ≡ 0 → FirstHolds (removal port c o) NoPointer
            unfolding allocated
            no_pointer h =
                later (missing_told c.public _ e1 h1) (later (missing_told c.public _ e2 h2)
                (later (root_told port c.public _ e3 h3)
                (later (closed_told port c Writing _ _ e4 h4)
                (here (absent_told ∙ eq-eqb _ _ h)))))

            pub removal_passes : (times ≡ 0 → ⊥) → NoneHolds (removal port c o)
            unfolding allocated
            removal_passes h = (
              missing_told c.public _ e1 h1,
              (
                missing_told c.public _ e2 h2,
                (
                  root_told port c.public _ e3 h3,
                  (
                    closed_told port c Writing _ _ e4 h4,
                    (absent_told ∙ ne_eqb _ _ h, tt),
                  ),
                ),
              ),
            )

  -- The destination is allocated, and the pointer is there.
  module _ (h : NoneHolds (removal port c o)) where
    pub removal_held : allocated c.public o.destination ≡ true
    removal_held = not-false _ h.1.0

    pub removal_there : points_to c.public o.source o.destination ≡ true
    removal_there = not-false _ h.1.1.1.1.0

-- None holds where one more does not.
pub none_behind : (checks : List Check) (t : Bool) (r : Refusal) → NoneHolds checks → t ≡ false → NoneHolds (checks ++ ((t ⇒ r) ∷ []))
none_behind checks t r none e = none_append checks ((t ⇒ r) ∷ []) none (e, tt)

-- ---- DELETE

module _ (port : Port) (c : Card) (o : DeleteOperands) where
  abbrev delete_request : Request
  delete_request = request (Delete o) [] [] []

  -- The destination's count.
  abbrev counted : ℕ
  counted = get_or c.public.counts o.destination 0

  pub refused_before : {r : Refusal} → FirstHolds (removal port c o) r → Refuses port c delete_request r
  unfolding plan delete_plan
  refused_before h = holds_front _ h

  module _ (none : NoneHolds (removal port c o)) where
    -- The block has another pointer to it, so its own do not matter.
    pub passes_more : (counted ≡ 1 → ⊥) → Passes port c delete_request
    unfolding plan delete_plan
    passes_more h = none_behind (removal port c o) _ HasPointers none (and_false_left _ _ (ne_eqb _ _ h))

    module _ (last : counted ≡ 1) {t : Bool} (e : t ≡ points_from o.destination (in_use c.public)) where
      pub has_pointers_law : t ≡ true → Refuses port c delete_request HasPointers
      unfolding plan delete_plan has_pointers
      has_pointers_law h = holds_behind (removal port c o) none (here (and_true (eqb counted 1) _ (eq-eqb _ _ last) (sym e ∙ h)))

      pub passes_last : t ≡ false → Passes port c delete_request
      unfolding plan delete_plan has_pointers
      passes_last h = none_behind (removal port c o) _ HasPointers none (and_false_right (eqb counted 1) _ (sym e ∙ h))

  module _ (s : SoundCard c) (h : Passes port c delete_request) where
    held : allocated c.public o.destination ≡ true
    unfolding plan delete_plan
    held = not-false _ h.1.0

    below : o.destination < c.public.info.blocks
    below = allocated_below c.public o.destination held

    there : points_to c.public o.source o.destination ≡ true
    unfolding plan delete_plan
    there = not-false _ h.1.1.1.1.0

    -- What taking the pointer away asks.
    pub delete_takeable : CanTakePointer c.public.pointers c.public.multiplicities c.public.info.used (pointer o.source o.destination)
        × ((o.destination < length c.public.counts) × (1 ≤ counted))
    unfolding points_to multiplicity
    delete_takeable =
        let least : 1 ≤ multiplicity c.public o.source o.destination = multiplicity_right_low _ (times_right_law o.source o.destination s there) in (
          record { sorted = sound_sorted s; paired = sound_paired s; present = there; least = least },
          (
            omega (arith, below, s.shaped.has_lengths.counts),
            omega (arith, times_counted o.source o.destination s held there),
          ),
        )

  -- What DELETE does to the pointer.
  abbrev taking : Change
  taking = taken_by c.public.pointers c.public.multiplicities c.public.info.used o.source o.destination

  -- It leaves the flags, the keys and the windows.
  spared : (t : Bool) → let d = change c (cond t (drop_pointer o.source o.destination) (lower_pointer o.source o.destination)) in
      (d.public.flags ≡ c.public.flags) × ((d.keys ≡ c.keys) × (d.public.windows ≡ c.public.windows))
  unfolding change change_public change_keys
  spared true = (refl, (refl, refl))
  spared false = (refl, (refl, refl))

  -- What freeing the block asks, of the card that is left.
  pub freeable : SoundCard c → Passes port c delete_request → {after : Card} → after ≡ change c taking
      → (o.destination < length after.public.flags)
      × ((4 * o.destination + 4 ≤ length after.keys) × (2 * o.destination + 2 ≤ length after.public.windows))
  freeable s h e =
      let left = spared (eqb (beside (pointer o.source o.destination) (in_use c.public) (times_in_use c.public)) 1) in
      let low = below s h in
      rw (e, left.0, left.1.0, left.1.1) (
        omega (arith, low, s.shaped.has_lengths.flags),
        (
          omega (arith, low, s.shaped.has_lengths.keys),
          omega (arith, low, s.shaped.has_lengths.windows),
        ),
      )

  deleted : {after : Card} (t : Bool) → eqb counted 1 ≡ t → Passes port c delete_request
      → after ≡ changes (change c taking) (cond t (free_block o.destination ∷ []) [])
      → Is (perform_sound port c delete_request) (Value (cond t 1 0)) after [] []
  unfolding perform_sound plan delete_plan changes out_after places_after multiplicity
  deleted {after} t q h =
      subst
      (λ (t : Bool).
      after ≡ changes (change c taking) (cond t (free_block o.destination ∷ []) [])
      → Is (perform_sound port c delete_request) (Value (cond t 1 0)) after [] [])
      q
      (λ e. is_done c delete_request.lent (plan port c delete_request.call delete_request.lent) h e refl refl)

  pub deleted_more : {after : Card} → Passes port c delete_request → eqb counted 1 ≡ false → after ≡ change c taking → Is (perform_sound port c delete_request) (Value 0) after [] []
  unfolding changes
  deleted_more h more e = deleted false more h e

  -- The block is freed on the card that the pointer taken away leaves.
  pub deleted_last : {between after : Card} → Passes port c delete_request → eqb counted 1 ≡ true → between ≡ change c taking
      → after ≡ change between (free_block o.destination) → Is (perform_sound port c delete_request) (Value 1) after [] []
  unfolding changes
  deleted_last h last e f = deleted true last h (f ∙ ap (λ (d : Card). change d (free_block o.destination)) e)
