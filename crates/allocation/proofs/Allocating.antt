-- What ALLOC finds and does beside what it shares, over plain values.
use Prim.Native.Nat.{ℕ, ◌+◌, ◌≤◌, ◌<◌}
use mathlib.Core.Path.{◌≡◌, refl, ap, ◌∙◌}
use mathlib.Core.List.{List, [], ◌∷◌}
use native.Mathlib.Omega.{arith}
use lib.Dec.{ltb}
use lib.ListN.{length, take}
use borrow.Author.Tests.{lt-ltb, le-ltb, ltb-false}
use Rattle.card.specs.Contents.{overwrite}
use Rattle.card.specs.Card.{Card, free_blocks}
use Rattle.card.specs.SoundCard.{SoundCard}
use Rattle.card.specs.Plan.{◌⇒◌, FirstHolds, here, NoneHolds, changes, out_after, places_after}
use Rattle.laws.specs.PlanLaws.{holds_front, holds_behind, none_append}
use Rattle.card.specs.Calls.{wanted, picks, take_all, alloc_plan}
use Rattle.laws.specs.PicksLaws.{picks_takeable, picks_length}
use Rattle.card.specs.Promises.{Is}
use Rattle.laws.specs.PromisesLaws.{is_done}
use Rattle.card.specs.Session.{Request, request, plan, perform_sound}
use Rattle.card.specs.declared.Port.{Port}
use Rattle.card.specs.declared.Call.TheVariants.{Alloc}
use Rattle.card.specs.declared.AllocOperands.{AllocOperands}
use Rattle.card.specs.declared.Refusal.{Refusal}
use Rattle.card.specs.declared.Refusal.TheVariants.{TooFewPlaces}
use Rattle.card.specs.Answers.{Done}
use Rattle.tables.specs.Free.{free_below}
use Rattle.tables.specs.FreeLaws.{flags_free}
use Rattle.checks.specs.Checked.{Refuses, Passes}
use Rattle.allocation.specs.Walk.{CanPick}
use Rattle.allocation.specs.Taking.{CanTakeAll}
use Rattle.allocation.specs.SharedChecks.{shared_checks}
use Rattle.allocation.proofs.Shared.{shared, wanted_there, count_fits, enough_free, Chosen, first_places, can_take_all}

module _ (port : Port) (c : Card) (o : AllocOperands) (places : List ℕ) where
  abbrev alloc_request : Request
  alloc_request = request (Alloc o) [] [] places

  -- Its checks are the shared ones, and then that of the places for pointers.
  pub shared_refused : {r : Refusal} → FirstHolds (shared port c o places) r → Refuses port c alloc_request r
  unfolding plan shared_checks alloc_plan
  shared_refused h = holds_front _ h

  module _ (n : NoneHolds (shared port c o places)) where
    pub too_few_places : length c.public.pointers < c.public.info.used + o.count → Refuses port c alloc_request TooFewPlaces
    unfolding plan shared_checks alloc_plan
    too_few_places h = holds_behind (shared port c o places) n (here (lt-ltb _ _ h))

    pub alloc_passes : c.public.info.used + o.count ≤ length c.public.pointers → Passes port c alloc_request
    unfolding plan shared_checks alloc_plan
    alloc_passes h = none_append (shared port c o places) ((ltb (length c.public.pointers) (c.public.info.used + o.count) ⇒ TooFewPlaces) ∷ []) n (le-ltb _ _ h, tt)

  module _ (s : SoundCard c) (h : Passes port c alloc_request) where
    shared_passed : NoneHolds (shared port c o places)
    unfolding plan shared_checks alloc_plan
    shared_passed = (h.0, (h.1.0, (h.1.1.0, (h.1.1.1.0, (h.1.1.1.1.0, tt)))))

    room : c.public.info.used + o.count ≤ length c.public.pointers
    unfolding plan alloc_plan
    room = ltb-false _ _ h.1.1.1.1.1.0

    free_blocks_law : free_below c.public.flags (length c.public.flags) ≡ free_blocks c.public
    free_blocks_law = flags_free c.public s.shaped.has_lengths.flags

    module _ {want : ℕ} (e : want ≡ wanted o.hint) where
      -- What picking the blocks asks.
      pub can_pick : CanPick c.public.flags want o.count places
      can_pick = rw e (record {
        wanted_below = omega (arith, wanted_there port c o places s shared_passed, s.shaped.has_lengths.flags);
        blocks_high = omega (arith, s.shaped.has_lengths.flags, s.shaped.in_ranges.blocks_high);
        enough = rw free_blocks_law (enough_free port c o places s shared_passed);
        fits = count_fits port c o places s shared_passed;
      })

      module _ {left : List ℕ} (shown : left ≡ overwrite places 0 (picks want o.count (free_below c.public.flags (length c.public.flags)))) where
        -- They are picked.
        pub picked : Chosen c o places (picks (wanted o.hint) o.count (free_blocks c.public)) left
        picked = record {
          takeable = picks_takeable c.public (wanted o.hint) o.count;
          long = picks_length (wanted o.hint) o.count (free_blocks c.public) (enough_free port c o places s shared_passed);
          shown = rw (← e, ← free_blocks_law) shown;
        }

        pub can_take_picked : CanTakeAll c o.reference (take o.count left)
        can_take_picked = can_take_all picked port s shared_passed room

        pub alloc_done : {after : Card} → after ≡ changes c (take_all o.reference (take o.count left)) → Is (perform_sound port c alloc_request) Done after [] left
        unfolding perform_sound plan alloc_plan out_after places_after
        alloc_done t =
            is_done c alloc_request.lent (plan port c alloc_request.call alloc_request.lent) h
            (t ∙ ap (λ (xs : List ℕ). changes c (take_all o.reference xs)) (first_places picked)) refl picked.shown
