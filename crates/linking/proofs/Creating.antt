-- What CREATE answers at each way out, over plain values.
use Prim.Native.Nat.{ℕ, ◌<◌}
use mathlib.Core.Path.{◌≡◌, refl, ap, ◌∙◌, subst}
use mathlib.Core.Bool.{Bool, true, false, not, ◌&&◌, ◌||◌}
use mathlib.Core.List.{[]}
use native.Mathlib.Omega.{arith}
use lib.Dec.{eqb}
use lib.ListN.{length, get_or}
use borrow.Author.Tests.{eqb-false, not-false}
use Rattle.laws.specs.ListsLaws.{or_false_right}
use Rattle.card.specs.Pointers.{pointer}
use Rattle.card.specs.Card.{Card, card, allocated, is_root, multiplicity, highest_multiplicity, points_to}
use Rattle.card.specs.SoundCard.{SoundCard}
use Rattle.laws.specs.SoundnessLaws.{allocated_below}
use Rattle.card.specs.Access.{admits}
use Rattle.card.specs.Plan.{here, later, change, changes, out_after, places_after}
use Rattle.card.specs.Calls.{missing, root_at_host, create_plan}
use Rattle.card.specs.Promises.{Is}
use Rattle.laws.specs.PromisesLaws.{is_done}
use Rattle.card.specs.Session.{Request, request, plan, perform_sound}
use Rattle.card.specs.declared.Port.{Port}
use Rattle.card.specs.declared.Mode.TheVariants.{Writing}
use Rattle.card.specs.declared.Call.TheVariants.{Create}
use Rattle.card.specs.declared.CreateOperands.{CreateOperands}
use Rattle.card.specs.declared.Refusal.TheVariants.{NotAllocated, IsRoot, NotOpened, CannotPoint, TooFewPlaces}
use Rattle.card.specs.Answers.{Done}
use Rattle.tables.specs.InUseLaws.{sound_sorted, sound_paired, count_low_law}
use Rattle.laws.proofs.PointerSteps.{times_high}
use Rattle.changes.specs.OnTables.{CanMakePointer, made_by}
use Rattle.checks.specs.Checked.{Refuses, Passes}
use Rattle.access.proofs.Blocks.{missing_told, root_told, closed_told}
use Rattle.linking.proofs.Points.{Times, times_whole, points_whole, told_or, not_not}

-- No condition holds but maybe the last, and the pointer's multiplicity is this.
pub record SixPassed (port : Port) (c : Card) (o : CreateOperands) (times : ℕ) : Type 0 where
  pub source_there : missing c.public o.source ≡ false
  pub destination_there : missing c.public o.destination ≡ false
  pub no_root : is_root c.public o.destination || root_at_host port c.public o.source ≡ false
  pub source_opened : not (admits port c Writing o.source o.credential) ≡ false
  pub destination_opened : not (admits port c Writing o.destination o.second) ≡ false
  pub can_point : eqb o.source o.destination || eqb (multiplicity c.public o.source o.destination) highest_multiplicity ≡ false
  pub counted : Times c times o.source o.destination

module _ (port : Port) (c : Card) (o : CreateOperands) where
  abbrev create_request : Request
  create_request = request (Create o) [] [] []

  module _ {t1 : Bool} (e1 : t1 ≡ missing (card c.public.info c.public.flags [] [] [] [] [] []).public o.source) where
    pub create_source_missing : t1 ≡ true → Refuses port c create_request NotAllocated
    unfolding plan create_plan allocated
    create_source_missing h = here (missing_told c.public _ e1 h)

    module _ (h1 : t1 ≡ false) {t2 : Bool} (e2 : t2 ≡ missing (card c.public.info c.public.flags [] [] [] [] [] []).public o.destination) where
      pub create_destination_missing : t2 ≡ true → Refuses port c create_request NotAllocated
      unfolding plan create_plan allocated
      create_destination_missing h = later (missing_told c.public _ e1 h1) (here (missing_told c.public _ e2 h))

      module _ (h2 : t2 ≡ false) {t3 : Bool} (e3 : t3 ≡ root_at_host port (card c.public.info [] [] [] [] [] [] []).public o.source) where
        pub root_end : is_root c.public o.destination || t3 ≡ true → Refuses port c create_request IsRoot
        unfolding plan create_plan allocated
        root_end h =
            later (missing_told c.public _ e1 h1) (later (missing_told c.public _ e2 h2)
            (here (told_or (is_root c.public o.destination) (root_told port c.public _ e3 refl) h)))

        module _ (h3 : is_root c.public o.destination || t3 ≡ false) {t4 : Bool} (e4 : t4 ≡ admits port c Writing o.source o.credential) where
          pub create_source_shut : not t4 ≡ true → Refuses port c create_request NotOpened
          unfolding plan create_plan allocated
          create_source_shut h =
              later (missing_told c.public _ e1 h1) (later (missing_told c.public _ e2 h2)
              (later (told_or (is_root c.public o.destination) (root_told port c.public _ e3 refl) h3)
              (here (closed_told port c Writing _ _ e4 h))))

          module _ (h4 : not t4 ≡ false) {t5 : Bool} (e5 : t5 ≡ admits port c Writing o.destination o.second) where
            pub destination_shut : not t5 ≡ true → Refuses port c create_request NotOpened
            unfolding plan create_plan allocated
            destination_shut h =
                later (missing_told c.public _ e1 h1) (later (missing_told c.public _ e2 h2)
                (later (told_or (is_root c.public o.destination) (root_told port c.public _ e3 refl) h3)
                (later (closed_told port c Writing _ _ e4 h4)
                (here (closed_told port c Writing _ _ e5 h)))))

            module _ (h5 : not t5 ≡ false) {times : ℕ} (e6 : Times c times o.source o.destination) where
              highest : eqb (multiplicity c.public o.source o.destination) highest_multiplicity ≡ eqb times highest_multiplicity
              highest = ap (λ (n : ℕ). eqb n highest_multiplicity) (times_whole c o.source o.destination e6)

              pub cannot_point : eqb o.source o.destination || eqb times highest_multiplicity ≡ true → Refuses port c create_request CannotPoint
              unfolding plan create_plan allocated
              cannot_point h =
                  later (missing_told c.public _ e1 h1) (later (missing_told c.public _ e2 h2)
                  (later (told_or (is_root c.public o.destination) (root_told port c.public _ e3 refl) h3)
                  (later (closed_told port c Writing _ _ e4 h4)
                  (later (closed_told port c Writing _ _ e5 h5)
                  (here (told_or (eqb o.source o.destination) highest h))))))

              pub six_passed : eqb o.source o.destination || eqb times highest_multiplicity ≡ false → SixPassed port c o times
              unfolding allocated
              six_passed h = record {
                source_there = missing_told c.public _ e1 h1;
                destination_there = missing_told c.public _ e2 h2;
                no_root = told_or (is_root c.public o.destination) (root_told port c.public _ e3 refl) h3;
                source_opened = closed_told port c Writing _ _ e4 h4;
                destination_opened = closed_told port c Writing _ _ e5 h5;
                can_point = told_or (eqb o.source o.destination) highest h;
                counted = e6;
              }

  -- The last check, on a sound card: the pointer is new where its multiplicity is 0.
  module _ {times : ℕ} (six : SixPassed port c o times) (s : SoundCard c) where
    new_and_full : not (points_to c.public o.source o.destination) && eqb c.public.info.used (length c.public.pointers)
        ≡ eqb times 0 && eqb c.public.info.used (length c.public.pointers)
    new_and_full =
        ap (λ (t : Bool). t && eqb c.public.info.used (length c.public.pointers))
        (ap not (points_whole c o.source o.destination six.counted s) ∙ not_not (eqb times 0))

    pub no_place : eqb times 0 && eqb c.public.info.used (length c.public.pointers) ≡ true → Refuses port c create_request TooFewPlaces
    unfolding plan create_plan
    no_place h =
        later six.source_there (later six.destination_there (later six.no_root
        (later six.source_opened (later six.destination_opened (later six.can_point
        (here (new_and_full ∙ h)))))))

    pub create_passes : eqb times 0 && eqb c.public.info.used (length c.public.pointers) ≡ false → Passes port c create_request
    unfolding plan create_plan
    create_passes h =
        (six.source_there, (six.destination_there, (six.no_root, (six.source_opened, (six.destination_opened, (six.can_point, (new_and_full ∙ h, tt)))))))

  -- What making the pointer asks.
  pub create_makeable : SoundCard c → Passes port c create_request
      → CanMakePointer c.public.pointers c.public.multiplicities c.public.info.used (pointer o.source o.destination)
      × ((o.destination < length c.public.counts) × (get_or c.public.counts o.destination 0 < 4294967295))
  unfolding plan create_plan points_to multiplicity
  create_makeable s h =
      let below : o.destination < c.public.info.blocks = allocated_below c.public o.destination (not-false _ h.1.0) in
      let other : (multiplicity c.public o.source o.destination ≡ highest_multiplicity → ⊥) =
      eqb-false _ _ (or_false_right (eqb o.source o.destination) _ h.1.1.1.1.1.0) in (
        record {
          sorted = sound_sorted s;
          paired = sound_paired s;
          low = omega (arith, times_high o.source o.destination s);
          room = λ (absent : points_to c.public o.source o.destination ≡ false).
              let full : (c.public.info.used ≡ length c.public.pointers → ⊥) =
              eqb-false _ _ (subst (λ (t : Bool). not t && eqb c.public.info.used (length c.public.pointers) ≡ false) absent h.1.1.1.1.1.1.0) in
              omega (arith, s.shaped.used_high);
        },
        (
          omega (arith, s.shaped.has_lengths.counts),
          omega (arith, count_low_law s o.destination below, s.shaped.used_high, s.shaped.has_lengths.places_high),
        ),
      )

  pub create_done : {after : Card} → Passes port c create_request
      → after ≡ change c (made_by c.public.pointers c.public.info.used o.source o.destination)
      → Is (perform_sound port c create_request) Done after [] []
  unfolding perform_sound plan create_plan changes out_after places_after points_to
  create_done h f = is_done c create_request.lent (plan port c create_request.call create_request.lent) h f refl refl
