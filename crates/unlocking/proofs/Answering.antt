-- What is answered on a sound card, by the checks in their order.
use Prim.Native.Nat.{ℕ, ◌<◌, ◌≤◌}
use mathlib.Core.Path.{◌≡◌, ap, ◌∙◌, subst}
use mathlib.Core.Bool.{true, false}
use mathlib.Core.List.{List, []}
use native.Mathlib.Omega.{arith}
use lib.ListN.{length}
use borrow.Author.Tests.{lt-ltb, le-ltb}
use Rattle.card.specs.Contents.{overwrite}
use Rattle.card.specs.Pointers.{contains}
use Rattle.card.specs.Card.{Card}
use Rattle.card.specs.Calls.{missing}
use Rattle.card.specs.Plan.{here, later, judge_sound}
use Rattle.card.specs.Promises.{Is}
use Rattle.laws.specs.PromisesLaws.{is_refused}
use Rattle.card.specs.Answers.{Answer}
use Rattle.card.specs.Answers.{Refused, Value}
use Rattle.card.specs.declared.Refusal.TheVariants.{NotAllocated, BadOperand}
use Rattle.report.specs.Report.{given, bad_keys, within_reach, unlocking, listing, unlocking_plan, lent_places}
use Rattle.report.proofs.ReportLaws.{missing_unlisted, unlocking_missing, listing_done}
use Rattle.walks.specs.Walk.{marked_below}
use Rattle.std.specs.Prelude.{Option, None, Some}
use Rattle.unlocking.specs.Unlocking.{Unlocking, FoundOf}

-- What was found, by which of the two it is.
module _ (words : List ℕ) (c : Card) (chosen : ℕ) (shut : List ℕ) (r : Option ℕ) (f : FoundOf words c chosen shut r) where
  pub found_within : r ≡ None → contains chosen (within_reach (given words) c) ≡ true
  found_within e = subst (λ (x : Option ℕ). FoundOf words c chosen shut x) e f

  pub found_unlocked : {count : ℕ} → r ≡ Some count → Unlocking words c chosen shut count
  found_unlocked e = subst (λ (x : Option ℕ). FoundOf words c chosen shut x) e f

pub places_enough : {words : List ℕ} {c : Card} {chosen : ℕ} {shut : List ℕ} {count places : ℕ} → Unlocking words c chosen shut count → count ≤ places
    → length (marked_below shut c.public.info.blocks) ≤ places
places_enough u l = omega (arith, ap length u.is_kept, u.counted)

module _ (words places : List ℕ) (chosen : ℕ) (c : Card) where
  -- The report's answer, and its places at exit.
  abbrev Reports : Answer → List ℕ → Type 0
  Reports r places' = Is (judge_sound c (lent_places places) (unlocking_plan words chosen (length places) c)) r c [] places'

  pub keys_refused : bad_keys words ≡ true → Reports (Refused BadOperand) places
  unfolding unlocking_plan listing
  keys_refused e = is_refused c (lent_places places) (unlocking_plan words chosen (length places) c) (here e)

  module _ (e : bad_keys words ≡ false) where
    -- No check before it holds: a block that is not there is not within reach, and the list of those that unlock it is empty.
    pub missing_refused : missing c.public chosen ≡ true → Reports (Refused NotAllocated) places
    unfolding unlocking_plan listing
    missing_refused m =
        is_refused c (lent_places places) (unlocking_plan words chosen (length places) c)
        (later e
        (later (missing_unlisted (given words) c chosen m)
        (later (le-ltb (length places) (length (unlocking words c chosen)) (omega (arith, ap length (unlocking_missing words c chosen m)))) (here m))))

    pub within_refused : contains chosen (within_reach (given words) c) ≡ true → Reports (Refused BadOperand) places
    unfolding unlocking_plan listing
    within_refused m = is_refused c (lent_places places) (unlocking_plan words chosen (length places) c) (later e (here m))

    module _ {shut : List ℕ} {count : ℕ} (u : Unlocking words c chosen shut count) where
      pub places_refused : length places < count → Reports (Refused BadOperand) places
      unfolding unlocking_plan listing
      places_refused l =
          is_refused c (lent_places places) (unlocking_plan words chosen (length places) c)
          (later e (later u.outside (here (lt-ltb (length places) (length (unlocking words c chosen)) (omega (arith, u.counted))))))

      pub list_answered : {places' : List ℕ} → missing c.public chosen ≡ false → count ≤ length places
          → places' ≡ overwrite places 0 (marked_below shut c.public.info.blocks) → Reports (Value count) places'
      unfolding unlocking_plan
      list_answered m l p =
          listing_done c places _ (unlocking words c chosen)
          (e, (u.outside, (le-ltb (length places) (length (unlocking words c chosen)) (omega (arith, u.counted)), (m, tt))))
          u.counted
          (p ∙ ap (λ (ns : List ℕ). overwrite places 0 ns) u.is_kept)
