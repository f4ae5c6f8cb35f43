-- What is answered on a sound card, by the checks in their order.
use Prim.Native.Nat.{ℕ, ◌<◌, ◌≤◌}
use mathlib.Core.Path.{◌≡◌, sym, ap, ◌∙◌}
use mathlib.Core.Bool.{Bool, true, false}
use mathlib.Core.List.{List, []}
use native.Mathlib.Omega.{arith}
use lib.ListN.{length}
use borrow.Author.Tests.{lt-ltb, le-ltb}
use Rattle.card.specs.Contents.{overwrite}
use Rattle.card.specs.Card.{Card}
use Rattle.card.specs.Plan.{here, later, judge_sound}
use Rattle.card.specs.Promises.{Is}
use Rattle.laws.specs.PromisesLaws.{is_refused}
use Rattle.card.specs.Answers.{Answer}
use Rattle.card.specs.Answers.{Refused, Value}
use Rattle.card.specs.declared.Refusal.TheVariants.{BadOperand}
use Rattle.report.specs.Report.{given, bad_keys, within_reach, listing, reach_plan, lent_places}
use Rattle.report.proofs.ReportLaws.{listing_done}
use Rattle.walks.specs.Walk.{marked_below}
use Rattle.reach.specs.Within.{Within}

module _ (words places : List ℕ) (c : Card) where
  -- The report's answer, and its places at exit.
  abbrev Reports : Answer → List ℕ → Type 0
  Reports r places' = Is (judge_sound c (lent_places places) (reach_plan words (length places) c)) r c [] places'

  pub keys_refused : {t : Bool} → t ≡ bad_keys words → t ≡ true → Reports (Refused BadOperand) places
  unfolding reach_plan listing
  keys_refused h e = is_refused c (lent_places places) (reach_plan words (length places) c) (here (sym h ∙ e))

  module _ {t : Bool} (h : t ≡ bad_keys words) (e : t ≡ false) {shut marks : List ℕ} {count : ℕ} (w : Within words c shut marks count) where
    pub places_refused : length places < count → Reports (Refused BadOperand) places
    unfolding reach_plan listing
    places_refused l =
        is_refused c (lent_places places) (reach_plan words (length places) c)
        (later (sym h ∙ e) (here (lt-ltb (length places) (length (within_reach (given words) c)) (omega (arith, w.counted)))))

    pub places_enough : count ≤ length places → length (marked_below marks c.public.info.blocks) ≤ length places
    places_enough l = omega (arith, ap length w.is_marked, w.counted)

    pub list_answered : {places' : List ℕ} → count ≤ length places → places' ≡ overwrite places 0 (marked_below marks c.public.info.blocks) → Reports (Value count) places'
    unfolding reach_plan
    list_answered l p =
        listing_done c places _ (within_reach (given words) c)
        (sym h ∙ e, (le-ltb (length places) (length (within_reach (given words) c)) (omega (arith, w.counted)), tt))
        w.counted
        (p ∙ ap (λ (ns : List ℕ). overwrite places 0 ns) w.is_marked)
