-- The walk marks the blocks within reach, and counts them.
use Prim.Native.Nat.{ℕ, ◌≤◌, ◌<◌}
use mathlib.Core.Path.{◌≡◌, ap, ◌∙◌}
use mathlib.Core.Bool.{true}
use mathlib.Core.List.{List}
use native.Mathlib.Nat.{not-suc-le-zero}
use native.Mathlib.Omega.{arith}
use lib.Dec.{eqb}
use lib.ListN.{length}
use borrow.Author.Tests.{eq-eqb, eqb-true}
use Rattle.laws.specs.ListsLaws.{same_test}
use Rattle.card.specs.Pointers.{contains}
use Rattle.card.specs.Card.{Card, in_use}
use Rattle.card.specs.SoundCard.{SoundCard}
use Rattle.report.specs.Report.{given, within_reach}
use Rattle.report.proofs.ReportLaws.{within_itself, within_step, within_in, within_own}
use Rattle.walks.specs.Walk.{Edge, mark, marked_below, Walking, Led, begins, leads, Spread}
use Rattle.walks.specs.WalkLaws.{marked_below_law}
use Rattle.walks.specs.declared.Direction.TheVariants.{Along}
use Rattle.reach.specs.Within.{Begun, Within}
use Rattle.reach.specs.WithinLaws.{Opens, along_opens, opens_along}

-- With nothing settled yet, a walk may go along any edges.
pub walking_start : {edge : ℕ → ℕ → Type 0} {marks queue : List ℕ} {tail : ℕ} → Walking (λ a b. ⊥) marks queue 0 tail → Walking edge marks queue 0 tail
walking_start h = record {
  has_marks = h.has_marks;
  has_queue = h.has_queue;
  order = h.order;
  counted = h.counted;
  is_marked = h.is_marked;
  queued = h.queued;
  settled = λ k b l e. absurd (not-suc-le-zero l);
}

module _ {words : List ℕ} {c : Card} (s : SoundCard c) {shut marks queue : List ℕ} {tail : ℕ} (h : Begun words c c.public.info.blocks shut marks queue tail) where
  led_within : {b : ℕ} → Led (Edge Along shut (in_use c.public)) marks b → contains b (within_reach (given words) c) ≡ true
  led_within (begins {b = b} e) = within_itself (given words) c b (h.only b e).1
  led_within (leads {a = a} {b = b} r e) =
      let o : Opens c s h.shut_below a b = along_opens c s h.shut_below e in
      within_step (given words) c a b (led_within r) o.points o.is_destination o.unsealed

  within_led : (b : ℕ) → contains b (within_reach (given words) c) ≡ true → Led (Edge Along shut (in_use c.public)) marks b
  within_led =
      within_in (given words) c (Led (Edge Along shut (in_use c.public)) marks)
      (λ b l e. begins (h.is_marked b l e))
      (λ a b l r p held open'. leads r (opens_along c s h.shut_below a b l p open'))

  below : (b : ℕ) → contains b (within_reach (given words) c) ≡ true → b < c.public.info.blocks
  below = within_in (given words) c (λ b. b < c.public.info.blocks) (λ b l e. l) (λ a b l r p held open'. l)

  pub walked : {marks' queue' : List ℕ} {count : ℕ} → Spread (Edge Along shut (in_use c.public)) marks marks' queue' count → Within words c shut marks' count
  walked {marks'} w =
      let list : marked_below marks' c.public.info.blocks ≡ within_reach (given words) c =
      within_own (given words) c (λ b. eqb (mark marks' b) 1)
      (λ b l.
      same_test _ _
      (λ e. led_within (w.led b (eqb-true (mark marks' b) 1 e)))
      (λ e. eq-eqb (mark marks' b) 1 (w.reached b (within_led b e)))) in
      let few : c.public.info.blocks ≤ length marks' = omega (arith, s.shaped.in_ranges.blocks_high, w.walking.has_marks) in
      record {
        shut_below = h.shut_below;
        is_marked = list;
        counted = w.walking.counted ∙ marked_below_law marks' c.public.info.blocks few (λ b e. below b (led_within (w.led b e))) ∙ ap length list;
      }
