-- What the two calls leave and answer: nothing but the list's places changes, and each refusal comes where the request has it.
use Prim.Native.Nat.{ℕ, ◌+◌, ◌*◌, ◌/◌, ◌%◌, ◌≤◌, ◌<◌}
use mathlib.Core.Path.{◌≡◌, refl, ap, ◌∙◌}
use mathlib.Core.Logic.{⊎_elim}
use mathlib.Core.Bool.{Bool, true, false, not}
use mathlib.Core.List.{List}
use native.Mathlib.Omega.{arith}
use lib.Dec.{eqb}
use lib.ListN.{length, drop}
use lib.Seq.{drop_at}
use borrow.Author.Tests.{eq-eqb, eqb-true, ltb-false, le-ltb, not-true, not-false}
use Rattle.card.specs.Lists.{numbers_below}
use Rattle.laws.specs.ListsLaws.{or_false, or_false_left, or_false_right, absurd_test, not_cases, false_unless, same_test}
use Rattle.card.specs.Contents.{overwrite}
use Rattle.laws.specs.ContentsLaws.{overwrite_length, overwrite_part}
use Rattle.laws.specs.NearestLaws.{numbers_hold, hold_numbers}
use Rattle.card.specs.Card.{Card}
use Rattle.laws.specs.SoundnessLaws.{true_shape, true_sound}
use Rattle.card.specs.Plan.{Check, here, later, NoneHolds, audited, changes, places_after, settle, judge}
use Rattle.card.specs.declared.Refusal.TheVariants.{NotAllocated}
use Rattle.laws.proofs.Judged.{judge_cases, judged_iff}
use Rattle.laws.specs.LeastLaws.{Some, any_member, member_any}
use Rattle.report.specs.Report.{given, bad_keys, within_reach, unlocking, listing, reach_plan, unlocking_plan, lent_places, reach_report, unlocking_report}
use Rattle.report.proofs.ReportLaws.{missing_unlisted, unlocking_missing}
use Rattle.report.specs.Statements.{within_reach_of, unlocking_of, UnchangedButFor, ReportUnchanged, up_to64, ReportRefused, UnknownChosen}

-- ---- what is left

overwrite_rest : (places list : List ℕ) → drop (length list) (overwrite places 0 list) ≡ drop (length list) places
unfolding overwrite
overwrite_rest places list =
    let same : 0 + length list ≡ length list = omega arith in
    drop_at list (drop (0 + length list) places) (length list) refl ∙ ap (λ (n : ℕ). drop n places) same

listing_unchanged : (c : Card) (places : List ℕ) (checks : List Check) (list : List ℕ) → (NoneHolds checks → length list ≤ length places)
    → UnchangedButFor list c places (judge c (lent_places places) (listing checks list))
unfolding listing settle changes places_after
listing_unchanged c places checks list room =
    judge_cases (UnchangedButFor list c places) c (lent_places places) (listing checks list)
    (λ r. record {
      after = refl;
      as_many = refl;
      result = λ d. absurd_test d refl;
      lists = λ d. absurd_test d refl;
      behind = λ d. absurd_test d refl;
      when_refused = λ d. refl;
    })
    (λ s h.
    let fits : 0 + length list ≤ length places = omega (arith, room h) in
    record {
      after = refl;
      as_many = overwrite_length places 0 list fits;
      result = λ d. refl;
      lists = λ d. overwrite_part places 0 list fits;
      behind = λ d. overwrite_rest places list;
      when_refused = λ d. absurd_test {t = true} refl d;
    })

pub report_unchanged : ReportUnchanged
unfolding reach_report reach_plan unlocking_report unlocking_plan listing
report_unchanged within_reach_of words places c = listing_unchanged c places _ (within_reach (given words) c) (λ h. ltb-false _ _ h.1.0)
report_unchanged (unlocking_of chosen) words places c = listing_unchanged c places _ (unlocking words c chosen) (λ h. ltb-false _ _ h.1.1.0)

-- ---- the refusals in order

good_keys : (words : List ℕ) → bad_keys words ≡ false → up_to64 (length words) ≡ true
unfolding bad_keys up_to64
good_keys words e =
    let even : length words % 2 ≡ 0 = eqb-true _ _ (not-false _ (or_false_left (not (eqb (length words % 2) 0)) _ e)) in
    let most : length words ≤ 128 = ltb-false _ _ (or_false_right (not (eqb (length words % 2) 0)) _ e) in
    any_member (λ k. eqb (length words) (2 * k)) (numbers_below (λ k. true) 65) (length words / 2)
    (hold_numbers (λ k. true) 65 (length words / 2) (omega arith) refl)
    (eq-eqb (length words) (2 * (length words / 2)) (omega arith))

keys_good : (words : List ℕ) → up_to64 (length words) ≡ true → bad_keys words ≡ false
unfolding bad_keys up_to64
keys_good words e =
    let counts : ℕ → Bool = λ k. eqb (length words) (2 * k) in
    let m : Some counts (numbers_below (λ k. true) 65) = member_any counts (numbers_below (λ k. true) 65) e in
    let most : m.which < 65 = (numbers_hold (λ k. true) 65 m.which m.within).0 in
    let whole : length words ≡ 2 * m.which = eqb-true _ _ m.passes in
    or_false (not (eqb (length words % 2) 0)) _ (ap not (eq-eqb (length words % 2) 0 (omega arith))) (le-ltb 128 (length words) (omega arith))

bad_keys_law : (words : List ℕ) → not (up_to64 (length words)) ≡ bad_keys words
bad_keys_law words =
    same_test _ _
    (λ e. ⊎_elim (λ t. t) (λ t. absurd_test (good_keys words t) (not-true _ e)) (not_cases (bad_keys words)))
    (λ e. ap not (false_unless _ (λ g. absurd_test e (keys_good words g))))

pub report_refused : ReportRefused
unfolding reach_report reach_plan unlocking_report unlocking_plan listing audited
report_refused within_reach_of words places c =
    rw (bad_keys_law words) (judged_iff c (lent_places places) (reach_plan words (length places) c) refl)
report_refused (unlocking_of chosen) words places c =
    rw (bad_keys_law words) (judged_iff c (lent_places places) (unlocking_plan words chosen (length places) c) refl)

-- Nothing unlocks a block that is not allocated, so its list is empty.
pub unknown_chosen : UnknownChosen
unknown_chosen words places chosen c s good m =
    ((report_refused (unlocking_of chosen) words places c).refused_iff NotAllocated).1
    (later (ap not (true_shape s.shaped))
    (later (ap not (true_sound s.is_sound))
    (later (ap not good)
    (later (missing_unlisted (given words) c chosen m)
    (later (rw (unlocking_missing words c chosen m) (le-ltb (length places) 0 (omega arith)))
    (here m))))))
