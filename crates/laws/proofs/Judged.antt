-- What a call leaves, by cases: the card itself where it is refused, the plan's changes of a sound card where it is done. What its checks answer.
use Rattle.std.specs.Prelude.{Option, None, Some}
use mathlib.Core.Path.{◌≡◌, refl, sym, ap, ◌∙◌, subst}
use mathlib.Core.Logic.{⊎_elim}
use mathlib.Core.Bool.{true, false}
use mathlib.Core.List.{List}
use Rattle.laws.specs.ListsLaws.{not_cases, absurd_test}
use Rattle.card.specs.Card.{Card}
use Rattle.card.specs.Soundness.{shape, sound}
use Rattle.card.specs.SoundCard.{SoundCard}
use Rattle.laws.specs.SoundnessLaws.{shape_true, sound_true}
use Rattle.card.specs.Plan.{Check, first, NoneHolds, audited, changes, Plan, Buffers, Result, refused, settle, judge, judge_sound}
use Rattle.laws.specs.PlanLaws.{holds_first, first_holds, none_first, first_none, judge_misshapen, judge_unsound, judge_sound_law}
use Rattle.card.specs.Calls.{is_done}
use Rattle.card.specs.Statements.Refusals.{RefusedBy}
use Rattle.card.specs.declared.Refusal.{Refusal}
use Rattle.card.specs.Answers.{Refused}

module _ (P : Result → Type 0) (c : Card) (lent : Buffers) (plan : Plan) (kept : (r : Refusal) → P (refused c lent r)) where
  settled : (o : Option Refusal) → (o ≡ None → P (settle c lent plan None)) → P (settle c lent plan o)
  unfolding settle
  settled None f = f refl
  settled (Some r) f = kept r

  -- What holds of every refusal on the card, and of the plan done on the card if it is sound, holds of the call.
  pub judge_cases : (SoundCard c → NoneHolds plan.checks → P (settle c lent plan None)) → P (judge c lent plan)
  unfolding judge_sound
  judge_cases f =
      ⊎_elim
      (λ (e : shape c ≡ true).
      ⊎_elim
      (λ (g : sound c ≡ true).
      let s : SoundCard c = record { shaped = shape_true c e; is_sound = sound_true c g } in
      subst P (sym (judge_sound_law c lent plan s))
      (settled (first plan.checks) (λ h. f s (first_none plan.checks h))))
      (λ (g : sound c ≡ false). subst P (sym (judge_unsound c lent plan e g)) (kept _))
      (not_cases (sound c)))
      (λ (e : shape c ≡ false). subst P (sym (judge_misshapen c lent plan e)) (kept _))
      (not_cases (shape c))

-- The same of the card that the call leaves.
pub judge_after : (P : Card → Type 0) (c : Card) (lent : Buffers) (plan : Plan) → P c
    → (SoundCard c → NoneHolds plan.checks → P (changes c plan.steps))
    → P (judge c lent plan).after
unfolding settle
judge_after P c lent plan same f = judge_cases (λ (r : Result). P r.after) c lent plan (λ r. same) f

-- ---- what is answered

-- By the first condition that holds, if any, where the plan itself answers no refusal.
module _ (c : Card) (lent : Buffers) (plan : Plan) (answers : is_done plan.answer ≡ true) where
  refused_first : (r : Refusal) (o : Option Refusal) → (settle c lent plan o).answer ≡ Refused r → o ≡ Some r
  unfolding settle
  refused_first r None e = absurd_test answers (ap is_done e)
  refused_first r (Some s) e = cc

  done_first : (o : Option Refusal) → is_done (settle c lent plan o).answer ≡ true → o ≡ None
  unfolding settle
  done_first None e = refl
  done_first (Some r) e = absurd_test e refl

  pub judged_iff : RefusedBy (audited c plan.checks) (judge c lent plan).answer
  unfolding judge settle
  judged_iff =
      let checks : List Check = audited c plan.checks in
      record {
        refused_iff = λ r. (
          λ e. first_holds checks r (refused_first r (first checks) e),
          λ h. ap (λ (o : Option Refusal). (settle c lent plan o).answer) (holds_first h),
        );
        done_iff = (
          λ e. first_none checks (done_first (first checks) e),
          λ h. ap (λ (o : Option Refusal). is_done (settle c lent plan o).answer) (none_first checks h) ∙ answers,
        );
      }
