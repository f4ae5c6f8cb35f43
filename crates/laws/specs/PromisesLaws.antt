-- Laws of what a rule says of an answer, a card and two buffers: refused, done, and by the verdict of the audit.
use Rattle.std.specs.Prelude.{ℕ, ◌≡◌, refl, List}
use Rattle.std.proofs.Common.{sym, ap, ◌∙◌}
use Rattle.card.specs.Card.{Card}
use Rattle.card.specs.Soundness.{verdict}
use Rattle.card.specs.Promises.{Is}
use Rattle.laws.specs.SoundnessLaws.{verdict_misshapen, verdict_unsound, verdict_sound}
use Rattle.card.specs.Plan.{FirstHolds, NoneHolds, Plan, Buffers, Result, out_after, places_after, changes, judge, judge_sound}
use Rattle.laws.specs.PlanLaws.{judge_misshapen, judge_unsound, judge_sound_law, refused_by, done_by}
use Rattle.card.specs.declared.Verdict.TheVariants.{Misshapen, Unsound, Sound}
use Rattle.card.specs.declared.Refusal.{Refusal}
use Rattle.card.specs.declared.Refusal.TheVariants.{Misshapen as MisshapenRefusal, Unsound as UnsoundRefusal}
use Rattle.card.specs.Answers.{Answer}
use Rattle.card.specs.Answers.{Refused}

-- What is a result is an equal one.
pub is_same : {want other : Result} {answer : Answer} {after : Card} {out places : List ℕ} → other ≡ want → Is want answer after out places → Is other answer after out places
is_same e i = record {
  answers = i.answers ∙ ap (λ (r : Result). r.answer) (sym e);
  leaves = i.leaves ∙ ap (λ (r : Result). r.after) (sym e);
  fills_out = i.fills_out ∙ ap (λ (r : Result). r.out) (sym e);
  fills_places = i.fills_places ∙ ap (λ (r : Result). r.places) (sym e);
}

module _ (c : Card) (lent : Buffers) (plan : Plan) where
  -- A refusal leaves the card and the buffers as they were.
  pub is_refused : {r : Refusal} → FirstHolds plan.checks r → Is (judge_sound c lent plan) (Refused r) c lent.out lent.places
  is_refused h = is_same (refused_by c lent plan h) (record { answers = refl; leaves = refl; fills_out = refl; fills_places = refl })

  pub is_done : {after : Card} {out places : List ℕ} → NoneHolds plan.checks → after ≡ changes c plan.steps → out ≡ out_after c plan.shown lent.out
      → places ≡ places_after plan.shown lent.places → Is (judge_sound c lent plan) plan.answer after out places
  is_done h a o p = is_same (done_by c lent plan h) (record { answers = refl; leaves = a; fills_out = o; fills_places = p })

  -- ---- on any card, by the verdict of its audit

  pub judged_misshapen : verdict c ≡ Misshapen → Is (judge c lent plan) (Refused MisshapenRefusal) c lent.out lent.places
  judged_misshapen e = is_same (judge_misshapen c lent plan (verdict_misshapen c e)) (record { answers = refl; leaves = refl; fills_out = refl; fills_places = refl })

  pub judged_unsound : verdict c ≡ Unsound → Is (judge c lent plan) (Refused UnsoundRefusal) c lent.out lent.places
  judged_unsound e =
      let h = verdict_unsound c e in
      is_same (judge_unsound c lent plan h.0 h.1) (record { answers = refl; leaves = refl; fills_out = refl; fills_places = refl })

  -- What is right on an audited card is right.
  pub judged_sound : verdict c ≡ Sound → {answer : Answer} {after : Card} {out places : List ℕ} → Is (judge_sound c lent plan) answer after out places
      → Is (judge c lent plan) answer after out places
  judged_sound e i = is_same (judge_sound_law c lent plan (verdict_sound c e)) i
