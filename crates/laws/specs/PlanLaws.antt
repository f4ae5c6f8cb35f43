-- Laws of checks in order, and of a call judged by them.
use Rattle.std.specs.Prelude.{◌≡◌, refl, Bool, true, false, cond, List, [], ◌∷◌, ◌++◌, None, Some}
use Rattle.std.proofs.Math.Path.{ap}
use Rattle.std.proofs.Common.{subst, true≢false}
use Rattle.std.proofs.Math.Bool.{not}
use Rattle.card.specs.Card.{Card}
use Rattle.card.specs.Soundness.{shape, sound}
use Rattle.card.specs.SoundCard.{SoundCard}
use Rattle.laws.specs.SoundnessLaws.{true_shape, true_sound}
use Rattle.card.specs.Plan.{Check, ◌⇒◌, first, FirstHolds, here, later, NoneHolds, audited, Plan, Buffers, refused, done, settle, judge, judge_sound}
use Rattle.card.specs.declared.Refusal.{Refusal}
use Rattle.card.specs.declared.Refusal.TheVariants.{Misshapen, Unsound}

-- ---- the first check that holds

pub holds_first : {checks : List Check} {r : Refusal} → FirstHolds checks r → first checks ≡ Some r
unfolding first
holds_first (here {t = t} {checks = checks} e) = rw e
holds_first (later {t = t} {checks = checks} e h) = rw e (holds_first h)

pub none_first : (checks : List Check) → NoneHolds checks → first checks ≡ None
unfolding first
none_first [] h = refl
none_first ((t ⇒ r) ∷ checks) h = rw h.0 (none_first checks h.1)

first_holds_at : (t : Bool) (s : Refusal) (checks : List Check) (r : Refusal) → (first checks ≡ Some r → FirstHolds checks r)
    → cond t (Some s) (first checks) ≡ Some r → FirstHolds ((t ⇒ s) ∷ checks) r
first_holds_at true s checks r f e = subst (λ (x : Refusal). FirstHolds ((true ⇒ s) ∷ checks) x) (cc) (here refl)
first_holds_at false s checks r f e = later refl (f e)

pub first_holds : (checks : List Check) (r : Refusal) → first checks ≡ Some r → FirstHolds checks r
unfolding first
first_holds [] r e = absurd (true≢false (cc))
first_holds ((t ⇒ s) ∷ checks) r e = first_holds_at t s checks r (first_holds checks r) e

first_none_at : (t : Bool) (s : Refusal) (checks : List Check) → (first checks ≡ None → NoneHolds checks)
    → cond t (Some s) (first checks) ≡ None → NoneHolds ((t ⇒ s) ∷ checks)
first_none_at true s checks f e = absurd (true≢false (cc))
first_none_at false s checks f e = (refl, f e)

pub first_none : (checks : List Check) → first checks ≡ None → NoneHolds checks
unfolding first
first_none [] e = tt
first_none ((t ⇒ s) ∷ checks) e = first_none_at t s checks (first_none checks) e

-- ---- checks behind checks

pub holds_front : {checks : List Check} {r : Refusal} (rest : List Check) → FirstHolds checks r → FirstHolds (checks ++ rest) r
holds_front rest (here e) = here e
holds_front rest (later e h) = later e (holds_front rest h)

pub holds_behind : (checks : List Check) {rest : List Check} {r : Refusal} → NoneHolds checks → FirstHolds rest r → FirstHolds (checks ++ rest) r
holds_behind [] n h = h
holds_behind ((t ⇒ s) ∷ checks) n h = later n.0 (holds_behind checks n.1 h)

pub none_append : (checks rest : List Check) → NoneHolds checks → NoneHolds rest → NoneHolds (checks ++ rest)
none_append [] rest n h = h
none_append ((t ⇒ s) ∷ checks) rest n h = (n.0, none_append checks rest n.1 h)

-- ---- a call judged

module _ (c : Card) (lent : Buffers) (plan : Plan) where
  pub judge_misshapen : shape c ≡ false → judge c lent plan ≡ refused c lent Misshapen
  unfolding judge audited settle
  judge_misshapen e = ap (settle c lent plan) (holds_first (here (ap not e)))

  pub judge_unsound : shape c ≡ true → sound c ≡ false → judge c lent plan ≡ refused c lent Unsound
  unfolding judge audited settle
  judge_unsound e f = ap (settle c lent plan) (holds_first (later (ap not e) (here (ap not f))))

  -- On a sound card a call is judged by its own checks.
  pub judge_sound_law : SoundCard c → judge c lent plan ≡ judge_sound c lent plan
  unfolding judge judge_sound audited first
  judge_sound_law s = rw (true_shape s.shaped, true_sound s.is_sound)

  -- Refused r where r's condition holds and none before it.
  pub refused_by : {r : Refusal} → FirstHolds plan.checks r → judge_sound c lent plan ≡ refused c lent r
  unfolding judge_sound settle
  refused_by h = ap (settle c lent plan) (holds_first h)

  -- Done where no condition holds.
  pub done_by : NoneHolds plan.checks → judge_sound c lent plan ≡ done c lent plan
  unfolding judge_sound settle
  done_by h = ap (settle c lent plan) (none_first plan.checks h)
