-- A call on a sound card leaves a sound card, and so every count stays right.
use mathlib.Core.Path.{refl}
use Rattle.card.specs.Plan.{Result, settle}
use Rattle.card.specs.Session.{plan, perform}
use Rattle.card.specs.SoundCard.{SoundCard}
use Rattle.card.specs.Statements.Sound.{DoneSound, DoneLeavesSound, CountsRight, PointersAscending}
use Rattle.card.specs.declared.Refusal.{Refusal}
use Rattle.card.specs.Answers.{Refused}
use Rattle.laws.proofs.Judged.{judge_cases}
use Rattle.laws.proofs.KeepsSound.{call_sound, perform_sound}
use mathlib.Core.Path.{◌≡◌}

pub done_sound : DoneSound
done_sound = perform_sound

pub done_leaves_sound : DoneLeavesSound
unfolding perform settle
done_leaves_sound port c q =
    judge_cases (λ (result : Result). ((r : Refusal) → result.answer ≡ Refused r → ⊥) → SoundCard result.after) c q.lent (plan port c q.call q.lent)
    (λ r never. absurd (never r refl))
    (λ s h never. call_sound port c q.call q.lent s h)

pub counts_right : CountsRight
counts_right port c q s = (perform_sound port c q s).is_sound.counts

pub pointers_ascending : PointersAscending
pointers_ascending port c q s = record { ascends = (perform_sound port c q s).is_sound.ascends; rest_zero = (perform_sound port c q s).is_sound.rest_zero }
