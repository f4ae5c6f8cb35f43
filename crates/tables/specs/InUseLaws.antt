-- From a sound card to what the functions on its pointers ask, and to the bound of its counts.
use Rattle.std.specs.Prelude.{ℕ, ◌*◌, ◌≤◌, ◌<◌, ◌≡◌, eqb, leb, length}
use Rattle.std.proofs.Common.{ap, arith, length-take-le, le-leb}
use Rattle.laws.specs.ListsLaws.{all_map}
use Rattle.card.specs.Pointers.{destination, pointers_to}
use Rattle.laws.specs.BesideLaws.{total_high}
use Rattle.card.specs.Card.{Public, Card, count, in_use, times_in_use, highest_multiplicity}
use Rattle.card.specs.Soundness.{multiplicity_right}
use Rattle.card.specs.SoundCard.{SoundCard}
use Rattle.laws.specs.SoundnessLaws.{multiplicity_right_high}
use Rattle.tables.specs.InUse.{Sorted, Paired}

module _ {c : Card} (s : SoundCard c) where
  pub sound_sorted : Sorted c.public.pointers c.public.info.used
  sound_sorted = record { within = s.shaped.used_high; ascends = s.is_sound.ascends }

  pub sound_paired : Paired c.public.pointers c.public.multiplicities
  sound_paired = record { same = s.shaped.has_lengths.multiplicities }

-- ---- counts

-- A block's count is at most as many times the highest multiplicity as there are pointers.
pub count_low_law : {c : Card} (s : SoundCard c) (b : ℕ) → b < c.public.info.blocks → count c.public b ≤ c.public.info.used * highest_multiplicity
count_low_law {c} s b l =
    let p : Public = c.public in
    let long : length (times_in_use p) ≡ p.info.used = length-take-le p.info.used p.multiplicities (omega (arith, s.shaped.has_lengths.multiplicities, s.shaped.used_high)) in
    let sum : pointers_to b (in_use p) (times_in_use p) ≤ length (times_in_use p) * highest_multiplicity =
    total_high (λ w. eqb (destination w) b) (in_use p) (times_in_use p) highest_multiplicity
    (all_map (λ n. multiplicity_right n) (λ n. leb n highest_multiplicity) (λ n e. le-leb _ _ (multiplicity_right_high n e)) (times_in_use p) s.is_sound.times_right) in
    let many : length (times_in_use p) * highest_multiplicity ≡ p.info.used * highest_multiplicity = ap (λ (n : ℕ). n * highest_multiplicity) long in
    omega (arith, s.is_sound.counts b l)
