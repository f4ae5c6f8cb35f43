-- The two ways between the tests of shape and soundness and the statements of SoundCard.
use Rattle.std.specs.Prelude.{ℕ, ◌≤◌, ◌<◌, ◌≡◌, refl, ◌⊎◌, Bool, true, false, not, cond, [], ◌∷◌, eqb, ltb, leb}
use Rattle.std.proofs.Common.{ap, inl, inr, ⊎_elim, arith, lt-ltb, le-ltb, le-leb, eq-eqb, ne_eqb, ltb-false, leb-true, eqb-true}
use Rattle.std.proofs.lemmas.Bool.{eqb-false, not-true}
use Rattle.laws.specs.ListsLaws.{and_left, and_right, and_true, or_cases, false_unless, absurd_test, every_true, true_every}
use Rattle.card.specs.Pointers.{source, destination}
use Rattle.card.specs.Card.{Public, Card, flag, allocated_flag, allocated, waiting, free, is_root, highest_multiplicity}
use Rattle.card.specs.Soundness.{shape, pointer_right, multiplicity_right, sound, verdict}
use Rattle.card.specs.SoundCard.{RightPointer, Consistent, SoundCard}
use Rattle.card.specs.declared.Verdict.{Verdict}
use Rattle.card.specs.declared.Verdict.TheVariants.{Misshapen, Unsound, Sound}
pub use Rattle.card.proofs.Computed.SoundLaws.{absent_key_zero_true, allocated_below, key_zero_true, lengths_true, pointed_to_true, ranges_true, root_allocated_true, shape_true, sound_true, true_absent_key_zero, true_key_zero, true_lengths, true_pointed_to, true_ranges, true_root_allocated, true_shape, true_sound, true_unallocated_empty, unallocated_empty_true}
pub use Rattle.card.proofs.Computed.TestLaws.{free_below, waiting_below}

-- ---- soundness

pub pointer_right_true : (p : Public) (w : ℕ) → pointer_right p w ≡ true → RightPointer p w
unfolding pointer_right
pointer_right_true p w e =
    let h = every_true (allocated p (source w) ∷ allocated p (destination w) ∷ not (is_root p (destination w)) ∷ not (eqb (source w) (destination w)) ∷ []) e in
    record {
      source_allocated = h.0;
      destination_allocated = h.1.0;
      no_root = ltb-false _ _ (not-true _ h.1.1.0);
      different = eqb-false _ _ (not-true _ h.1.1.1.0);
    }

pub true_pointer_right : {p : Public} {w : ℕ} → RightPointer p w → pointer_right p w ≡ true
unfolding pointer_right
true_pointer_right h =
    true_every _ (
      h.source_allocated,
      (
        h.destination_allocated,
        (
          ap not (le-ltb _ _ h.no_root),
          (
            ap not (ne_eqb _ _ h.different),
            tt,
          ),
        ),
      ),
    )

-- A right multiplicity is from 1 to 65,535.
pub multiplicity_right_low : (n : ℕ) → multiplicity_right n ≡ true → 1 ≤ n
unfolding multiplicity_right
multiplicity_right_low n e = leb-true _ _ (and_left _ _ e)

pub multiplicity_right_high : (n : ℕ) → multiplicity_right n ≡ true → n ≤ highest_multiplicity
unfolding multiplicity_right
multiplicity_right_high n e = leb-true _ _ (and_right (leb 1 n) _ e)

pub true_multiplicity_right : (n : ℕ) → 1 ≤ n → n ≤ highest_multiplicity → multiplicity_right n ≡ true
unfolding multiplicity_right
true_multiplicity_right n low high = and_true _ _ (le-leb _ _ low) (le-leb _ _ high)

-- ---- what soundness gives

pub allocated_flag_law : (p : Public) (b : ℕ) → allocated p b ≡ true → allocated_flag (flag p b) ≡ true
unfolding allocated
allocated_flag_law p b e = and_right (ltb b p.info.blocks) _ e

pub flag_allocated : (p : Public) (b : ℕ) → b < p.info.blocks → allocated_flag (flag p b) ≡ true → allocated p b ≡ true
unfolding allocated
flag_allocated p b l e = and_true _ _ (lt-ltb _ _ l) e

pub free_flag : (p : Public) (b : ℕ) → free p b ≡ true → flag p b ≡ 0
unfolding free
free_flag p b e = eqb-true _ _ (and_right (ltb b p.info.blocks) _ e)

pub flag_free : (p : Public) (b : ℕ) → b < p.info.blocks → flag p b ≡ 0 → free p b ≡ true
unfolding free
flag_free p b l e = and_true _ _ (lt-ltb _ _ l) (eq-eqb _ _ e)

pub waiting_flag_law : (p : Public) (b : ℕ) → waiting p b ≡ true → flag p b ≡ 8
unfolding waiting
waiting_flag_law p b e = eqb-true _ _ (and_right (ltb b p.info.blocks) _ e)

pub flag_waiting : (p : Public) (b : ℕ) → b < p.info.blocks → flag p b ≡ 8 → waiting p b ≡ true
unfolding waiting
flag_waiting p b l e = and_true _ _ (lt-ltb _ _ l) (eq-eqb _ _ e)

pub free_unallocated : (p : Public) (b : ℕ) → free p b ≡ true → allocated p b ≡ false
unfolding allocated
free_unallocated p b e = rw (free_flag p b e, lt-ltb _ _ (free_below p b e)) refl

pub waiting_unallocated : (p : Public) (b : ℕ) → waiting p b ≡ true → allocated p b ≡ false
unfolding allocated
waiting_unallocated p b e = rw (waiting_flag_law p b e, lt-ltb _ _ (waiting_below p b e)) refl

-- A block of a sound card that is not allocated waits or is free.
pub unallocated_cases : {c : Card} → Consistent c → (b : ℕ) → b < c.public.info.blocks → allocated c.public b ≡ false
    → (waiting c.public b ≡ true) ⊎ (free c.public b ≡ true)
unallocated_cases {c} s b l e =
    let flagged : allocated_flag (flag c.public b) ≡ false = false_unless _ (λ a. absurd_test (flag_allocated c.public b l a) e) in
    ⊎_elim
    (λ z. inr (flag_free c.public b l (eqb-true _ _ z)))
    (λ w. inl (flag_waiting c.public b l (eqb-true _ _ w)))
    (or_cases _ _ (s.unallocated b l flagged).free_or_waiting)

-- ---- what each verdict says, and when it is given

-- The verdict on two tests.
abbrev verdict_on : Bool → Bool → Verdict
verdict_on s t = cond s (cond t Sound Unsound) Misshapen

on_sound : (s t : Bool) → verdict_on s t ≡ Sound → (s ≡ true) × (t ≡ true)
on_sound true true e = (refl, refl)
on_sound true false e = let z : ◌≡◌ {A = ℕ} 0 1 = cc in absurd (omega arith)
on_sound false t e = let z : ◌≡◌ {A = ℕ} 0 1 = cc in absurd (omega arith)

on_unsound : (s t : Bool) → verdict_on s t ≡ Unsound → (s ≡ true) × (t ≡ false)
on_unsound true true e = let z : ◌≡◌ {A = ℕ} 0 1 = cc in absurd (omega arith)
on_unsound true false e = (refl, refl)
on_unsound false t e = let z : ◌≡◌ {A = ℕ} 0 1 = cc in absurd (omega arith)

on_misshapen : (s t : Bool) → verdict_on s t ≡ Misshapen → s ≡ false
on_misshapen true true e = let z : ◌≡◌ {A = ℕ} 0 1 = cc in absurd (omega arith)
on_misshapen true false e = let z : ◌≡◌ {A = ℕ} 0 1 = cc in absurd (omega arith)
on_misshapen false t e = refl

pub verdict_sound : (c : Card) → verdict c ≡ Sound → SoundCard c
unfolding verdict
verdict_sound c e =
    let h = on_sound (shape c) (sound c) e in
    record { shaped = shape_true c h.0; is_sound = sound_true c h.1 }

pub verdict_unsound : (c : Card) → verdict c ≡ Unsound → (shape c ≡ true) × (sound c ≡ false)
unfolding verdict
verdict_unsound c e = on_unsound (shape c) (sound c) e

pub verdict_misshapen : (c : Card) → verdict c ≡ Misshapen → shape c ≡ false
unfolding verdict
verdict_misshapen c e = on_misshapen (shape c) (sound c) e

pub sound_verdict : {c : Card} → SoundCard c → verdict c ≡ Sound
unfolding verdict
sound_verdict h = rw (true_shape h.shaped, true_sound h.is_sound) refl

pub misshapen_verdict : (c : Card) → shape c ≡ false → verdict c ≡ Misshapen
unfolding verdict
misshapen_verdict c e = rw e refl
