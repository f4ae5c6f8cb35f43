-- What the look at a pointer's multiplicity tells on a sound card, and what two tests answer together.
use Prim.Native.Nat.{ℕ}
use mathlib.Core.Path.{◌≡◌, refl, sym, ap, ◌∙◌}
use mathlib.Core.Bool.{Bool, true, false, not, ◌||◌}
use lib.Dec.{eqb}
use Rattle.card.specs.Card.{Card, multiplicity, points_to}
use Rattle.card.specs.SoundCard.{SoundCard}
use Rattle.laws.proofs.PointerSteps.{points_times}

-- The number is the multiplicity of a pointer, by the tables that hold it.
abbrev pub Times : Card → ℕ → ℕ → ℕ → Type 0
Times c n a b = n ≡ multiplicity c.public a b

module _ (c : Card) {n : ℕ} (a b : ℕ) (e : Times c n a b) where
  pub times_whole : multiplicity c.public a b ≡ n
  unfolding multiplicity
  times_whole = sym e

  -- The pointer is there where the number is not 0.
  pub points_whole : SoundCard c → points_to c.public a b ≡ not (eqb n 0)
  points_whole s = points_times a b s ∙ ap (λ (k : ℕ). not (eqb k 0)) times_whole

-- A test's value after a test that comes first.
pub told_or : (s : Bool) {t u v : Bool} → u ≡ t → s || t ≡ v → s || u ≡ v
told_or s e h = ap (λ (x : Bool). s || x) e ∙ h

pub not_not : (t : Bool) → not (not t) ≡ t
not_not true = refl
not_not false = refl
