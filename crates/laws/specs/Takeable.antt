-- Blocks that can be taken, and blocks that can be swept, one after the other.
use Rattle.std.specs.Prelude.{ℕ, ◌≡◌, true, not, List, [], ◌∷◌, eqb}
use Rattle.card.specs.Lists.{all}
use Rattle.card.specs.Card.{Public, waiting, free}

-- Each number of the list is another than x.
abbrev pub Without : ℕ → List ℕ → Type 0
Without x xs = all (λ y. not (eqb y x)) xs ≡ true

-- The numbers of the list are all different.
pub data Distinct : List ℕ → Type 0 where
  none : Distinct []
  more : {x : ℕ} {xs : List ℕ} → Without x xs → Distinct xs → Distinct (x ∷ xs)

-- Free and all different.
pub record Takeable (p : Public) (bs : List ℕ) : Type 0 where
  pub free : all (λ b. free p b) bs ≡ true
  pub distinct : Distinct bs

-- Waiting and all different.
pub record Sweepable (p : Public) (bs : List ℕ) : Type 0 where
  pub waiting : all (λ b. waiting p b) bs ≡ true
  pub distinct : Distinct bs
