-- A row of a theorem: a test that follows from its statement, at a given card and given calls. Where the row is false, so is the statement.
use mathlib.Core.Bool.{Bool, true, false, ◌||◌, not, true≢false}
use mathlib.Core.Path.{◌≡◌, refl, sym, ◌∙◌}

-- The second test holds where the first does.
abbrev pub implies : Bool → Bool → Bool
implies a b = not a || b

pub true_implies : (a b : Bool) → (a ≡ true → b ≡ true) → implies a b ≡ true
true_implies true b f = f refl
true_implies false b f = refl

pub record Row {ℓ} (Statement : Type ℓ) : Type ℓ where
  pub test : Bool
  pub follows : Statement → test ≡ true

-- A row that is false refutes its statement.
pub refutes {ℓ} : {Statement : Type ℓ} (row : Row Statement) → row.test ≡ false → Statement → ⊥
refutes row e s = true≢false (sym (row.follows s) ∙ e)

-- The row that stands where no rule is wrong.
abbrev pub nothing : Row ⊥
nothing = record { test = false; follows = λ s. absurd s }
