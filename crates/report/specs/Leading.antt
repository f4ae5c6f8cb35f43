-- The second list by one walk against the pointers: the blocks that lead on to the chosen one, and the keys that they have.
use Rattle.std.specs.Prelude.{ℕ, Bool, ◌&&◌, ◌||◌, not, List, [], ◌∷◌, eqb}
use Rattle.card.specs.Lists.{any}
use Rattle.card.specs.Card.{Card, points_to}
use Rattle.card.specs.Reach.{sealed}
use Rattle.card.specs.Least.{least}
use Rattle.report.specs.Report.{given, some_key}

module _ (isPresented : ℕ → ℕ → Bool) (c : Card) (chosen : ℕ) where
  -- The chosen block, and each that points to an unsealed member.
  unfoldable pub leads_on : List ℕ → ℕ → Bool
  leads_on members b = eqb b chosen || any (λ m. not (sealed isPresented c m) && points_to c.public b m) members

  unfoldable pub leading : List ℕ
  leading = least leads_on c.public.info.blocks

  -- Some block that leads on has this key, for reading or for writing.
  unfoldable pub fits : ℕ → ℕ → Bool
  fits high low = any (λ m. some_key (given (high ∷ (low ∷ []))) c m) leading
