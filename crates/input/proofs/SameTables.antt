-- Laws of `SameTables`: a part of the invariant of each loop over the records of an input.
use mathlib.Core.Path.{refl, ◌∙◌}
use Rattle.card.specs.Lent.{SameTables}
use Rattle.card.specs.declared.LentCard.{LentCard}

pub same_tables : (t : LentCard) → SameTables t t
same_tables t = (refl, refl, refl, refl, refl, refl, refl)

pub same_still : (t u v : LentCard) → SameTables t u → SameTables u v → SameTables t v
same_still t u v (a, b, c, d, e, f, g) (h, i, j, k, l, m, n) = (h ∙ a, i ∙ b, j ∙ c, k ∙ d, l ∙ e, m ∙ f, n ∙ g)
