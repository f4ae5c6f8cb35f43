-- The place of a number in a sorted list.
use Rattle.std.specs.Prelude.{ℕ, ◌+◌, cond, List, [], ◌∷◌, ltb}

-- The number of elements below w.
unfoldable pub rank : ℕ → List ℕ → ℕ
rank w [] = 0
rank w (x ∷ xs) = cond (ltb x w) 1 0 + rank w xs
