-- Insertion and removal at a place of a list: the pointers and the multiplicities beside them move by the same definition at the same place.
use Rattle.std.specs.Prelude.{ℕ, suc, ◌+◌, ◌≡◌, List, ◌∷◌, ◌++◌, take, drop}

unfoldable pub insert_at : ℕ → ℕ → List ℕ → List ℕ
insert_at at x xs = take at xs ++ (x ∷ drop at xs)

unfoldable pub remove_at : {A : Type 0} → ℕ → List A → List A
remove_at at xs = take at xs ++ drop (suc at) xs

-- The first `used` elements from a place on stand so many places higher, and all others where they were.
unfoldable pub raised_at : {A : Type 0} → ℕ → ℕ → ℕ → List A → List A
raised_at at by used xs = take (at + by) xs ++ (drop at (take used xs) ++ drop (used + by) xs)

-- A pointer is put in at a place of the first `used`, and its multiplicity 1 beside it.
pub record PutAt (used at w : ℕ) (pointers multiplicities pointers' multiplicities' : List ℕ) : Type 0 where
  pub of_pointers : pointers' ≡ insert_at at w (take used pointers) ++ drop (used + 1) pointers
  pub of_multiplicities : multiplicities' ≡ insert_at at 1 (take used multiplicities) ++ drop (used + 1) multiplicities

-- What stands at a place of the first `used` is taken away in both tables, and their last place becomes 0.
pub record TakenAt (used at : ℕ) (pointers multiplicities pointers' multiplicities' : List ℕ) : Type 0 where
  pub of_pointers : pointers' ≡ remove_at at (take used pointers) ++ (0 ∷ drop used pointers)
  pub of_multiplicities : multiplicities' ≡ remove_at at (take used multiplicities) ++ (0 ∷ drop used multiplicities)
