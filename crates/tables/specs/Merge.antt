-- Several pointers put into their places in an ascending list, and beside each the number that f gives of it.
use Rattle.std.specs.Prelude.{ℕ, ◌+◌, ◌≡◌, List, [], ◌∷◌, ◌++◌, length, take, drop}
use Rattle.card.specs.Pointers.{insert_beside}

unfoldable pub insert_all_beside : (ℕ → ℕ) → List ℕ → List ℕ → List ℕ → List ℕ
insert_all_beside f [] ws ns = ns
insert_all_beside f (v ∷ vs) ws ns = insert_beside v (f v) (insert_all_beside (λ x. x) vs ws ws) (insert_all_beside f vs ws ns)

-- The same of the pointers themselves.
unfoldable pub insert_all : List ℕ → List ℕ → List ℕ
insert_all vs ws = insert_all_beside (λ x. x) vs ws ws

-- Several pointers are put among the first `used`, each with multiplicity 1.
pub record MergedIn (vs : List ℕ) (used : ℕ) (pointers multiplicities pointers' multiplicities' : List ℕ) : Type 0 where
  pub of_pointers : pointers' ≡ insert_all vs (take used pointers) ++ drop (used + length vs) pointers
  pub of_multiplicities : multiplicities' ≡ insert_all_beside (λ x. 1) vs (take used pointers) (take used multiplicities) ++ drop (used + length vs) multiplicities
