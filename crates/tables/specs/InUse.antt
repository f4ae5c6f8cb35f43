-- What a function on the pointers in use and the numbers beside them asks of the tables.
use Rattle.std.specs.Prelude.{ℕ, ◌+◌, ◌≤◌, ◌<◌, ◌≡◌, true, false, not, List, length, take}
use Rattle.card.specs.Lists.{all}
use Rattle.card.specs.Pointers.{ascending, contains}

-- The first places of the table are in use, and ascend.
pub record Sorted (pointers : List ℕ) (used : ℕ) : Type 0 where
  pub within : used ≤ length pointers
  pub ascends : ascending (take used pointers) ≡ true

-- There is room for one pointer more, and this one is not in use.
pub record Addable (pointers : List ℕ) (used w : ℕ) : Type 0 where
  pub sorted : Sorted pointers used
  pub room : used < length pointers
  pub absent : contains w (take used pointers) ≡ false

-- There is room for so many more, which ascend, and none of which is in use.
pub record Mergeable (pointers : List ℕ) (used : ℕ) (added : List ℕ) (count : ℕ) : Type 0 where
  pub sorted : Sorted pointers used
  pub added_sorted : Sorted added count
  pub room : used + count ≤ length pointers
  pub absent : all (λ v. not (contains v (take used pointers))) (take count added) ≡ true

-- The place is among the first `used` or behind the last of them, and there is room for so many more.
pub record Raisable {A : Type 0} (xs : List A) (used by at : ℕ) : Type 0 where
  pub place : at ≤ used
  pub room : used + by ≤ length xs

-- The place is among the first `used`.
pub record Lowerable {A : Type 0} (xs : List A) (used at : ℕ) : Type 0 where
  pub place : at < used
  pub within : used ≤ length xs

-- A number stands beside each place.
pub record Paired (pointers numbers : List ℕ) : Type 0 where
  pub same : length numbers ≡ length pointers
