-- What is found of the runs in a table of flags.
use Rattle.std.specs.Prelude.{Option, None, Some, ℕ, ◌+◌, Bool, ◌&&◌, cond, List, [], ◌∷◌, ltb, length, get_or}
use Rattle.card.specs.Lists.{all_below, numbers_below}
use Rattle.card.specs.Card.{free_flag}
use Rattle.card.specs.Calls.{distance, nearest}

-- So many free blocks from `first` on, as the rule's `is_run` has it.
unfoldable pub run_in : List ℕ → ℕ → ℕ → Bool
run_in flags count first = all_below (λ i. ltb (first + i) (length flags) && free_flag (get_or flags (first + i) 0)) count

-- The first blocks of the runs, ascending.
unfoldable pub starts_in : List ℕ → ℕ → List ℕ
starts_in flags count = numbers_below (run_in flags count) (length flags)

-- The nearest of them.
unfoldable pub nearest_of : ℕ → List ℕ → Option ℕ
nearest_of want [] = None
nearest_of want (x ∷ xs) = Some (nearest want x xs)

-- The nearest of those so far and of one more, which is higher.
unfoldable pub nearer_of : ℕ → Option ℕ → ℕ → Option ℕ
nearer_of want None start = Some start
nearer_of want (Some first) start = cond (ltb (distance want start) (distance want first)) (Some start) (Some first)

-- Where the free blocks start that end with a block.
unfoldable pub since_after : ℕ → ℕ → ℕ → ℕ
since_after since block flag = cond (free_flag flag) since (block + 1)
