-- What the walk asks and leaves that frees block after block. Of each block it holds how often pointers still lead to it.
use Rattle.std.specs.Prelude.{ℕ, zero, suc, ◌+◌, ◌-◌, ◌≤◌, ◌<◌, ◌≡◌, Bool, true, ◌&&◌, cond, List, [], ◌∷◌, eqb, leb, length, take, get_or, set}
use Rattle.card.specs.Lists.{all}
use Rattle.card.specs.Pointers.{source, destination, ascending, total, pointers_to, not_from}
use Rattle.walks.specs.Walk.{Walkable, mark, marked, Walking, Entered}

-- ---- the tables

-- The counts below `at` have been copied, and nothing else is there.
pub record Copied (counts left : List ℕ) (at : ℕ) : Type 0 where
  pub has_left : length left ≡ 4096
  pub high : at ≤ length counts
  pub same : (b : ℕ) → b < at → get_or left b 0 ≡ get_or counts b 0
  pub rest : (b : ℕ) → at ≤ b → get_or left b 0 ≡ 0

-- Of the pointers from `at` on, for each block the place of the first that starts there.
pub record Indexed (ws first : List ℕ) (at : ℕ) : Type 0 where
  pub has_first : length first ≡ 4096
  pub high : at ≤ length ws
  pub few : (b : ℕ) → b < 4096 → get_or first b 0 ≤ length ws
  pub before : (b k : ℕ) → b < 4096 → at ≤ k → k < get_or first b 0 → source (get_or ws k 0) ≡ b → ⊥
  pub starts : (b k : ℕ) → b < 4096 → at ≤ k → k < length ws → source (get_or ws k 0) ≡ b → source (get_or ws (get_or first b 0) 0) ≡ b

-- Ascending pointers that a walk may go along, each with a multiplicity beside it.
pub record Releasable (pointers multiplicities : List ℕ) (used : ℕ) : Type 0 where
  pub walkable : Walkable pointers used
  pub ascends : ascending (take used pointers) ≡ true
  pub paired : length multiplicities ≡ length pointers
  pub some : all (λ n. leb 1 n) (take used multiplicities) ≡ true

-- ---- how often pointers lead to a block

-- The numbers added up that stand beside the first `at` pointers, where these pass one test, and beside the others, where they pass another.
unfoldable pub split_total : (ℕ → Bool) → (ℕ → Bool) → ℕ → List ℕ → List ℕ → ℕ
split_total first later zero ws ns = total later ws ns
split_total first later (suc at) [] ns = 0
split_total first later (suc at) (x ∷ xs) [] = 0
split_total first later (suc at) (x ∷ xs) (n ∷ ns) = cond (first x) n 0 + split_total first later at xs ns

-- A pointer to the block that starts at none of those that are gone.
unfoldable pub leads_to : List ℕ → ℕ → ℕ → Bool
leads_to gone b w = eqb (destination w) b && not_from gone w

-- The blocks before the queue's head are gone; of the block at the head the pointers before the place `at`.
unfoldable pub remaining : List ℕ → List ℕ → List ℕ → ℕ → ℕ → ℕ → ℕ
remaining ws ns queue head at b = split_total (leads_to (take (head + 1) queue) b) (leads_to (take head queue) b) at ws ns

-- ---- the blocks that go

-- The least set with the blocks of a start, and with each that is pointed to, but from the set alone.
pub data Orphan (ws : List ℕ) (start : ℕ → Type 0) : ℕ → Type 0 where
  begins : {b : ℕ} → start b → Orphan ws start b
  cut : (k : ℕ) → k < length ws → ((j : ℕ) → j < length ws → destination (get_or ws j 0) ≡ destination (get_or ws k 0) → Orphan ws start (source (get_or ws j 0)))
      → Orphan ws start (destination (get_or ws k 0))

-- ---- the walk

-- The queue has each marked block once. What is left of a block's pointers is counted; a block that is pointed to and has none left is marked.
pub record Releasing (ws ns left marks queue : List ℕ) (head tail at : ℕ) : Type 0 where
  pub walking : Walking (λ a b. ⊥) marks queue head tail
  pub distinct : (j k : ℕ) → j < k → k < tail → get_or queue j 0 ≡ get_or queue k 0 → ⊥
  pub has_left : length left ≡ 4096
  pub remains : (b : ℕ) → b < 4096 → (get_or left b 0 ≡ 0 → ⊥) → get_or left b 0 ≡ remaining ws ns queue head at b
  pub found : (k : ℕ) → k < length ws → get_or left (destination (get_or ws k 0)) 0 ≡ 0 → mark marks (destination (get_or ws k 0)) ≡ 1

-- Marks stay, and only what goes with the marked blocks is marked.
pub record Widened (ws before after : List ℕ) : Type 0 where
  pub kept : (b : ℕ) → mark before b ≡ 1 → mark after b ≡ 1
  pub only : (b : ℕ) → mark after b ≡ 1 → Orphan ws (λ x. mark before x ≡ 1) b

-- What one turn of the walk leaves.
pub record Dropped (ws ns before left marks queue : List ℕ) (head tail at : ℕ) : Type 0 where
  pub releasing : Releasing ws ns left marks queue head tail at
  pub widened : Widened ws before marks

-- What is left once so many of the pointers to a block are gone: there were none; some are left; or the block is marked.
pub data Lost (left marks queue : List ℕ) (tail b times : ℕ) : List ℕ → List ℕ → List ℕ → ℕ → Type 0 where
  none : get_or left b 0 ≡ 0 → Lost left marks queue tail b times left marks queue tail
  fewer : (get_or left b 0 ≡ 0 → ⊥) → (get_or left b 0 - times ≡ 0 → ⊥) → Lost left marks queue tail b times (set left b (get_or left b 0 - times)) marks queue tail
  last : {marks' queue' : List ℕ} {tail' : ℕ} → (get_or left b 0 ≡ 0 → ⊥) → get_or left b 0 - times ≡ 0 → Entered marks queue tail b marks' queue' tail'
      → Lost left marks queue tail b times (set left b (get_or left b 0 - times)) marks' queue' tail'

-- One block has lost its last pointer; of each other it is held how often pointers lead to it.
pub record Loosened (ws ns left : List ℕ) (block : ℕ) : Type 0 where
  pub low : block < 4096
  pub has_left : length left ≡ 4096
  pub bare : get_or left block 0 ≡ 0
  pub others : (b : ℕ) → b < 4096 → (b ≡ block → ⊥) → get_or left b 0 ≡ pointers_to b ws ns

-- The blocks that go with this one are marked, and no others.
pub record Released (ws marks : List ℕ) (block count : ℕ) : Type 0 where
  pub has_marks : length marks ≡ 4096
  pub counted : count ≡ marked marks
  pub begun : mark marks block ≡ 1
  pub closed : (k : ℕ) → k < length ws → ((j : ℕ) → j < length ws → destination (get_or ws j 0) ≡ destination (get_or ws k 0) → mark marks (source (get_or ws j 0)) ≡ 1)
      → mark marks (destination (get_or ws k 0)) ≡ 1
  pub only : (b : ℕ) → mark marks b ≡ 1 → Orphan ws (λ x. x ≡ block) b
