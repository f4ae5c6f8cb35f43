-- What a walk from block to block asks and leaves. A block is marked by a 1.
use Rattle.std.specs.Prelude.{ℕ, zero, suc, ◌+◌, ◌≤◌, ◌<◌, ◌≡◌, cond, List, [], ◌∷◌, eqb, length, get_or, set, replicate}
use Rattle.card.specs.Lists.{numbers_below}
use Rattle.card.specs.Pointers.{source, destination}
use Rattle.walks.specs.declared.Direction.{Direction}
use Rattle.walks.specs.declared.Reached.{Reached}
use Rattle.walks.specs.declared.Direction.TheVariants.{Along, Against}

-- ---- pointers

-- The end of a pointer that a walk comes from, and the one that it comes to.
abbrev pub near_end : Direction → ℕ → ℕ
near_end Along w = source w
near_end Against w = destination w

abbrev pub far_end : Direction → ℕ → ℕ
far_end Along w = destination w
far_end Against w = source w

-- The pointers that a walk may go along: both ends of each have a mark.
pub record Walkable (pointers : List ℕ) (used : ℕ) : Type 0 where
  pub within : used ≤ length pointers
  pub few : used ≤ 16384
  pub source_low : (k : ℕ) → k < used → source (get_or pointers k 0) < 4096
  pub destination_low : (k : ℕ) → k < used → destination (get_or pointers k 0) < 4096

-- A pointer of the list leads the walk from one block to the other; its destination is not shut.
pub record Edge (direction : Direction) (shut ws : List ℕ) (a b : ℕ) : Type 0 where
  pub at : ℕ
  pub within : at < length ws
  pub starts : near_end direction (get_or ws at 0) ≡ a
  pub ends : far_end direction (get_or ws at 0) ≡ b
  pub is_open : get_or shut (destination (get_or ws at 0)) 0 ≡ 0

-- ---- the pointers that leave a block, from the last on

-- Of the first i pointers, one more than the place of the last that leaves the block, or 0.
unfoldable pub last : Direction → List ℕ → ℕ → ℕ → ℕ
last direction ws zero b = 0
last direction ws (suc i) b = cond (eqb (near_end direction (get_or ws i 0)) b) (suc i) (last direction ws i b)

pub record Linked (direction : Direction) (ws heads nexts : List ℕ) : Type 0 where
  pub head : (b : ℕ) → b < 4096 → get_or heads b 0 ≡ last direction ws (length ws) b
  pub next : (k : ℕ) → k < length ws → get_or nexts k 0 ≡ last direction ws k (near_end direction (get_or ws k 0))

-- ---- a walk

abbrev pub mark : List ℕ → ℕ → ℕ
mark marks b = get_or marks b 0

-- How many blocks are marked.
unfoldable pub marked : List ℕ → ℕ
marked [] = 0
marked (x ∷ xs) = cond (eqb x 1) 1 0 + marked xs

-- The marked blocks below n, ascending.
abbrev pub marked_below : List ℕ → ℕ → List ℕ
marked_below marks n = numbers_below (λ b. eqb (mark marks b) 1) n

-- The block stands in the queue, before its tail.
pub record Queued (queue : List ℕ) (tail b : ℕ) : Type 0 where
  pub at : ℕ
  pub low : at < tail
  pub is : get_or queue at 0 ≡ b

module _ (edge : ℕ → ℕ → Type 0) where
  -- The least set with the marked blocks, and with each to which an edge leads from it.
  pub data Led (marks : List ℕ) : ℕ → Type 0 where
    begins : {b : ℕ} → mark marks b ≡ 1 → Led marks b
    leads : {a b : ℕ} → Led marks a → edge a b → Led marks b

  -- The queue has each marked block once; where an edge leads from one before its head is marked.
  pub record Walking (marks queue : List ℕ) (head tail : ℕ) : Type 0 where
    pub has_marks : length marks ≡ 4096
    pub has_queue : length queue ≡ 4096
    pub order : head ≤ tail
    pub counted : tail ≡ marked marks
    pub is_marked : (k : ℕ) → k < tail → mark marks (get_or queue k 0) ≡ 1
    pub queued : (b : ℕ) → mark marks b ≡ 1 → Queued queue tail b
    pub settled : (k b : ℕ) → k < head → edge (get_or queue k 0) b → mark marks b ≡ 1

  -- Marks stay, and only what is led to is marked.
  pub record Grown (before after : List ℕ) : Type 0 where
    pub kept : (b : ℕ) → mark before b ≡ 1 → mark after b ≡ 1
    pub led : (b : ℕ) → mark after b ≡ 1 → Led before b

  -- What one turn of the walk leaves.
  pub record Followed (before after queue : List ℕ) (head tail : ℕ) : Type 0 where
    pub walking : Walking after queue head tail
    pub grown : Grown before after

  -- After the walk exactly the least set is marked, and stands in the queue.
  pub record Spread (before after queue : List ℕ) (tail : ℕ) : Type 0 where
    pub walking : Walking after queue tail tail
    pub reached : (b : ℕ) → Led before b → mark after b ≡ 1
    pub led : (b : ℕ) → mark after b ≡ 1 → Led before b

-- ---- where a walk starts

-- It has come to no block yet.
pub record NoneReached (r : Reached) : Type 0 where
  pub none_marked : r.marks ≡ replicate 4096 0
  pub has_queue : length r.queue ≡ 4096
  pub none_queued : r.count ≡ 0

-- ---- one block more

-- What marking a block leaves that may be marked.
pub record Entered (marks queue : List ℕ) (tail b : ℕ) (marks' queue' : List ℕ) (tail' : ℕ) : Type 0 where
  pub is_marks : marks' ≡ cond (eqb (mark marks b) 1) marks (set marks b 1)
  pub is_queue : queue' ≡ cond (eqb (mark marks b) 1) queue (set queue tail b)
  pub is_tail : tail' ≡ cond (eqb (mark marks b) 1) tail (tail + 1)
