-- What goes with a pointer of the pointers and the counts: the pointer itself, and each that starts at a marked block.
use Rattle.std.specs.Prelude.{ℕ, ◌-◌, ◌<◌, ◌≡◌, Bool, true, ◌||◌, not, List, [], ◌∷◌, ◌++◌, eqb, length, take, drop, get_or}
use Rattle.card.specs.Pointers.{source, destination, contains, pointers_to, keep, keep_beside}
use Rattle.card.specs.Contents.{zeros}
use Rattle.card.specs.Plan.{Change, drop_pointer, drop_from}
use Rattle.tables.specs.InUse.{Sorted, Paired}
use Rattle.walks.specs.Walk.{Walkable, mark}

-- The pointer is not the one that goes, and starts at no marked block.
unfoldable pub stays : List ℕ → ℕ → ℕ → Bool
stays marks gone w = not (eqb w gone || eqb (mark marks (source w)) 1)

-- Each block's count is the sum of the multiplicities of the pointers to it.
pub record Countable (counts pointers multiplicities : List ℕ) (used : ℕ) : Type 0 where
  pub walkable : Walkable pointers used
  pub paired : Paired pointers multiplicities
  pub low : (k : ℕ) → k < used → destination (get_or pointers k 0) < length counts
  pub right : (b : ℕ) → b < length counts → get_or counts b 0 ≡ pointers_to b (take used pointers) (take used multiplicities)

-- The pointers that stay stand in the first places, with their multiplicities, and are counted alone.
pub record ClosedUp (marks : List ℕ) (gone used : ℕ) (counts pointers multiplicities counts' pointers' multiplicities' : List ℕ) (kept : ℕ) : Type 0 where
  pub is_kept : kept ≡ length (keep (stays marks gone) (take used pointers))
  pub front : take kept pointers' ≡ keep (stays marks gone) (take used pointers)
  pub front_times : take kept multiplicities' ≡ keep_beside (stays marks gone) (take used pointers) (take used multiplicities)
  pub behind : drop used pointers' ≡ drop used pointers
  pub behind_times : drop used multiplicities' ≡ drop used multiplicities
  pub same_counts : length counts' ≡ length counts
  pub counted : (b : ℕ) → b < length counts
      → get_or counts' b 0
      ≡ pointers_to b (keep (stays marks gone) (take used pointers)) (keep_beside (stays marks gone) (take used pointers) (take used multiplicities))

-- The places from one on and below another hold 0.
abbrev pub blanked : List ℕ → ℕ → ℕ → List ℕ
blanked xs from to = take from xs ++ (zeros (to - from) ++ drop to xs)

pub record Blanked (pointers multiplicities : List ℕ) (from to : ℕ) (pointers' multiplicities' : List ℕ) : Type 0 where
  pub is_pointers : pointers' ≡ blanked pointers from to
  pub is_multiplicities : multiplicities' ≡ blanked multiplicities from to

-- The pointer is in use, and each pointer in use starts below the bound.
pub record CanDrop (counts pointers multiplicities : List ℕ) (used blocks w : ℕ) : Type 0 where
  pub countable : Countable counts pointers multiplicities used
  pub sorted : Sorted pointers used
  pub present : contains w (take used pointers) ≡ true
  pub source_below : (k : ℕ) → k < used → source (get_or pointers k 0) < blocks

-- The pointer from a to b is dropped, and each pointer that starts at one of the blocks.
abbrev pub dropped_with : ℕ → ℕ → List ℕ → List Change
dropped_with a b blocks = drop_pointer a b ∷ (drop_from blocks ∷ [])
