-- What the walk of the second list asks and leaves.
use Rattle.std.specs.Prelude.{Option, None, Some, ℕ, ◌*◌, ◌≤◌, ◌<◌, ◌≡◌, Bool, true, false, ◌&&◌, ◌||◌, List, eqb, length, get_or}
use Rattle.card.specs.Lists.{any, numbers_below}
use Rattle.card.specs.Pointers.{contains}
use Rattle.card.specs.Card.{Card, key_flag, key_high, key_low}
use Rattle.card.specs.Access.{key_is}
use Rattle.card.specs.declared.Mode.TheVariants.{Reading, Writing}
use Rattle.report.specs.Report.{given, within_reach, unlocking}
use Rattle.walks.specs.Walk.{mark, marked_below}

-- The keys' table has four words for each block.
pub record Keyed (flags keys : List ℕ) : Type 0 where
  pub few : length flags ≤ 4096
  pub has_keys : length keys ≡ 4 * length flags

-- The first blocks in the queue are below n.
pub record QueuedBelow (queue : List ℕ) (count n : ℕ) : Type 0 where
  pub has_queue : length queue ≡ 4096
  pub most : count ≤ 4096
  pub below : (k : ℕ) → k < count → get_or queue k 0 < n

-- One of the block's keys has these words.
unfoldable pub has_this_key : List ℕ → List ℕ → ℕ → ℕ → ℕ → Bool
has_this_key flags keys high low b =
    (key_flag Reading (get_or flags b 0) && key_is keys Reading b high low)
    || (key_flag Writing (get_or flags b 0) && key_is keys Writing b high low)

-- One of the blocks has this key.
unfoldable pub fits_queued : List ℕ → List ℕ → List ℕ → ℕ → ℕ → Bool
fits_queued flags keys queued high low = any (has_this_key flags keys high low) queued

-- The block is marked, or its write key is one of those of the queued blocks.
unfoldable pub leads_or_fits : List ℕ → List ℕ → List ℕ → List ℕ → ℕ → Bool
leads_or_fits flags keys marks queued b = eqb (mark marks b) 1 || fits_queued flags keys queued (key_high keys Writing b) (key_low keys Writing b)

-- The block was shut, and leads on or fits.
abbrev pub stays : List ℕ → List ℕ → List ℕ → List ℕ → List ℕ → ℕ → Bool
stays flags keys marks queued shut b = eqb (get_or shut b 0) 1 && leads_or_fits flags keys marks queued b

-- Of the blocks that were shut just these still are: so many.
pub record Kept (flags keys marks queued before after : List ℕ) (kept : ℕ) : Type 0 where
  pub is_kept : marked_below after (length flags) ≡ numbers_below (stays flags keys marks queued before) (length flags)
  pub counted : kept ≡ length (marked_below after (length flags))

-- The chosen block is hidden, and the blocks that stay shut are those that unlock it: so many.
pub record Unlocking (words : List ℕ) (c : Card) (chosen : ℕ) (shut : List ℕ) (count : ℕ) : Type 0 where
  pub outside : contains chosen (within_reach (given words) c) ≡ false
  pub is_kept : marked_below shut c.public.info.blocks ≡ unlocking words c chosen
  pub counted : count ≡ length (unlocking words c chosen)

-- What is found is what the rules say: nothing of a block within reach, else how many blocks unlock it.
abbrev pub FoundOf : List ℕ → Card → ℕ → List ℕ → Option ℕ → Type 0
FoundOf words c chosen shut None = contains chosen (within_reach (given words) c) ≡ true
FoundOf words c chosen shut (Some count) = Unlocking words c chosen shut count
