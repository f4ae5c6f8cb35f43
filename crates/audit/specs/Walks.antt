-- What each walk of the audit tests, what it needs of the tables, and what it leaves in the tally.
use Rattle.std.specs.Prelude.{ℕ, suc, ◌*◌, ◌≤◌, ◌<◌, ◌≡◌, Bool, true, ◌&&◌, ◌||◌, not, cond, List, [], ◌∷◌, eqb, ltb, leb, length, get_or}
use Rattle.card.specs.Lists.{every, all}
use Rattle.card.specs.Pointers.{source, destination, pointers_to}
use Rattle.card.specs.Card.{Public, Card, card, allocated, is_root, count}
use Rattle.card.specs.Soundness.{time_limit, flags_low, root_allocated, unallocated_empty, absent_key_zero, pointed_to, window_in_time, multiplicity_right}
use Rattle.card.specs.declared.Info.{Info}
use Rattle.card.specs.declared.Mode.TheVariants.{Reading, Writing}
use Rattle.card.specs.declared.Verdict.{Verdict}
use Rattle.card.specs.declared.Verdict.TheVariants.{Unsound, Sound}

-- The verdict on a card of the right shape.
abbrev pub judged : Bool → Verdict
judged t = cond t Sound Unsound

-- ---- pointers

-- What the test of a pointer's ends looks at of a card.
abbrev pub flagged : Info → List ℕ → Public
flagged info flags = record { info = info; flags = flags; counts = []; pointers = []; multiplicities = []; windows = [] }

pub record PointersFit (info : Info) (flags pointers multiplicities : List ℕ) : Type 0 where
  pub blocks_high : info.blocks ≤ 4096
  pub has_flags : length flags ≡ info.blocks
  pub places_high : length pointers ≤ 16384
  pub used_high : info.used ≤ length pointers
  pub has_multiplicities : length multiplicities ≡ length pointers

-- What is asked of one pointer's ends. A destination that is unallocated or a root shows in the walk of the blocks:
-- its tally is at least 1, and there it has to be 0.
abbrev pub link_clauses : Info → List ℕ → ℕ → List Bool
link_clauses info flags w =
    ltb (destination w) info.blocks
    ∷ not (eqb (source w) (destination w))
    ∷ allocated (flagged info flags) (source w)
    ∷ []

unfoldable pub link_right : Info → List ℕ → ℕ → Bool
link_right info flags w = every (link_clauses info flags w)

-- Each pointer passes the test and is above the one before it, the first at least `least`.
unfoldable pub passes : (ℕ → Bool) → ℕ → List ℕ → Bool
passes right least [] = true
passes right least (w ∷ ws) = (right w && leb least w) && passes right (suc w) ws

-- Of the pointers in use and the multiplicities beside them. The tally is meaningful only if no fault was found.
pub record PointersWalked (info : Info) (flags ws ns : List ℕ) (r : Bool) (tally : List ℕ) : Type 0 where
  pub passed : r ≡ passes (λ w. link_right info flags w) 0 ws && all (λ n. multiplicity_right n) ns
  pub tallied : r ≡ true → (b : ℕ) → b < 4096 → get_or tally b 0 ≡ pointers_to b ws ns

-- ---- blocks

pub record RowsFit (info : Info) (flags keys counts windows : List ℕ) : Type 0 where
  pub blocks_high : info.blocks ≤ 4096
  pub time_high : info.time < time_limit
  pub has_flags : length flags ≡ info.blocks
  pub has_keys : length keys ≡ 4 * info.blocks
  pub has_counts : length counts ≡ info.blocks
  pub has_windows : length windows ≡ 2 * info.blocks

-- The clauses of soundness that speak of one block, with the multiplicities of the pointers to it added up as tallied.
-- That no pointer leads to a root is asked here too, for the tally shows it.
abbrev pub block_clauses : Card → ℕ → ℕ → List Bool
block_clauses c tallied b =
    flags_low c b
    ∷ root_allocated c b
    ∷ unallocated_empty c b
    ∷ absent_key_zero c b Reading
    ∷ absent_key_zero c b Writing
    ∷ eqb (count c.public b) tallied
    ∷ (not (is_root c.public b) || eqb tallied 0)
    ∷ pointed_to c b
    ∷ window_in_time c b Reading
    ∷ window_in_time c b Writing
    ∷ []

unfoldable pub block_sound : Card → ℕ → ℕ → Bool
block_sound c tallied b = every (block_clauses c tallied b)
