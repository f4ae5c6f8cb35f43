-- 2026-03, the reach report: two calls of the service port, which no record carries and no host session has.
use Rattle.std.specs.Prelude.{ℕ, ◌%◌, Bool, false, ◌&&◌, ◌||◌, not, List, [], ◌∷◌, eqb, ltb, length}
use Rattle.card.specs.Lists.{any, numbers_below}
use Rattle.card.specs.Pointers.{contains}
use Rattle.card.specs.Card.{Card, allocated, is_root, window_open, points_to, key_high, key_low}
use Rattle.card.specs.Plan.{Check, ◌⇒◌, numbers, Plan, Buffers, Result, judge}
use Rattle.card.specs.Calls.{missing}
use Rattle.card.specs.Reach.{key_presented, sealed}
use Rattle.card.specs.Least.{least}
use Rattle.card.specs.declared.Mode.TheVariants.{Reading, Writing}
use Rattle.card.specs.declared.Refusal.TheVariants.{NotAllocated, BadOperand}
use Rattle.card.specs.Answers.{Value}

-- ---- the keys

-- A set of keys is lent as words, high and low in turn. The key of these two words is one of them.
unfoldable pub given : List ℕ → ℕ → ℕ → Bool
given [] high low = false
given (h ∷ []) high low = false
given (h ∷ (l ∷ words)) high low = (eqb high h && eqb low l) || given words high low

-- "up to 64 keys": the words make no whole number of keys, or there is "a 65th key".
unfoldable pub bad_keys : List ℕ → Bool
bad_keys words = not (eqb (length words % 2) 0) || ltb 128 (length words)

-- ---- the blocks within reach

-- Document 01's four clauses as tests: what `Reach` says, with the keys of `isPresented` for the presented ones.
module _ (isPresented : ℕ → ℕ → Bool) (c : Card) where
  -- An unsealed root.
  unfoldable pub root_unsealed : ℕ → Bool
  root_unsealed b = is_root c.public b && not (sealed isPresented c b)

  -- Some key of the block is presented.
  unfoldable pub some_key : ℕ → Bool
  some_key b = key_presented isPresented c Reading b || key_presented isPresented c Writing b

  -- A window of the block is open.
  unfoldable pub some_window : ℕ → Bool
  some_window b = window_open c.public Reading b || window_open c.public Writing b

  -- Within reach whatever points to it.
  unfoldable pub within_by_itself : ℕ → Bool
  within_by_itself b = allocated c.public b && (root_unsealed b || (some_key b || some_window b))

  -- Unsealed, and one of the members points to it.
  unfoldable pub within_by_pointer : List ℕ → ℕ → Bool
  within_by_pointer members b = allocated c.public b && (not (sealed isPresented c b) && any (λ a. points_to c.public a b) members)

  -- One of the four clauses holds of the block beside these members.
  unfoldable pub within : List ℕ → ℕ → Bool
  within members b = within_by_itself b || within_by_pointer members b

  -- "the blocks within reach, ascending, exactly as document 01 defines them"
  unfoldable pub within_reach : List ℕ
  within_reach = least within c.public.info.blocks

-- ---- the blocks that unlock another

-- The keys with the write key of a block, "added alone to the set".
unfoldable pub with_write_key : List ℕ → Card → ℕ → List ℕ
with_write_key words c s = key_high c.keys Writing s ∷ (key_low c.keys Writing s ∷ words)

module _ (words : List ℕ) (c : Card) (chosen : ℕ) where
  -- "sealed", and its write key "would bring the chosen one within reach"
  unfoldable pub unlocks : ℕ → Bool
  unlocks s = sealed (given words) c s && contains chosen (within_reach (given (with_write_key words c s)) c)

  -- "smallest number first"
  unfoldable pub unlocking : List ℕ
  unlocking = numbers_below unlocks c.public.info.blocks

-- ---- the two calls

-- "A buffer with fewer places than its list".
abbrev pub too_few_for : ℕ → List ℕ → Bool
too_few_for places list = ltb places (length list)

-- "its result is the list's length, and places past a list's end are untouched": nothing is changed but the places of the list.
unfoldable pub listing : List Check → List ℕ → Plan
listing checks list = record { checks = checks; answer = Value (length list); shown = numbers list; steps = [] }

-- Refused 4 by the keys and by the places.
unfoldable pub reach_plan : List ℕ → ℕ → Card → Plan
reach_plan words places c =
    let list = within_reach (given words) c in
    listing ((bad_keys words ⇒ BadOperand) ∷ (too_few_for places list ⇒ BadOperand) ∷ []) list

-- Refused 4 by the keys, by "a chosen block that is within reach" and by the places, then 3.
unfoldable pub unlocking_plan : List ℕ → ℕ → ℕ → Card → Plan
unlocking_plan words chosen places c =
    let list = unlocking words c chosen in
    listing
    ((bad_keys words ⇒ BadOperand)
    ∷ (contains chosen (within_reach (given words) c) ⇒ BadOperand)
    ∷ (too_few_for places list ⇒ BadOperand)
    ∷ (missing c.public chosen ⇒ NotAllocated)
    ∷ [])
    list

-- The places are all that is lent to be filled.
abbrev pub lent_places : List ℕ → Buffers
lent_places places = record { input = []; out = []; places = places }

-- On any card: audited first, so refused 1 or 2 before all else.
unfoldable pub reach_report : List ℕ → List ℕ → Card → Result
reach_report words places c = judge c (lent_places places) (reach_plan words (length places) c)

unfoldable pub unlocking_report : List ℕ → ℕ → List ℕ → Card → Result
unlocking_report words chosen places c = judge c (lent_places places) (unlocking_plan words chosen (length places) c)
