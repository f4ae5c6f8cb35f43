-- Equality of lists, cards and replies, as tests that can be computed.
use Prim.Native.Nat.{ℕ}
use mathlib.Core.Bool.{Bool, true, false, ◌&&◌}
use mathlib.Core.List.{List, [], ◌∷◌}
use lib.Dec.{eqb}
use Rattle.card.specs.Card.{Card}
use Rattle.card.specs.Calls.{answer_number, answer_values}
use Rattle.card.specs.Session.{Reply}

unfoldable pub same_list : List ℕ → List ℕ → Bool
same_list [] [] = true
same_list [] (y ∷ ys) = false
same_list (x ∷ xs) [] = false
same_list (x ∷ xs) (y ∷ ys) = eqb x y && same_list xs ys

unfoldable pub same_lists : List (List ℕ) → List (List ℕ) → Bool
same_lists [] [] = true
same_lists [] (y ∷ ys) = false
same_lists (x ∷ xs) [] = false
same_lists (x ∷ xs) (y ∷ ys) = same_list x y && same_lists xs ys

-- ---- what is compared

-- A card's record and its seven tables.
abbrev pub card_numbers : Card → List (List ℕ)
card_numbers c =
    (c.public.info.blocks ∷ c.public.info.roots ∷ c.public.info.bytes ∷ c.public.info.used ∷ c.public.info.time ∷ c.public.info.total ∷ [])
    ∷ c.public.flags
    ∷ c.keys
    ∷ c.public.counts
    ∷ c.public.pointers
    ∷ c.public.multiplicities
    ∷ c.public.windows
    ∷ c.contents
    ∷ []

-- The answers to a list of calls, with what the buffers hold.
unfoldable pub reply_numbers : List Reply → List (List ℕ)
reply_numbers [] = []
reply_numbers (r ∷ rs) = (answer_number r.answer ∷ answer_values r.answer) ∷ r.out ∷ r.places ∷ reply_numbers rs
