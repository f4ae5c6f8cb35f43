-- What is promised of the reach report of 2026-03: its two lists, and what its two calls leave and are refused for.
use Rattle.std.specs.Prelude.{ℕ, ◌*◌, ◌<◌, ◌≡◌, ◌↔◌, Bool, true, false, not, List, [], ◌∷◌, eqb, ltb, length, take, drop}
use Rattle.card.specs.Lists.{any, numbers_below}
use Rattle.card.specs.Pointers.{ascending, contains}
use Rattle.card.specs.Card.{Card, allocated, key_high, key_low}
use Rattle.card.specs.Soundness.{shape, sound}
use Rattle.card.specs.SoundCard.{SoundCard}
use Rattle.card.specs.Plan.{Check, ◌⇒◌, Result}
use Rattle.card.specs.Calls.{is_done, missing}
use Rattle.card.specs.Session.{Request}
use Rattle.card.specs.Reach.{presented, sealed, Reach, Hidden}
use Rattle.card.specs.Statements.Refusals.{RefusedBy}
use Rattle.card.specs.declared.Mode.TheVariants.{Writing}
use Rattle.card.specs.declared.Refusal.TheVariants.{Misshapen, Unsound, NotAllocated, BadOperand}
use Rattle.card.specs.Answers.{Refused, Value}
use Rattle.report.specs.Report.{given, within_reach, unlocking, reach_report, unlocking_report}

-- ---- what the lists are

-- The list ascends and holds exactly those numbers.
pub record Lists (holds : ℕ → Type 0) (list : List ℕ) : Type 0 where
  pub ascends : ascending list ≡ true
  pub listed : (b : ℕ) → holds b → contains b list ≡ true
  pub only : (b : ℕ) → contains b list ≡ true → holds b

-- "the blocks within reach, ascending, exactly as document 01 defines them"
abbrev pub ReachListed : Type 0
ReachListed = (words : List ℕ) (c : Card) → Lists (Reach (given words) c) (within_reach (given words) c)

-- A sealed block whose write key, added alone, brings the chosen block within reach.
pub record Unlocks (words : List ℕ) (c : Card) (chosen s : ℕ) : Type 0 where
  pub is_block : s < c.public.info.blocks
  pub is_sealed : sealed (given words) c s ≡ true
  pub brings : Reach (given (key_high c.keys Writing s ∷ (key_low c.keys Writing s ∷ words))) c chosen

-- "each sealed block whose write key, added alone to the set, would bring the chosen one within reach, smallest number first"
abbrev pub UnlockingListed : Type 0
UnlockingListed = (words : List ℕ) (c : Card) (chosen : ℕ) → Lists (Unlocks words c chosen) (unlocking words c chosen)

-- The key of these two words is one of those that are lent.
pub data Among : List ℕ → ℕ → ℕ → Type 0 where
  here : {high low : ℕ} {words : List ℕ} → Among (high ∷ (low ∷ words)) high low
  later : {h l high low : ℕ} {words : List ℕ} → Among words high low → Among (h ∷ (l ∷ words)) high low

-- With the keys that a list of calls presents, and no others: demand 3's hidden blocks are the allocated blocks that are not listed.
abbrev pub HiddenUnlisted : Type 0
HiddenUnlisted =
    (words : List ℕ) (session : List Request) → ((high low : ℕ) → (presented session high low ≡ true) ↔ Among words high low) → (c : Card) (b : ℕ)
    → Hidden (presented session) c b ↔ ((allocated c.public b ≡ true) × (contains b (within_reach (given words) c) ≡ false))

-- ---- what the two calls leave

-- The two calls: the blocks within reach, or those that unlock a chosen one.
pub data Asked : Type 0 where
  within_reach_of : Asked
  unlocking_of : ℕ → Asked

-- The list that is asked for, with the keys of these words.
abbrev pub list_of : Asked → List ℕ → Card → List ℕ
list_of within_reach_of words c = within_reach (given words) c
list_of (unlocking_of chosen) words c = unlocking words c chosen

-- What the call makes of the places and the card.
abbrev pub reported : Asked → List ℕ → List ℕ → Card → Result
reported within_reach_of words places c = reach_report words places c
reported (unlocking_of chosen) words places c = unlocking_report words chosen places c

-- The card and the number of places are as they were. Done, the result is the list's length, the list stands in the first places, and the others
-- are as they were; refused, all places are.
pub record UnchangedButFor (list : List ℕ) (c : Card) (places : List ℕ) (r : Result) : Type 0 where
  pub after : r.after ≡ c
  pub as_many : length r.places ≡ length places
  pub result : is_done r.answer ≡ true → r.answer ≡ Value (length list)
  pub lists : is_done r.answer ≡ true → take (length list) r.places ≡ list
  pub behind : is_done r.answer ≡ true → drop (length list) r.places ≡ drop (length list) places
  pub when_refused : is_done r.answer ≡ false → r.places ≡ places

-- "its result is the list's length, and places past a list's end are untouched"
abbrev pub ReportUnchanged : Type 0
ReportUnchanged = (asked : Asked) (words places : List ℕ) (c : Card) → UnchangedButFor (list_of asked words c) c places (reported asked words places c)

-- ---- what they are refused for

-- "up to 64 keys": some number of keys, at most 64, has so many words.
unfoldable pub up_to64 : ℕ → Bool
up_to64 n = any (λ k. eqb n (2 * k)) (numbers_below (λ k. true) 65)

-- The conditions of both calls, spelled out apart from the plans: 1 and 2 first. "A buffer with fewer places than its list", "a 65th key" or "a chosen
-- block that is within reach" "is refusal 4, before 3".
abbrev pub refusals_of : Asked → List ℕ → ℕ → Card → List Check
refusals_of within_reach_of words places c =
    (not (shape c) ⇒ Misshapen)
    ∷ (not (sound c) ⇒ Unsound)
    ∷ (not (up_to64 (length words)) ⇒ BadOperand)
    ∷ (ltb places (length (within_reach (given words) c)) ⇒ BadOperand)
    ∷ []
refusals_of (unlocking_of chosen) words places c =
    (not (shape c) ⇒ Misshapen)
    ∷ (not (sound c) ⇒ Unsound)
    ∷ (not (up_to64 (length words)) ⇒ BadOperand)
    ∷ (contains chosen (within_reach (given words) c) ⇒ BadOperand)
    ∷ (ltb places (length (unlocking words c chosen)) ⇒ BadOperand)
    ∷ (missing c.public chosen ⇒ NotAllocated)
    ∷ []

-- Refused for the first of the conditions that holds and for no other; done where none holds and nowhere else.
abbrev pub ReportRefused : Type 0
ReportRefused =
    (asked : Asked) (words places : List ℕ) (c : Card) → RefusedBy (refusals_of asked words (length places) c) (reported asked words places c).answer

-- A chosen block that is not below N or not allocated is refused 3 for good keys, whatever the places.
abbrev pub UnknownChosen : Type 0
UnknownChosen =
    (words places : List ℕ) (chosen : ℕ) (c : Card) → SoundCard c → up_to64 (length words) ≡ true → missing c.public chosen ≡ true
    → (unlocking_report words chosen places c).answer ≡ Refused NotAllocated
