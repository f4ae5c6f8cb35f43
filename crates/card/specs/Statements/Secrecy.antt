-- Demand 3: what a host session is answered and leaves does not depend on hidden contents.
use Rattle.std.specs.Prelude.{ℕ, ◌<◌, Bool, true, false, List, ◌⊎◌, ◌↔◌, ◌≡◌}
use Rattle.card.specs.Card.{Card, allocated, free, block}
use Rattle.card.specs.SoundCard.{SoundCard}
use Rattle.card.specs.Session.{Request, Sent, replies, after_all, host_session}
use Rattle.card.specs.Reach.{presented, last_taken, Reach, Hidden}

-- Equal records and tables but for contents, and equal contents but for the blocks named.
pub record EqualBut (Differ : ℕ → Type 0) (c d : Card) : Type 0 where
  pub same_public : c.public ≡ d.public
  pub same_keys : c.keys ≡ d.keys
  pub same_contents : (b : ℕ) → b < c.public.info.blocks → (Differ b → ⊥) → block c b ≡ block d b

-- On two cards that differ in contents alone the same blocks are within reach, and the same are hidden.
abbrev pub SameHidden : Type 1
SameHidden =
    (K : ℕ → ℕ → Bool) (Differ : ℕ → Type 0) (c d : Card) → EqualBut Differ c d → (b : ℕ) → (Reach K c b ↔ Reach K d b) × (Hidden K c b ↔ Hidden K d b)

-- The blocks whose contents may differ at the start: hidden, waiting and free ones. 2026-09, "the same blocks wait on both": their flags are equal.
abbrev pub HiddenOrUnallocated : (ℕ → ℕ → Bool) → Card → ℕ → Type 0
HiddenOrUnallocated K c b = Hidden K c b ⊎ (allocated c.public b ≡ false)

-- And at the end: those that were hidden, and those that were unallocated and still are; but none that is free and was not, so was swept.
abbrev pub StillDiffers : (ℕ → ℕ → Bool) → Card → Card → ℕ → Type 0
StillDiffers K c after b =
    (Hidden K c b ⊎ ((allocated c.public b ≡ false) × (allocated after.public b ≡ false)))
    × (free after.public b ≡ true → free c.public b ≡ true)

pub record Secret (K : ℕ → ℕ → Bool) (calls : List Sent) (c d : Card) : Type 0 where
  -- "the count of answers that differ is nought"
  pub answers : replies c calls ≡ replies d calls
  -- The cards are "still equal", but in blocks whose contents were free to differ.
  pub cards : EqualBut (StillDiffers K c (after_all c calls)) (after_all c calls) (after_all d calls)
  -- On both, a hidden block keeps its contents unless its last pointer was taken.
  pub kept : (b : ℕ) → Hidden K c b → last_taken c calls b ≡ false → block (after_all c calls) b ≡ block c b
  pub kept_on_other : (b : ℕ) → Hidden K c b → last_taken d calls b ≡ false → block (after_all d calls) b ≡ block d b

-- Demand 3: any list of a host's calls, refused ones included, and any two sound cards that are equal but for the contents of hidden, waiting and
-- free blocks. Hidden is judged on the starting card, with the keys presented anywhere in the list.
abbrev pub Secrecy : Type 0
Secrecy =
    (session : List Request) (c d : Card) → SoundCard c → SoundCard d → EqualBut (HiddenOrUnallocated (presented session) c) c d
    → Secret (presented session) (host_session session) c d
