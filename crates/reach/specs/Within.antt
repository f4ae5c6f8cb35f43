-- What the walk of the first list asks and leaves.
use Rattle.std.specs.Prelude.{ℕ, ◌<◌, ◌≡◌, true, false, cond, List, length, get_or}
use Rattle.card.specs.Card.{Card}
use Rattle.card.specs.Reach.{sealed}
use Rattle.report.specs.Report.{given, within_by_itself, within_reach}
use Rattle.walks.specs.Walk.{mark, marked_below, Walking}
use Rattle.reach.specs.declared.Standing.{Standing}

pub record StandingOf (words : List ℕ) (c : Card) (b : ℕ) (r : Standing) : Type 0 where
  pub is_shut : r.shut ≡ cond (sealed (given words) c b) 1 0
  pub is_within : r.within ≡ within_by_itself (given words) c b

-- Exactly the sealed blocks of the card are shut.
pub record Shut (words : List ℕ) (c : Card) (n : ℕ) (shut : List ℕ) : Type 0 where
  pub is_shut : (b : ℕ) → b < n → sealed (given words) c b ≡ true → get_or shut b 0 ≡ 1
  pub is_open : (b : ℕ) → b < n → sealed (given words) c b ≡ false → get_or shut b 0 ≡ 0

-- The blocks below n have been looked at: the sealed ones are shut, and those within reach by themselves marked and queued.
pub record Begun (words : List ℕ) (c : Card) (n : ℕ) (shut marks queue : List ℕ) (tail : ℕ) : Type 0 where
  pub has_shut : length shut ≡ 4096
  pub shut_below : Shut words c n shut
  pub walking : Walking (λ a b. ⊥) marks queue 0 tail
  pub is_marked : (b : ℕ) → b < n → within_by_itself (given words) c b ≡ true → mark marks b ≡ 1
  pub only : (b : ℕ) → mark marks b ≡ 1 → (b < n) × (within_by_itself (given words) c b ≡ true)

-- The sealed blocks are shut, and the blocks within reach marked: so many.
pub record Within (words : List ℕ) (c : Card) (shut marks : List ℕ) (count : ℕ) : Type 0 where
  pub shut_below : Shut words c c.public.info.blocks shut
  pub is_marked : marked_below marks c.public.info.blocks ≡ within_reach (given words) c
  pub counted : count ≡ length (within_reach (given words) c)
