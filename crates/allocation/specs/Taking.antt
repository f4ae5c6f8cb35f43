-- What the functions that take blocks ask and give.
use Rattle.std.specs.Prelude.{ℕ, ◌+◌, ◌*◌, ◌≤◌, ◌<◌, ◌≡◌, true, List, length, get_or, set}
use Rattle.card.specs.Contents.{fill, zeros}
use Rattle.card.specs.Card.{Card, allocated}
use Rattle.card.specs.SoundCard.{SoundCard}
use Rattle.laws.specs.Takeable.{Takeable}

-- One block lies within the tables, and can be counted once more.
pub record CanTake (bytes : ℕ) (flags counts contents : List ℕ) (b : ℕ) : Type 0 where
  pub in_flags : b < length flags
  pub in_counts : b < length counts
  pub count_low : get_or counts b 0 < 4294967295
  pub in_contents : b * bytes + bytes ≤ length contents

-- What taking it leaves of these tables.
pub record BlockTaken (bytes b : ℕ) (flags counts contents flagsAfter countsAfter contentsAfter : List ℕ) : Type 0 where
  pub allocates : flagsAfter ≡ set flags b 1
  pub counted : countsAfter ≡ set counts b (get_or counts b 0 + 1)
  pub zeroes : contentsAfter ≡ fill bytes contents b (zeros bytes)

-- The blocks can be taken one after the other, and the reference can point to each.
pub record CanTakeAll (c : Card) (reference : ℕ) (numbers : List ℕ) : Type 0 where
  pub sound : SoundCard c
  pub reference_allocated : allocated c.public reference ≡ true
  pub takeable : Takeable c.public numbers
  pub few : length numbers ≤ 64
  pub room : c.public.info.used + length numbers ≤ length c.public.pointers
