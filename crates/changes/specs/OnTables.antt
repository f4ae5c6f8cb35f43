-- A change of the card on the tables that it touches, whatever the others hold, and what it asks of them.
use Rattle.std.specs.Prelude.{ℕ, ◌≤◌, ◌<◌, ◌≡◌, true, false, cond, List, eqb, length, take}
use Rattle.card.specs.Pointers.{pointer, contains, beside}
use Rattle.card.specs.Card.{card, highest_multiplicity}
use Rattle.card.specs.Lent.{Lent}
use Rattle.card.specs.Plan.{Change, free_block, add_pointer, raise_pointer, lower_pointer, drop_pointer, change}
use Rattle.card.specs.declared.Info.{Info}
use Rattle.tables.specs.InUse.{Sorted, Paired}

-- ---- pointers

-- The pointer's multiplicity is below the highest, and there is a place for it if it is not in use.
pub record CanMakePointer (pointers multiplicities : List ℕ) (used w : ℕ) : Type 0 where
  pub sorted : Sorted pointers used
  pub paired : Paired pointers multiplicities
  pub low : beside w (take used pointers) (take used multiplicities) < highest_multiplicity
  pub room : contains w (take used pointers) ≡ false → used < length pointers

-- The pointer is in use, at least once.
pub record CanTakePointer (pointers multiplicities : List ℕ) (used w : ℕ) : Type 0 where
  pub sorted : Sorted pointers used
  pub paired : Paired pointers multiplicities
  pub present : contains w (take used pointers) ≡ true
  pub least : 1 ≤ beside w (take used pointers) (take used multiplicities)

-- What CREATE does to the pointer, and what DELETE does.
abbrev pub made_by : List ℕ → ℕ → ℕ → ℕ → Change
made_by pointers used a b = cond (contains (pointer a b) (take used pointers)) (raise_pointer a b) (add_pointer a b)

abbrev pub taken_by : List ℕ → List ℕ → ℕ → ℕ → ℕ → Change
taken_by pointers multiplicities used a b = cond (eqb (beside (pointer a b) (take used pointers) (take used multiplicities)) 1) (drop_pointer a b) (lower_pointer a b)

-- A change of the counts, the pointers and their multiplicities, with the record that it leaves.
abbrev pub ChangesPointers : Change → Info → Lent → Lent → Lent → Info → Type 0
ChangesPointers step info counts pointers multiplicities after =
    (flags keys windows contents : List ℕ)
    → card after flags keys counts.exit pointers.exit multiplicities.exit windows contents
    ≡ change (card info flags keys counts.entry pointers.entry multiplicities.entry windows contents) step

-- ---- blocks

-- A block is freed and waits: a change of its flags, keys and windows.
abbrev pub FreesBlock : ℕ → Lent → Lent → Lent → Type 0
FreesBlock block flags keys windows =
    (info : Info) (counts pointers multiplicities contents : List ℕ)
    → card info flags.exit keys.exit counts pointers multiplicities windows.exit contents
    ≡ change (card info flags.entry keys.entry counts pointers multiplicities windows.entry contents) (free_block block)
