-- Each block of a list is freed: a change of flags, keys and windows.
use Rattle.std.specs.Prelude.{ℕ, ◌≡◌, List}
use Rattle.card.specs.Card.{card}
use Rattle.card.specs.Lent.{Lent}
use Rattle.card.specs.Plan.{changes}
use Rattle.card.specs.Calls.{free_each}
use Rattle.card.specs.declared.Info.{Info}

abbrev pub FreesEach : List ℕ → Lent → Lent → Lent → Type 0
FreesEach blocks flags keys windows =
    (info : Info) (counts pointers multiplicities contents : List ℕ)
    → card info flags.exit keys.exit counts pointers multiplicities windows.exit contents
    ≡ changes (card info flags.entry keys.entry counts pointers multiplicities windows.entry contents) (free_each blocks)
