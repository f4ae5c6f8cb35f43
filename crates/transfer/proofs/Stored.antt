-- The card that WRITE leaves.
use Prim.Native.Nat.{ℕ}
use mathlib.Core.Path.{◌≡◌}
use mathlib.Core.List.{List, ◌∷◌}
use Rattle.card.specs.Contents.{fill}
use Rattle.card.specs.Card.{Card, card}
use Rattle.card.specs.Plan.{set_block, changes, change, change_public, change_keys, change_contents}
use Rattle.card.specs.Calls.{opens_window}
use Rattle.card.specs.declared.Mode.TheVariants.{Writing}
use Rattle.card.specs.declared.Port.{Port}
use Rattle.windows.proofs.Windows.{windowed, opened_whole}

module _ (c : Card) (b : ℕ) where
  -- A block filled, and then its window opened.
  pub block_stored : (port : Port) (interval : ℕ) (input : List ℕ) {windows contents : List ℕ}
      → windowed c.public.info windows ≡ changes (windowed c.public.info c.public.windows) (opens_window port (windowed c.public.info c.public.windows).public Writing b interval)
      → contents ≡ fill c.public.info.bytes c.contents b input
      → card c.public.info c.public.flags c.keys c.public.counts c.public.pointers c.public.multiplicities windows contents
      ≡ changes c (set_block b input ∷ opens_window port c.public Writing b interval)
  unfolding changes change change_public change_keys change_contents
  block_stored port interval input e f = rw f (opened_whole (change c (set_block b input)) Writing b interval port e)
