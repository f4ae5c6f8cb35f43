-- Windows set and opened, on the card and on the list of windows alone.
use Prim.Native.Nat.{ℕ, ◌+◌, ◌*◌, ◌<◌, ◌≤◌}
use mathlib.Core.Path.{◌≡◌, refl, ap, ◌∙◌}
use mathlib.Core.Bool.{Bool, true, false, cond}
use mathlib.Core.List.{List, [], ◌∷◌}
use native.Mathlib.Nat.{le_of_lt, max-eq_left, max-eq_right}
use lib.ListN.{get_or, set}
use lib.Seq.{set-get_or}
use lib.Dec.{eqb}
use borrow.Author.Tests.{eq-eqb, ne_eqb}
use Rattle.card.specs.Card.{Public, Card, card, window_at}
use Rattle.card.specs.Plan.{set_window, changes, change, change_public, change_keys, change_contents}
use Rattle.laws.specs.ChangesLaws.{window_at_within}
use Rattle.card.specs.Calls.{window_after, opens_window}
use Rattle.card.specs.declared.Info.{Info}
use Rattle.card.specs.declared.Mode.{Mode}
use Rattle.card.specs.declared.Mode.TheVariants.{Reading, Writing}
use Rattle.card.specs.declared.Port.{Port}
use Rattle.card.specs.declared.Port.TheVariants.{Host, Service}

pub at_reading : (b : ℕ) {m : Mode} → m ≡ Reading → 2 * b ≡ window_at m b
at_reading b e = rw e

pub at_writing : (b : ℕ) {m : Mode} → m ≡ Writing → 2 * b + 1 ≡ window_at m b
at_writing b e = rw e

pub at_within : (m : Mode) (b n : ℕ) {at : ℕ} → at ≡ window_at m b → 2 * b + 2 ≤ n → at < n
at_within m b n e h = rw e (window_at_within m b n h)

-- The card by its record and windows alone.
abbrev pub windowed : Info → List ℕ → Card
windowed info windows = card info [] [] [] [] [] windows []

-- The end that a window gets is that on the whole card.
pub after_whole : (p : Public) (mode : Mode) (b interval : ℕ) → window_after (windowed p.info p.windows).public mode b interval ≡ window_after p mode b interval
unfolding window_after
after_whole p mode b interval = refl

module _ (info : Info) (windows : List ℕ) (mode : Mode) (b interval : ℕ) {at : ℕ} where
  -- A later end is stored, and a sooner one is not.
  pub after_set : at ≡ window_at mode b → get_or windows at 0 < info.time + interval
      → set windows at (info.time + interval) ≡ set windows (window_at mode b) (window_after (windowed info windows).public mode b interval)
  unfolding window_after
  after_set e later = rw (← e, max-eq_right (le_of_lt later))

  pub after_left : at ≡ window_at mode b → info.time + interval ≤ get_or windows at 0
      → windows ≡ set windows (window_at mode b) (window_after (windowed info windows).public mode b interval)
  unfolding window_after
  after_left e sooner = rw (← e, max-eq_left sooner, set-get_or windows at 0)

module _ (info : Info) (windows : List ℕ) (mode : Mode) (b interval : ℕ) {port : Port} where
  pub opened_service : port ≡ Service → windowed info windows ≡ changes (windowed info windows) (opens_window port (windowed info windows).public mode b interval)
  unfolding changes opens_window
  opened_service e = rw e

  pub opened_none : port ≡ Host → interval ≡ 0 → windowed info windows ≡ changes (windowed info windows) (opens_window port (windowed info windows).public mode b interval)
  unfolding changes opens_window
  opened_none e z = rw (e, eq-eqb interval 0 z)

  pub opened_host : port ≡ Host → (interval ≡ 0 → ⊥) → {after : List ℕ} → after ≡ set windows (window_at mode b) (window_after (windowed info windows).public mode b interval)
      → windowed info after ≡ changes (windowed info windows) (opens_window port (windowed info windows).public mode b interval)
  unfolding changes change change_public change_keys change_contents opens_window
  opened_host e z w = rw (e, ne_eqb interval 0 z, w)

-- What opening does to the windows, it does on the whole card.
module _ (c : Card) (mode : Mode) (b interval : ℕ) where
  abbrev after : Card → List ℕ → Card
  after c windows = card c.public.info c.public.flags c.keys c.public.counts c.public.pointers c.public.multiplicities windows c.contents

  by_test : (t : Bool) {windows : List ℕ}
      → windowed c.public.info windows ≡ changes (windowed c.public.info c.public.windows) (cond t [] (set_window mode b (window_after (windowed c.public.info c.public.windows).public mode b interval) ∷ []))
      → after c windows ≡ changes c (cond t [] (set_window mode b (window_after c.public mode b interval) ∷ []))
  unfolding changes change change_public change_keys change_contents
  by_test true e = ap (λ (k : Card). after c k.public.windows) e
  by_test false e =
      ap (λ (k : Card). after c k.public.windows) e
      ∙ ap (λ (end : ℕ). after c (set c.public.windows (window_at mode b) end)) (after_whole c.public mode b interval)

  pub opened_whole : (port : Port) {windows : List ℕ}
      → windowed c.public.info windows ≡ changes (windowed c.public.info c.public.windows) (opens_window port (windowed c.public.info c.public.windows).public mode b interval)
      → after c windows ≡ changes c (opens_window port c.public mode b interval)
  unfolding opens_window changes
  opened_whole Host e = by_test (eqb interval 0) e
  opened_whole Service e = opened_service_whole e
    where
      opened_service_whole : {windows : List ℕ} → windowed c.public.info windows ≡ changes (windowed c.public.info c.public.windows) [] → after c windows ≡ changes c []
      opened_service_whole e = ap (λ (k : Card). after c k.public.windows) e
