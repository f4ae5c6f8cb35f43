-- The cards that KEY_READ, KEY_WRITE, RENEW and FORCE leave.
use Rattle.std.specs.Prelude.{Option}
use Prim.Native.Nat.{ℕ, ◌+◌, ◌*◌}
use mathlib.Core.Path.{◌≡◌}
use mathlib.Core.List.{List, [], ◌∷◌}
use lib.ListN.{get_or, set}
use Rattle.card.specs.Card.{Card, card, window_at}
use Rattle.card.specs.Plan.{set_window, set_key, keyed_flags, replace_key, changes, change, change_public, change_keys, change_contents}
use Rattle.card.specs.Calls.{window_after, close_windows, mode_of}
use Rattle.windows.proofs.Windows.{windowed, after_whole}
use Rattle.card.specs.declared.Mode.{Mode}

module _ (c : Card) (b : ℕ) where
  -- Both windows closed.
  pub closes_windows : {windows : List ℕ} → windows ≡ set (set c.public.windows (2 * b) 0) (2 * b + 1) 0
      → card c.public.info c.public.flags c.keys c.public.counts c.public.pointers c.public.multiplicities windows c.contents ≡ changes c (close_windows b)
  unfolding changes change change_public change_keys change_contents
  closes_windows e = rw e

  -- One key set, and both windows closed.
  pub replaces_key : (mode : Mode) (key : Option (ℕ × ℕ)) {x : ℕ} {keys windows : List ℕ} → x ≡ keyed_flags (get_or c.public.flags b 0) mode key
      → keys ≡ replace_key c.keys mode b key
      → windows ≡ set (set c.public.windows (2 * b) 0) (2 * b + 1) 0
      → card c.public.info (set c.public.flags b x) keys c.public.counts c.public.pointers c.public.multiplicities windows c.contents
      ≡ changes c (set_key mode b key ∷ close_windows b)
  unfolding changes change change_public change_keys change_contents
  replaces_key mode key f k w = rw (f, k, w)

  -- One window set.
  pub renewed : (number interval : ℕ) {mode : Mode} {windows : List ℕ} → mode ≡ mode_of number
      → windows ≡ set c.public.windows (window_at mode b) (window_after (windowed c.public.info c.public.windows).public mode b interval)
      → card c.public.info c.public.flags c.keys c.public.counts c.public.pointers c.public.multiplicities windows c.contents
      ≡ changes c (set_window (mode_of number) b (window_after c.public (mode_of number) b interval) ∷ [])
  unfolding changes change change_public change_keys change_contents
  renewed number interval {mode} m w = rw (w, after_whole c.public mode b interval, m)
