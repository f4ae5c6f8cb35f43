-- What each way out of the access test answers, over plain values.
use Prim.Native.Nat.{ℕ, ◌+◌, ◌*◌, ◌≤◌, ◌<◌}
use mathlib.Core.Path.{◌≡◌, refl, sym, ◌∙◌}
use mathlib.Core.Bool.{Bool, true, false, ◌&&◌, ◌||◌, not, cond}
use mathlib.Core.List.{List, []}
use lib.Dec.{eqb, ltb}
use lib.ListN.{take, get_or}
use borrow.Author.Tests.{le-ltb, not-true, not-false}
use Rattle.laws.specs.ListsLaws.{absurd_test, or_false_left, or_false_right, and_false_right}
use Rattle.laws.specs.SoundnessLaws.{flag_allocated}
use Rattle.card.specs.Pointers.{pointer, contains}
use Rattle.card.specs.Card.{Public, Card, card, allocated_flag, key_flag, flag, allocated, has_key, is_root, window_open, points_to}
use Rattle.card.specs.Access.{key_is, key_opens, opens_keyed, opens_root, opens_pointed, opens, admits}
use Rattle.card.specs.declared.Info.{Info}
use Rattle.card.specs.declared.Mode.{Mode}
use Rattle.card.specs.declared.Mode.TheVariants.{Reading, Writing}
use Rattle.card.specs.declared.Port.{Port}
use Rattle.card.specs.declared.Port.TheVariants.{Host, Service}
use Rattle.card.specs.declared.Credential.{Credential}
use Rattle.card.specs.declared.Credential.TheVariants.{Nothing, Reference, Key}

-- ---- keys

module _ (keys : List ℕ) (b high low : ℕ) {mode : Mode} {r : Bool} where
  pub key_reading : mode ≡ Reading → r ≡ eqb (get_or keys (4 * b) 0) high && eqb (get_or keys (4 * b + 1) 0) low → r ≡ key_is keys mode b high low
  unfolding key_is
  key_reading e h = rw e h

  pub key_writing : mode ≡ Writing → r ≡ eqb (get_or keys (4 * b + 2) 0) high && eqb (get_or keys (4 * b + 2 + 1) 0) low → r ≡ key_is keys mode b high low
  unfolding key_is
  key_writing e h = rw e h

-- A card of which only the keys and the block's flags are known.
module _ (c : Card) (b high low : ℕ) {keys : List ℕ} {mode : Mode} {write : Bool} where
  pub opens_reading : {f : ℕ} {read present : Bool} → mode ≡ Reading → read ≡ key_is keys Reading b high low → write ≡ key_is keys Writing b high low → present ≡ key_flag Writing f
      → c.keys ≡ keys → get_or c.public.flags b 0 ≡ f → read || (present && write) ≡ key_opens c mode b high low
  unfolding key_opens has_key
  opens_reading e r w p k g = rw (e, k, g, r, w, p)

  pub opens_writing : mode ≡ Writing → write ≡ key_is keys Writing b high low → c.keys ≡ keys → write ≡ key_opens c mode b high low
  unfolding key_opens
  opens_writing e w k = rw (e, k) w

-- ---- references

module _ (info : Info) (windows : List ℕ) (b : ℕ) {mode : Mode} where
  pub window_reading : mode ≡ Reading → ltb info.time (get_or windows (2 * b) 0) ≡ window_open (card info [] [] [] [] [] windows []).public mode b
  unfolding window_open
  window_reading e = rw e

  pub window_writing : mode ≡ Writing → ltb info.time (get_or windows (2 * b + 1) 0) ≡ window_open (card info [] [] [] [] [] windows []).public mode b
  unfolding window_open
  window_writing e = rw e

module _ (p : Public) (mode : Mode) (b r : ℕ) where
  pub reference_outside : p.info.blocks ≤ r → false ≡ opens_pointed p mode b (Reference r)
  unfolding opens_pointed allocated
  reference_outside h = rw (le-ltb r p.info.blocks h)

  pub reference_unallocated : {held : Bool} → held ≡ allocated_flag (flag p r) → not held ≡ true → false ≡ opens_pointed p mode b (Reference r)
  unfolding opens_pointed allocated
  reference_unallocated told h = rw (and_false_right (ltb r p.info.blocks) _ (sym told ∙ not-true _ h))

  pub reference_followed : {held points opened : Bool} → r < p.info.blocks → held ≡ allocated_flag (flag p r) → not held ≡ false → points ≡ contains (pointer r b) (take p.info.used p.pointers) → opened ≡ window_open (card p.info [] [] [] [] [] p.windows []).public mode r
      → points && opened ≡ opens_pointed p mode b (Reference r)
  unfolding opens_pointed points_to window_open
  reference_followed l told h e o = rw (flag_allocated p r l (sym told ∙ not-false _ h), e, o)

-- ---- the test

module _ (c : Card) (mode : Mode) (b : ℕ) {credential : Credential} {keyed : Bool} (found : keyed ≡ key_flag mode (flag c.public b)) where
  pub nothing_opens : credential ≡ Nothing → not keyed && is_root c.public b ≡ opens c mode b credential
  unfolding opens has_key opens_keyed opens_root opens_pointed
  nothing_opens e = rw (e, ← found) (go keyed (is_root c.public b))
    where
      go : (k r : Bool) → not k && r ≡ cond k false (cond r true false)
      go true r = refl
      go false true = refl
      go false false = refl

  pub reference_refused : {r : ℕ} → credential ≡ Reference r → keyed || is_root c.public b ≡ true → false ≡ opens c mode b credential
  unfolding opens has_key opens_keyed opens_root
  reference_refused {r} e h = rw (e, ← found) (go keyed (is_root c.public b) h)
    where
      go : (k t : Bool) → k || t ≡ true → false ≡ cond k false (cond t false (opens_pointed c.public mode b (Reference r)))
      go true t h = refl
      go false true h = refl
      go false false h = absurd_test {t = false} h refl

  pub reference_opens : {r : ℕ} {answer : Bool} → credential ≡ Reference r → keyed || is_root c.public b ≡ false → answer ≡ opens_pointed c.public mode b (Reference r)
      → answer ≡ opens c mode b credential
  unfolding opens has_key
  reference_opens e h a = rw (e, ← found, or_false_left keyed _ h, or_false_right keyed _ h) a

  pub key_opens_law : {high low : ℕ} {answer : Bool} → credential ≡ Key high low → keyed ≡ true → answer ≡ key_opens c mode b high low → answer ≡ opens c mode b credential
  unfolding opens has_key opens_keyed
  key_opens_law e h a = rw (e, ← found, h) a

  pub keyless_refused : {high low : ℕ} → credential ≡ Key high low → keyed ≡ false → false ≡ opens c mode b credential
  unfolding opens has_key opens_keyed opens_root opens_pointed
  keyless_refused e h = rw (e, ← found, h) (go (is_root c.public b))
    where
      go : (t : Bool) → false ≡ cond t false false
      go true = refl
      go false = refl

module _ (c : Card) (mode : Mode) (b : ℕ) (credential : Credential) {port : Port} where
  pub host_admits : {answer : Bool} → port ≡ Host → answer ≡ opens c mode b credential → answer ≡ admits port c mode b credential
  unfolding admits
  host_admits e a = rw e a

  pub service_admits : port ≡ Service → true ≡ admits port c mode b credential
  unfolding admits
  service_admits e = rw e
