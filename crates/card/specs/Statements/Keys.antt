-- 2026-02, of KEY_READ and KEY_WRITE: each sets its own key and leaves the other, both need write access and close both windows; and a block that
-- carries one key alone is not sealed.
use Rattle.std.specs.Prelude.{ℕ, Bool, true, false, ◌≡◌, Option, is_some}
use Rattle.card.specs.Card.{Card, allocated, has_key, window_end, window_open, points_to, key_high, key_low}
use Rattle.card.specs.Plan.{high_word, low_word, other_mode, Buffers}
use Rattle.card.specs.Calls.{is_done}
use Rattle.card.specs.Session.{key_call, Request, perform}
use Rattle.card.specs.Reach.{sealed}
use Rattle.card.specs.declared.Port.{Port}
use Rattle.card.specs.declared.Port.TheVariants.{Host}
use Rattle.card.specs.declared.Mode.{Mode}
use Rattle.card.specs.declared.Mode.TheVariants.{Writing}
use Rattle.card.specs.declared.Credential.{Credential}
use Rattle.card.specs.declared.Credential.TheVariants.{Reference, Key}
use Rattle.card.specs.declared.KeyOperands.{KeyOperands}

-- KEY_READ or KEY_WRITE, with whatever buffers.
abbrev pub setting : Mode → KeyOperands → Buffers → Request
setting mode o lent = record { call = key_call mode o; lent = lent }

-- "A block between the two calls may have one key, and then is not sealed": whatever keys are presented, and whichever call left it so.
abbrev pub OneKeyUnsealed : Type 0
OneKeyUnsealed =
    (K : ℕ → ℕ → Bool) (c : Card) (mode : Mode) (b : ℕ) → has_key c.public mode b ≡ true → has_key c.public (other_mode mode) b ≡ false → sealed K c b ≡ false

-- From card c to card d a block's key for the mode stays: its flag and its words.
pub record SameKey (c d : Card) (m : Mode) (b : ℕ) : Type 0 where
  pub there : has_key d.public m b ≡ has_key c.public m b
  pub high : key_high d.keys m b ≡ key_high c.keys m b
  pub low : key_low d.keys m b ≡ key_low c.keys m b

-- Each of the two leaves the other key, and every key of another block; on any card, refused or done.
abbrev pub OtherKeyKept : Type 0
OtherKeyKept =
    (port : Port) (c : Card) (mode : Mode) (o : KeyOperands) (lent : Buffers) (m : Mode) (b : ℕ) → (m ≡ mode → b ≡ o.block → ⊥)
    → SameKey c (perform port c (setting mode o lent)).after m b

-- The block's key for the mode is the new one, or there is none.
pub record HasNewKey (d : Card) (m : Mode) (b : ℕ) (key : Option (ℕ × ℕ)) : Type 0 where
  pub there : has_key d.public m b ≡ is_some key
  pub high : key_high d.keys m b ≡ high_word key
  pub low : key_low d.keys m b ≡ low_word key

-- "each with one new key or none"
abbrev pub OwnKeySet : Type 0
OwnKeySet =
    (port : Port) (c : Card) (mode : Mode) (o : KeyOperands) (lent : Buffers) → is_done (perform port c (setting mode o lent)).answer ≡ true
    → HasNewKey (perform port c (setting mode o lent)).after mode o.block o.key

-- "and both close the block's two windows"
abbrev pub BothWindowsClosed : Type 0
BothWindowsClosed =
    (port : Port) (c : Card) (mode : Mode) (o : KeyOperands) (lent : Buffers) → is_done (perform port c (setting mode o lent)).answer ≡ true
    → (m : Mode) → window_end (perform port c (setting mode o lent)).after.public m o.block ≡ 0

-- What gives a host write access to a block that is no root: its write key; without one a reference block with an open write window that points to it.
pub data WriteAccess (c : Card) (b : ℕ) : Credential → Type 0 where
  by_write_key : {high low : ℕ} → has_key c.public Writing b ≡ true → key_high c.keys Writing b ≡ high → key_low c.keys Writing b ≡ low
      → WriteAccess c b (Key high low)
  by_reference : {r : ℕ} → has_key c.public Writing b ≡ false → allocated c.public r ≡ true → points_to c.public r b ≡ true
      → window_open c.public Writing r ≡ true → WriteAccess c b (Reference r)

-- "Both need the write access that KEY needs": what a host presents for a call that is done. So where the block has a write key, no read key is enough.
abbrev pub WriteAccessNeeded : Type 0
WriteAccessNeeded =
    (c : Card) (mode : Mode) (o : KeyOperands) (lent : Buffers) → is_done (perform Host c (setting mode o lent)).answer ≡ true
    → WriteAccess c o.block o.credential
