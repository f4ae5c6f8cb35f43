-- Document 01, "Credentials": the one access test.
use Rattle.std.specs.Prelude.{ℕ, Bool, true, false, ◌&&◌, ◌||◌, cond, List, eqb}
use Rattle.card.specs.Card.{Public, Card, allocated, has_key, is_root, window_open, points_to, key_high, key_low}
use Rattle.card.specs.declared.Mode.{Mode}
use Rattle.card.specs.declared.Mode.TheVariants.{Reading, Writing}
use Rattle.card.specs.declared.Port.{Port}
use Rattle.card.specs.declared.Port.TheVariants.{Host, Service}
use Rattle.card.specs.declared.Credential.{Credential}
use Rattle.card.specs.declared.Credential.TheVariants.{Nothing, Reference, Key}

-- The words are those of the block's key for the mode.
unfoldable pub key_is : List ℕ → Mode → ℕ → ℕ → ℕ → Bool
key_is keys mode b high low = eqb (key_high keys mode b) high && eqb (key_low keys mode b) low

-- A key opens a block that has a key for the mode: that key does and, for reading, the block's write key, if it has one.
unfoldable pub key_opens : Card → Mode → ℕ → ℕ → ℕ → Bool
key_opens c Reading b high low =
    key_is c.keys Reading b high low || (has_key c.public Writing b && key_is c.keys Writing b high low)
key_opens c Writing b high low = key_is c.keys Writing b high low

-- "b has a key for that operation: only a key equal to it opens b"
unfoldable pub opens_keyed : Card → Mode → ℕ → Credential → Bool
opens_keyed c mode b Nothing = false
opens_keyed c mode b (Reference r) = false
opens_keyed c mode b (Key high low) = key_opens c mode b high low

-- "b is a root without such a key: only nothing opens it"
unfoldable pub opens_root : Credential → Bool
opens_root Nothing = true
opens_root (Reference r) = false
opens_root (Key high low) = false

-- "Otherwise: only a reference block r below N that is allocated, points to b, and whose window for the same operation is open"
unfoldable pub opens_pointed : Public → Mode → ℕ → Credential → Bool
opens_pointed p mode b Nothing = false
opens_pointed p mode b (Reference r) = allocated p r && (points_to p r b && window_open p mode r)
opens_pointed p mode b (Key high low) = false

-- The credential opens the block for the mode.
unfoldable pub opens : Card → Mode → ℕ → Credential → Bool
opens c mode b credential =
    cond (has_key c.public mode b) (opens_keyed c mode b credential)
    (cond (is_root c.public b) (opens_root credential) (opens_pointed c.public mode b credential))

-- "Calls at the service port skip credentials"
unfoldable pub admits : Port → Card → Mode → ℕ → Credential → Bool
admits Host c mode b credential = opens c mode b credential
admits Service c mode b credential = true
