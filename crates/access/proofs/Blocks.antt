-- Tests of a block that several calls share, on the card and on the lists that they look at; what a block that is there has.
use Prim.Native.Nat.{ℕ, ◌+◌, ◌*◌, ◌<◌, ◌≤◌}
use mathlib.Core.Path.{◌≡◌, refl, sym, ap, ◌∙◌}
use mathlib.Core.Bool.{Bool, true, false, not}
use mathlib.Core.List.{[]}
use native.Mathlib.Omega.{arith}
use lib.ListN.{length, get_or}
use lib.Dec.{ltb}
use borrow.Author.Tests.{lt-ltb, le-ltb, not-false}
use Rattle.card.specs.Card.{Public, Card, card, allocated, allocated_flag}
use Rattle.card.specs.Lent.{Shows, lent_card}
use Rattle.card.specs.Soundness.{time_limit}
use Rattle.card.specs.SoundCard.{SoundCard}
use Rattle.laws.specs.SoundnessLaws.{allocated_below}
use Rattle.card.specs.Access.{admits}
use Rattle.card.specs.Calls.{root_at_host}
use Rattle.card.specs.declared.Info.{Info}
use Rattle.card.specs.declared.LentCard.{LentCard}
use Rattle.card.specs.declared.SharedCard.{SharedCard}
use Rattle.card.specs.declared.Port.{Port}
use Rattle.card.specs.declared.Port.TheVariants.{Host, Service}
use Rattle.card.specs.declared.Mode.{Mode}
use Rattle.card.specs.declared.Credential.{Credential}
use Rattle.access.specs.Accessible.{Accessible}
use Rattle.access.specs.AccessibleLaws.{sound_accessible}

pub missing_above : (p : Public) (b : ℕ) → p.info.blocks ≤ b → true ≡ not (allocated p b)
unfolding allocated
missing_above p b h = rw (le-ltb b p.info.blocks h)

pub missing_below : (p : Public) (b : ℕ) {t : Bool} → b < p.info.blocks → t ≡ allocated_flag (get_or p.flags b 0) → not t ≡ not (allocated p b)
unfolding allocated
missing_below p b h told = rw (lt-ltb b p.info.blocks h, told)

module _ (p : Public) (b : ℕ) {t : Bool} (told : t ≡ not (allocated p b)) where
  -- The test on the card, whichever way it came out.
  pub missing_told : {s : Bool} → t ≡ s → not (allocated p b) ≡ s
  unfolding allocated
  missing_told e = sym told ∙ e

  pub there : t ≡ false → b < p.info.blocks
  there e = allocated_below p b (not-false (allocated p b) (missing_told e))

-- The test by the record and the flags that are shown is the card's.
pub missing_shown : {s : SharedCard} {t : LentCard} → Shows s t → (b : ℕ) {m : Bool} → m ≡ not (allocated (card s.info s.flags.now [] [] [] [] [] []).public b)
    → m ≡ not (allocated (lent_card t).public b)
unfolding allocated
missing_shown h b told = rw (h.info, h.flags) at told

-- A block that is there has both windows.
pub windows_there : {c : Card} (b : ℕ) {t : Bool} → SoundCard c → t ≡ not (allocated c.public b) → t ≡ false
    → 2 * b + 2 ≤ length c.public.windows
windows_there {c} b s told e = omega (arith, s.shaped.has_lengths.windows, there c.public b told e)

-- A block that is there has a flags byte and four key words.
pub flag_there : {c : Card} (b : ℕ) {t : Bool} → SoundCard c → t ≡ not (allocated c.public b) → t ≡ false → b < length c.public.flags
flag_there {c} b s told e = omega (arith, s.shaped.has_lengths.flags, there c.public b told e)

pub keys_there : {c : Card} (b : ℕ) {t : Bool} → SoundCard c → t ≡ not (allocated c.public b) → t ≡ false → 4 * b + 4 ≤ length c.keys
keys_there {c} b s told e = omega (arith, s.shaped.has_lengths.keys, there c.public b told e)

-- What a window of a block that is there is set by.
pub windows_low : {c : Card} (b : ℕ) {t : Bool} → SoundCard c → t ≡ not (allocated c.public b) → t ≡ false
    → (c.public.info.time < time_limit) × ((b < 65536) × (2 * b + 2 ≤ length c.public.windows))
windows_low {c} b s told e =
    let below : b < c.public.info.blocks = there c.public b told e in
    let blocks : c.public.info.blocks ≤ 4096 = s.shaped.in_ranges.blocks_high in
    (s.shaped.time_high, (omega arith, windows_there b s told e))

-- ---- the access test

pub access_there : {c : Card} (b : ℕ) {t : Bool} → SoundCard c → t ≡ not (allocated c.public b) → t ≡ false → Accessible c b
access_there {c} b s told e = sound_accessible s (there c.public b told e)

module _ (port : Port) (c : Card) (mode : Mode) (b : ℕ) (credential : Credential) {a : Bool} (told : a ≡ admits port c mode b credential) where
  pub closed_told : {s : Bool} → not a ≡ s → not (admits port c mode b credential) ≡ s
  closed_told e = sym (ap not told) ∙ e

-- ---- roots

pub root_host : (info : Info) (b : ℕ) {port : Port} → port ≡ Host → ltb b info.roots ≡ root_at_host port (card info [] [] [] [] [] [] []).public b
unfolding root_at_host
root_host info b e = rw e

pub root_service : (info : Info) (b : ℕ) {port : Port} → port ≡ Service → false ≡ root_at_host port (card info [] [] [] [] [] [] []).public b
unfolding root_at_host
root_service info b e = rw e

same_root : (port : Port) (p : Public) (b : ℕ) → root_at_host port (card p.info [] [] [] [] [] [] []).public b ≡ root_at_host port p b
unfolding root_at_host
same_root Host p b = refl
same_root Service p b = refl

-- A test of a root, whichever way it came out.
pub root_told : (port : Port) (p : Public) (b : ℕ) {t s : Bool} → t ≡ root_at_host port (card p.info [] [] [] [] [] [] []).public b → t ≡ s → root_at_host port p b ≡ s
root_told port p b told e = sym (told ∙ same_root port p b) ∙ e
