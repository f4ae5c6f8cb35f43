-- 2026-09, "Two observatories must show that withdrawn records are gone from the card": what a done SWEEP leaves.
use Rattle.std.specs.Prelude.{ℕ, ◌<◌, ◌≤◌, true, List, ◌≡◌, length}
use Rattle.card.specs.Contents.{zeros}
use Rattle.card.specs.Card.{Public, Card, flag, waiting, free, waiting_blocks, block}
use Rattle.card.specs.SoundCard.{SoundCard}
use Rattle.card.specs.Plan.{Buffers, Result}
use Rattle.card.specs.Calls.{is_done}
use Rattle.card.specs.Lowest.{Lowest}
use Rattle.card.specs.Session.{Request, perform}
use Rattle.card.specs.declared.Port.{Port}
use Rattle.card.specs.Answers.{Value}
use Rattle.card.specs.declared.Call.TheVariants.{Sweep}
use Rattle.card.specs.declared.SweepOperands.{SweepOperands}

abbrev pub sweeping : SweepOperands → Buffers → Request
sweeping o lent = record { call = Sweep o; lent = lent }

-- The block is among the k lowest that wait.
abbrev pub LowestWaiting : Public → ℕ → ℕ → Type 0
LowestWaiting p k b = Lowest (waiting p) k p.info.blocks b

-- The block is free and holds zeros.
pub record Gone (bytes : ℕ) (d : Card) (b : ℕ) : Type 0 where
  pub is_free : free d.public b ≡ true
  pub holds_zeros : block d b ≡ zeros bytes

-- From card c to card d nothing but flags and contents changed.
pub record FlagsAndContents (c d : Card) : Type 0 where
  pub info : d.public.info ≡ c.public.info
  pub counts : d.public.counts ≡ c.public.counts
  pub pointers : d.public.pointers ≡ c.public.pointers
  pub multiplicities : d.public.multiplicities ≡ c.public.multiplicities
  pub windows : d.public.windows ≡ c.public.windows
  pub keys : d.keys ≡ c.keys

-- The block has these flags and holds these bytes.
pub record HasFlagsAndBytes (c : Card) (b flags : ℕ) (bytes : List ℕ) : Type 0 where
  pub flagged : flag c.public b ≡ flags
  pub held : block c b ≡ bytes

-- A SWEEP of at most n blocks that is done.
pub record SweepsLowest (port : Port) (c : Card) (o : SweepOperands) (lent : Buffers) (result : Result) : Type 0 where
  -- "Result: the number swept", which is n, "or all if fewer wait".
  pub number : ℕ
  pub answers : result.answer ≡ Value number
  pub most : number ≤ o.most
  pub few : number ≤ length (waiting_blocks c.public)
  pub all_if_fewer : number < o.most → number ≡ length (waiting_blocks c.public)
  -- "fills the n lowest waiting blocks with zeros .. and makes them free"
  pub gone : (b : ℕ) → LowestWaiting c.public number b → Gone c.public.info.bytes result.after b
  -- No other block changes, and nothing but flags and contents does.
  pub kept : (b : ℕ) → (LowestWaiting c.public number b → ⊥) → HasFlagsAndBytes result.after b (flag c.public b) (block c b)
  pub rest : FlagsAndContents c result.after
  -- Whatever the swept blocks held, nothing of it is left: a card that differs from this one only there is left the same.
  pub forgotten : (d : Card) → SoundCard d → d.public ≡ c.public → d.keys ≡ c.keys
      → ((b : ℕ) → b < c.public.info.blocks → (LowestWaiting c.public number b → ⊥) → block d b ≡ block c b)
      → (perform port d (sweeping o lent)).after ≡ result.after

abbrev pub SweptGone : Type 0
SweptGone =
    (port : Port) (c : Card) (o : SweepOperands) (lent : Buffers) → is_done (perform port c (sweeping o lent)).answer ≡ true
    → SweepsLowest port c o lent (perform port c (sweeping o lent))
