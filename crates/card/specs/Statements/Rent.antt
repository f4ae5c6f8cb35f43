-- 2026-08, rent: the total grows by what the TICKs of a list add and by nothing else; RENT asks for the nearest number of cents, and changes nothing; and
-- who pays depends on no hidden contents.
use Rattle.std.specs.Prelude.{ℕ, ◌+◌, ◌*◌, ◌≤◌, List, ◌≡◌}
use Rattle.card.specs.Card.{Card}
use Rattle.card.specs.SoundCard.{SoundCard}
use Rattle.card.specs.Plan.{Buffers}
use Rattle.card.specs.Calls.{distance}
use Rattle.card.specs.Session.{Request, perform, Sent, after_all, host_session}
use Rattle.card.specs.RentAdded.{added_in_all}
use Rattle.card.specs.Reach.{presented}
use Rattle.card.specs.Statements.Refusals.{Unchanged}
use Rattle.card.specs.Statements.Secrecy.{EqualBut, HiddenOrUnallocated}
use Rattle.card.specs.declared.Port.{Port}
use Rattle.card.specs.Answers.{Answer}
use Rattle.card.specs.Answers.{Value}
use Rattle.card.specs.declared.Call.TheVariants.{Rent}
use Rattle.card.specs.declared.RentOperands.{RentOperands}

-- "Each TICK of n adds n × the allocated non-root blocks to a new total": over any list of calls at either port the total grows by just the sum of what
-- the done TICKs add, each counting the blocks of the card that it finds. On any card, for an unsound one keeps its total.
abbrev pub RentSummed : Type 0
RentSummed = (c : Card) (ss : List Sent) → (after_all c ss).public.info.total ≡ c.public.info.total + added_in_all c ss

abbrev pub renting : RentOperands → Buffers → Request
renting o lent = record { call = Rent o; lent = lent }

-- What RENT answers at a price.
abbrev pub asked : Port → Card → RentOperands → Buffers → Answer
asked port c o lent = (perform port c (renting o lent)).answer

-- It asks, and nothing is paid by it: whatever the card, the port and the price.
abbrev pub RentUnchanged : Type 0
RentUnchanged = (port : Port) (c : Card) (o : RentOperands) (lent : Buffers) → Unchanged c lent (perform port c (renting o lent))

-- A whole number is the nearest to a fraction of so many parts, each a part of that size, and of two as near the upper one.
pub record Nearest (parts size whole : ℕ) : Type 0 where
  pub near : (other : ℕ) → distance (whole * size) parts ≤ distance (other * size) parts
  pub upper : (other : ℕ) → distance (other * size) parts ≡ distance (whole * size) parts → other ≤ whole

-- "gives cents: total × price divided by 86,400,000, rounded to the nearest, a half upward": at either port, on any card, with whatever buffers.
abbrev pub RentNearest : Type 0
RentNearest =
    (port : Port) (c : Card) (o : RentOperands) (lent : Buffers) (v : ℕ) → asked port c o lent ≡ Value v
    → Nearest (c.public.info.total * o.price) 86400000 v

-- Two cards have the same total, and the same is asked for them.
pub record PayAlike (c d : Card) : Type 0 where
  pub totals : c.public.info.total ≡ d.public.info.total
  pub cents : (port : Port) (o : RentOperands) (lent : Buffers) → asked port c o lent ≡ asked port d o lent

-- "The total depends on no block's contents, so two sessions alike in all but hidden contents pay alike."
abbrev pub RentAlike : Type 0
RentAlike =
    (session : List Request) (c d : Card) → SoundCard c → SoundCard d → EqualBut (HiddenOrUnallocated (presented session) c) c d
    → PayAlike (after_all c (host_session session)) (after_all d (host_session session))
