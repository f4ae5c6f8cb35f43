-- 2026-05: each pointer is there as often as it was made and not yet taken away.
use Rattle.std.specs.Prelude.{ℕ, ◌+◌, ◌<◌, List, ◌≡◌}
use Rattle.card.specs.Lists.{sum_below}
use Rattle.card.specs.Card.{Card, count, multiplicity}
use Rattle.card.specs.SoundCard.{SoundCard}
use Rattle.card.specs.Session.{Request, perform, Sent, reply, after_all}
use Rattle.card.specs.Ledger.{made, taken, made_in_all, taken_in_all}
use Rattle.card.specs.declared.Port.{Port}

-- After any call on any card, at either port, done or refused, the multiplicity of the pointer from a to b is what it was, and one more for each that
-- the call made, one less for each that it took away: a DELETE_TREE takes the whole multiplicity of each pointer that goes. Block numbers have 16 bits.
abbrev pub MadeAndTaken : Type 0
MadeAndTaken =
    (port : Port) (c : Card) (q : Request) (a b : ℕ) → b < 65536
    → multiplicity (perform port c q).after.public a b + taken c q.call (reply (perform port c q)) a b
    ≡ multiplicity c.public a b + made q.call (reply (perform port c q)) a b

-- The same of any list of calls at either port, added up.
abbrev pub Ledger : Type 0
Ledger =
    (c : Card) (ss : List Sent) (a b : ℕ) → b < 65536
    → multiplicity (after_all c ss).public a b + taken_in_all c ss a b ≡ multiplicity c.public a b + made_in_all c ss a b

-- "A reader of the counts finds every pointer counted as often as it was made and not yet taken away": a block's count after any list of calls is what
-- it was, and the pointers made to it, less those taken away, from all blocks of the card.
abbrev pub CountsLedger : Type 0
CountsLedger =
    (c : Card) (ss : List Sent) → SoundCard c → (b : ℕ) → b < c.public.info.blocks
    → count (after_all c ss).public b + sum_below (λ a. taken_in_all c ss a b) c.public.info.blocks
    ≡ count c.public b + sum_below (λ a. made_in_all c ss a b) c.public.info.blocks
