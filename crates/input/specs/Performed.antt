-- What a play or a batch of bytes comes to, told by the calls that the bytes hold: those performed, what they answer and what they leave.
use Rattle.std.specs.Prelude.{ℕ, ◌+◌, ◌-◌, ◌≡◌, List, [], ◌++◌, map, length, get_or, None}
use Rattle.card.specs.Card.{Card}
use Rattle.card.specs.Session.{Reply, reply, performed, replies, after_all, Each}
use Rattle.card.specs.declared.Port.{Port}
use Rattle.card.specs.declared.Call.{Call}
use Rattle.card.specs.Statements.Safe.{SafeCall}
use Rattle.decoding.specs.Decode.{ended, refused, sent, decode}
use Rattle.input.specs.Play.{Turn, halted, fault, Play}
use Rattle.input.specs.Arrivals.{Arrived, arrivals, sent_with, written_of}
use Rattle.input.specs.declared.Stop.TheVariants.{Ended, Full}

-- How records are performed: the port at which they arrive, the bytes lent to a call on a card with blocks of so many bytes, what is written of
-- a record, and when there is no room for it.
pub record Manner : Type 1 where
  pub wire : Port
  pub size : ℕ → Call → ℕ
  pub write : ℕ → Arrived → Reply → List ℕ
  -- Of the bytes of a block, the room, and the input whose first record is next.
  pub NoRoom : ℕ → ℕ → List ℕ → Type 0

module _ (m : Manner) where
  -- Why no more records are performed: there is no room for the next one, or the bytes hold no more, with the reason and the rest that `arrivals` gives.
  pub data Ends (bytes room : ℕ) (xs : List ℕ) (behind : List Arrived) (p : Play) : Type 0 where
    out_of_room : p.stop ≡ Full → m.NoRoom bytes (room - length p.output) p.left → Ends bytes room xs behind p
    all_performed : behind ≡ [] → p.stop ≡ (arrivals m.wire xs).stop → p.left ≡ (arrivals m.wire xs).left → Ends bytes room xs behind p

  -- From a card on, with so many records before and so much room, the bytes come to this: the first of the records that they hold are performed, each
  -- by the rules on the card that the one before left.
  pub record PerformedBy (before : ℕ) (c : Card) (xs : List ℕ) (room : ℕ) (p : Play) : Type 0 where
    pub made : List Arrived
    pub behind : List Arrived
    pub held : (arrivals m.wire xs).records ≡ made ++ behind
    pub counts : p.records ≡ before + length made
    pub leaves : p.after ≡ after_all c (map (sent_with (m.size c.public.info.bytes)) made)
    pub writes : p.output ≡ written_of m.write (before + 1) made (replies c (map (sent_with (m.size c.public.info.bytes)) made))
    pub ends : Ends c.public.info.bytes room xs behind p
    -- So what holds of every call holds of each of them: refused, it changes nothing; on a sound card it leaves a sound one; and it touches no
    -- unallocated block but those that it allots or sweeps.
    pub safe : Each SafeCall c (map (sent_with (m.size c.public.info.bytes)) made)

  -- What one turn comes to: a record is performed, or nothing is done.
  pub data TurnIn (before : ℕ) (c : Card) (xs : List ℕ) (room : ℕ) : Turn → Type 0 where
    no_room : m.NoRoom c.public.info.bytes room xs → TurnIn before c xs room (halted Full c xs)
    at_end : decode m.wire xs ≡ ended → TurnIn before c xs room (halted Ended c xs)
    at_fault : decode m.wire xs ≡ refused → TurnIn before c xs room (halted (fault m.wire xs) c xs)
    performs : (a : Arrived) (rest : List ℕ) → a.kind ≡ get_or xs 0 0 → decode m.wire xs ≡ sent a.port a.call a.payload rest
        → TurnIn before c xs room
        (record {
          stop = None;
          output = m.write (before + 1) a (reply (performed c (sent_with (m.size c.public.info.bytes) a)));
          after = (performed c (sent_with (m.size c.public.info.bytes) a)).after;
          left = rest;
        })
