-- What a batch makes of any bytes, at either port and on any card: the calls that the bytes hold, each by the rules on the card that the one before left.
use Prim.Native.Nat.{ℕ, suc}
use mathlib.Core.Path.{◌≡◌, refl}
use mathlib.Core.Bool.{Bool, true, false, cond}
use mathlib.Core.List.{List, map}
use native.Mathlib.Omega.{arith}
use lib.Dec.{ltb}
use lib.ListN.{length, take, get_or}
use borrow.Author.Tests.{ltb-true}
use Rattle.card.specs.Card.{Card}
use Rattle.card.specs.Session.{after_all}
use Rattle.card.specs.declared.Port.{Port}
use Rattle.card.specs.declared.Call.{Call}
use Rattle.decoding.specs.Decode.{Next, ended, refused, sent, decode}
use Rattle.input.specs.Play.{halted}
use Rattle.input.specs.Arrivals.{arrivals, sent_with}
use Rattle.input.specs.Performed.{TurnIn, no_room, at_end, at_fault, performs}
use Rattle.input.proofs.PerformedLaws.{left_by_performed}
use Rattle.serving.proofs.LoopPerforms.{loop_performs}
use Rattle.input.specs.declared.Stop.TheVariants.{Full}
use Rattle.serving.specs.Serve.{lent_size, answer_room, served, answering, serve_turn_of, serve_turn, serve_within, serve}
use Rattle.serving.specs.Held.{serving}
use Rattle.serving.specs.Statements.{BytesSafe}

module _ (wire : Port) (before : ℕ) (c : Card) (xs : List ℕ) (room : ℕ) where
  by_room : (port : Port) (call : Call) (payload rest : List ℕ) → decode wire xs ≡ sent port call payload rest → (full : Bool) → ltb room (answer_room c.public.info.bytes call) ≡ full
      → TurnIn (serving wire) before c xs room (cond full (halted Full c xs) (answering port c call payload rest))
  unfolding served
  by_room port call payload rest e true f =
      no_room (record { next = record { kind = get_or xs 0 0; port = port; call = call; payload = payload }; rest = rest; decodes = e; little = ltb-true room _ f })
  by_room port call payload rest e false f = performs (record { kind = get_or xs 0 0; port = port; call = call; payload = payload }) rest refl e

  by_next : (n : Next) → decode wire xs ≡ n → TurnIn (serving wire) before c xs room (serve_turn_of wire room c xs n)
  unfolding serve_turn_of
  by_next ended e = at_end e
  by_next refused e = at_fault e
  by_next (sent port call payload rest) e = by_room port call payload rest e (ltb room (answer_room c.public.info.bytes call)) refl

pub bytes_safe : BytesSafe
unfolding serve serve_within serve_turn
bytes_safe wire c xs room =
    loop_performs (serving wire) (λ n c xs room. serve_turn wire room c xs) (serve_within wire) (λ n c xs room. by_next wire n c xs room (decode wire xs) refl)
    (λ k n c xs room. refl) (suc (length xs)) 0 c xs room (omega arith)

-- The card that a batch leaves is the one that the first of its calls leave, as many as it counts.
pub left_by_calls : (wire : Port) (c : Card) (xs : List ℕ) (room : ℕ)
    → (serve wire c xs room).after ≡ after_all c (take (serve wire c xs room).records (map (sent_with (lent_size c.public.info.bytes)) (arrivals wire xs).records))
left_by_calls wire c xs room = left_by_performed (bytes_safe wire c xs room)
