-- What a player makes of any bytes, on any card: the calls that the bytes hold, each by the rules on the card that the one before left.
use Prim.Native.Nat.{ℕ, suc, ◌+◌}
use mathlib.Core.Path.{◌≡◌, refl}
use mathlib.Core.Bool.{Bool, true, false}
use mathlib.Core.List.{List}
use native.Mathlib.Omega.{arith}
use lib.Dec.{ltb}
use lib.ListN.{length, get_or}
use borrow.Author.Tests.{ltb-true}
use Rattle.card.specs.Card.{Card}
use Rattle.decoding.specs.Decode.{Next, ended, refused, sent, decode}
use Rattle.lines.specs.Lines.{line_room}
use Rattle.input.specs.Play.{player_port, played, turn_of, turn, play_within, play}
use Rattle.input.proofs.PlayLaws.{tried}
use Rattle.input.specs.Statements.{playing, PlaySafe}
use Rattle.input.specs.Performed.{TurnIn, no_room, at_end, at_fault, performs}
use Rattle.serving.proofs.LoopPerforms.{loop_performs}

module _ (before : ℕ) (c : Card) (xs : List ℕ) (room : ℕ) where
  by_next : (n : Next) → decode player_port xs ≡ n → TurnIn playing before c xs room (turn_of (before + 1) c xs n)
  unfolding turn_of played
  by_next ended e = at_end e
  by_next refused e = at_fault e
  by_next (sent port call payload rest) e = performs (record { kind = get_or xs 0 0; port = port; call = call; payload = payload }) rest refl e

  by_room : (full : Bool) → ltb room line_room ≡ full → TurnIn playing before c xs room (tried full before c xs)
  unfolding turn
  by_room true e = no_room (ltb-true room line_room e)
  by_room false e = by_next (decode player_port xs) refl

pub play_safe : PlaySafe
unfolding play play_within
play_safe before c xs room =
    loop_performs playing (λ n c xs room. tried (ltb room line_room) n c xs) play_within (λ n c xs room. by_room n c xs room (ltb room line_room) refl)
    (λ k n c xs room. refl) (suc (length xs)) before c xs room (omega arith)
