-- One call played, and one turn of a player: the card that it leaves and the line that it writes.
use Rattle.std.specs.Prelude.{Ok, Err, Some, None}
use Prim.Native.Nat.{ℕ, ◌-◌, ◌≤◌}
use mathlib.Core.Path.{◌≡◌, subst}
use mathlib.Core.List.{List}
use native.Mathlib.Omega.{arith}
use lib.ListN.{length, take, drop}
use Rattle.card.specs.Card.{Card}
use Rattle.card.specs.Plan.{Result}
use Rattle.card.specs.Promises.{Is}
use Rattle.card.specs.Session.{Reply, reply}
use Rattle.card.specs.declared.Call.{Call}
use Rattle.card.specs.Answers.{Answer}
use Rattle.lines.specs.Lines.{line, line_room}
use Rattle.lines.specs.Replied.{BuffersFit, replied}
use Rattle.lines.proofs.AnswersWritten.{line_short}
use Rattle.lines.specs.Written.{Written}
use Rattle.input.specs.Play.{player_port, played, turn_of, turn}
use Rattle.input.specs.Played.{WroteIs, TurnIs}
use Rattle.input.proofs.PlayedLaws.{turn_nothing, turn_whole}
use Rattle.input.specs.Found.{Found, WholeIs, FoundIs}
use Rattle.input.specs.declared.Stop.{Stop}
use Rattle.input.specs.declared.Record.{Record}

pub call_played : (ordinal kind : ℕ) (call : Call) {want : Result} {answer : Answer} {after : Card} {out places before to : List ℕ} {at behind : ℕ} → BuffersFit out places
    → Is want answer after out places → Written before at (line ordinal kind call (replied answer out places)) to behind
    → WroteIs want.after (line ordinal kind call (reply want)) line_room after before at to behind
call_played ordinal kind call {want} {answer} {after} {out} {places} {before} {to} {at} {behind} fit i w =
    let same : replied answer out places ≡ reply want = λ k. record { answer = i.answers k; out = i.fills_out k; places = i.fills_places k } in
    record {
      leaves = i.leaves;
      writes = subst (λ (r : Reply). Written before at (line ordinal kind call r) to behind) same w;
      short = subst (λ (r : Reply). length (line ordinal kind call r) ≤ line_room) same (line_short ordinal kind call answer out places fit);
    }

-- ---- a turn, by what was found

module _ (ordinal : ℕ) (c : Card) (input : List ℕ) (from : ℕ) (fits : from ≤ length input) (before : List ℕ) (at : ℕ) where
  pub nothing_played : {found : Found} {stop : Stop} → FoundIs player_port input from found → found ≡ Err stop → TurnIs (turn ordinal c (drop from input)) line_room (Some stop) c input from before at before at
  unfolding turn turn_of
  nothing_played f e = turn_nothing player_port (turn ordinal c (drop from input)) line_room c input from fits before at (λ d. rw d) (λ d. rw d) f e

  pub whole_played : {found : Found} {r : Record} {after : Card} {to : List ℕ} {behind : ℕ} → FoundIs player_port input from found → found ≡ Ok r
      → let want = played r.port c r.call (take (r.next - r.payload) (drop r.payload input)) in
      WroteIs want.after (line ordinal r.kind r.call (reply want)) line_room after before at to behind
      → TurnIs (turn ordinal c (drop from input)) line_room None after input r.next before at to behind
  unfolding turn turn_of
  whole_played {r = r} f e h =
      let w : WholeIs player_port input from r = subst (FoundIs player_port input from) e f in
      turn_whole player_port (turn ordinal c (drop from input)) line_room c input from fits before at (rw (w.decodes, w.has_kind)) w.next_within (omega arith) h
