-- One turn of a batch: what it leaves, by what was found in the input.
use Rattle.std.specs.Prelude.{Ok, Err, Some, None}
use Prim.Native.Nat.{ℕ, ◌-◌, ◌≤◌, ◌<◌}
use mathlib.Core.Path.{◌≡◌, refl, sym, subst}
use mathlib.Core.Bool.{Bool, true, false, cond}
use mathlib.Core.List.{List, []}
use native.Mathlib.Omega.{arith}
use lib.Dec.{ltb}
use lib.ListN.{length, take, drop}
use borrow.Author.Tests.{lt-ltb, le-ltb}
use Rattle.card.specs.Card.{Card}
use Rattle.card.specs.Soundness.{verdict}
use Rattle.card.specs.Session.{reply}
use Rattle.card.specs.declared.Port.{Port}
use Rattle.card.specs.declared.Call.{Call}
use Rattle.decoding.specs.Decode.{Next, ended, refused, sent, decode}
use Rattle.decoding.proofs.DecodeLaws.{decode_shorter}
use Rattle.input.specs.Play.{Turn, halted, fault}
use Rattle.std.proofs.lemmas.Option.{none-some}
use Rattle.input.specs.Played.{WroteIs, TurnIs}
use Rattle.input.proofs.PlayedLaws.{turn_halted, turn_nothing, turn_whole}
use Rattle.input.specs.Found.{Found, WholeIs, FoundIs}
use Rattle.input.specs.declared.Stop.{Stop}
use Rattle.input.specs.declared.Stop.TheVariants.{Ended, Full}
use Rattle.input.specs.declared.Record.{Record}
use Rattle.serving.specs.Serve.{answer_bytes, answer_room, served, answering, serve_turn_of, serve_turn, room_from}
use Rattle.batch.proofs.Answered.{verdict_kept}

-- ---- by what was found

module _ (wire : Port) (c : Card) (input : List ℕ) (from : ℕ) (fits : from ≤ length input) (before : List ℕ) (at : ℕ) where
  abbrev turn_here : Turn
  turn_here = serve_turn wire (room_from before at) c (drop from input)

  pub nothing_served : {found : Found} {stop : Stop} → FoundIs wire input from found → found ≡ Err stop → TurnIs turn_here (room_from before at) (Some stop) c input from before at before at
  unfolding serve_turn serve_turn_of
  nothing_served f e = turn_nothing wire turn_here (room_from before at) c input from fits before at (λ d. rw d) (λ d. rw d) f e

  module _ {found : Found} {r : Record} (f : FoundIs wire input from found) (e : found ≡ Ok r) {n : ℕ} (told : n ≡ answer_room c.public.info.bytes r.call) where
    abbrev found_record : WholeIs wire input from r
    found_record = subst (FoundIs wire input from) e f

    -- There is no room for the answer.
    pub full_served : room_from before at < n → TurnIs turn_here (room_from before at) (Some Full) c input from before at before at
    unfolding serve_turn serve_turn_of
    full_served h = turn_halted wire turn_here (room_from before at) c input from fits before at Full (rw (found_record.decodes, ← told, lt-ltb (room_from before at) n h))

    pub whole_served : n ≤ room_from before at → {after : Card} {to : List ℕ} {behind : ℕ}
        → let want = served r.port c r.call (take (r.next - r.payload) (drop r.payload input)) in
        WroteIs want.after (answer_bytes r.call (reply want)) (answer_room c.public.info.bytes r.call) after before at to behind
        → TurnIs turn_here (room_from before at) None after input r.next before at to behind
    unfolding serve_turn serve_turn_of
    whole_served h a =
        turn_whole wire turn_here (room_from before at) c input from fits before at (rw (found_record.decodes, ← told, le-ltb (room_from before at) n h)) found_record.next_within (omega arith) a

-- ---- by what a turn does

module _ (wire : Port) (room : ℕ) (c : Card) (xs : List ℕ) where
  -- A turn serves the first record, or changes nothing.
  module _ (P : Turn → Type 0) (halts : (stop : Stop) → P (halted stop c xs))
      (serves : (port : Port) (call : Call) (payload rest : List ℕ) → decode wire xs ≡ sent port call payload rest → P (answering port c call payload rest)) where
    by_room : (full : Bool) (port : Port) (call : Call) (payload rest : List ℕ) → decode wire xs ≡ sent port call payload rest → P (cond full (halted Full c xs) (answering port c call payload rest))
    by_room true port call payload rest e = halts Full
    by_room false port call payload rest e = serves port call payload rest e

    by_next : (n : Next) → decode wire xs ≡ n → P (serve_turn_of wire room c xs n)
    unfolding serve_turn_of
    by_next ended e = halts Ended
    by_next refused e = halts (fault wire xs)
    by_next (sent port call payload rest) e = by_room (ltb room (answer_room c.public.info.bytes call)) port call payload rest e

    serve_turn_cases : P (serve_turn wire room c xs)
    unfolding serve_turn
    serve_turn_cases = by_next (decode wire xs) refl

  -- A turn that serves a record takes a byte of the input at least.
  pub serve_turn_left : (serve_turn wire room c xs).stop ≡ None → length (serve_turn wire room c xs).left < length xs
  serve_turn_left = serve_turn_cases (λ (t : Turn). t.stop ≡ None → length t.left < length xs) (λ stop w. absurd (none-some stop (sym w))) (λ port call payload rest e w. decode_shorter wire xs e)

  -- A turn that stops the batch writes nothing.
  pub serve_turn_halts : {why : Stop} → (serve_turn wire room c xs).stop ≡ Some why → (serve_turn wire room c xs).output ≡ []
  serve_turn_halts {why} = serve_turn_cases (λ (t : Turn). t.stop ≡ Some why → t.output ≡ []) (λ stop w. refl) (λ port call payload rest e w. absurd (none-some why w))

  -- Every turn leaves the verdict as it was.
  pub serve_turn_verdict : verdict (serve_turn wire room c xs).after ≡ verdict c
  unfolding served
  serve_turn_verdict = serve_turn_cases (λ (t : Turn). verdict t.after ≡ verdict c) (λ stop. refl) (λ port call payload rest e. verdict_kept port c _)
