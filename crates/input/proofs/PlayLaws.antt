-- Laws of playing an input: record after record, whatever bounds their number.
use Prim.Native.Nat.{ℕ, zero, suc, ◌+◌, ◌-◌, ◌≤◌, ◌<◌}
use Rattle.std.specs.Prelude.{◌≡◌, refl, Bool, true, cond, ltb, Option, Some, None}
use Rattle.std.proofs.Math.Path.{ap, ap₂}
use Rattle.std.proofs.Common.{sym, ◌∙◌, arith, lt-ltb, le-ltb}
use Rattle.std.proofs.lemmas.Option.{none-some}
use Rattle.std.proofs.Math.Bool.{false}
use mathlib.Core.List.{List}
use Rattle.std.proofs.Math.ListN.{length}
use Rattle.card.specs.Card.{Card}
use Rattle.decoding.specs.Decode.{Next, ended, refused, sent, decode}
use Rattle.decoding.proofs.DecodeLaws.{decode_shorter}
use Rattle.lines.specs.Lines.{line_room}
use Rattle.input.specs.Play.{player_port, fault, Turn, halted, turn_of, turn, Play, output_before, stopped, go_on, play_within, play}
use Rattle.input.specs.declared.Stop.{Stop}
use Rattle.input.specs.declared.Stop.TheVariants.{Ended, Full}

-- ---- a turn that does not stop the play leaves less of the input

next_left : (ordinal : ℕ) (c : Card) (xs : List ℕ) (n : Next) → decode player_port xs ≡ n → (turn_of ordinal c xs n).stop ≡ None → length (turn_of ordinal c xs n).left < length xs
unfolding turn_of
next_left ordinal c xs ended e w = absurd (none-some Ended (sym w))
next_left ordinal c xs refused e w = absurd (none-some (fault player_port xs) (sym w))
next_left ordinal c xs (sent port call payload rest) e w = decode_shorter player_port xs e

pub turn_left : (ordinal : ℕ) (c : Card) (xs : List ℕ) → (turn ordinal c xs).stop ≡ None → length (turn ordinal c xs).left < length xs
unfolding turn
turn_left ordinal c xs w = next_left ordinal c xs (decode player_port xs) refl w

-- ---- however many turns are allowed

-- The turn that is tried where there is room for a line.
abbrev pub tried : Bool → ℕ → Card → List ℕ → Turn
tried full records c xs = cond full (halted Full c xs) (turn (records + 1) c xs)

tried_left : (full : Bool) (records : ℕ) (c : Card) (xs : List ℕ) → (tried full records c xs).stop ≡ None → length (tried full records c xs).left < length xs
tried_left true records c xs w = absurd (none-some Full (sym w))
tried_left false records c xs w = turn_left (records + 1) c xs w

-- Where the rest of the play is the same, so is the play.
go_on_same : (stop : Option Stop) (t : Turn) → t.stop ≡ stop → (records room : ℕ) (f g : ℕ → Card → List ℕ → ℕ → Play)
    → (t.stop ≡ None → f (records + 1) t.after t.left (room - length t.output) ≡ g (records + 1) t.after t.left (room - length t.output))
    → go_on stop t records f room ≡ go_on stop t records g room
unfolding go_on
go_on_same None t e records room f g h =
    ap (output_before t.output) (h e)
go_on_same (Some stop) t e records room f g h = refl

within_same : (k m : ℕ) (records : ℕ) (c : Card) (xs : List ℕ) (room : ℕ) → length xs ≤ k → length xs ≤ m → play_within (suc k) records c xs room ≡ play_within (suc m) records c xs room
unfolding play_within
within_same zero m records c xs room hk hm =
    let t = tried (ltb room line_room) records c xs in
    go_on_same t.stop t refl records room (play_within zero) (play_within m) (λ w. absurd (omega (arith, tried_left (ltb room line_room) records c xs w)))
within_same (suc k) zero records c xs room hk hm =
    let t = tried (ltb room line_room) records c xs in
    go_on_same t.stop t refl records room (play_within (suc k)) (play_within zero) (λ w. absurd (omega (arith, tried_left (ltb room line_room) records c xs w)))
within_same (suc k) (suc m) records c xs room hk hm =
    let t = tried (ltb room line_room) records c xs in
    go_on_same t.stop t refl records room (play_within (suc k)) (play_within (suc m))
    (λ w.
    within_same k m (records + 1) t.after t.left (room - length t.output) (omega (arith, tried_left (ltb room line_room) records c xs w))
    (omega (arith, tried_left (ltb room line_room) records c xs w)))

-- ---- a play, turn by turn

play_tried : (full : Bool) (records : ℕ) (c : Card) (xs : List ℕ) (room : ℕ) → ltb room line_room ≡ full
    → play records c xs room ≡ go_on (tried full records c xs).stop (tried full records c xs) records (play_within (length xs)) room
unfolding play play_within
play_tried full records c xs room e = rw e

pub play_full : (records : ℕ) (c : Card) (xs : List ℕ) (room : ℕ) → room < line_room → play records c xs room ≡ stopped Full records c xs
unfolding go_on
play_full records c xs room h = play_tried true records c xs room (lt-ltb room line_room h)

module _ (records : ℕ) (c : Card) (xs : List ℕ) (room : ℕ) (h : line_room ≤ room) where
  abbrev first_turn : Turn
  first_turn = turn (records + 1) c xs

  -- The play goes on behind the turn's line.
  pub play_went : first_turn.stop ≡ None → play records c xs room ≡ output_before first_turn.output (play (records + 1) first_turn.after first_turn.left (room - length first_turn.output))
  unfolding go_on play
  play_went w =
      play_tried false records c xs room (le-ltb room line_room h)
      ∙ ap (λ (s : Option Stop). go_on s first_turn records (play_within (length xs)) room) w
      ∙ ap (output_before first_turn.output) (shorter (length xs) (turn_left (records + 1) c xs w))
    where
      shorter : (k : ℕ) → length first_turn.left < k
          → play_within k (records + 1) first_turn.after first_turn.left (room - length first_turn.output) ≡ play_within (suc (length first_turn.left)) (records + 1) first_turn.after first_turn.left (room - length first_turn.output)
      shorter zero l = absurd (omega arith)
      shorter (suc k) l = within_same k (length first_turn.left) (records + 1) first_turn.after first_turn.left (room - length first_turn.output) (omega arith) (omega arith)

  -- The play stops with the turn.
  pub play_stopped : (stop : Stop) → first_turn.stop ≡ Some stop → first_turn.after ≡ c → first_turn.left ≡ xs → play records c xs room ≡ stopped stop records c xs
  unfolding go_on
  play_stopped stop e a l =
      play_tried false records c xs room (le-ltb room line_room h)
      ∙ ap (λ (s : Option Stop). go_on s first_turn records (play_within (length xs)) room) e
      ∙ ap₂ (λ (d : Card) (ys : List ℕ). stopped stop records d ys) a l
