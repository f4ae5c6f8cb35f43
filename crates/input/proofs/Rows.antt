-- What is said of bytes that were performed, as a test, `play_safe` as one, and a row for each mistake in the rules of an input that a must-fail edit
-- makes: true by the theorem, and false with the mistake.
use Prim.Native.Nat.{ℕ}
use mathlib.Core.Path.{◌≡◌, refl, ap}
use mathlib.Core.Bool.{Bool, true, ◌&&◌, ◌||◌}
use mathlib.Core.List.{List, [], ◌∷◌, ◌++◌, map}
use Rattle.std.specs.Prelude.{Option, Some, None}
use lib.Dec.{eqb}
use lib.ListN.{take}
use borrow.Author.Tests.{eq-eqb}
use Rattle.laws.specs.ListsLaws.{and_true, or_left, or_right}
use Rattle.card.specs.Contents.{zeros}
use Rattle.card.specs.Card.{Card}
use Rattle.card.specs.Session.{after_all}
use Rattle.card.specs.Trials.{rules, player_card}
use Rattle.card.proofs.Computed.Same.{same_list, same_lists, card_numbers}
use Rattle.card.proofs.Computed.Row.{Row, refutes, nothing}
use Rattle.card.proofs.Computed.TestLaws.{true_same_lists}
use Rattle.card.specs.declared.Port.{Port}
use Rattle.card.specs.declared.Call.{Call}
use Rattle.fields.specs.Bytes.{number}
use Rattle.kinds.specs.Kinds.{row, data_length, names, kind_number, length_of, operands_length, among, kind_of, kind_length, body_length}
use Rattle.decoding.specs.Decode.{decode_call, decode_known, decode_body, name_of, data_of, next_of, decode}
use Rattle.lines.specs.Lines.{decimal_within, decimal, spaced, line}
use Rattle.input.specs.Play.{player_port, played, is_short, fault, turn_of, turn, Play, go_on, play_within, play}
use Rattle.input.specs.Arrivals.{Arrived, arrivals_of, arrivals_within, arrivals, sent_with}
use Rattle.input.specs.Performed.{Manner, Ends, out_of_room, all_performed, PerformedBy}
use Rattle.input.proofs.PerformedLaws.{left_by_performed}
use Rattle.input.specs.declared.Stop.{Stop}
use Rattle.input.specs.declared.Stop.TheVariants.{Ended, Short, Refused, Full}
use Rattle.input.specs.Statements.{PlaySafe}

-- A number for each way to stop.
abbrev pub stop_order : Stop → ℕ
stop_order Ended = 1
stop_order Short = 2
stop_order Refused = 3
stop_order Full = 4

-- And one for a turn that did not stop the play.
abbrev pub turn_order : Option Stop → ℕ
turn_order None = 0
turn_order (Some stop) = stop_order stop

-- The card is left that the first calls of the bytes leave, as many as are counted, and what stops it is want of room or what stops the bytes.
abbrev pub performed_test : Port → (Call → ℕ) → Card → List ℕ → Play → Bool
performed_test wire size c xs p =
    same_lists (card_numbers p.after) (card_numbers (after_all c (take p.records (map (sent_with size) (arrivals wire xs).records))))
    && (eqb (stop_order p.stop) (stop_order Full) || eqb (stop_order p.stop) (stop_order (arrivals wire xs).stop))

stops : {m : Manner} {bytes room : ℕ} {xs : List ℕ} {behind : List Arrived} {p : Play} → Ends m bytes room xs behind p
    → eqb (stop_order p.stop) (stop_order Full) || eqb (stop_order p.stop) (stop_order (arrivals m.wire xs).stop) ≡ true
stops (out_of_room e h) = or_left _ _ (eq-eqb _ _ (ap stop_order e))
stops {p = p} (all_performed n e l) = or_right (eqb (stop_order p.stop) (stop_order Full)) _ (eq-eqb _ _ (ap stop_order e))

pub performed_tests : {m : Manner} {c : Card} {xs : List ℕ} {room : ℕ} {p : Play} → PerformedBy m 0 c xs room p
    → performed_test m.wire (m.size c.public.info.bytes) c xs p ≡ true
performed_tests q = and_true _ _ (true_same_lists (ap card_numbers (left_by_performed q))) (stops q.ends)

abbrev pub play_safe_test : Card → List ℕ → ℕ → Bool
play_safe_test c xs room = performed_test player_port (λ call. 512) c xs (play 0 c xs room)

pub play_safe_tests : PlaySafe → (c : Card) (xs : List ℕ) (room : ℕ) → play_safe_test c xs room ≡ true
play_safe_tests statement c xs room = performed_tests (statement 0 c xs room)

abbrev play_safe_row : Card → List ℕ → ℕ → Row PlaySafe
play_safe_row c xs room = record { test = play_safe_test c xs room; follows = λ statement. play_safe_tests statement c xs room }

-- ---- rows

-- To compute a row, its proof unfolds this one name.
unfoldable computing : Unit {0}
unfolding rules player_card after_all same_list same_lists number row data_length names kind_number length_of operands_length among kind_of kind_length body_length decode_call decode_known decode_body name_of data_of next_of decode decimal_within decimal spaced line played is_short fault turn_of turn go_on play_within play arrivals_of arrivals_within arrivals
computing = tt

-- TICK of so many seconds.
abbrev pub tick_bytes : ℕ → List ℕ
tick_bytes n = 10 ∷ (zeros 7 ++ (n ∷ []))

abbrev player_keeps_the_first_card : Row PlaySafe
player_keeps_the_first_card = play_safe_row player_card (tick_bytes 5 ++ tick_bytes 7) 8192

-- There is no kind 15.
abbrev refused_record_ends_the_bytes : Row PlaySafe
refused_record_ends_the_bytes = play_safe_row player_card (tick_bytes 5 ++ (15 ∷ [])) 8192

-- ---- the row of an edit

-- An edit puts here the statement that its mistake makes false, and the row that shows it.
pub refuted : ⊥ → ⊥
unfolding computing
refuted = refutes nothing refl

-- And the row here, as what it is by its theorem: with the mistake this is refused.
pub held : true ≡ true
unfolding computing
held = refl
