-- The loop of a player: what it has reached, and what one turn more makes of it.
use Rattle.std.specs.Prelude.{Option, Some, None}
use Prim.Native.Nat.{ℕ, ◌+◌, ◌-◌, ◌≤◌, ◌<◌}
use mathlib.Core.Path.{◌≡◌, refl, sym, ap, ap₂, ◌∙◌, subst}
use Rattle.std.proofs.lemmas.Option.{none-some}
use mathlib.Core.List.{List, [], ◌++◌, append_assoc}
use native.Mathlib.Omega.{arith}
use lib.ListN.{length, drop, length-append, length-drop}
use Rattle.card.specs.Card.{Card}
use Rattle.card.specs.Lent.{SameTables, lent_card}
use Rattle.card.specs.declared.LentCard.{LentCard}
use Rattle.decoding.specs.Decode.{Next, ended, refused, sent, decode}
use Rattle.lines.specs.Lines.{line_room}
use Rattle.lines.specs.Written.{Written}
use Rattle.lines.specs.WrittenLaws.{written_none, written_join, written_length}
use Rattle.input.specs.Play.{player_port, Turn, turn_of, turn, Play, output_before, play}
use Rattle.input.proofs.PlayLaws.{play_full, play_went, play_stopped, turn_left}
use Rattle.input.specs.Played.{TurnIs, PlayedIs}
use Rattle.input.specs.declared.Stop.{Stop}
use Rattle.input.specs.declared.Stop.TheVariants.{Full}

-- ---- a turn that stops the play changes nothing

next_halts : (ordinal : ℕ) (c : Card) (xs : List ℕ) (n : Next) {stop : Stop} → (turn_of ordinal c xs n).stop ≡ Some stop → ((turn_of ordinal c xs n).after ≡ c) × ((turn_of ordinal c xs n).left ≡ xs) × ((turn_of ordinal c xs n).output ≡ [])
unfolding turn_of
next_halts ordinal c xs ended e = (refl, refl, refl)
next_halts ordinal c xs refused e = (refl, refl, refl)
next_halts ordinal c xs (sent port call payload rest) {stop} e = absurd (none-some stop e)

turn_halts : (ordinal : ℕ) (c : Card) (xs : List ℕ) {stop : Stop} → (turn ordinal c xs).stop ≡ Some stop → ((turn ordinal c xs).after ≡ c) × ((turn ordinal c xs).left ≡ xs) × ((turn ordinal c xs).output ≡ [])
unfolding turn
turn_halts ordinal c xs e = next_halts ordinal c xs (decode player_port xs) e

-- ---- what the loop has reached

-- Some lines are written, and the play goes on from here.
pub record Playing (records₀ : ℕ) (c₀ : Card) (xs out₀ : List ℕ) (count : ℕ) (c : Card) (from at : ℕ) (out : List ℕ) : Type 0 where
  pub done : List ℕ
  pub within : from ≤ length xs
  pub counted : count ≤ records₀ + from
  pub fits : length done ≤ length out₀
  pub written : Written out₀ 0 done out at
  pub total : play records₀ c₀ xs (length out₀) ≡ output_before done (play count c (drop from xs) (length out₀ - length done))

module _ (records₀ : ℕ) (c₀ : Card) (xs out₀ : List ℕ) where
  pub playing_none : Playing records₀ c₀ xs out₀ records₀ c₀ 0 0 out₀
  playing_none = record {
    done = [];
    within = omega arith;
    counted = omega arith;
    fits = omega arith;
    written = written_none out₀ 0;
    total = ap (λ (room : ℕ). play records₀ c₀ xs room) (sym (native.Mathlib.Nat.sub-zero (length out₀)));
  }

  module _ {count : ℕ} {c : Card} {from at : ℕ} {out : List ℕ} (p : Playing records₀ c₀ xs out₀ count c from at out) where
    kept : length out ≡ length out₀
    kept = written_length p.written (omega (arith, p.fits))

    reached : at ≡ length p.done
    reached = p.written.ends ∙ native.Mathlib.Nat.zero-add (length p.done)

    pub playing_at : at ≤ length out
    playing_at = omega (arith, reached, kept, p.fits)

    -- No room for another line.
    pub playing_full : length out - at < line_room → PlayedIs (play records₀ c₀ xs (length out₀)) Full count c xs from out₀ out at
    playing_full h =
        let e = p.total ∙ ap (output_before p.done) (play_full count c (drop from xs) (length out₀ - length p.done) (omega (arith, reached, kept))) in
        rw e (record { stops = refl; counts = refl; leaves = refl; rests = refl; within = p.within; writes = rw (mathlib.Core.List.append-nil p.done) p.written })

    module _ {told : Option Stop} {after : Card} {next next-at : ℕ} {to : List ℕ} (room : line_room ≤ length out - at)
        (t : TurnIs (turn (count + 1) c (drop from xs)) line_room told after xs next out at to next-at) where
      here : line_room ≤ length out₀ - length p.done
      here = omega (arith, reached, kept, room)

      -- The turn stops the play.
      pub playing_stopped : {stop : Stop} → told ≡ Some stop → PlayedIs (play records₀ c₀ xs (length out₀)) stop count after xs next out₀ to next-at
      playing_stopped {stop} n =
          let halts = turn_halts (count + 1) c (drop from xs) (sym t.stops ∙ n) in
          let e = p.total ∙ ap (output_before p.done) (play_stopped count c (drop from xs) (length out₀ - length p.done) here stop (sym t.stops ∙ n) halts.0 halts.1) in
          rw e
          (record {
            stops = refl;
            counts = refl;
            leaves = t.leaves ∙ halts.0;
            rests = t.rests ∙ halts.1;
            within = t.within;
            writes = written_join p.written (subst (λ (ls : List ℕ). Written out at ls to next-at) halts.2 t.writes) (omega (arith, p.fits));
          })

      played_next : told ≡ None → (turn (count + 1) c (drop from xs)).stop ≡ None
      played_next w = sym t.stops ∙ w

      -- Each record takes a byte at least.
      pub playing_further : told ≡ None → from < next
      playing_further w =
          let shorter = turn_left (count + 1) c (drop from xs) (played_next w) in
          omega (arith, shorter, ap length t.rests, length-drop next xs, length-drop from xs, t.within, p.within)

      -- The turn plays its record: the line stands behind the others.
      pub playing_more : told ≡ None → Playing records₀ c₀ xs out₀ (count + 1) after next next-at to
      playing_more w =
          let one : Turn = turn (count + 1) c (drop from xs) in
          let rest : Play = play (count + 1) one.after one.left (length out₀ - length p.done - length one.output) in
          let long : length (p.done ++ one.output) ≡ length p.done + length one.output = length-append p.done one.output in
          let room_left : length out₀ - length p.done - length one.output ≡ length out₀ - length (p.done ++ one.output) = omega arith in
          let same : rest ≡ play (count + 1) after (drop next xs) (length out₀ - length (p.done ++ one.output)) =
          ap₂ (λ (d : Card) (ys : List ℕ). play (count + 1) d ys (length out₀ - length p.done - length one.output)) (sym t.leaves) (sym t.rests)
          ∙ ap (play (count + 1) after (drop next xs)) room_left in
          record {
            done = p.done ++ one.output;
            within = t.within;
            counted = omega (arith, p.counted, playing_further w);
            fits = omega (arith, here, p.fits, t.short);
            written = written_join p.written t.writes (omega (arith, here, p.fits, t.short));
            total =
                p.total
                ∙ ap (output_before p.done) (play_went count c (drop from xs) (length out₀ - length p.done) here (played_next w))
                ∙ ap (λ (ls : List ℕ). record { stop = rest.stop; output = ls; records = rest.records; after = rest.after; left = rest.left }) (sym (append_assoc p.done one.output rest.output))
                ∙ ap (output_before (p.done ++ one.output)) same;
          }

-- ---- the loop's invariant

-- The tables are those that were lent, the output keeps its length, and the play has come so far.
pub record PlayLoop (before now : LentCard) (records₀ : ℕ) (input output₀ output : List ℕ) (count from at : ℕ) : Type 0 where
  pub same : SameTables before now
  pub same_output : length output ≡ length output₀
  pub playing : Playing records₀ (lent_card before) input output₀ count (lent_card now) from at output
