-- The loop of a batch: what it has reached, and what one turn more makes of it.
use Rattle.std.specs.Prelude.{Option, Some, None}
use Prim.Native.Nat.{ℕ, suc, ◌+◌, ◌-◌, ◌≤◌, ◌<◌}
use mathlib.Core.Path.{◌≡◌, refl, sym, ap, ap₂, ◌∙◌, subst}
use mathlib.Core.List.{List, [], ◌++◌, append_assoc}
use native.Mathlib.Omega.{arith}
use native.Mathlib.Nat.{sub-zero, zero-add}
use lib.ListN.{length, drop, length-append, length-drop}
use Rattle.card.specs.Card.{Card}
use Rattle.card.specs.Soundness.{verdict}
use Rattle.card.specs.Lent.{SameTables, lent_card}
use Rattle.card.specs.declared.LentCard.{LentCard}
use Rattle.card.specs.declared.Port.{Port}
use Rattle.lines.specs.Written.{Written}
use Rattle.lines.specs.WrittenLaws.{written_none, written_join, written_length}
use Rattle.input.specs.Play.{Turn, Play, output_before, stopped, go_on}
use Rattle.input.specs.Played.{TurnIs, PlayedIs}
use Rattle.input.specs.declared.Stop.{Stop}
use Rattle.serving.specs.Serve.{serve_turn, room_from, serve_within, serve}
use Rattle.batch.proofs.TurnServed.{serve_turn_left, serve_turn_halts, serve_turn_verdict}

-- Some answers are written, and the batch goes on from here, by at most so many turns after the next.
pub record Serving (wire : Port) (c₀ : Card) (xs out₀ : List ℕ) (count : ℕ) (c : Card) (from at : ℕ) (out : List ℕ) : Type 0 where
  pub done : List ℕ
  pub most : ℕ
  pub within : from ≤ length xs
  pub enough : length xs - from ≤ most
  pub counted : count ≤ from
  pub judged : verdict c ≡ verdict c₀
  pub fits : length done ≤ length out₀
  pub written : Written out₀ 0 done out at
  pub total : serve wire c₀ xs (length out₀) ≡ output_before done (serve_within wire (suc most) count c (drop from xs) (length out₀ - length done))

module _ (wire : Port) (c₀ : Card) (xs out₀ : List ℕ) where
  pub serving_none : Serving wire c₀ xs out₀ 0 c₀ 0 0 out₀
  unfolding serve
  serving_none = record {
    done = [];
    most = length xs;
    within = omega arith;
    enough = omega arith;
    counted = omega arith;
    judged = refl;
    fits = omega arith;
    written = written_none out₀ 0;
    total = ap (λ (room : ℕ). serve_within wire (suc (length xs)) 0 c₀ xs room) (sym (sub-zero (length out₀)));
  }

  module _ {count : ℕ} {c : Card} {from at : ℕ} {out : List ℕ} (p : Serving wire c₀ xs out₀ count c from at out) where
    kept : length out ≡ length out₀
    kept = written_length p.written (omega (arith, p.fits))

    reached : at ≡ length p.done
    reached = p.written.ends ∙ zero-add (length p.done)

    pub serving_at : at ≤ length out
    serving_at = omega (arith, reached, kept, p.fits)

    -- The turn that is tried next.
    abbrev next_turn : Turn
    next_turn = serve_turn wire (room_from out at) c (drop from xs)

    next_turn_law : serve wire c₀ xs (length out₀) ≡ output_before p.done (go_on next_turn.stop next_turn count (serve_within wire p.most) (room_from out at))
    unfolding serve_within
    next_turn_law =
        let same : length out₀ - length p.done ≡ room_from out at = omega (arith, reached, kept) in
        p.total ∙ ap (λ (n : ℕ). output_before p.done (serve_within wire (suc p.most) count c (drop from xs) n)) same

    stops_here : {stop : Stop} → next_turn.stop ≡ Some stop → go_on next_turn.stop next_turn count (serve_within wire p.most) (room_from out at) ≡ stopped stop count next_turn.after next_turn.left
    unfolding go_on
    stops_here e = ap (λ (s : Option Stop). go_on s next_turn count (serve_within wire p.most) (room_from out at)) e

    module _ {told : Option Stop} {after : Card} {next next-at : ℕ} {to : List ℕ} (t : TurnIs next_turn (room_from out at) told after xs next out at to next-at) where
      -- The turn stops the batch.
      pub serving_stopped : {stop : Stop} → told ≡ Some stop → PlayedIs (serve wire c₀ xs (length out₀)) stop count after xs next out₀ to next-at
      serving_stopped {stop} n =
          let halts : next_turn.stop ≡ Some stop = sym t.stops ∙ n in
          let e = next_turn_law ∙ ap (output_before p.done) (stops_here halts) in
          let nothing : Written out at [] to next-at = subst (λ (bs : List ℕ). Written out at bs to next-at) (serve_turn_halts wire (room_from out at) c (drop from xs) halts) t.writes in
          rw e
          (record {
            stops = refl;
            counts = refl;
            leaves = t.leaves;
            rests = t.rests;
            within = t.within;
            writes = written_join p.written nothing (omega (arith, p.fits));
          })

      module _ (w : told ≡ None) where
        served_next : next_turn.stop ≡ None
        served_next = sym t.stops ∙ w

        -- Each record takes a byte at least.
        pub serving_further : from < next
        serving_further =
            let shorter = serve_turn_left wire (room_from out at) c (drop from xs) served_next in
            omega (arith, shorter, ap length t.rests, length-drop next xs, length-drop from xs, t.within, p.within)

        abbrev turns_left : ℕ
        turns_left = p.most - 1

        most_is : p.most ≡ suc turns_left
        most_is = omega (arith, p.enough, serving_further, t.within)

        -- The rest of the batch, as the rule and as the loop have it.
        abbrev rest_of_batch : Play
        rest_of_batch = serve_within wire (suc turns_left) (count + 1) next_turn.after next_turn.left (room_from out at - length next_turn.output)

        rest_same : rest_of_batch ≡ serve_within wire (suc turns_left) (count + 1) after (drop next xs) (length out₀ - length (p.done ++ next_turn.output))
        rest_same =
            let room_left : room_from out at - length next_turn.output ≡ length out₀ - length (p.done ++ next_turn.output) = omega (arith, reached, kept, length-append p.done next_turn.output) in
            ap₂ (λ (d : Card) (ys : List ℕ). serve_within wire (suc turns_left) (count + 1) d ys (room_from out at - length next_turn.output)) (sym t.leaves) (sym t.rests)
            ∙ ap (serve_within wire (suc turns_left) (count + 1) after (drop next xs)) room_left

        goes_on : go_on next_turn.stop next_turn count (serve_within wire p.most) (room_from out at) ≡ output_before next_turn.output rest_of_batch
        unfolding go_on
        goes_on = ap₂ (λ (s : Option Stop) (m : ℕ). go_on s next_turn count (serve_within wire m) (room_from out at)) served_next most_is

        -- The turn serves its record: the answer stands behind the others.
        pub serving_more : Serving wire c₀ xs out₀ (count + 1) after next next-at to
        serving_more =
            let long : length (p.done ++ next_turn.output) ≡ length p.done + length next_turn.output = length-append p.done next_turn.output in
            record {
              done = p.done ++ next_turn.output;
              most = turns_left;
              within = t.within;
              enough = omega (arith, p.enough, serving_further);
              counted = omega (arith, p.counted, serving_further);
              judged = ap verdict t.leaves ∙ serve_turn_verdict wire (room_from out at) c (drop from xs) ∙ p.judged;
              fits = omega (arith, p.fits, t.short, reached, kept);
              written = written_join p.written t.writes (omega (arith, p.fits, t.short, reached, kept));
              total =
                  next_turn_law
                  ∙ ap (output_before p.done) goes_on
                  ∙ ap (λ (bs : List ℕ). record { stop = rest_of_batch.stop; output = bs; records = rest_of_batch.records; after = rest_of_batch.after; left = rest_of_batch.left }) (sym (append_assoc p.done next_turn.output rest_of_batch.output))
                  ∙ ap (output_before (p.done ++ next_turn.output)) rest_same;
            }

-- ---- the loop's invariant

-- The tables are those that were lent, the answers keep their length, and the batch has come so far.
pub record ServeLoop (wire : Port) (before now : LentCard) (input answers₀ answers : List ℕ) (count from at : ℕ) : Type 0 where
  pub same : SameTables before now
  pub same_answers : length answers ≡ length answers₀
  pub serving : Serving wire (lent_card before) input answers₀ count (lent_card now) from at answers
