-- A loop of turns performs the calls that its bytes hold.
use Prim.Native.Nat.{ℕ, zero, suc, ◌+◌, ◌-◌, ◌<◌}
use mathlib.Core.Path.{◌≡◌, refl, sym, ap, ◌∙◌, subst}
use mathlib.Core.List.{List, [], ◌∷◌, ◌++◌, map}
use native.Mathlib.Omega.{arith}
use native.Mathlib.Nat.{add-zero, sub-zero}
use lib.ListN.{length, length-append}
use Rattle.card.specs.Card.{Card}
use Rattle.card.specs.Session.{Sent, reply, performed, replies, after_all, Each}
use Rattle.laws.specs.SessionLaws.{perform_bytes}
use Rattle.card.specs.Statements.Safe.{SafeCall}
use Rattle.guarantees.proofs.Safe.{safe_call}
use Rattle.card.specs.declared.Call.{Call}
use Rattle.decoding.proofs.DecodeLaws.{decode_shorter}
use Rattle.input.specs.Play.{Turn, fault, Play, output_before, stopped, go_on}
use Rattle.input.specs.Arrivals.{Arrived, Arrivals, held_before, arrivals, sent_with, written_of}
use Rattle.input.proofs.ArrivalsLaws.{arrivals_ended, arrivals_refused, arrivals_sent}
use Rattle.input.specs.Performed.{Manner, Ends, out_of_room, all_performed, PerformedBy, TurnIn, no_room, at_end, at_fault, performs}
use Rattle.input.specs.declared.Stop.{Stop}
use Rattle.input.specs.declared.Stop.TheVariants.{Ended, Full}

module _ (m : Manner) where
  -- ---- no record more

  module _ (before : ℕ) (c : Card) (xs : List ℕ) (room : ℕ) where
    none_made : (behind : List Arrived) (stop : Stop) → (arrivals m.wire xs).records ≡ behind → Ends m c.public.info.bytes room xs behind (stopped stop before c xs)
        → PerformedBy m before c xs room (stopped stop before c xs)
    unfolding after_all written_of
    none_made behind stop e ends = record {
      made = [];
      behind = behind;
      held = e;
      counts = sym (add-zero before);
      leaves = refl;
      writes = refl;
      ends = ends;
      safe = tt;
    }

    none_left : (stop : Stop) → arrivals m.wire xs ≡ record { records = []; stop = stop; left = xs } → PerformedBy m before c xs room (stopped stop before c xs)
    none_left stop e =
        none_made [] stop (ap (λ (a : Arrivals). a.records) e)
        (all_performed refl (sym (ap (λ (a : Arrivals). a.stop) e)) (sym (ap (λ (a : Arrivals). a.left) e)))

    out_of_room_law : m.NoRoom c.public.info.bytes room xs → PerformedBy m before c xs room (stopped Full before c xs)
    out_of_room_law h = none_made (arrivals m.wire xs).records Full refl (out_of_room refl (rw sub-zero h))

    -- ---- one record more

    module _ (a : Arrived) (rest : List ℕ) (is_held_lem : arrivals m.wire xs ≡ held_before a (arrivals m.wire rest)) where
      abbrev lent_to : Call → ℕ
      lent_to = m.size c.public.info.bytes

      abbrev after : Card
      after = (performed c (sent_with lent_to a)).after

      abbrev output : List ℕ
      output = m.write (before + 1) a (reply (performed c (sent_with lent_to a)))

      same_size : lent_to ≡ m.size after.public.info.bytes
      same_size = ap m.size (sym (perform_bytes a.port c (sent_with lent_to a).request))

      one_more : (p : Play) → PerformedBy m (before + 1) after rest (room - length output) p → PerformedBy m before c xs room (output_before output p)
      unfolding replies after_all written_of
      one_more p q =
          let same : map (sent_with (m.size after.public.info.bytes)) q.made ≡ map (sent_with lent_to) q.made = ap (λ (f : Call → ℕ). map (sent_with f) q.made) (sym same_size) in
          record {
            made = a ∷ q.made;
            behind = q.behind;
            held = ap (λ (h : Arrivals). h.records) is_held_lem ∙ ap (λ (later : List Arrived). a ∷ later) q.held;
            counts = omega (arith, q.counts);
            leaves = q.leaves ∙ ap (after_all after) same;
            writes = ap (λ (ys : List ℕ). output ++ ys) (q.writes ∙ ap (λ (ss : List Sent). written_of m.write (before + 1 + 1) q.made (replies after ss)) same);
            ends = ends_later p q.behind q.ends;
            safe = (safe_call c (sent_with lent_to a), subst (Each SafeCall after) same q.safe);
          }
        where
          ends_later : (p : Play) (behind : List Arrived) → Ends m after.public.info.bytes (room - length output) rest behind p → Ends m c.public.info.bytes room xs behind (output_before output p)
          ends_later p behind (out_of_room e h) =
              let less : room - length output - length p.output ≡ room - length (output ++ p.output) = omega (arith, length-append output p.output) in
              out_of_room e
              (subst (λ (n : ℕ). m.NoRoom n (room - length (output ++ p.output)) p.left) (perform_bytes a.port c (sent_with lent_to a).request)
              (subst (λ (n : ℕ). m.NoRoom after.public.info.bytes n p.left) less h))
          ends_later p behind (all_performed n s l) = all_performed n (s ∙ ap (λ (h : Arrivals). h.stop) (sym is_held_lem)) (l ∙ ap (λ (h : Arrivals). h.left) (sym is_held_lem))

  -- ---- the loop

  module _ (T : ℕ → Card → List ℕ → ℕ → Turn) (within : ℕ → ℕ → Card → List ℕ → ℕ → Play)
      (turns : (before : ℕ) (c : Card) (xs : List ℕ) (room : ℕ) → TurnIn m before c xs room (T before c xs room))
      (unrolls : (k before : ℕ) (c : Card) (xs : List ℕ) (room : ℕ) → let t = T before c xs room in within (suc k) before c xs room ≡ go_on t.stop t before (within k) room) where
    by_turn : (k before : ℕ) (c : Card) (xs : List ℕ) (room : ℕ) (t : Turn) → TurnIn m before c xs room t
        → ((a : Card) (ys : List ℕ) (r : ℕ) → length ys < length xs → PerformedBy m (before + 1) a ys r (within k (before + 1) a ys r))
        → PerformedBy m before c xs room (go_on t.stop t before (within k) room)
    unfolding go_on
    by_turn k before c xs room _ (no_room h) more = out_of_room_law before c xs room h
    by_turn k before c xs room _ (at_end e) more = none_left before c xs room Ended (arrivals_ended m.wire xs e)
    by_turn k before c xs room _ (at_fault e) more = none_left before c xs room (fault m.wire xs) (arrivals_refused m.wire xs e)
    by_turn k before c xs room _ (performs a rest is-kind e) more =
        one_more before c xs room a rest
        (arrivals_sent m.wire xs e ∙ ap (λ (kind : ℕ). held_before (record { kind = kind; port = a.port; call = a.call; payload = a.payload }) (arrivals m.wire rest)) (sym is-kind))
        _ (more _ rest _ (decode_shorter m.wire xs e))

    pub loop_performs : (k before : ℕ) (c : Card) (xs : List ℕ) (room : ℕ) → length xs < k → PerformedBy m before c xs room (within k before c xs room)
    loop_performs zero before c xs room h = absurd (omega arith)
    loop_performs (suc k) before c xs room h =
        subst (PerformedBy m before c xs room) (sym (unrolls k before c xs room))
        (by_turn k before c xs room (T before c xs room) (turns before c xs room) (λ a ys r l. loop_performs k (before + 1) a ys r (omega arith)))
