-- Laws of a play of the buffer's filled part, and of one piece of an input.
use Prim.Native.Nat.{ℕ, zero, suc, ◌+◌, ◌-◌, ◌≤◌, ◌<◌}
use mathlib.Core.Path.{◌≡◌, sym, ap, ap₂, ◌∙◌, subst}
use mathlib.Core.Bool.{Bool, true, false, ◌&&◌, ◌||◌, false≢true}
use mathlib.Core.List.{List, [], ◌∷◌, ◌++◌}
use native.Mathlib.Omega.{arith}
use lib.Dec.{ltb}
use lib.ListN.{length, take, drop}
use lib.Seq.{take_at, take-add, length-take-le}
use Rattle.card.specs.Card.{Card}
use Rattle.card.specs.Contents.{overwrite}
use Rattle.lines.specs.Lines.{last_line}
use Rattle.lines.specs.Written.{Written}
use Rattle.input.specs.Play.{Play}
use Rattle.input.specs.Played.{PlayedIs}
use Rattle.input.specs.declared.Stop.{Stop}
use Rattle.cardplay.specs.InputBuffer.{record_room, GrownIs}
use Rattle.cardplay.proofs.InputBufferLaws.{written_within}
use Rattle.cardplay.specs.Progress.{is_full, needs_input, PieceIs, ReadIs, ProgressIs}

-- ---- a play of the filled part

drop_take : (n m : ℕ) (xs : List ℕ) → drop n (take m xs) ≡ take (m - n) (drop n xs)
drop_take zero m xs = ap (λ (k : ℕ). take k xs) (sym (native.Mathlib.Nat.sub-zero m))
drop_take (suc n) zero xs = ap (λ (k : ℕ). take k (drop (suc n) xs)) (sym (native.Mathlib.Nat.zero-sub (suc n)))
drop_take (suc n) (suc m) [] = sym (lib.Seq.take-nil (suc m - suc n))
drop_take (suc n) (suc m) (x ∷ xs) = drop_take n m xs ∙ ap (λ (k : ℕ). take k (drop n xs)) (sym (native.Mathlib.Nat.suc-sub-suc m n))

module _ (buffer : List ℕ) (filled : ℕ) {want : Play} {stop : Stop} {records : ℕ} {after : Card} {read : ℕ} {before to : List ℕ} {written : ℕ}
    (fits : filled ≤ length buffer) (p : PlayedIs want stop records after (take filled buffer) read before to written) where
  pub read_within : read ≤ filled
  read_within = omega (arith, p.within, length-take-le filled buffer fits)

  pub piece_is : {kept : List ℕ} {left : ℕ} → Written buffer 0 (take (filled - read) (drop read buffer)) kept left → PieceIs want stop records after kept left before to written
  unfolding overwrite
  piece_is {kept} {left} w =
      let rest : List ℕ = take (filled - read) (drop read buffer) in
      let long : length rest ≡ left = sym (written_within w).0 in
      record {
        stops = p.stops;
        counts = p.counts;
        leaves = p.leaves;
        rests = ap (take left) w.holds ∙ take_at rest (drop (0 + length rest) buffer) left long ∙ sym (drop_take read filled buffer) ∙ p.rests;
        within = (written_within w).1;
        writes = p.writes;
      }

-- ---- a piece played, written and read behind

module _ {want : Play} {stop : Stop} {count : ℕ} {after : Card} {buffer : List ℕ} {left : ℕ} {before to : List ℕ} {written : ℕ}
    (p : PieceIs want stop count after buffer left before to written) where
  -- There is room to read on: what is left is less than a record.
  pub room_left : (needs_input want.stop ≡ true → length want.left < record_room) → (wrote : Bool) {asked : Bool} {long : ℕ} → asked ≡ needs_input stop → record_room ≤ long → length buffer ≡ long → (wrote && asked) ≡ true → left < length buffer
  room_left few true a h k e =
      omega (arith, few (ap needs_input (sym p.stops) ∙ sym a ∙ e), ap length p.rests, length-take-le left buffer p.within)
  room_left few false a h k e = absurd (false≢true e)

  pub progress_is : (wrote : Bool) {asked full : Bool} {now : List ℕ} {end : ℕ} → asked ≡ needs_input stop → full ≡ is_full stop → ReadIs (wrote && asked) buffer left now end
      → ProgressIs want stop count after now end before to wrote (wrote && (full || ltb left end))
  progress_is wrote {asked} {full} {now} {end} a b r =
      let f : GrownIs buffer left now end = r.fills in
      let more : List ℕ = take (end - left) (drop left now) in
      let whole : left + (end - left) ≡ end = omega (arith, f.further) in
      let long : left ≡ length want.left = omega (arith, ap length p.rests, length-take-le left buffer p.within) in
      let ends : length want.output ≡ written = sym (written_within p.writes).0 in
      record {
        more = more;
        stops = p.stops;
        counts = p.counts;
        leaves = p.leaves;
        rests =
            ap (λ (n : ℕ). take n now) (sym whole)
            ∙ take-add left (end - left) now
            ∙ ap (λ (ys : List ℕ). ys ++ more) (f.keeps ∙ p.rests);
        idle = λ e. let none : end - left ≡ 0 = omega (arith, (r.idle (ap (λ (t : Bool). wrote && t) a ∙ e)).1) in ap (λ (n : ℕ). take n (drop left now)) none;
        within = f.within;
        writes = subst (Written before 0 want.output to) (sym ends) p.writes;
        goes = ap₂ (λ (t : Bool) (n : ℕ). wrote && (t || ltb n end)) b long;
      }

-- ---- the last line

pub last_written : (records : ℕ) {number other : ℕ} {before after : List ℕ} {behind : ℕ} → number ≡ other → Written before 0 (last_line records number) after behind
    → Written before 0 (last_line records other) after behind
last_written records {before = before} {after} {behind} e w = subst (λ (n : ℕ). Written before 0 (last_line records n) after behind) e w
