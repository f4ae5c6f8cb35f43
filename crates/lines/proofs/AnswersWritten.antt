-- Laws of a line that is written piece by piece.
use Rattle.std.specs.Prelude.{Some, None, Ok, Err}
use Prim.Native.Nat.{ℕ, ◌+◌, ◌≤◌}
use mathlib.Core.Path.{◌≡◌, refl, sym, ap, subst}
use mathlib.Core.List.{List, [], ◌∷◌, ◌++◌, append_assoc, append-nil}
use native.Mathlib.Omega.{arith}
use lib.ListN.{length, length-append, length-take}
use Rattle.card.specs.Calls.{refusal_number}
use Rattle.card.specs.Session.{Reply, traits, shown_values, reported}
use Rattle.card.specs.declared.Refusal.{Refusal}
use Rattle.card.specs.declared.Refusal.TheVariants.{Misshapen, Unsound, NotAllocated, BadOperand, NotOpened, IsRoot, CannotPoint, NoPointer, HasPointers, TooFewBlocks, TooFewPlaces, TimeEnds, BadRecord, NoRun, HasWriteKey, PriceTooHigh}
use Rattle.card.specs.Answers.{Answer}
use Rattle.card.specs.Answers.{Refused, Done, Value}
use Rattle.card.specs.declared.Call.{Call}
use Rattle.card.specs.declared.Call.TheVariants.{Read, Write, Alloc, AllocContig, Create, Delete, DeleteTree, KeyRead, KeyWrite, Renew, Force, Free, Tick, Audit, Rent, Sweep}
use Rattle.lines.specs.declared.Filled.{Filled}
use Rattle.lines.specs.declared.Filled.TheVariants.{Neither, Bytes, Blocks}
use Rattle.lines.specs.Lines.{space, newline, decimal, spaced, line, line_room, last_line}
use Rattle.lines.specs.LinesLaws.{decimal_length, spaced_one, spaced_length}
use Rattle.lines.specs.Replied.{BuffersFit, filled_by, values_of, replied}
use Rattle.lines.specs.Written.{Written}
use Rattle.lines.specs.WrittenLaws.{written_join, written_length}

-- ---- room

-- Behind what was written there is room for what else there was room for.
pub room_behind : {before after : List ℕ} {at behind : ℕ} {ys : List ℕ} (most k : ℕ) → Written before at ys after behind → length ys ≤ most → at + most + k ≤ length before
    → behind + k ≤ length after
room_behind most k w short h = omega (arith, w.ends, written_length w (omega arith))

pub room_spaced : {before after : List ℕ} {at behind : ℕ} (n k : ℕ) → Written before at (space ∷ decimal n) after behind → at + 21 + k ≤ length before → behind + k ≤ length after
room_spaced n k w h = room_behind 21 k w (spaced_one n) h

-- Four pieces written one behind the other, of at most so many bytes each.
four_written : {before one two three after : List ℕ} {at next behind last end : ℕ} {ws xs ys zs : List ℕ} (k l m n : ℕ)
    → Written before at ws one next → Written one next xs two behind → Written two behind ys three last → Written three last zs after end
    → length ws ≤ k → length xs ≤ l → length ys ≤ m → length zs ≤ n → at + k + l + m + n ≤ length before
    → Written before at (ws ++ (xs ++ (ys ++ zs))) after end
four_written {before} {one} {two} {at = at} {next = next} {behind = behind} {ws = ws} {xs = xs} {ys = ys} {zs = zs} k l m n a b c d hw hx hy hz h =
    let room_1 : next + (l + m + n) ≤ length one = room_behind k (l + m + n) a hw (omega arith) in
    let room_2 : behind + (m + n) ≤ length two = room_behind l (m + n) b hx (omega arith) in
    let inner : length (ys ++ zs) ≤ m + n = omega (arith, length-append ys zs) in
    let outer : length (xs ++ (ys ++ zs)) ≤ l + m + n = omega (arith, length-append xs (ys ++ zs)) in
    written_join a (written_join b (written_join c d (omega arith)) (omega arith)) (omega arith)

-- No more than 64 numbers are reported.
values_few : (filled : Filled) {out places : List ℕ} → BuffersFit out places → length (values_of filled out places) ≤ 64
values_few Neither fit = omega arith
values_few Bytes {out} fit = omega (arith, length-take 8 out)
values_few (Blocks n) {places = places} fit = omega (arith, length-take n places, fit.numbers)

pub values_length : (filled : Filled) {out places : List ℕ} → BuffersFit out places → length (spaced (values_of filled out places)) ≤ 1344
values_length filled {out} {places} fit = omega (arith, spaced_length (values_of filled out places), values_few filled fit)

-- ---- what is reported

pub reported_refused : (call : Call) (r : Refusal) (out places : List ℕ) → reported call (replied (Refused r) out places) ≡ refusal_number r ∷ []
unfolding reported
reported_refused call Misshapen out places = refl
reported_refused call Unsound out places = refl
reported_refused call NotAllocated out places = refl
reported_refused call BadOperand out places = refl
reported_refused call NotOpened out places = refl
reported_refused call IsRoot out places = refl
reported_refused call CannotPoint out places = refl
reported_refused call NoPointer out places = refl
reported_refused call HasPointers out places = refl
reported_refused call TooFewBlocks out places = refl
reported_refused call TooFewPlaces out places = refl
reported_refused call TimeEnds out places = refl
reported_refused call BadRecord out places = refl
reported_refused call NoRun out places = refl
reported_refused call HasWriteKey out places = refl
reported_refused call PriceTooHigh out places = refl

pub values_filled : (call : Call) (r : Reply) → shown_values call r ≡ values_of (filled_by call) r.out r.places
unfolding traits
values_filled (Read o) r = refl
values_filled (Write o) r = refl
values_filled (Alloc o) r = refl
values_filled (AllocContig o) r = refl
values_filled (Create o) r = refl
values_filled (Delete o) r = refl
values_filled (DeleteTree o) r = refl
values_filled (KeyRead o) r = refl
values_filled (KeyWrite o) r = refl
values_filled (Renew o) r = refl
values_filled (Force o) r = refl
values_filled Free r = refl
values_filled (Tick o) r = refl
values_filled Audit r = refl
values_filled (Rent o) r = refl
values_filled (Sweep o) r = refl

pub reported_done : (call : Call) (out places : List ℕ) → reported call (replied Done out places) ≡ 0 ∷ values_of (filled_by call) out places
unfolding reported
reported_done call out places = ap (λ (xs : List ℕ). 0 ∷ xs) (values_filled call (replied Done out places))

pub reported_value : (call : Call) (v : ℕ) (out places : List ℕ) → reported call (replied (Value v) out places) ≡ 0 ∷ (v ∷ values_of (filled_by call) out places)
unfolding reported
reported_value call v out places = ap (λ (xs : List ℕ). 0 ∷ (v ∷ xs)) (values_filled call (replied (Value v) out places))

spaced_cons : (n : ℕ) (ns : List ℕ) → spaced (n ∷ ns) ≡ (space ∷ decimal n) ++ spaced ns
unfolding spaced
spaced_cons n ns = refl

spaced_single : (n : ℕ) → spaced (n ∷ []) ≡ space ∷ decimal n
unfolding spaced
spaced_single n = ap (λ (xs : List ℕ). space ∷ xs) (append-nil (decimal n))

-- ---- an answer

module _ (call : Call) (answer : Answer) (out places : List ℕ) where
  pub answered_refused : {before after : List ℕ} {at behind n : ℕ} (r : Refusal) → answer ≡ Refused r → n ≡ refusal_number r → Written before at (space ∷ decimal n) after behind
      → Written before at (spaced (reported call (replied answer out places))) after behind
  answered_refused r e q w = rw (e, reported_refused call r out places, ← q, spaced_single) w

  pub answered_done : {before middle after : List ℕ} {at next behind : ℕ} {filled : Filled} → BuffersFit out places → answer ≡ Done → filled ≡ filled_by call
      → at + 1386 ≤ length before → Written before at (space ∷ decimal 0) middle next → Written middle next (spaced (values_of filled out places)) after behind
      → Written before at (spaced (reported call (replied answer out places))) after behind
  answered_done {filled = filled} fit e q h a b =
      rw (e, reported_done call out places, ← q, spaced_cons) (written_join a b (omega (arith, spaced_one 0, values_length filled fit)))

  pub answered_value : {before middle further after : List ℕ} {at next last behind v : ℕ} {filled : Filled} → BuffersFit out places → answer ≡ Value v → filled ≡ filled_by call
      → at + 1386 ≤ length before → Written before at (space ∷ decimal 0) middle next → Written middle next (space ∷ decimal v) further last
      → Written further last (spaced (values_of filled out places)) after behind
      → Written before at (spaced (reported call (replied answer out places))) after behind
  answered_value {before} {at = at} {v = v} {filled = filled} fit e q h a b d =
      let fits : at + 21 + 1365 ≤ length before = omega arith in
      rw (e, reported_value call v out places, ← q, spaced_cons, spaced_cons)
      (written_join a (written_join b d (omega (arith, room_spaced 0 1365 a fits, spaced_one v, values_length filled fit)))
      (omega (arith, spaced_one 0, spaced_one v, values_length filled fit, length-append (space ∷ decimal v) (spaced (values_of filled out places)))))

-- ---- a line

answer_length : (call : Call) (r : Reply) → BuffersFit r.out r.places → (answer : Answer) → r.answer ≡ answer → length (spaced (reported call r)) ≤ 1386
answer_length call r fit (Err x) e =
    rw (ap (λ (a : Answer). length (spaced (reported call (replied a r.out r.places)))) e, reported_refused call x r.out r.places, spaced_single)
    (omega (arith, spaced_one (refusal_number x)))
answer_length call r fit (Ok None) e =
    rw (ap (λ (a : Answer). length (spaced (reported call (replied a r.out r.places)))) e, reported_done call r.out r.places, spaced_cons)
    (omega (arith, length-append (space ∷ decimal 0) (spaced (values_of (filled_by call) r.out r.places)), spaced_one 0, values_length (filled_by call) fit))
answer_length call r fit (Ok (Some v)) e =
    let values : List ℕ = values_of (filled_by call) r.out r.places in
    rw (ap (λ (a : Answer). length (spaced (reported call (replied a r.out r.places)))) e, reported_value call v r.out r.places, spaced_cons, spaced_cons)
    (omega
    (arith, length-append (space ∷ decimal 0) ((space ∷ decimal v) ++ spaced values), length-append (space ∷ decimal v) (spaced values), spaced_one 0, spaced_one v, values_length (filled_by call) fit))

module _ (ordinal kind : ℕ) (call : Call) (answer : Answer) (out places : List ℕ) (fit : BuffersFit out places) where
  abbrev answer_text : List ℕ
  answer_text = spaced (reported call (replied answer out places))

  answer_short : length answer_text ≤ 1386
  answer_short = answer_length call (replied answer out places) fit answer refl

  -- Room for the newline.
  pub room_last : {before after : List ℕ} {at behind : ℕ} → Written before at answer_text after behind → at + 1386 + 1 ≤ length before → behind + 1 ≤ length after
  room_last w h = room_behind 1386 1 w answer_short h

  -- No line is longer than the room that is kept for it.
  pub line_short : length (line ordinal kind call (replied answer out places)) ≤ line_room
  unfolding line
  line_short =
      rw spaced_cons
      (omega
      (arith, length-append (decimal ordinal) (((space ∷ decimal kind) ++ answer_text) ++ (newline ∷ [])), length-append ((space ∷ decimal kind) ++ answer_text) (newline ∷ []), length-append (space ∷ decimal kind) answer_text, decimal_length ordinal, spaced_one kind, answer_short))

  pub line_written : {before one two three after : List ℕ} {at next behind last end : ℕ} → at + 2048 ≤ length before → Written before at (decimal ordinal) one next
      → Written one next (space ∷ decimal kind) two behind → Written two behind answer_text three last → Written three last (newline ∷ []) after end
      → Written before at (line ordinal kind call (replied answer out places)) after end
  unfolding line
  line_written {before} {after = after} {at = at} {end = end} h a b c d =
      rw spaced_cons
      (subst (λ (bytes : List ℕ). Written before at (decimal ordinal ++ bytes) after end) (sym (append_assoc (space ∷ decimal kind) answer_text (newline ∷ [])))
      (four_written 20 21 1386 1 a b c d (decimal_length ordinal) (spaced_one kind) answer_short (omega arith) (omega arith)))

-- ---- the last line

pub last_line_written : (records number : ℕ) {before one two three after : List ℕ} {at next behind last end : ℕ} → at + 2048 ≤ length before
    → Written before at (101 ∷ 110 ∷ 100 ∷ []) one next → Written one next (space ∷ decimal records) two behind → Written two behind (space ∷ decimal number) three last
    → Written three last (newline ∷ []) after end → Written before at (last_line records number) after end
unfolding last_line
last_line_written records number {before} {after = after} {at = at} {end = end} h a b c d =
    rw (spaced_cons, spaced_single)
    (subst (λ (bytes : List ℕ). Written before at ((101 ∷ 110 ∷ 100 ∷ []) ++ bytes) after end) (sym (append_assoc (space ∷ decimal records) (space ∷ decimal number) (newline ∷ [])))
    (four_written 3 21 21 1 a b c d (omega arith) (spaced_one records) (spaced_one number) (omega arith) (omega arith)))
