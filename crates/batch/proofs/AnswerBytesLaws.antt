-- Laws of an answer written piece by piece.
use Prim.Native.Nat.{ℕ, zero, suc, ◌+◌, ◌-◌, ◌*◌, ◌/◌, ◌%◌, ◌≤◌, ◌<◌}
use mathlib.Core.Path.{◌≡◌, refl, sym, ap, ap₂, ◌∙◌, subst}
use mathlib.Core.List.{List, [], ◌∷◌, ◌++◌, append_assoc, append-nil}
use native.Mathlib.Omega.{arith}
use native.Mathlib.Numerals.{add-one}
use lib.ListN.{length, take, drop, get_or, length-append, take-append-drop, length-drop}
use lib.Seq.{take-suc, take_all, drop-drop, drop_at, length-take-le}
use lib.Dec.{leb}
use mathlib.Core.Bool.{true, false}
use mathlib.Core.Logic.{⊎_elim}
use borrow.Author.Tests.{le-leb, lt-leb, leb-true}
use Rattle.laws.specs.ListsLaws.{not_cases}
use Rattle.card.specs.Contents.{overwrite}
use Rattle.card.specs.Calls.{refusal_number}
use Rattle.card.specs.declared.Refusal.{Refusal}
use Rattle.card.specs.Answers.{Answer}
use Rattle.card.specs.Answers.{Refused, Done, Value}
use Rattle.card.specs.declared.TransferOperands.{TransferOperands}
use Rattle.card.specs.declared.Call.{Call}
use Rattle.card.specs.declared.Call.TheVariants.{Read}
use Rattle.fields.specs.Bytes.{bytes}
use Rattle.fields.specs.BytesLaws.{length_bytes}
use Rattle.lines.specs.Replied.{filled_by, replied}
use Rattle.lines.specs.Written.{Written}
use Rattle.lines.specs.WrittenLaws.{written_none, written_join, written_length}
use Rattle.lines.proofs.WrittenPart.{WrittenPart, part_more}
use Rattle.lines.specs.declared.Filled.{Filled}
use Rattle.lines.specs.declared.Filled.TheVariants.{Neither, Bytes, Blocks}
use Rattle.serving.specs.Serve.{pairs, filled_bytes, answer_bytes, lent_bytes, lent_size, answer_room}

-- ---- what is lent

module _ (size : ℕ) (call : Call) {filled : Filled} (e : filled ≡ filled_by call) where
  pub lent_neither : filled ≡ Neither → 0 ≡ lent_size size call
  unfolding lent_size
  lent_neither n = rw (← e, n)

  pub lent_blocks : {count : ℕ} → filled ≡ Blocks count → 0 ≡ lent_size size call
  unfolding lent_size
  lent_blocks b = rw (← e, b)

  pub lent_whole : filled ≡ Bytes → size ≤ 65536 → size ≡ lent_size size call
  unfolding lent_size
  lent_whole b h = rw (← e, b, le-leb size 65536 h)

  pub lent_none : filled ≡ Bytes → 65536 < size → 0 ≡ lent_size size call
  unfolding lent_size
  lent_none b h = rw (← e, b, lt-leb size 65536 h)

lent_filled : (size : ℕ) (filled : Filled) → lent_bytes size filled ≤ 65536
lent_filled size Neither = omega arith
lent_filled size Bytes = ⊎_elim (λ (e : leb size 65536 ≡ true). rw e (leb-true size 65536 e)) (λ (e : leb size 65536 ≡ false). rw e (omega arith)) (not_cases (leb size 65536))
lent_filled size (Blocks n) = omega arith

pub lent_most : (size : ℕ) (call : Call) → lent_size size call ≤ 65536
unfolding lent_size
lent_most size call = lent_filled size (filled_by call)

pub room_read : (size : ℕ) {call : Call} {o : TransferOperands} {n : ℕ} → call ≡ Read o → n ≡ lent_size size call → 1 + n ≡ answer_room size call
unfolding answer_room
room_read size {call} {o} {n} e h = rw (h, e)

-- ---- a number in bytes

pub big_endian_none : (width n : ℕ) (xs : List ℕ) (at : ℕ) → width ≡ 0 → Written xs at (bytes width n) xs at
unfolding bytes
big_endian_none width n xs at e = rw e (written_none xs at)

-- There is room for the last byte.
pub big_endian_room : (width n : ℕ) {before middle : List ℕ} {at next : ℕ} → (width ≡ 0 → ⊥) → Written before at (bytes (width - 1) (n / 256)) middle next → length middle ≡ length before
    → at + width ≤ length before → next + 1 ≤ length middle
big_endian_room width n z w k h = omega (arith, w.ends, length_bytes (width - 1) (n / 256))

-- The last byte stands behind the others.
pub big_endian_more : (width n : ℕ) {before middle after : List ℕ} {at next behind : ℕ} → (width ≡ 0 → ⊥) → Written before at (bytes (width - 1) (n / 256)) middle next
    → Written middle next (n % 256 ∷ []) after behind → at + width ≤ length before → Written before at (bytes width n) after behind
unfolding bytes
big_endian_more zero n z a b h = absurd (z refl)
big_endian_more (suc k) n {before} {middle} {at = at} {next = next} z a b h =
    let same : suc k - 1 ≡ k = omega arith in
    written_join (subst (λ (m : ℕ). Written before at (bytes m (n / 256)) middle next) same a) b (omega (arith, length_bytes k (n / 256)))

-- ---- numbers in two bytes each

pairs_append : (xs ys : List ℕ) → pairs (xs ++ ys) ≡ pairs xs ++ pairs ys
unfolding pairs
pairs_append [] ys = refl
pairs_append (x ∷ xs) ys = ap (λ (zs : List ℕ). bytes 2 x ++ zs) (pairs_append xs ys) ∙ sym (append_assoc (bytes 2 x) (pairs xs) (pairs ys))

pub pairs_length : (xs : List ℕ) → length (pairs xs) ≡ 2 * length xs
unfolding pairs
pairs_length [] = refl
pairs_length (x ∷ xs) = omega (arith, length-append (bytes 2 x) (pairs xs), length_bytes 2 x, pairs_length xs)

pairs_more : (xs : List ℕ) (i : ℕ) → i < length xs → pairs (take (i + 1) xs) ≡ pairs (take i xs) ++ bytes 2 (get_or xs i 0)
unfolding pairs
pairs_more xs i h = rw (add-one, take-suc xs i 0 h, pairs_append) (ap (λ (zs : List ℕ). pairs (take i xs) ++ zs) (append-nil (bytes 2 (get_or xs i 0))))

-- The first i numbers are written.
abbrev pub Pairing : List ℕ → List ℕ → ℕ → List ℕ → ℕ → ℕ → Type 0
Pairing values = WrittenPart 2 (length values) (λ k. pairs (take k values))

pub pairing_more : (values before : List ℕ) (at : ℕ) {to after : List ℕ} {next behind i n : ℕ} → Pairing values before at to next i → i < length values
    → n ≡ get_or values i 0 → Written to next (bytes 2 n) after behind → Pairing values before at after behind (i + 1)
pairing_more values before at {i = i} {n = n} f h e w =
    part_more 2 (length values) (λ k. pairs (take k values)) before at (bytes 2 n) f h (omega (arith, length_bytes 2 n))
    (pairs_more values i h ∙ ap (λ (k : ℕ). pairs (take i values) ++ bytes 2 k) (sym e)) w

pub pairing_done : (values : List ℕ) {before to : List ℕ} {at next i : ℕ} → Pairing values before at to next i → length values ≤ i → Written before at (pairs values) to next
pairing_done values {before} {to} {at} {next} {i} f h =
    subst (λ (xs : List ℕ). Written before at (pairs xs) to next) (take_all i values h) f.written

-- Where there are no more numbers than are wanted, all are written.
pub pairs_all : (values : List ℕ) (count : ℕ) {before to : List ℕ} {at next : ℕ} → length values ≤ count → Written before at (pairs values) to next → Written before at (pairs (take count values)) to next
pairs_all values count h w = rw (take_all count values h) w

-- ---- bytes that stand already

pub written_same : (xs : List ℕ) (at size : ℕ) → at + size ≤ length xs → Written xs at (take size (drop at xs)) xs (at + size)
unfolding overwrite
written_same xs at size h =
    let long : length (take size (drop at xs)) ≡ size = length-take-le size (drop at xs) (omega (arith, length-drop at xs)) in
    record {
      holds =
          sym
          (ap (λ (n : ℕ). take at xs ++ (take size (drop at xs) ++ drop (at + n) xs)) long
          ∙ ap (λ (ys : List ℕ). take at xs ++ (take size (drop at xs) ++ ys)) (sym (drop-drop size at xs))
          ∙ ap (λ (ys : List ℕ). take at xs ++ ys) (take-append-drop size (drop at xs))
          ∙ take-append-drop at xs);
      ends = ap (λ (n : ℕ). at + n) (sym long);
    }

-- What stands behind the written bytes is as it was.
pub written_behind : {before after : List ℕ} {at behind : ℕ} {ys : List ℕ} → Written before at ys after behind → at + length ys ≤ length before → drop behind after ≡ drop behind before
unfolding overwrite
written_behind {before} {after} {at} {behind} {ys} w h =
    let head : List ℕ = take at before ++ ys in
    let long : length head ≡ at + length ys = length-append (take at before) ys ∙ ap (λ (n : ℕ). n + length ys) (length-take-le at before (omega arith)) in
    ap₂ (λ (n : ℕ) (xs : List ℕ). drop n xs) w.ends w.holds
    ∙ ap (drop (at + length ys)) (sym (append_assoc (take at before) ys (drop (at + length ys) before)))
    ∙ drop_at head (drop (at + length ys) before) (at + length ys) long
    ∙ ap (λ (n : ℕ). drop n before) (sym w.ends)

-- ---- an answer

-- The number of a done call is written, and nothing behind it.
module _ {before middle : List ℕ} {at next : ℕ} (w : Written before at (bytes 1 0) middle next) (h : at + 1 ≤ length before) where
  number_next : next ≡ at + 1
  number_next = w.ends ∙ ap (λ (n : ℕ). at + n) (length_bytes 1 0)

  number_kept : length middle ≡ length before
  number_kept = written_length w (omega (arith, length_bytes 1 0))

  number_behind : drop next middle ≡ drop (at + 1) before
  number_behind = written_behind w (omega (arith, length_bytes 1 0)) ∙ ap (λ (n : ℕ). drop n before) number_next

  number_size : (size : ℕ) → at + 1 + size ≤ length before → next + size ≤ length middle
  number_size size g = omega (arith, number_next, number_kept)

  module _ (whole filled : List ℕ) (e : whole ≡ bytes 1 0 ++ filled) (fits : at + length whole ≤ length before) where
    long : length whole ≡ 1 + length filled
    long = ap length e ∙ length-append (bytes 1 0) filled ∙ ap (λ (n : ℕ). n + length filled) (length_bytes 1 0)

    number_room : next + length filled ≤ length middle
    number_room = number_size (length filled) (omega (arith, long))

    number_joined : {after : List ℕ} {behind : ℕ} → Written middle next filled after behind → Written before at whole after behind
    number_joined {after} {behind} v =
        subst (λ (ys : List ℕ). Written before at ys after behind) (sym e) (written_join w v (omega (arith, long, length_bytes 1 0)))

module _ (call : Call) (size : ℕ) (places : List ℕ) (answer : Answer) (before : List ℕ) (at : ℕ) where
  -- The answer, of which READ's bytes stand in the buffer.
  abbrev whole_answer : List ℕ
  whole_answer = answer_bytes call (replied answer (take size (drop (at + 1) before)) places)

  pub answer_bytes_refused : {r : Refusal} {n : ℕ} {after : List ℕ} {behind : ℕ} → answer ≡ Refused r → n ≡ refusal_number r → Written before at (bytes 1 n) after behind → Written before at whole_answer after behind
  unfolding answer_bytes
  answer_bytes_refused {r} e q w = rw (e, ← q, append-nil) w

  module _ {middle : List ℕ} {next : ℕ} (w : Written before at (bytes 1 0) middle next) (h : at + 1 + size ≤ length before) (fits : at + length whole_answer ≤ length before) where
    number_fits : at + 1 ≤ length before
    number_fits = omega arith

    module _ (done : answer ≡ Done) {filled : Filled} (told : filled ≡ filled_by call) where
      abbrev done_bytes : List ℕ
      done_bytes = filled_bytes filled (take size (drop next middle)) places

      done_whole : whole_answer ≡ bytes 1 0 ++ done_bytes
      unfolding answer_bytes
      done_whole = rw (done, number_behind w number_fits, told)

      pub done_room : (next + size ≤ length middle) × (next + length done_bytes ≤ length middle)
      done_room = (number_size w number_fits size h, number_room w number_fits whole_answer done_bytes done_whole fits)

      pub answer_bytes_done : {after : List ℕ} {behind : ℕ} → Written middle next done_bytes after behind → Written before at whole_answer after behind
      answer_bytes_done v = number_joined w number_fits whole_answer done_bytes done_whole fits v

    module _ {v : ℕ} (valued : answer ≡ Value v) where
      value_whole : whole_answer ≡ bytes 1 0 ++ bytes 8 v
      unfolding answer_bytes
      value_whole = rw valued

      pub value_room : next + 8 ≤ length middle
      value_room = omega (arith, number_room w number_fits whole_answer (bytes 8 v) value_whole fits, length_bytes 8 v)

      pub answer_bytes_value : {after : List ℕ} {behind : ℕ} → Written middle next (bytes 8 v) after behind → Written before at whole_answer after behind
      answer_bytes_value v' = number_joined w number_fits whole_answer (bytes 8 v) value_whole fits v'
