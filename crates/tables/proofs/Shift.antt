-- The shifts that make room in a table and that close the gap of one element.
use Prim.Native.Nat.{ℕ, zero, suc, ◌+◌, ◌-◌, ◌≤◌, ◌<◌}
use mathlib.Core.Path.{◌≡◌, refl, sym, ap, ◌∙◌, subst}
use mathlib.Core.List.{List, [], ◌∷◌, ◌++◌, append_assoc, append-nil}
use native.Mathlib.Nat.{le_of_suc-le-suc, not-suc-le-zero}
use native.Mathlib.Numerals.{add-one}
use native.Mathlib.Omega.{arith}
use lib.ListN.{length, get_or, take, drop, set, length-append, length-take, length-drop, length-set, take-append-drop, drop_of_length-le, get_or-append}
use lib.Seq.{take-suc, drop-cons, append_snoc, take-append-le, drop-append-le, get_or-append-add, set_at, get_or-take, get_or-drop, take-take, length-take-le}
use Rattle.card.specs.Pointers.{insert}
use Rattle.laws.specs.BesideLaws.{in_step_self}
use Rattle.tables.specs.Places.{insert_at, remove_at, raised_at, PutAt}
use Rattle.tables.specs.Rank.{rank}
use Rattle.tables.specs.BesideRank.{insert_beside_rank}
use Rattle.tables.specs.PlaceLaws.{rank_place}
use Rattle.tables.specs.InUse.{Addable, Raisable, Lowerable, Paired}

-- ---- upwards

pub set_behind : {A : Type 0} (xs tail : List A) (i : ℕ) (v : A) → i < length xs → set (take (suc i) xs ++ tail) i v ≡ take i xs ++ (v ∷ tail)
set_behind [] tail i v l = absurd (not-suc-le-zero l)
set_behind (x ∷ xs) tail zero v l = refl
set_behind (x ∷ xs) tail (suc i) v l = ap (λ t. x ∷ t) (set_behind xs tail i v (le_of_suc-le-suc l))

-- The first `used` elements from i on stand `by` places higher, and the others where they were.
pub record Raised {A : Type 0} (before now : List A) (used by at i : ℕ) : Type 0 where
  pub room : used + by ≤ length before
  pub lowest : at ≤ i
  pub most : i ≤ used
  pub same : length now ≡ length before
  pub holds : now ≡ raised_at i by used before

pub raised_start : {A : Type 0} {before : List A} {used by at : ℕ} → Raisable before used by at → Raised before before used by at used
unfolding raised_at
raised_start {before} {used} {by} {at} r = record {
  room = r.room;
  lowest = r.place;
  most = omega arith;
  same = refl;
  holds = sym (rw (drop_of_length-le (take used before) {i = used} (simp length-take (omega (arith, r.room)))) (take-append-drop (used + by) before));
}

raise : {A : Type 0} (before : List A) (used by i : ℕ) (v : A) → i < used → used + by ≤ length before
    → set (take (suc (i + by)) before ++ (drop (suc i) (take used before) ++ drop (used + by) before)) (i + by) (get_or before i v)
    ≡ take (i + by) before ++ (drop i (take used before) ++ drop (used + by) before)
raise before used by i v l room =
    set_behind before _ (i + by) (get_or before i v) (omega arith)
    ∙ rw (drop-cons (take used before) i v (simp length-take (omega arith)), get_or-take used before i v l)

module _ {A : Type 0} {before now : List A} {used by at i : ℕ} (r : Raised before now used by at i) where
  pub raised_more : (v : A) → at < i → v ≡ get_or now (i - 1) v → Raised before (set now (i - 1 + by) v) used by at (i - 1)
  unfolding raised_at
  raised_more v l is = record {
    room = r.room;
    lowest = omega arith;
    most = omega (arith, r.most);
    same = length-set now (i - 1 + by) _ ∙ r.same;
    holds = ap (set now (i - 1 + by)) is ∙ go (i - 1) (omega arith);
  }
    where
      kept : (k : ℕ) → i ≡ suc k → get_or now k v ≡ get_or before k v
      kept k e =
          rw r.holds
          (get_or-append (take (i + by) before) _ v k (simp length-take (omega (arith, r.room, r.most))) ∙ get_or-take (i + by) before k v (omega arith))

      go : (k : ℕ) → i ≡ suc k → set now (k + by) (get_or now k v) ≡ take (k + by) before ++ (drop k (take used before) ++ drop (used + by) before)
      go k e = let next : suc k + by ≡ suc (k + by) = omega arith in rw (kept k e, r.holds, e, next) (raise before used by k v (omega (arith, r.most)) r.room)

pub raised_length : {A : Type 0} {xs : List A} {used by at : ℕ} → Raisable xs used by at → length (raised_at at by used xs) ≡ length xs
unfolding raised_at
raised_length r = simp (length-append, length-take, length-drop) (omega (arith, r.room, r.place))

-- Raised by one and stored at the place, an element is inserted there.
inserted_at : {xs after : List ℕ} {used at : ℕ} (v : ℕ) → Raisable xs used 1 at → after ≡ raised_at at 1 used xs
    → set after at v ≡ insert_at at v (take used xs) ++ drop (used + 1) xs
unfolding raised_at insert_at
inserted_at {xs} {after} {used} {at} v r e =
    rw (e, add-one at, set_behind xs _ at v (omega (arith, r.room, r.place)), take-take at used xs r.place)
    (sym (append_assoc (take at xs) (v ∷ drop at (take used xs)) (drop (used + 1) xs)))

pub put_both : {pointers multiplicities raised beside : List ℕ} {used at : ℕ} (w : ℕ) → Raisable pointers used 1 at → Paired pointers multiplicities
    → raised ≡ raised_at at 1 used pointers → beside ≡ raised_at at 1 used multiplicities
    → PutAt used at w pointers multiplicities (set raised at w) (set beside at 1)
put_both w r p e f = record {
  of_pointers = inserted_at w r e;
  of_multiplicities = inserted_at 1 (record { place = r.place; room = omega (arith, r.room, p.same) }) f;
}

pub can_raise_one : {xs : List ℕ} {used at w : ℕ} → Addable xs used w → at ≡ rank w (take used xs) → Raisable xs used 1 at
can_raise_one {w = w} a e = record { place = rank_place w a.sorted e; room = omega (arith, a.room) }

pub inserted : {xs after : List ℕ} {used at w : ℕ} → Addable xs used w → at ≡ rank w (take used xs) → after ≡ raised_at at 1 used xs
    → set after at w ≡ insert w (take used xs) ++ drop (used + 1) xs
unfolding insert
inserted {xs} {after} {used} {at} {w} a e f =
    inserted_at w (can_raise_one a e) f
    ∙ rw (e, insert_beside_rank w w (in_step_self (take used xs)) a.sorted.ascends a.absent)

-- ---- downwards

remove_at_length : {A : Type 0} (at i : ℕ) (xs : List A) → at ≤ i → i < length xs → length (remove_at at (take (suc i) xs)) ≡ i
unfolding remove_at
remove_at_length at i xs h l = simp (length-append, length-take, length-drop) (omega arith)

remove_at_more : {A : Type 0} (at i : ℕ) (xs : List A) (d : A) → at ≤ i → suc i < length xs
    → remove_at at (take (suc (suc i)) xs) ≡ remove_at at (take (suc i) xs) ++ (get_or xs (suc i) d ∷ [])
unfolding remove_at
remove_at_more at i xs d h l =
    let long : length (take (suc i) xs) ≡ suc i = length-take-le (suc i) xs (omega arith) in
    rw (take-suc xs (suc i) d l, take-append-le at (take (suc i) xs) _ (omega arith), drop-append-le (suc at) (take (suc i) xs) _ (omega arith))
    (sym (append_assoc (take at (take (suc i) xs)) _ _))

-- The elements behind the one at `at`, up to i, stand one place lower, and the others where they were.
pub record Lowered {A : Type 0} (before now : List A) (used at i : ℕ) : Type 0 where
  pub within : used ≤ length before
  pub lowest : at ≤ i
  pub most : i < used
  pub same : length now ≡ length before
  pub holds : now ≡ remove_at at (take (suc i) before) ++ drop i before

pub lowered_start : {A : Type 0} {before : List A} {used at : ℕ} → Lowerable before used at → Lowered before before used at at
unfolding remove_at
lowered_start {before = before} {used = used} {at = at} r = record {
  within = r.within;
  lowest = omega arith;
  most = r.place;
  same = refl;
  holds =
      sym
      (rw (take-take at (suc at) before (omega arith), drop_of_length-le (take (suc at) before) {i = suc at} (simp length-take (omega arith)), append-nil)
      (take-append-drop at before));
}

module _ {A : Type 0} {before now : List A} {used at i : ℕ} (r : Lowered before now used at i) (v : A) where
  -- A store at i.
  lower : set now i v ≡ remove_at at (take (suc i) before) ++ (v ∷ drop (suc i) before)
  lower =
      let inside : i < length before = omega (arith, r.most, r.within) in
      rw (r.holds, drop-cons before i v inside)
      (set_at (remove_at at (take (suc i) before)) (get_or before i v) (drop (suc i) before) v i (remove_at_length at i before r.lowest inside))

  pub lowered_more : i + 1 < used → v ≡ get_or now (i + 1) v → Lowered before (set now i v) used at (i + 1)
  lowered_more l is =
      let long : length (remove_at at (take (suc i) before)) ≡ i = remove_at_length at i before r.lowest (omega (arith, r.most, r.within)) in
      let kept : get_or now (i + 1) v ≡ get_or before (i + 1) v =
      rw r.holds
      (subst (λ (n : ℕ). get_or (remove_at at (take (suc i) before) ++ drop i before) (n + 1) v ≡ get_or before (i + 1) v) long
      (get_or-append-add (remove_at at (take (suc i) before)) (drop i before) 1 v ∙ get_or-drop i before 1 v)) in
      let next : get_or before (suc i) v ≡ v = sym (is ∙ kept ∙ rw add-one) in
      record {
        within = r.within;
        lowest = omega (arith, r.lowest);
        most = l;
        same = length-set now i _ ∙ r.same;
        holds =
            lower
            ∙ rw (add-one i, remove_at_more at i before v r.lowest (omega (arith, r.within)), next)
            (sym (append_snoc (remove_at at (take (suc i) before)) v (drop (suc i) before)));
      }

  pub removed_at : used ≤ i + 1 → set now (used - 1) v ≡ remove_at at (take used before) ++ (v ∷ drop used before)
  removed_at l =
      let there : used - 1 ≡ i = omega (arith, r.most) in
      let last : suc i ≡ used = omega (arith, r.most) in
      rw there (lower ∙ rw last)
