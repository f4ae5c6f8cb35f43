-- The pass from above that puts several pointers into their places, and the number that f gives of each beside it. The pointers themselves are the
-- table beside which f gives each its own number.
use Prim.Native.Nat.{ℕ, suc, ◌+◌, ◌≤◌, ◌<◌}
use mathlib.Core.Path.{◌≡◌, refl, sym, ap, ap₂, ◌∙◌, subst}
use mathlib.Core.Bool.{true, false, not}
use mathlib.Core.List.{List, [], ◌∷◌, ◌++◌, append_assoc}
use native.Mathlib.Omega.{arith}
use borrow.Author.Tests.{lt-ltb, ltb-true, not-true}
use lib.Dec.{ltb}
use lib.ListN.{length, get_or, take, drop, set, length-take, length-drop, length-set, take-append-drop}
use lib.Seq.{take-suc, drop_at, get_or-take, take-take, take-append-le, length-take-le}
use Rattle.card.specs.Lists.{all}
use Rattle.laws.specs.ListsLaws.{all_map, all_at}
use Rattle.card.specs.Pointers.{ascending, contains}
use Rattle.laws.specs.BesideLaws.{InStep, in_step}
use Rattle.tables.specs.Places.{raised_at}
use Rattle.tables.specs.Merge.{insert_all, insert_all_beside, MergedIn}
use Rattle.tables.specs.MergeLaws.{insert_all_beside_above, insert_all_beside_last, take_ascending, take_absent, before_below, up_to_below}
use Rattle.tables.specs.Rank.{rank}
use Rattle.tables.specs.RankLaws.{rank_length, rank_behind, rank_front}
use Rattle.tables.specs.InUse.{Sorted, Mergeable, Raisable, Paired}
use Rattle.tables.specs.PlaceLaws.{rank_place}
use Rattle.tables.proofs.Shift.{set_behind, raised_length}

-- The first `old` places in use and the first `new` of the added pointers are left to do: the others are in their last places, behind them all.
pub record Merging (f : ℕ → ℕ) (pointers before now : List ℕ) (used : ℕ) (added : List ℕ) (count old new : ℕ) : Type 0 where
  pub room : used + count ≤ length before
  pub enough : count ≤ length added
  pub old_most : old ≤ used
  pub new_most : new ≤ count
  pub same : length now ≡ length before
  pub done : List ℕ
  pub whole : insert_all_beside f (take count added) (take used pointers) (take used before)
      ≡ insert_all_beside f (take new (take count added)) (take old (take used pointers)) (take old (take used before)) ++ done
  pub holds : now ≡ take (old + new) before ++ (done ++ drop (used + count) before)

module _ (f : ℕ → ℕ) {pointers before : List ℕ} {used : ℕ} {added : List ℕ} {count : ℕ} (m : Mergeable pointers used added count) (p : Paired pointers before) where
  abbrev olds : List ℕ
  olds = take used pointers

  abbrev numbers : List ℕ
  numbers = take used before

  abbrev news : List ℕ
  news = take count added

  long_used : length olds ≡ used
  long_used = length-take-le used pointers m.sorted.within

  long_numbers : length numbers ≡ used
  long_numbers = length-take-le used before (omega (arith, p.same, m.sorted.within))

  long_added : length news ≡ count
  long_added = length-take-le count added m.added_sorted.within

  module _ {now : List ℕ} {old new : ℕ} (r : Merging f pointers before now used added count old new) where
    long : length (take (old + new) before) ≡ old + new
    long = length-take-le (old + new) before (omega (arith, r.room, r.old_most, r.new_most))

    -- What is left to do stands as before.
    front : (n : ℕ) → n ≤ old + new → take n now ≡ take n before
    front n l = rw r.holds (take-append-le n (take (old + new) before) _ (omega (arith, long)) ∙ take-take n (old + new) before l)

    pub left : take old now ≡ take old numbers
    left = front old (omega arith) ∙ sym (take-take old used before r.old_most)

    behind : drop (old + new) now ≡ r.done ++ drop (used + count) before
    behind = rw r.holds (drop_at (take (old + new) before) _ (old + new) long)

    pub can_raise : {at by : ℕ} → by ≤ new → at ≤ old → Raisable now old by at
    can_raise h l = record { place = l; room = omega (arith, r.same, r.room, r.old_most, r.new_most) }

    ascends : ascending (take old olds) ≡ true
    ascends = take_ascending old olds m.sorted.ascends

    -- The highest of the added pointers that are left parts those in use that are left.
    module _ (n : ℕ) (e : new ≡ suc n) {at : ℕ} (place : at ≡ rank (get_or added n 0) (take old olds)) where
      abbrev w : ℕ
      w = get_or added n 0

      low : at ≤ old
      low = omega (arith, rank_length w (take old olds), length-take-le old olds (omega (arith, long_used, r.old_most)))

      inside : n < length news
      inside = omega (arith, r.new_most, long_added)

      is_w : get_or news n 0 ≡ w
      is_w = get_or-take count added n 0 (omega (arith, r.new_most))

      absent : contains w (take old olds) ≡ false
      absent = take_absent old w olds (not-true _ (subst (λ (v : ℕ). not (contains v olds) ≡ true) is_w (all_at (λ v. not (contains v olds)) news m.absent n inside)))

      above : all (λ v. all (λ y. ltb v y) (drop at (take old olds))) (take new news) ≡ true
      above =
          let beyond : all (λ y. ltb w y) (drop at (take old olds)) ≡ true = rw place (rank_behind w (take old olds) ascends absent) in
          all_map (λ v. ltb v (suc w)) (λ v. all (λ y. ltb v y) (drop at (take old olds)))
          (λ v h. all_map (λ y. ltb w y) (λ y. ltb v y) (λ y g. lt-ltb v y (omega (arith, ltb-true v (suc w) h, ltb-true w y g))) (drop at (take old olds)) beyond)
          (take new news)
          (rw e (up_to_below news n (suc w) m.added_sorted.ascends inside (omega (arith, is_w))))

      below : all (λ x. ltb x (suc w)) (take at olds) ≡ true
      below = rw (← take-take at old olds low, place) (rank_front w (take old olds) ascends)

      step : InStep (take at olds) (take at numbers)
      step = in_step (take at olds) (take at numbers) (simp length-take (omega (arith, long_used, long_numbers)))

      rest : InStep (drop at (take old olds)) (drop at (take old numbers))
      rest = in_step (drop at (take old olds)) (drop at (take old numbers)) (simp (length-drop, length-take) (omega (arith, long_used, long_numbers)))

      parted : insert_all_beside f (take new news) (take old olds) (take old numbers)
          ≡ insert_all_beside f (take n news) (take at olds) (take at numbers) ++ (f w ∷ drop at (take old numbers))
      parted =
          let split_olds : take old olds ≡ take at olds ++ drop at (take old olds) = sym (take-append-drop at (take old olds)) ∙ rw (take-take at old olds low) in
          let split_numbers : take old numbers ≡ take at numbers ++ drop at (take old numbers) = sym (take-append-drop at (take old numbers)) ∙ rw (take-take at old numbers low) in
          let some : take new news ≡ take n news ++ (w ∷ []) = rw e (take-suc news n 0 inside ∙ rw is_w) in
          ap₂ (insert_all_beside f (take new news)) split_olds split_numbers
          ∙ (insert_all_beside_above f (take new news) step rest above
          ∙ rw (some, insert_all_beside_last f w (take n news) step (rw (← is_w) (before_below news n m.added_sorted.ascends inside)) below)
          (append_assoc (insert_all_beside f (take n news) (take at olds) (take at numbers)) (f w ∷ []) (drop at (take old numbers))))

      -- Those above it are raised, and it is put below them.
      pub merging_more : {after : List ℕ} → after ≡ raised_at at (n + 1) old now → Merging f pointers before (set after (at + n) (f w)) used added count at n
      unfolding raised_at
      merging_more {after} raised =
          let seg : List ℕ = drop at (take old numbers) in
          record {
            room = r.room;
            enough = r.enough;
            old_most = omega (arith, low, r.old_most);
            new_most = omega (arith, r.new_most);
            same = length-set after (at + n) (f w) ∙ rw raised (raised_length (can_raise (omega arith) low)) ∙ r.same;
            done = f w ∷ (seg ++ r.done);
            whole = r.whole ∙ rw parted (append_assoc (insert_all_beside f (take n news) (take at olds) (take at numbers)) (f w ∷ seg) r.done);
            holds = stored;
          }
        where
          stored : set after (at + n) (f w) ≡ take (at + n) before ++ ((f w ∷ (drop at (take old numbers) ++ r.done)) ++ drop (used + count) before)
          stored =
              let next : at + (n + 1) ≡ suc (at + n) = omega arith in
              let many : old + (n + 1) ≡ old + new = omega arith in
              rw (raised, next, many, left, behind)
              (set_behind now _ (at + n) (f w) (omega (arith, low, r.same, r.room, r.old_most, r.new_most))
              ∙ rw (front (at + n) (omega (arith, low)))
              (ap (λ (ws : List ℕ). take (at + n) before ++ (f w ∷ ws)) (sym (append_assoc (drop at (take old numbers)) r.done (drop (used + count) before)))))

    pub merging_whole : new ≤ 0 → now ≡ insert_all_beside f (take count added) (take used pointers) (take used before) ++ drop (used + count) before
    unfolding insert_all_beside
    merging_whole l =
        let none : new ≡ 0 = omega arith in
        let zero_more : old + 0 ≡ old = omega arith in
        rw (r.whole, r.holds, none, zero_more, take-take old used before r.old_most) (sym (append_assoc (take old before) r.done _))

-- ---- the pointers and their multiplicities, which are put in together

pub record BothMerging (pointers₀ multiplicities₀ pointers multiplicities : List ℕ) (used : ℕ) (added : List ℕ) (count old new : ℕ) : Type 0 where
  pub of_pointers : Merging (λ x. x) pointers₀ pointers₀ pointers used added count old new
  pub of_multiplicities : Merging (λ x. 1) pointers₀ multiplicities₀ multiplicities used added count old new

module _ {pointers₀ multiplicities₀ : List ℕ} {used : ℕ} {added : List ℕ} {count : ℕ} (m : Mergeable pointers₀ used added count) (p : Paired pointers₀ multiplicities₀) where
  itself : Paired pointers₀ pointers₀
  itself = record { same = refl }

  module _ {pointers multiplicities : List ℕ} {old new : ℕ} (r : BothMerging pointers₀ multiplicities₀ pointers multiplicities used added count old new) where
    pub can_place : Sorted pointers old
    can_place = record {
      within = omega (arith, r.of_pointers.same, r.of_pointers.room, r.of_pointers.old_most);
      ascends = rw (left (λ x. x) m itself r.of_pointers) (take_ascending old (take used pointers₀) m.sorted.ascends);
    }

    module _ {by : ℕ} (few : by ≤ new) (w : ℕ) {at : ℕ} (place : at ≡ rank w (take old pointers)) where
      pub can_raise_pointers : Raisable pointers old by at
      can_raise_pointers = can_raise (λ x. x) m itself r.of_pointers few (rank_place w can_place place)

      pub can_raise_multiplicities : Raisable multiplicities old by at
      can_raise_multiplicities = can_raise (λ x. 1) m p r.of_multiplicities few (rank_place w can_place place)

    pub both_more : (n : ℕ) → new ≡ suc n → {at : ℕ} → at ≡ rank (get_or added n 0) (take old pointers) → {above beside : List ℕ}
        → above ≡ raised_at at (n + 1) old pointers → beside ≡ raised_at at (n + 1) old multiplicities
        → BothMerging pointers₀ multiplicities₀ (set above (at + n) (get_or added n 0)) (set beside (at + n) 1) used added count at n
    both_more n e {at} place f g =
        let there : at ≡ rank (get_or added n 0) (take old (take used pointers₀)) =
        place ∙ ap (rank (get_or added n 0)) (left (λ x. x) m itself r.of_pointers) in
        record {
          of_pointers = merging_more (λ x. x) m itself r.of_pointers n e there f;
          of_multiplicities = merging_more (λ x. 1) m p r.of_multiplicities n e there g;
        }

    pub both_whole : new ≤ 0 → MergedIn (take count added) used pointers₀ multiplicities₀ pointers multiplicities
    unfolding insert_all
    both_whole l =
        let many : length (take count added) ≡ count = length-take-le count added m.added_sorted.within in
        record {
          of_pointers = rw many (merging_whole (λ x. x) m itself r.of_pointers l);
          of_multiplicities = rw many (merging_whole (λ x. 1) m p r.of_multiplicities l);
        }
