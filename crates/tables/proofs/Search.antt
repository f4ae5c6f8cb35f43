-- What a search of ascending pointers finds, as the rank that it is by; and the look at the element that stands there.
use Prim.Native.Nat.{ℕ, zero, suc, ◌≤◌, ◌<◌}
use mathlib.Core.Path.{◌≡◌, sym, ◌∙◌}
use mathlib.Core.Bool.{Bool, true, false, ◌&&◌}
use mathlib.Core.List.{List, [], ◌∷◌}
use native.Mathlib.Nat.{le_of_suc-le-suc, not-suc-le-zero}
use native.Mathlib.Omega.{arith}
use lib.Dec.{ltb, eqb}
use borrow.Author.Tests.{lt-ltb, le-ltb, ltb-true, ltb-false, eq-eqb, eqb-true}
use lib.ListN.{length, take, get_or}
use lib.Seq.{get_or-take, length-take-le}
use Rattle.std.specs.Prelude.{Result, Ok, Err, is_ok, MatchResult}
use Rattle.std.specs.List.Sorted.{IsPartitionPoint, IsPartitionedBy, IsNonDecreasingBy, IsBinarySearchResult}
use Rattle.std.specs.Ordering.{nat_cmp}
use Rattle.std.proofs.Math.Logic.{⊎_elim}
use Rattle.std.proofs.lemmas.List.Sorted.{IsNonDecreasingBy-from_default, IsPartitionedBy-ltb, searched}
use Rattle.laws.specs.ListsLaws.{below_or_not, and_left, and_right, or_left, or_right, false_unless}
use Rattle.laws.specs.PointersLaws.{ascending_tail}
use Rattle.card.specs.Pointers.{ascending, contains}
use Rattle.card.specs.Lists.{any}
use Rattle.tables.specs.Rank.{rank}
use Rattle.tables.specs.RankLaws.{ascending_first, rank_length, rank_above, rank_below, contains_rank}
use Rattle.tables.specs.InUse.{Sorted}

-- No element is above a later one.
ordered : (ws : List ℕ) → ascending ws ≡ true → (i j : ℕ) → i ≤ j → j < length ws → get_or ws i 0 ≤ get_or ws j 0
ordered [] e i j h l = absurd (not-suc-le-zero l)
ordered (x ∷ xs) e zero zero h l = omega arith
ordered (x ∷ xs) e zero (suc j) h l = omega (arith, ascending_first x xs e j (le_of_suc-le-suc l))
ordered (x ∷ xs) e (suc i) zero h l = absurd (not-suc-le-zero h)
ordered (x ∷ xs) e (suc i) (suc j) h l = ordered xs (ascending_tail x xs e) i j (le_of_suc-le-suc h) (le_of_suc-le-suc l)

pub rising : (ws : List ℕ) → ascending ws ≡ true → IsNonDecreasingBy (λ y. y) ws
rising ws e = IsNonDecreasingBy-from_default (λ y. y) ws 0 (ordered ws e)

pub parted : (w : ℕ) (ws : List ℕ) → ascending ws ≡ true → IsPartitionedBy (λ y. ltb y w) ws
parted w ws e = IsPartitionedBy-ltb (λ y. y) ws w (rising ws e)

-- The place that parts the elements below w from the others is w's rank.
pub parts_at_rank : (w : ℕ) (ws : List ℕ) → ascending ws ≡ true → (i : ℕ) → i ≤ length ws
    → IsPartitionPoint (λ y. ltb y w ≡ true) (λ y. ltb y w ≡ false) ws i → i ≡ rank w ws
parts_at_rank w ws e i most p = omega (arith, low i most p.0, high)
  where
    low : (k : ℕ) → k ≤ length ws → ((j : ℕ) (d : ℕ) → 0 ≤ j → j < k → ltb (get_or ws j d) w ≡ true) → k ≤ rank w ws
    low zero m f = omega arith
    low (suc k) m f = rank_above w ws e k m (ltb-true (get_or ws k 0) w (f k 0 (omega arith) (omega arith)))

    high : rank w ws ≤ i
    high =
        ⊎_elim
        (λ (l : i < length ws). rank_below w ws e i l (ltb-false (get_or ws i 0) w (p.1 i 0 (omega arith) l)))
        (λ (l : length ws ≤ i). omega (arith, rank_length w ws))
        (below_or_not i (length ws))

contains_at : (w : ℕ) (ws : List ℕ) (i : ℕ) → i < length ws → get_or ws i 0 ≡ w → contains w ws ≡ true
unfolding contains any
contains_at w [] i l e = absurd (not-suc-le-zero l)
contains_at w (x ∷ xs) zero l e = or_left (eqb x w) _ (eq-eqb x w e)
contains_at w (x ∷ xs) (suc i) l e = or_right (eqb x w) _ (contains_at w xs i (le_of_suc-le-suc l) e)

-- A search finds w exactly where it is there.
pub found_there : (w : ℕ) (ws : List ℕ) → ascending ws ≡ true → (r : Result ℕ ℕ) → IsBinarySearchResult (λ y. nat_cmp y w) ws r → is_ok r ≡ contains w ws
found_there w ws e r b = go r (searched ws w r b (ordered ws e))
  where
    go : (r : Result ℕ ℕ) → MatchResult r (λ i. (i < length ws) × (get_or ws i 0 ≡ w)) (λ i. (i ≤ length ws) × ((k : ℕ) → k < i → get_or ws k 0 < w) × ((k : ℕ) → i ≤ k → k < length ws → w < get_or ws k 0))
        → is_ok r ≡ contains w ws
    go (Ok i) f = sym (contains_at w ws i f.0 f.1)
    go (Err i) f =
        sym
        (false_unless (contains w ws)
        (λ h.
        let both : ltb (rank w ws) (length ws) && eqb (get_or ws (rank w ws) 0) w ≡ true = sym (contains_rank w ws e) ∙ h in
        let inside : rank w ws < length ws = ltb-true (rank w ws) (length ws) (and_left _ _ both) in
        let is : get_or ws (rank w ws) 0 ≡ w = eqb-true (get_or ws (rank w ws) 0) w (and_right (ltb (rank w ws) (length ws)) _ both) in
        ⊎_elim
        (λ (l : rank w ws < i). omega (arith, f.1 (rank w ws) l))
        (λ (l : i ≤ rank w ws). omega (arith, f.2 (rank w ws) l inside))
        (below_or_not (rank w ws) i)))

-- What the element at a place decides is answered by a look there, and no where the place is behind the pointers in use.
module _ {pointers : List ℕ} {used : ℕ} (sorted : Sorted pointers used) (test : ℕ → Bool) {answer : Bool} {place at : ℕ}
    (decided : answer ≡ ltb place (length (take used pointers)) && test (get_or (take used pointers) place 0)) (found : at ≡ place) where
  pub look_found : at < used → test (get_or pointers at 0) ≡ answer
  look_found h = sym (decided ∙ rw (← found, length-take-le used pointers sorted.within, lt-ltb at used h, get_or-take used pointers at 0 h))

  pub look_missed : used ≤ at → ltb at used ≡ answer
  look_missed h = le-ltb at used h ∙ sym (decided ∙ rw (← found, length-take-le used pointers sorted.within, le-ltb at used h))
