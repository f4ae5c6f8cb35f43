-- Laws of the rank in an ascending list: what stands before it and from it on, and what a search is by it.
use Prim.Native.Nat.compare
use Rattle.std.specs.Prelude.{ℕ, zero, suc, ◌+◌, ◌*◌, ◌≤◌, ◌<◌, ◌≡◌, Bool, ◌&&◌, ◌||◌, cond, eqb, ltb, length, take, drop, get_or}
use Rattle.std.proofs.Math.Path.{refl}
use Rattle.std.proofs.Common.{sym, ap, ◌∙◌, le_of_suc-le-suc, not-suc-le-zero, arith}
use Rattle.std.proofs.Math.Logic.{⊎_elim}
use Rattle.std.proofs.Math.Bool.{true, false}
use mathlib.Core.List.{List, [], ◌∷◌}
use Rattle.std.proofs.Math.Dec.{is_le}
use borrow.Author.Tests.{lt-ltb, le-ltb, ne_eqb, eqb-false}
use Rattle.card.specs.Lists.{all, any}
use Rattle.laws.specs.ListsLaws.{all_cons, and_right, or_false, or_false_left, or_false_right, below_or_not}
use Rattle.card.specs.Pointers.{source, ascending, contains, points_from}
use Rattle.laws.specs.PointersLaws.{ascending_below, ascending_tail}
use Rattle.tables.specs.Rank.{rank}

-- ---- one element more

-- The first element is below each later one.
pub ascending_first : (x : ℕ) (xs : List ℕ) → ascending (x ∷ xs) ≡ true → (i : ℕ) → i < length xs → x < get_or xs i 0
ascending_first x [] e i l = absurd (not-suc-le-zero l)
ascending_first x (y ∷ ys) e zero l = ascending_below x y ys e
ascending_first x (y ∷ ys) e (suc i) l =
    let first : x < y = ascending_below x y ys e in
    let later : y < get_or ys i 0 = ascending_first y ys (ascending_tail x (y ∷ ys) e) i (le_of_suc-le-suc l) in
    omega arith

pub rank_cons_below : (w x : ℕ) (xs : List ℕ) → x < w → rank w (x ∷ xs) ≡ suc (rank w xs)
unfolding rank
rank_cons_below w x xs h = rw (lt-ltb x w h) (omega arith)

-- Behind an element that is not below w, none is.
rank_rest : (w x : ℕ) (xs : List ℕ) → ascending (x ∷ xs) ≡ true → w ≤ x → rank w xs ≡ 0
unfolding rank
rank_rest w x [] e h = refl
rank_rest w x (y ∷ ys) e h =
    let below : x < y = ascending_below x y ys e in
    let rest : rank w ys ≡ 0 = rank_rest w y ys (ascending_tail x (y ∷ ys) e) (omega arith) in
    rw (le-ltb y w (omega arith)) (omega arith)

-- A list that starts above w stays above it.
from_above : (w x : ℕ) (xs : List ℕ) → ascending (x ∷ xs) ≡ true → w < x → all (λ y. ltb w y) (x ∷ xs) ≡ true
unfolding all
from_above w x [] e h = all_cons (λ y. ltb w y) x [] (lt-ltb w x h) refl
from_above w x (y ∷ ys) e h =
    let below : x < y = ascending_below x y ys e in
    all_cons (λ y. ltb w y) x (y ∷ ys) (lt-ltb w x h) (from_above w y ys (ascending_tail x (y ∷ ys) e) (omega arith))

pub rank_cons_above : (w x : ℕ) (xs : List ℕ) → ascending (x ∷ xs) ≡ true → w ≤ x → rank w (x ∷ xs) ≡ 0
unfolding rank
rank_cons_above w x xs e h =
    let rest : rank w xs ≡ 0 = rank_rest w x xs e h in
    rw (le-ltb x w h) (omega arith)

-- ---- where the rank lies

pub rank_length : (w : ℕ) (ws : List ℕ) → rank w ws ≤ length ws
unfolding rank
rank_length w [] = omega arith
rank_length w (x ∷ xs) = go (ltb x w) (rank_length w xs)
  where
    go : (t : Bool) → rank w xs ≤ length xs → cond t 1 0 + rank w xs ≤ suc (length xs)
    go true h = omega arith
    go false h = omega arith

-- An element below w stands before the rank.
pub rank_above : (w : ℕ) (ws : List ℕ) → ascending ws ≡ true → (i : ℕ) → i < length ws → get_or ws i 0 < w → i < rank w ws
rank_above w [] e i l h = absurd (not-suc-le-zero l)
rank_above w (x ∷ xs) e zero l h = omega (arith, rank_cons_below w x xs h)
rank_above w (x ∷ xs) e (suc i) l h =
    let first : x < get_or xs i 0 = ascending_first x xs e i (le_of_suc-le-suc l) in
    omega (arith, rank_cons_below w x xs (omega arith), rank_above w xs (ascending_tail x xs e) i (le_of_suc-le-suc l) h)

-- An element not below w stands at the rank or behind it.
pub rank_below : (w : ℕ) (ws : List ℕ) → ascending ws ≡ true → (i : ℕ) → i < length ws → w ≤ get_or ws i 0 → rank w ws ≤ i
rank_below w [] e i l h = absurd (not-suc-le-zero l)
rank_below w (x ∷ xs) e zero l h = omega (arith, rank_cons_above w x xs e h)
rank_below w (x ∷ xs) e (suc i) l h =
    let rest : rank w xs ≤ i = rank_below w xs (ascending_tail x xs e) i (le_of_suc-le-suc l) h in
    ⊎_elim
    (λ (b : x < w). omega (arith, rank_cons_below w x xs b))
    (λ (b : w ≤ x). omega (arith, rank_cons_above w x xs e b))
    (below_or_not x w)

-- From the rank on each element is above w, if w is not among them.
pub rank_behind : (w : ℕ) (ws : List ℕ) → ascending ws ≡ true → contains w ws ≡ false → all (λ y. ltb w y) (drop (rank w ws) ws) ≡ true
unfolding rank all contains any
rank_behind w [] e n = refl
rank_behind w (x ∷ xs) e n =
    ⊎_elim
    (λ (b : x < w). rw (rank_cons_below w x xs b) (rank_behind w xs (ascending_tail x xs e) (or_false_right (eqb x w) _ n)))
    (λ (b : w ≤ x).
    let other : (x ≡ w → ⊥) = eqb-false x w (or_false_left (eqb x w) _ n) in
    rw (rank_cons_above w x xs e b) (from_above w x xs e (omega arith)))
    (below_or_not x w)

-- Before it each is below.
pub rank_front : (w : ℕ) (ws : List ℕ) → ascending ws ≡ true → all (λ x. ltb x (suc w)) (take (rank w ws) ws) ≡ true
unfolding all rank
rank_front w [] e = refl
rank_front w (x ∷ xs) e =
    ⊎_elim
    (λ (b : x < w).
    rw (rank_cons_below w x xs b) (all_cons (λ x. ltb x (suc w)) x (take (rank w xs) xs) (lt-ltb x (suc w) (omega arith)) (rank_front w xs (ascending_tail x xs e))))
    (λ (b : w ≤ x). rw (rank_cons_above w x xs e b))
    (below_or_not x w)

-- ---- search

ltb_suc : (a b : ℕ) → ltb (suc a) (suc b) ≡ ltb a b
ltb_suc a b = ap is_le (compare.suc-suc (suc a) b)

-- A test that fails below w and that, once it fails from w on, fails for good: the element at the rank decides whether it holds of some element.
module _ (test : ℕ → Bool) (w : ℕ) (low : (x : ℕ) → x < w → test x ≡ false) (high : (x y : ℕ) → w ≤ x → x < y → test x ≡ false → test y ≡ false) where
  any_rest : (x : ℕ) (xs : List ℕ) → ascending (x ∷ xs) ≡ true → w ≤ x → test x ≡ false → any test xs ≡ false
  unfolding any
  any_rest x [] e h f = refl
  any_rest x (y ∷ ys) e h f =
      let below : x < y = ascending_below x y ys e in
      let fails : test y ≡ false = high x y h below f in
      or_false (test y) _ fails (any_rest y ys (ascending_tail x (y ∷ ys) e) (omega arith) fails)

  pub any_rank : (ws : List ℕ) → ascending ws ≡ true → any test ws ≡ ltb (rank w ws) (length ws) && test (get_or ws (rank w ws) 0)
  unfolding any rank
  any_rank [] e = refl
  any_rank (x ∷ xs) e =
      ⊎_elim
      (λ (b : x < w). rw (rank_cons_below w x xs b, low x b, ltb_suc (rank w xs) (length xs)) (any_rank xs (ascending_tail x xs e)))
      (λ (b : w ≤ x). rw (rank_cons_above w x xs e b, lt-ltb 0 (suc (length xs)) (omega arith)) (at b (test x) refl))
      (below_or_not x w)
    where
      at : w ≤ x → (t : Bool) → test x ≡ t → t || any test xs ≡ t
      at b true q = refl
      at b false q = any_rest x xs e b q

-- A pointer is in an ascending list exactly where it stands at its rank.
pub contains_rank : (w : ℕ) (ws : List ℕ) → ascending ws ≡ true → contains w ws ≡ ltb (rank w ws) (length ws) && eqb (get_or ws (rank w ws) 0) w
unfolding contains
contains_rank w ws e =
    any_rank (λ x. eqb x w) w (λ x b. ne_eqb x w (λ q. omega arith)) (λ x y h l f. ne_eqb y w (λ q. omega arith)) ws e

-- A list that contains w starts with it, if it starts from w on.
pub first_is : (w x : ℕ) (xs : List ℕ) → ascending (x ∷ xs) ≡ true → w ≤ x → contains w (x ∷ xs) ≡ true → eqb x w ≡ true
first_is w x xs e b h =
    and_right (ltb 0 (suc (length xs))) (eqb x w) (rw (rank_cons_above w x xs e b) at (sym (contains_rank w (x ∷ xs) e) ∙ h))

-- A block has pointers of its own exactly where the first pointer from its number × 65,536 on starts there.
pub points_rank : (b : ℕ) (ws : List ℕ) → ascending ws ≡ true
    → points_from b ws ≡ ltb (rank (b * 65536) ws) (length ws) && eqb (source (get_or ws (rank (b * 65536) ws) 0)) b
unfolding points_from
points_rank b ws e =
    any_rank (λ x. eqb (source x) b) (b * 65536)
    (λ x l. ne_eqb (source x) b (λ q. omega arith))
    (λ x y h l f.
    let other : (source x ≡ b → ⊥) = eqb-false (source x) b f in
    ne_eqb (source y) b (λ q. other (omega arith)))
    ws e
