-- What a list of numbers contains, the numbers below a bound of which a test holds, and the nearest number of an ascending list.
use Prim.Native.Nat.{ℕ, zero, suc, ◌≤◌, ◌<◌}
use Rattle.std.specs.Prelude.{◌≡◌, ◌⊎◌, Bool, eqb, ltb, length, get_or}
use Rattle.std.proofs.Math.Path.{refl, subst}
use Rattle.std.proofs.Common.{sym, ◌∙◌, inl, inr, not-suc-le-zero, le_of_suc-le-suc, eq-or-lt_of_le, arith}
use Rattle.std.proofs.Math.Logic.{⊎_elim}
use Rattle.std.proofs.Math.Bool.{true, false, cond}
use mathlib.Core.List.{List, [], ◌∷◌, ◌++◌, append-nil}
use borrow.Author.Tests.{ne_eqb, eqb-true, ltb-true, ltb-false}
use Rattle.card.specs.Lists.{any, numbers_below}
use Rattle.laws.specs.ListsLaws.{or_left, or_right, or_cases, or_else, absurd_test}
use Rattle.card.specs.Pointers.{ascending, contains}
use Rattle.laws.specs.PointersLaws.{contains_cons, ascending_cons, ascending_below, ascending_tail}
use Rattle.card.specs.Calls.{distance, nearest}
pub use Rattle.card.proofs.Computed.TestLaws.{contains_here, contains_there}

-- ---- what a list contains

-- Another element than the first is in the rest.
pub contains_rest : (y x : ℕ) (xs : List ℕ) → (x ≡ y → ⊥) → contains y (x ∷ xs) ≡ true → contains y xs ≡ true
contains_rest y x xs other h = or_else (eqb x y) _ (sym (contains_cons y x xs) ∙ h) (ne_eqb x y other)

-- The place of an element.
pub record Place (ws : List ℕ) (w : ℕ) : Type 0 where
  pub at : ℕ
  pub within : at < length ws
  pub is : get_or ws at 0 ≡ w

pub contains_place : (w : ℕ) (ws : List ℕ) → contains w ws ≡ true → Place ws w
unfolding contains any
contains_place w [] h = absurd_test {t = false} h refl
contains_place w (x ∷ xs) h =
    ⊎_elim
    (λ e. record { at = 0; within = omega arith; is = eqb-true x w e })
    (λ e. let r : Place xs w = contains_place w xs e in record { at = suc r.at; within = omega (arith, r.within); is = r.is })
    (or_cases (eqb x w) _ h)

pub place_contains : (ws : List ℕ) (k : ℕ) → k < length ws → contains (get_or ws k 0) ws ≡ true
place_contains [] k l = absurd (not-suc-le-zero l)
place_contains (x ∷ xs) zero l = contains_here x xs
place_contains (x ∷ xs) (suc k) l = contains_there (get_or xs k 0) x xs (place_contains xs k (le_of_suc-le-suc l))

pub contains_append : (y : ℕ) (xs ys : List ℕ) → contains y (xs ++ ys) ≡ true → (contains y xs ≡ true) ⊎ (contains y ys ≡ true)
contains_append y [] ys h = inr h
contains_append y (x ∷ xs) ys h =
    ⊎_elim
    (λ e. inl (contains_cons y x xs ∙ or_left (eqb x y) _ e))
    (λ e. ⊎_elim (λ i. inl (contains_there y x xs i)) (λ i. inr i) (contains_append y xs ys e))
    (or_cases (eqb x y) _ (sym (contains_cons y x (xs ++ ys)) ∙ h))

pub contains_left : (y : ℕ) (xs ys : List ℕ) → contains y xs ≡ true → contains y (xs ++ ys) ≡ true
unfolding contains any
contains_left y [] ys h = absurd_test {t = false} h refl
contains_left y (x ∷ xs) ys h =
    ⊎_elim (λ e. or_left (eqb x y) _ e) (λ e. or_right (eqb x y) _ (contains_left y xs ys e)) (or_cases (eqb x y) _ h)

pub contains_right : (y : ℕ) (xs ys : List ℕ) → contains y ys ≡ true → contains y (xs ++ ys) ≡ true
contains_right y [] ys h = h
contains_right y (x ∷ xs) ys h = contains_there y x (xs ++ ys) (contains_right y xs ys h)

-- The first of an ascending list is below each later one.
pub first_below : (x y : ℕ) (xs : List ℕ) → ascending (x ∷ xs) ≡ true → contains y xs ≡ true → x < y
unfolding contains any
first_below x y [] a h = absurd_test {t = false} h refl
first_below x y (z ∷ zs) a h =
    let low : x < z = ascending_below x z zs a in
    ⊎_elim
    (λ e. let same : z ≡ y = eqb-true z y e in omega arith)
    (λ e. let later : z < y = first_below z y zs (ascending_tail x (z ∷ zs) a) e in omega arith)
    (or_cases (eqb z y) _ h)

-- ---- the numbers below a bound of which a test holds

single : (t : Bool) (n y : ℕ) → contains y (cond t (n ∷ []) []) ≡ true → (n ≡ y) × (t ≡ true)
unfolding contains any
single true n y h = (⊎_elim (λ e. eqb-true n y e) (λ e. absurd_test {t = false} e refl) (or_cases (eqb n y) false h), refl)
single false n y h = absurd_test {t = false} h refl

module _ (p : ℕ → Bool) where
  pub numbers_hold : (n y : ℕ) → contains y (numbers_below p n) ≡ true → (y < n) × (p y ≡ true)
  unfolding numbers_below contains any
  numbers_hold zero y h = absurd_test {t = false} h refl
  numbers_hold (suc n) y h =
      ⊎_elim
      (λ i. let r : (y < n) × (p y ≡ true) = numbers_hold n y i in (omega (arith, r.0), r.1))
      (λ i.
      let r : (n ≡ y) × (p n ≡ true) = single (p n) n y i in
      (omega (arith, r.0), subst (λ (k : ℕ). p k ≡ true) r.0 r.1))
      (contains_append y (numbers_below p n) (cond (p n) (n ∷ []) []) h)

  pub hold_numbers : (n y : ℕ) → y < n → p y ≡ true → contains y (numbers_below p n) ≡ true
  unfolding numbers_below
  hold_numbers zero y l h = absurd (not-suc-le-zero l)
  hold_numbers (suc n) y l h =
      ⊎_elim
      (λ (e : y ≡ n).
      let t : p n ≡ true = subst (λ (k : ℕ). p k ≡ true) e h in
      contains_right y (numbers_below p n) (cond (p n) (n ∷ []) []) (rw (t, e) (contains_here n [])))
      (λ (k : y < n). contains_left y (numbers_below p n) (cond (p n) (n ∷ []) []) (hold_numbers n y k h))
      (eq-or-lt_of_le (le_of_suc-le-suc l))

  -- A list ends with a number above each of it.
  ascending_end : (n : ℕ) (xs : List ℕ) → ascending xs ≡ true → ((y : ℕ) → contains y xs ≡ true → y < n) → ascending (xs ++ (n ∷ [])) ≡ true
  unfolding ascending
  ascending_end n [] a h = refl
  ascending_end n (x ∷ []) a h = ascending_cons x n [] (h x (contains_here x [])) refl
  ascending_end n (x ∷ (y ∷ ys)) a h =
      ascending_cons x y (ys ++ (n ∷ [])) (ascending_below x y ys a)
      (ascending_end n (y ∷ ys) (ascending_tail x (y ∷ ys) a) (λ z i. h z (contains_there z x (y ∷ ys) i)))

  pub numbers_ascend : (n : ℕ) → ascending (numbers_below p n) ≡ true
  unfolding numbers_below ascending
  numbers_ascend zero = refl
  numbers_ascend (suc n) = go (p n) (numbers_ascend n)
    where
      go : (t : Bool) → ascending (numbers_below p n) ≡ true → ascending (numbers_below p n ++ cond t (n ∷ []) []) ≡ true
      go true a = ascending_end n (numbers_below p n) a (λ y i. (numbers_hold n y i).0)
      go false a = rw append-nil a

-- ---- the nearest number

-- The number is as near as each of the list, and nearer than each lower one.
abbrev pub IsNearest : ℕ → ℕ → List ℕ → Type 0
IsNearest want b xs = (y : ℕ) → contains y xs ≡ true → (distance want b ≤ distance want y) × (y < b → distance want b < distance want y)

-- The nearest of a list is the first of it, or nearer than that.
nearest_first : (want best : ℕ) (xs : List ℕ) → (nearest want best xs ≡ best) ⊎ (distance want (nearest want best xs) < distance want best)
unfolding nearest
nearest_first want best [] = inl refl
nearest_first want best (x ∷ xs) = go (ltb (distance want x) (distance want best)) refl (nearest_first want x xs) (nearest_first want best xs)
  where
    go : (t : Bool) → ltb (distance want x) (distance want best) ≡ t
        → (nearest want x xs ≡ x) ⊎ (distance want (nearest want x xs) < distance want x)
        → (nearest want best xs ≡ best) ⊎ (distance want (nearest want best xs) < distance want best)
        → (nearest want (cond t x best) xs ≡ best) ⊎ (distance want (nearest want (cond t x best) xs) < distance want best)
    go true e i j =
        let nearer : distance want x < distance want best = ltb-true _ _ e in
        inr (⊎_elim (λ (f : nearest want x xs ≡ x). rw f nearer) (λ (f : distance want (nearest want x xs) < distance want x). omega arith) i)
    go false e i j = j

ascending_skip : (x y : ℕ) (ys : List ℕ) → ascending (x ∷ (y ∷ ys)) ≡ true → ascending (x ∷ ys) ≡ true
unfolding ascending
ascending_skip x y [] a = refl
ascending_skip x y (z ∷ zs) a =
    let low : x < y = ascending_below x y (z ∷ zs) a in
    let rest : ascending (y ∷ (z ∷ zs)) ≡ true = ascending_tail x (y ∷ (z ∷ zs)) a in
    ascending_cons x z zs (omega (arith, ascending_below y z zs rest)) (ascending_tail y (z ∷ zs) rest)

-- A lower number before the list leaves the nearest if it is farther; and if it is as near, so does the one behind it.
module _ (want best x : ℕ) (xs : List ℕ) where
  nearest_after : (b : ℕ) → distance want x < distance want best → IsNearest want b (x ∷ xs) → IsNearest want b (best ∷ (x ∷ xs))
  unfolding contains any
  nearest_after b nearer rest y h =
      ⊎_elim
      (λ f.
      let same : best ≡ y = eqb-true best y f in
      let near : distance want b ≤ distance want x = (rest x (contains_here x xs)).0 in
      (rw (← same) (omega arith), λ l. rw (← same) (omega arith)))
      (λ f. rest y f)
      (or_cases (eqb best y) _ h)

  nearest_before : (b : ℕ) → best < x → distance want best ≤ distance want x → (b ≡ best) ⊎ (distance want b < distance want best) → IsNearest want b (best ∷ xs)
      → IsNearest want b (best ∷ (x ∷ xs))
  unfolding contains any
  nearest_before b low farther place rest y h =
      ⊎_elim
      (λ f. rest y (or_left (eqb best y) _ f))
      (λ f.
      ⊎_elim
      (λ g.
      let same : x ≡ y = eqb-true x y g in
      let near : distance want b ≤ distance want best = (rest best (contains_here best xs)).0 in (
        rw (← same) (omega arith),
        λ l.
            ⊎_elim
            (λ (k : b ≡ best). absurd (omega arith))
            (λ (k : distance want b < distance want best). rw (← same) (omega arith))
            place,
      ))
      (λ g. rest y (or_right (eqb best y) _ g))
      (or_cases (eqb x y) _ f))
      (or_cases (eqb best y) _ h)

pub nearest_is : (want best : ℕ) (xs : List ℕ) → ascending (best ∷ xs) ≡ true → IsNearest want (nearest want best xs) (best ∷ xs)
unfolding nearest contains any
nearest_is want best [] a = λ y h.
    ⊎_elim
    (λ e. let same : best ≡ y = eqb-true best y e in (rw same (omega arith), λ (l : y < best). absurd (omega arith)))
    (λ e. absurd_test {t = false} e refl)
    (or_cases (eqb best y) false h)
nearest_is want best (x ∷ xs) a =
    go (ltb (distance want x) (distance want best)) refl (nearest_is want x xs (ascending_tail best (x ∷ xs) a)) (nearest_is want best xs (ascending_skip best x xs a))
  where
    go : (t : Bool) → ltb (distance want x) (distance want best) ≡ t → IsNearest want (nearest want x xs) (x ∷ xs) → IsNearest want (nearest want best xs) (best ∷ xs)
        → IsNearest want (nearest want (cond t x best) xs) (best ∷ (x ∷ xs))
    go true e i j = nearest_after want best x xs (nearest want x xs) (ltb-true _ _ e) i
    go false e i j = nearest_before want best x xs (nearest want best xs) (ascending_below best x xs a) (ltb-false _ _ e) (nearest_first want best xs) j
