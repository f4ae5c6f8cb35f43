-- The nearest number of an ascending list, and the numbers below a bound with one of them removed.
use Prim.Native.Nat.{ℕ, zero, suc, ◌<◌}
use mathlib.Core.Path.{◌≡◌, refl, sym, ap, ◌∙◌, subst}
use mathlib.Core.Logic.{⊎_elim}
use mathlib.Core.Bool.{Bool, true, false, cond}
use mathlib.Core.List.{List, [], ◌∷◌, ◌++◌}
use native.Mathlib.Nat.{not-suc-le-zero, le_of_suc-le-suc, eq-or-lt_of_le}
use native.Mathlib.Omega.{arith}
use lib.Dec.{eqb, ltb}
use borrow.Author.Tests.{lt-ltb, le-ltb, eq-eqb, ne_eqb}
use Rattle.card.specs.Lists.{any, numbers_below}
use Rattle.laws.specs.ListsLaws.{or_left, absurd_test, false_unless, same_or_other, numbers_below_same}
use Rattle.card.specs.Pointers.{ascending, contains, remove, remove_beside}
use Rattle.laws.specs.PointersLaws.{contains_cons, ascending_tail}
use Rattle.card.specs.Calls.{distance, nearest, picks}
use Rattle.laws.specs.NearestLaws.{contains_here, contains_there, contains_rest, first_below, numbers_hold, hold_numbers, IsNearest}

-- ---- the nearest

nearest_stays : (want b : ℕ) (xs : List ℕ) → IsNearest want b xs → nearest want b xs ≡ b
unfolding nearest
nearest_stays want b [] h = refl
nearest_stays want b (x ∷ xs) h =
    rw (le-ltb (distance want x) (distance want b) (h x (contains_here x xs)).0) (nearest_stays want b xs (λ y i. h y (contains_there y x xs i)))

nearest_comes : (want b best : ℕ) (xs : List ℕ) → ascending xs ≡ true → contains b xs ≡ true → distance want b < distance want best → IsNearest want b xs
    → nearest want best xs ≡ b
unfolding nearest contains any
nearest_comes want b best [] a i l h = absurd_test {t = false} i refl
nearest_comes want b best (x ∷ xs) a i l h =
    ⊎_elim
    (λ (e : x ≡ b).
    rw (e, lt-ltb (distance want b) (distance want best) l) (nearest_stays want b xs (λ y j. h y (contains_there y x xs j))))
    (λ (n : x ≡ b → ⊥).
    let later : contains b xs ≡ true = contains_rest b x xs n i in
    let farther : distance want b < distance want x = (h x (contains_here x xs)).1 (first_below x b xs a later) in
    nearest_comes want b (cond (ltb (distance want x) (distance want best)) x best) xs (ascending_tail x xs a) later
    (go (ltb (distance want x) (distance want best)) farther)
    (λ y j. h y (contains_there y x xs j)))
    (same_or_other x b)
  where
    go : (t : Bool) → distance want b < distance want x → distance want b < distance want (cond t x best)
    go true f = f
    go false f = l

-- The nearest block is picked first.
pub picks_nearest : (want m b : ℕ) (free : List ℕ) → ascending free ≡ true → contains b free ≡ true → IsNearest want b free
    → picks want (suc m) free ≡ b ∷ picks want m (remove b free)
unfolding picks contains any
picks_nearest want m b [] a i h = absurd_test {t = false} i refl
picks_nearest want m b (x ∷ xs) a i h =
    ap (λ (best : ℕ). best ∷ picks want m (remove best (x ∷ xs)))
    (⊎_elim
    (λ (e : x ≡ b). rw e (nearest_stays want b xs (λ y j. h y (contains_there y x xs j))))
    (λ (n : x ≡ b → ⊥).
    let later : contains b xs ≡ true = contains_rest b x xs n i in
    nearest_comes want b x xs (ascending_tail x xs a) later ((h x (contains_here x xs)).1 (first_below x b xs a later)) (λ y j. h y (contains_there y x xs j)))
    (same_or_other x b))

-- ---- one of them removed

remove_absent : (b : ℕ) (xs ys : List ℕ) → contains b xs ≡ false → remove b (xs ++ ys) ≡ xs ++ remove b ys
unfolding remove remove_beside
remove_absent b [] ys h = refl
remove_absent b (x ∷ xs) ys h =
    let other : (x ≡ b → ⊥) = λ e. absurd_test (contains_cons b x xs ∙ or_left (eqb x b) _ (eq-eqb x b e)) h in
    rw (ne_eqb x b other)
    (ap (λ (l : List ℕ). x ∷ l) (remove_absent b xs ys (false_unless _ (λ i. absurd_test (contains_there b x xs i) h))))

remove_present : (b : ℕ) (xs ys : List ℕ) → contains b xs ≡ true → remove b (xs ++ ys) ≡ remove b xs ++ ys
unfolding remove remove_beside contains any
remove_present b [] ys h = absurd_test {t = false} h refl
remove_present b (x ∷ xs) ys h =
    ⊎_elim
    (λ (e : x ≡ b). rw (eq-eqb x b e))
    (λ (n : x ≡ b → ⊥). rw (ne_eqb x b n) (ap (λ (l : List ℕ). x ∷ l) (remove_present b xs ys (contains_rest b x xs n h))))
    (same_or_other x b)

-- The last is removed.
remove_last : (b n : ℕ) (xs ys : List ℕ) → b ≡ n → xs ≡ ys → xs ++ remove b (n ∷ []) ≡ ys ++ []
unfolding remove remove_beside
remove_last b n xs ys e s = rw (eq-eqb n b (sym e), s)

-- Without b they are those of a test that fails of b and else agrees.
pub remove_numbers : (p q : ℕ → Bool) (n b : ℕ) → b < n → p b ≡ true → q b ≡ false → ((y : ℕ) → (y ≡ b → ⊥) → p y ≡ q y)
    → remove b (numbers_below p n) ≡ numbers_below q n
unfolding numbers_below
remove_numbers p q zero b l h f same = absurd (not-suc-le-zero l)
remove_numbers p q (suc n) b l h f same =
    ⊎_elim
    (λ (e : b ≡ n).
    let held : p n ≡ true = subst (λ (k : ℕ). p k ≡ true) e h in
    let fails : q n ≡ false = subst (λ (k : ℕ). q k ≡ false) e f in
    let absent : contains b (numbers_below p n) ≡ false =
    false_unless _ (λ i. let low : (b < n) × (p b ≡ true) = numbers_hold p n b i in omega (arith, low.0)) in
    remove_absent b (numbers_below p n) (cond (p n) (n ∷ []) []) absent
    ∙ rw (held, fails) (remove_last b n _ _ e (numbers_below_same p q n (λ i k. same i (λ (g : i ≡ b). omega arith)))))
    (λ (k : b < n).
    remove_present b (numbers_below p n) (cond (p n) (n ∷ []) []) (hold_numbers p n b k h)
    ∙ rw (same n (λ (g : n ≡ b). omega arith), remove_numbers p q n b k h f same))
    (eq-or-lt_of_le (le_of_suc-le-suc l))
