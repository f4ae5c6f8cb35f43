-- Laws of sorted lists of pointers.
use Rattle.std.specs.Prelude.{ℕ, suc, ◌+◌, ◌≤◌, ◌<◌, ◌≡◌, refl, ◌⊎◌, Bool, true, false, ◌||◌, not, cond, List, [], ◌∷◌, eqb, ltb, length}
use Rattle.std.proofs.Common.{sym, ap, ◌∙◌, inl, inr, ⊎_elim, arith, lt-ltb, ne_eqb, ltb-true, ltb-false, eqb-true}
use Rattle.std.proofs.lemmas.Bool.{eqb-false}
use Rattle.card.specs.Lists.{all, any}
use Rattle.laws.specs.ListsLaws.{and_left, and_right, and_true, or_left, or_right, or_false, or_false_left, or_false_right, or_cases, all_cons}
use Rattle.card.specs.Pointers.{source, ascending, contains, points_from, beside, total, insert_beside, remove_beside, insert, remove}
use Rattle.laws.specs.BesideLaws.{in_step_self, insert_beside_length, all_insert_beside, remove_beside_length, all_remove_beside}
pub use Rattle.card.proofs.Computed.TestLaws.{all_contains, contains_all, contains_cons, destination_pointer, source_pointer}

-- ---- insert

pub insert_length : (w : ℕ) (ws : List ℕ) → length (insert w ws) ≡ suc (length ws)
unfolding insert
insert_length w ws = insert_beside_length w w (in_step_self ws)

pub all_insert : (p : ℕ → Bool) (w : ℕ) (ws : List ℕ) → p w ≡ true → all p ws ≡ true → all p (insert w ws) ≡ true
unfolding insert
all_insert p w ws h e = all_insert_beside p w w (in_step_self ws) h e

-- What an inserted list contains was there, or is the pointer inserted.
pub contains_insert : (v w : ℕ) (ws : List ℕ) → contains v (insert w ws) ≡ true → (w ≡ v) ⊎ (contains v ws ≡ true)
unfolding insert insert_beside contains any
contains_insert v w [] e = ⊎_elim (λ q. inl (eqb-true w v q)) (λ q. inr q) (or_cases (eqb w v) false e)
contains_insert v w (x ∷ xs) e = go (ltb w x) (contains_insert v w xs) e
  where
    go : (t : Bool) → (contains v (insert w xs) ≡ true → (w ≡ v) ⊎ (contains v xs ≡ true))
        → contains v (cond t (w ∷ (x ∷ xs)) (x ∷ insert w xs)) ≡ true → (w ≡ v) ⊎ (contains v (x ∷ xs) ≡ true)
    go true f h = ⊎_elim (λ q. inl (eqb-true w v q)) (λ q. inr q) (or_cases (eqb w v) _ h)
    go false f h =
        ⊎_elim
        (λ q. inr (or_left (eqb x v) _ q))
        (λ q. ⊎_elim (λ i. inl i) (λ i. inr (or_right (eqb x v) _ i)) (f q))
        (or_cases (eqb x v) _ h)

pub ascending_cons : (x y : ℕ) (ys : List ℕ) → x < y → ascending (y ∷ ys) ≡ true → ascending (x ∷ (y ∷ ys)) ≡ true
unfolding ascending
ascending_cons x y ys h e = and_true (ltb x y) _ (lt-ltb x y h) e

pub ascending_below : (x y : ℕ) (ys : List ℕ) → ascending (x ∷ (y ∷ ys)) ≡ true → x < y
unfolding ascending
ascending_below x y ys e = ltb-true x y (and_left (ltb x y) _ e)

pub ascending_tail : (x : ℕ) (xs : List ℕ) → ascending (x ∷ xs) ≡ true → ascending xs ≡ true
unfolding ascending
ascending_tail x [] e = refl
ascending_tail x (y ∷ ys) e = and_right (ltb x y) _ e

-- In an ascending list that goes on from x, a number above x that is not there is inserted behind x.
insert_above : (x w : ℕ) (ws : List ℕ) → x < w → ascending (x ∷ ws) ≡ true → contains w ws ≡ false → ascending (x ∷ insert w ws) ≡ true
unfolding insert insert_beside contains any ascending
insert_above x w [] h e n = ascending_cons x w [] h refl
insert_above x w (y ∷ ys) h e n = go (ltb w y) refl (insert_above y w ys)
  where
    apart : eqb y w || contains w ys ≡ false
    apart = n

    go : (t : Bool) → ltb w y ≡ t
        → (y < w → ascending (y ∷ ys) ≡ true → contains w ys ≡ false → ascending (y ∷ insert w ys) ≡ true)
        → ascending (x ∷ cond t (w ∷ (y ∷ ys)) (y ∷ insert w ys)) ≡ true
    go true q f = ascending_cons x w (y ∷ ys) h (ascending_cons w y ys (ltb-true w y q) (ascending_tail x (y ∷ ys) e))
    go false q f =
        let le : y ≤ w = ltb-false w y q in
        let ne : (y ≡ w → ⊥) = eqb-false y w (or_false_left (eqb y w) _ apart) in
        ascending_cons x y (insert w ys) (ascending_below x y ys e)
        (f (omega arith) (ascending_tail x (y ∷ ys) e) (or_false_right (eqb y w) _ apart))

pub insert_ascending : (w : ℕ) (ws : List ℕ) → ascending ws ≡ true → contains w ws ≡ false → ascending (insert w ws) ≡ true
unfolding insert insert_beside ascending contains any
insert_ascending w [] e n = refl
insert_ascending w (x ∷ xs) e n = go (ltb w x) refl
  where
    apart : eqb x w || contains w xs ≡ false
    apart = n

    go : (t : Bool) → ltb w x ≡ t → ascending (cond t (w ∷ (x ∷ xs)) (x ∷ insert w xs)) ≡ true
    go true q = ascending_cons w x xs (ltb-true w x q) e
    go false q =
        let le : x ≤ w = ltb-false w x q in
        let ne : (x ≡ w → ⊥) = eqb-false x w (or_false_left (eqb x w) _ apart) in
        insert_above x w xs (omega arith) e (or_false_right (eqb x w) _ apart)

-- ---- remove

pub remove_length : (w : ℕ) (ws : List ℕ) → contains w ws ≡ true → suc (length (remove w ws)) ≡ length ws
unfolding remove
remove_length w ws e = remove_beside_length w (in_step_self ws) e

pub all_remove : (p : ℕ → Bool) (w : ℕ) (ws : List ℕ) → all p ws ≡ true → all p (remove w ws) ≡ true
unfolding remove
all_remove p w ws e = all_remove_beside p w (in_step_self ws) e

pub contains_remove : (v w : ℕ) (ws : List ℕ) → contains v (remove w ws) ≡ true → contains v ws ≡ true
unfolding remove remove_beside contains any
contains_remove v w [] e = e
contains_remove v w (x ∷ xs) e = go (eqb x w) (contains_remove v w xs) e
  where
    go : (t : Bool) → (contains v (remove w xs) ≡ true → contains v xs ≡ true) → contains v (cond t xs (x ∷ remove w xs)) ≡ true → eqb x v || contains v xs ≡ true
    go true f h = or_right (eqb x v) _ h
    go false f h = ⊎_elim (λ q. or_left (eqb x v) _ q) (λ q. or_right (eqb x v) _ (f q)) (or_cases (eqb x v) _ h)

-- What a list contains is still there once a pointer goes, or is that pointer.
pub remove_contains : (v w : ℕ) (ws : List ℕ) → contains v ws ≡ true → (w ≡ v) ⊎ (contains v (remove w ws) ≡ true)
unfolding remove remove_beside contains any
remove_contains v w [] e = inr e
remove_contains v w (x ∷ xs) e = go (eqb x w) refl (remove_contains v w xs) (or_cases (eqb x v) _ e)
  where
    go : (t : Bool) → eqb x w ≡ t → (contains v xs ≡ true → (w ≡ v) ⊎ (contains v (remove w xs) ≡ true)) → (eqb x v ≡ true) ⊎ (contains v xs ≡ true)
        → (w ≡ v) ⊎ (contains v (cond t xs (x ∷ remove w xs)) ≡ true)
    go true q f h = ⊎_elim (λ i. inl (sym (eqb-true x w q) ∙ eqb-true x v i)) (λ i. inr i) h
    go false q f h = ⊎_elim (λ i. inr (or_left (eqb x v) _ i)) (λ i. ⊎_elim (λ j. inl j) (λ j. inr (or_right (eqb x v) _ j)) (f i)) h

-- An ascending list goes on ascending from a lower number.
pub ascending_lower : (x y : ℕ) (ys : List ℕ) → x < y → ascending (y ∷ ys) ≡ true → ascending (x ∷ ys) ≡ true
unfolding ascending
ascending_lower x y [] h e = refl
ascending_lower x y (z ∷ zs) h e =
    let below : y < z = ascending_below y z zs e in
    ascending_cons x z zs (omega arith) (ascending_tail y (z ∷ zs) e)

remove_above : (x w : ℕ) (ws : List ℕ) → ascending (x ∷ ws) ≡ true → ascending (x ∷ remove w ws) ≡ true
unfolding remove remove_beside
remove_above x w [] e = e
remove_above x w (y ∷ ys) e = go (eqb y w) (remove_above y w ys (ascending_tail x (y ∷ ys) e))
  where
    go : (t : Bool) → ascending (y ∷ remove w ys) ≡ true → ascending (x ∷ cond t ys (y ∷ remove w ys)) ≡ true
    go true i = ascending_lower x y ys (ascending_below x y ys e) (ascending_tail x (y ∷ ys) e)
    go false i = ascending_cons x y (remove w ys) (ascending_below x y ys e) i

pub remove_ascending : (w : ℕ) (ws : List ℕ) → ascending ws ≡ true → ascending (remove w ws) ≡ true
unfolding remove remove_beside
remove_ascending w [] e = e
remove_ascending w (x ∷ xs) e = go (eqb x w)
  where
    go : (t : Bool) → ascending (cond t xs (x ∷ remove w xs)) ≡ true
    go true = ascending_tail x xs e
    go false = remove_above x w xs e

-- ---- the number beside one pointer

-- A number is not behind a higher or equal one in an ascending list.
pub ascending_absent : (v x : ℕ) (xs : List ℕ) → v ≤ x → ascending (x ∷ xs) ≡ true → contains v xs ≡ false
unfolding contains any
ascending_absent v x [] l e = refl
ascending_absent v x (y ∷ ys) l e =
    let below : x < y = ascending_below x y ys e in
    or_false (eqb y v) _ (ne_eqb y v (λ (q : y ≡ v). omega arith)) (ascending_absent v y ys (omega arith) (ascending_tail x (y ∷ ys) e))

total_absent : (v : ℕ) (ws ns : List ℕ) → contains v ws ≡ false → total (λ x. eqb x v) ws ns ≡ 0
unfolding total contains any
total_absent v [] ns e = refl
total_absent v (x ∷ xs) [] e = refl
total_absent v (x ∷ xs) (n ∷ ns) e =
    let other : cond (eqb x v) n 0 ≡ 0 = rw (or_false_left (eqb x v) _ e) in
    omega (arith, total_absent v xs ns (or_false_right (eqb x v) _ e))

-- In an ascending list a pointer stands once at most: the numbers beside it, added up, are the one beside it.
pub total_beside : (v : ℕ) (ws ns : List ℕ) → ascending ws ≡ true → total (λ x. eqb x v) ws ns ≡ beside v ws ns
unfolding total beside
total_beside v [] ns e = refl
total_beside v (x ∷ xs) [] e = refl
total_beside v (x ∷ xs) (n ∷ ns) e = go (eqb x v) refl (total_beside v xs ns (ascending_tail x xs e))
  where
    go : (t : Bool) → eqb x v ≡ t → total (λ x. eqb x v) xs ns ≡ beside v xs ns → cond t n 0 + total (λ x. eqb x v) xs ns ≡ cond t n (beside v xs ns)
    go true q f =
        let same : x ≡ v = eqb-true x v q in
        let rest : total (λ x. eqb x v) xs ns ≡ 0 = total_absent v xs ns (ascending_absent v x xs (omega arith) e) in
        omega arith
    go false q f = omega arith

-- ---- sources

-- A block of which no pointer starts: each pointer starts elsewhere.
pub unpointing : (b : ℕ) (ws : List ℕ) → points_from b ws ≡ false → all (λ w. not (eqb (source w) b)) ws ≡ true
unfolding points_from any all
unpointing b [] e = refl
unpointing b (w ∷ ws) e =
    all_cons (λ w. not (eqb (source w) b)) w ws (ap not (or_false_left (eqb (source w) b) _ e))
    (unpointing b ws (or_false_right (eqb (source w) b) _ e))
