-- Laws of several pointers put into an ascending list with a number beside each: the order of insertion, and the last of the result.
-- What holds of any numbers beside the pointers holds of the pointers themselves.
use Rattle.std.specs.Prelude.{ℕ, zero, suc, ◌+◌, ◌≤◌, ◌<◌, ◌≡◌, refl, Bool, true, false, ◌||◌, cond, List, [], ◌∷◌, ◌++◌, eqb, ltb, length, take, get_or}
use Rattle.std.proofs.Common.{sym, ap, ◌∙◌, ⊎_elim, le_of_suc-le-suc, not-suc-le-zero, arith, lt-ltb, le-ltb, ltb-true}
use Rattle.card.specs.Lists.{all, any}
use Rattle.laws.specs.ListsLaws.{or_left, or_right, or_false, or_false_left, or_false_right, or_cases, all_head, all_tail, all_cons, all_map, absurd_test, below_or_not}
use Rattle.card.specs.Pointers.{ascending, contains, insert, insert_beside}
use Rattle.laws.specs.PointersLaws.{insert_length, ascending_cons, ascending_below, ascending_tail}
use Rattle.laws.specs.BesideLaws.{InStep, ended, onward, in_step, in_step_self, step_length, insert_beside_length}
use Rattle.tables.specs.Merge.{insert_all, insert_all_beside}
use Rattle.tables.specs.RankLaws.{ascending_first}

insert_step : (w m : ℕ) {ws ns : List ℕ} → InStep ws ns → InStep (insert w ws) (insert_beside w m ws ns)
insert_step w m {ws} {ns} s = in_step (insert w ws) (insert_beside w m ws ns) (omega (arith, insert_length w ws, insert_beside_length w m s, step_length s))

pub insert_all_step : (f : ℕ → ℕ) (vs : List ℕ) {ws ns : List ℕ} → InStep ws ns → InStep (insert_all vs ws) (insert_all_beside f vs ws ns)
unfolding insert_all insert_all_beside insert
insert_all_step f [] s = s
insert_all_step f (v ∷ vs) s = insert_step v (f v) (insert_all_step f vs s)

pub insert_all_length : (vs ws : List ℕ) → length (insert_all vs ws) ≡ length vs + length ws
unfolding insert_all insert_all_beside insert
insert_all_length [] ws = omega arith
insert_all_length (v ∷ vs) ws = omega (arith, insert_length v (insert_all vs ws), insert_all_length vs ws)

pub insert_all_beside_length : (f : ℕ → ℕ) (vs : List ℕ) {ws ns : List ℕ} → InStep ws ns → length (insert_all_beside f vs ws ns) ≡ length vs + length ns
insert_all_beside_length f vs {ws} s = omega (arith, step_length (insert_all_step f vs s), insert_all_length vs ws, step_length s)

-- ---- the order of insertion

insert_beside_higher : (v m w k : ℕ) → v < w → {ws ns : List ℕ} → InStep ws ns
    → insert_beside v m (insert w ws) (insert_beside w k ws ns) ≡ insert_beside w k (insert v ws) (insert_beside v m ws ns)
unfolding insert insert_beside
insert_beside_higher v m w k h ended = rw (lt-ltb v w h, le-ltb w v (omega arith))
insert_beside_higher v m w k h (onward {x = x} {n = n} {xs = xs} {ns = ns} s) =
    ⊎_elim
    (λ (a : w < x). rw (lt-ltb w x a, lt-ltb v x (omega arith), lt-ltb v w h, le-ltb w v (omega arith)) (rw (lt-ltb w x a)))
    (λ (a : x ≤ w).
    ⊎_elim
    (λ (b : v < x). rw (le-ltb w x a, lt-ltb v x b, le-ltb w v (omega arith)) (rw (le-ltb w x a)))
    (λ (b : x ≤ v). rw (le-ltb w x a, le-ltb v x b) (rw (le-ltb w x a) (ap (λ (t : List ℕ). n ∷ t) (insert_beside_higher v m w k h s))))
    (below_or_not v x))
    (below_or_not w x)

-- Two pointers, each with its number, can be inserted in either order.
insert_beside_swap : (f : ℕ → ℕ) (v w : ℕ) {ws ns : List ℕ} → InStep ws ns
    → insert_beside v (f v) (insert w ws) (insert_beside w (f w) ws ns) ≡ insert_beside w (f w) (insert v ws) (insert_beside v (f v) ws ns)
insert_beside_swap f v w s =
    ⊎_elim
    (λ (a : v < w). insert_beside_higher v (f v) w (f w) a s)
    (λ (a : w ≤ v).
    ⊎_elim
    (λ (b : w < v). sym (insert_beside_higher w (f w) v (f v) b s))
    (λ (b : v ≤ w). let e : v ≡ w = omega arith in rw e)
    (below_or_not w v))
    (below_or_not v w)

-- A pointer among those inserted can be inserted last.
insert_all_insert : (w : ℕ) (vs ws : List ℕ) → insert_all (insert w vs) ws ≡ insert w (insert_all vs ws)
unfolding insert_all insert_all_beside insert insert_beside
insert_all_insert w [] ws = refl
insert_all_insert w (v ∷ vs) ws = go (ltb w v) (insert_all_insert w vs ws)
  where
    go : (t : Bool) → insert_all (insert w vs) ws ≡ insert w (insert_all vs ws)
        → insert_all (cond t (w ∷ (v ∷ vs)) (v ∷ insert w vs)) ws ≡ insert w (insert v (insert_all vs ws))
    go true e = refl
    go false e = ap (insert v) e ∙ insert_beside_swap (λ x. x) v w (in_step_self (insert_all vs ws))

pub insert_all_beside_insert : (f : ℕ → ℕ) (w : ℕ) (vs : List ℕ) {ws ns : List ℕ} → InStep ws ns
    → insert_all_beside f (insert w vs) ws ns ≡ insert_beside w (f w) (insert_all vs ws) (insert_all_beside f vs ws ns)
unfolding insert_all_beside insert_all insert insert_beside
insert_all_beside_insert f w [] s = refl
insert_all_beside_insert f w (v ∷ vs) {ws} {ns} s = go (ltb w v) (insert_all_beside_insert f w vs s)
  where
    go : (t : Bool) → insert_all_beside f (insert w vs) ws ns ≡ insert_beside w (f w) (insert_all vs ws) (insert_all_beside f vs ws ns)
        → insert_all_beside f (cond t (w ∷ (v ∷ vs)) (v ∷ insert w vs)) ws ns
        ≡ insert_beside w (f w) (insert v (insert_all vs ws)) (insert_beside v (f v) (insert_all vs ws) (insert_all_beside f vs ws ns))
    go true e = refl
    go false e = rw (insert_all_insert w vs ws, e) (insert_beside_swap f v w (insert_all_step f vs s))

insert_all_beside_append : (f : ℕ → ℕ) (us vs ws ns : List ℕ)
    → insert_all_beside f (us ++ vs) ws ns ≡ insert_all_beside f us (insert_all vs ws) (insert_all_beside f vs ws ns)
unfolding insert_all_beside insert_all
insert_all_beside_append f [] vs ws ns = refl
insert_all_beside_append f (u ∷ us) vs ws ns = rw (insert_all_beside_append (λ x. x) us vs ws ws, insert_all_beside_append f us vs ws ns)

-- ---- the last of the result

-- What stands above a pointer that is inserted stays behind it.
insert_beside_above : (v m : ℕ) {ws ns ys ks : List ℕ} → InStep ws ns → InStep ys ks → all (λ y. ltb v y) ys ≡ true
    → insert_beside v m (ws ++ ys) (ns ++ ks) ≡ insert_beside v m ws ns ++ ks
unfolding insert_beside
insert_beside_above v m ended ended h = refl
insert_beside_above v m ended (onward {x = y} {xs = ys} t) h = rw (all_head (λ y. ltb v y) y ys h)
insert_beside_above v m {ys = ys} {ks = ks} (onward {x = x} {n = n} {xs = xs} {ns = ns} s) t h = go (ltb v x) (insert_beside_above v m s t h)
  where
    go : (b : Bool) → insert_beside v m (xs ++ ys) (ns ++ ks) ≡ insert_beside v m xs ns ++ ks
        → cond b (m ∷ (n ∷ (ns ++ ks))) (n ∷ insert_beside v m (xs ++ ys) (ns ++ ks)) ≡ cond b (m ∷ (n ∷ ns)) (n ∷ insert_beside v m xs ns) ++ ks
    go true e = refl
    go false e = ap (λ (l : List ℕ). n ∷ l) e

-- So does what stands above all that are inserted.
pub insert_all_beside_above : (f : ℕ → ℕ) (vs : List ℕ) {ws ns ys ks : List ℕ} → InStep ws ns → InStep ys ks
    → all (λ v. all (λ y. ltb v y) ys) vs ≡ true → insert_all_beside f vs (ws ++ ys) (ns ++ ks) ≡ insert_all_beside f vs ws ns ++ ks
unfolding insert_all_beside insert_all
insert_all_beside_above f [] s t h = refl
insert_all_beside_above f (v ∷ vs) {ws} {ns} {ys} {ks} s t h =
    let rest = all_tail (λ v. all (λ y. ltb v y) ys) v vs h in
    rw (insert_all_beside_above (λ x. x) vs (in_step_self ws) (in_step_self ys) rest, insert_all_beside_above f vs s t rest)
    (insert_beside_above v (f v) (insert_all_step f vs s) t (all_head (λ v. all (λ y. ltb v y) ys) v vs h))

insert_beside_last : (w m : ℕ) {ws ns : List ℕ} → InStep ws ns → all (λ x. ltb x (suc w)) ws ≡ true → insert_beside w m ws ns ≡ ns ++ (m ∷ [])
unfolding insert_beside
insert_beside_last w m ended h = refl
insert_beside_last w m (onward {x = x} {n = n} {xs = xs} {ns = ns} s) h =
    let low : x < suc w = ltb-true x (suc w) (all_head (λ x. ltb x (suc w)) x xs h) in
    rw (le-ltb w x (omega arith)) (ap (λ (t : List ℕ). n ∷ t) (insert_beside_last w m s (all_tail (λ x. ltb x (suc w)) x xs h)))

-- The highest inserted, where no pointer of the list is above it, becomes the last, and its number too.
pub insert_all_beside_last : (f : ℕ → ℕ) (w : ℕ) (vs : List ℕ) {ws ns : List ℕ} → InStep ws ns → all (λ v. ltb v w) vs ≡ true → all (λ x. ltb x (suc w)) ws ≡ true
    → insert_all_beside f (vs ++ (w ∷ [])) ws ns ≡ insert_all_beside f vs ws ns ++ (f w ∷ [])
unfolding insert_all_beside insert_all all
insert_all_beside_last f w vs {ws} {ns} s h g =
    insert_all_beside_append f vs (w ∷ []) ws ns
    ∙ rw (insert_beside_last w w (in_step_self ws) g, insert_beside_last w (f w) s g)
    (insert_all_beside_above f vs s (onward ended)
    (all_map (λ v. ltb v w) (λ v. all (λ y. ltb v y) (w ∷ [])) (λ v e. all_cons (λ y. ltb v y) w [] e refl) vs h))

-- ---- in a list

pub take_absent : (n w : ℕ) (ws : List ℕ) → contains w ws ≡ false → contains w (take n ws) ≡ false
unfolding contains any
take_absent zero w ws e = refl
take_absent (suc n) w [] e = refl
take_absent (suc n) w (x ∷ xs) e = or_false (eqb x w) _ (or_false_left (eqb x w) _ e) (take_absent n w xs (or_false_right (eqb x w) _ e))

-- ---- in an ascending list

pub take_ascending : (n : ℕ) (ws : List ℕ) → ascending ws ≡ true → ascending (take n ws) ≡ true
unfolding ascending
take_ascending zero ws e = refl
take_ascending (suc n) [] e = refl
take_ascending (suc zero) (x ∷ xs) e = refl
take_ascending (suc (suc n)) (x ∷ []) e = refl
take_ascending (suc (suc n)) (x ∷ (y ∷ ys)) e =
    ascending_cons x y (take n ys) (ascending_below x y ys e) (take_ascending (suc n) (y ∷ ys) (ascending_tail x (y ∷ ys) e))

-- Those before a place are below what stands there.
pub before_below : (ws : List ℕ) (i : ℕ) → ascending ws ≡ true → i < length ws → all (λ x. ltb x (get_or ws i 0)) (take i ws) ≡ true
unfolding all
before_below [] i e l = absurd (not-suc-le-zero l)
before_below (x ∷ xs) zero e l = refl
before_below (x ∷ xs) (suc i) e l =
    all_cons (λ x. ltb x (get_or xs i 0)) x (take i xs) (lt-ltb x (get_or xs i 0) (ascending_first x xs e i (le_of_suc-le-suc l)))
    (before_below xs i (ascending_tail x xs e) (le_of_suc-le-suc l))

-- Those up to a place are below what is above the one that stands there.
pub up_to_below : (ws : List ℕ) (i y : ℕ) → ascending ws ≡ true → i < length ws → get_or ws i 0 < y → all (λ x. ltb x y) (take (suc i) ws) ≡ true
unfolding all
up_to_below [] i y e l h = absurd (not-suc-le-zero l)
up_to_below (x ∷ xs) zero y e l h = all_cons (λ x. ltb x y) x [] (lt-ltb x y h) refl
up_to_below (x ∷ xs) (suc i) y e l h =
    let first : x < get_or xs i 0 = ascending_first x xs e i (le_of_suc-le-suc l) in
    all_cons (λ x. ltb x y) x (take (suc i) xs) (lt-ltb x y (omega arith)) (up_to_below xs i y (ascending_tail x xs e) (le_of_suc-le-suc l) h)

-- ---- contains

insert_contains : (v w : ℕ) (ws : List ℕ) → eqb w v || contains v ws ≡ true → contains v (insert w ws) ≡ true
unfolding insert insert_beside contains any
insert_contains v w [] h = h
insert_contains v w (x ∷ xs) h = go (ltb w x) (insert_contains v w xs)
  where
    go : (t : Bool) → (eqb w v || contains v xs ≡ true → contains v (insert w xs) ≡ true) → contains v (cond t (w ∷ (x ∷ xs)) (x ∷ insert w xs)) ≡ true
    go true f = h
    go false f =
        ⊎_elim
        (λ q. or_right (eqb x v) _ (f (or_left (eqb w v) _ q)))
        (λ q. ⊎_elim (λ r. or_left (eqb x v) _ r) (λ r. or_right (eqb x v) _ (f (or_right (eqb w v) _ r))) (or_cases (eqb x v) _ q))
        (or_cases (eqb w v) _ h)

-- What is inserted is then contained.
pub insert_all_contains : (v : ℕ) (vs ws : List ℕ) → contains v vs ≡ true → contains v (insert_all vs ws) ≡ true
unfolding insert_all insert_all_beside insert contains any
insert_all_contains v [] ws h = absurd_test {t = false} h refl
insert_all_contains v (u ∷ us) ws h =
    insert_contains v u (insert_all us ws)
    (⊎_elim (λ q. or_left (eqb u v) _ q) (λ q. or_right (eqb u v) _ (insert_all_contains v us ws q)) (or_cases (eqb u v) _ h))
