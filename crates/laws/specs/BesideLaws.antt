-- Laws of numbers that stand beside sorted pointers, place by place.
use Rattle.std.specs.Prelude.{ℕ, suc, ◌+◌, ◌*◌, ◌≤◌, ◌≡◌, refl, Bool, true, false, ◌||◌, not, cond, List, [], ◌∷◌, eqb, ltb, leb, length}
use Rattle.std.proofs.Common.{sym, ap, suc-mul, arith, eqb-true, leb-true}
use Rattle.std.proofs.lemmas.Bool.{not-true}
use Rattle.card.specs.Lists.{all, any}
use Rattle.laws.specs.ListsLaws.{or_false_left, or_false_right, all_cons, all_head, all_tail, absurd_test}
use Rattle.card.specs.Pointers.{contains, insert, remove, beside, total, insert_beside, remove_beside, set_beside}

-- Two lists of one length.
pub data InStep : List ℕ → List ℕ → Type 0 where
  ended : InStep [] []
  onward : {x n : ℕ} {xs ns : List ℕ} → InStep xs ns → InStep (x ∷ xs) (n ∷ ns)

pub in_step : (ws ns : List ℕ) → length ws ≡ length ns → InStep ws ns
in_step [] [] e = ended
in_step [] (n ∷ ns) e = absurd (omega arith)
in_step (w ∷ ws) [] e = absurd (omega arith)
in_step (w ∷ ws) (n ∷ ns) e = onward (in_step ws ns (omega arith))

pub in_step_self : (ws : List ℕ) → InStep ws ws
in_step_self [] = ended
in_step_self (w ∷ ws) = onward (in_step_self ws)

pub step_length : {ws ns : List ℕ} → InStep ws ns → length ws ≡ length ns
step_length ended = refl
step_length (onward s) = ap suc (step_length s)

-- ---- insert

pub insert_beside_length : (w m : ℕ) {ws ns : List ℕ} → InStep ws ns → length (insert_beside w m ws ns) ≡ suc (length ns)
unfolding insert_beside
insert_beside_length w m ended = refl
insert_beside_length w m (onward {x = x} {n = n} {xs = xs} {ns = ns} s) = go (ltb w x) (insert_beside_length w m s)
  where
    go : (t : Bool) → length (insert_beside w m xs ns) ≡ suc (length ns) → length (cond t (m ∷ (n ∷ ns)) (n ∷ insert_beside w m xs ns)) ≡ suc (suc (length ns))
    go true e = refl
    go false e = ap suc e

pub total_insert : (test : ℕ → Bool) (w m : ℕ) {ws ns : List ℕ} → InStep ws ns → total test (insert w ws) (insert_beside w m ws ns) ≡ cond (test w) m 0 + total test ws ns
unfolding insert insert_beside total
total_insert test w m ended = refl
total_insert test w m (onward {x = x} {n = n} {xs = xs} {ns = ns} s) = go (ltb w x) (total_insert test w m s)
  where
    go : (t : Bool) → total test (insert w xs) (insert_beside w m xs ns) ≡ cond (test w) m 0 + total test xs ns
        → total test (cond t (w ∷ (x ∷ xs)) (x ∷ insert w xs)) (cond t (m ∷ (n ∷ ns)) (n ∷ insert_beside w m xs ns))
        ≡ cond (test w) m 0 + (cond (test x) n 0 + total test xs ns)
    go true e = refl
    go false e = omega arith

pub all_insert_beside : (p : ℕ → Bool) (w m : ℕ) {ws ns : List ℕ} → InStep ws ns → p m ≡ true → all p ns ≡ true → all p (insert_beside w m ws ns) ≡ true
unfolding insert_beside
all_insert_beside p w m ended h e = all_cons p m [] h e
all_insert_beside p w m (onward {x = x} {n = n} {xs = xs} {ns = ns} s) h e = go (ltb w x) (all_insert_beside p w m s h (all_tail p n ns e))
  where
    go : (t : Bool) → all p (insert_beside w m xs ns) ≡ true → all p (cond t (m ∷ (n ∷ ns)) (n ∷ insert_beside w m xs ns)) ≡ true
    go true i = all_cons p m (n ∷ ns) h e
    go false i = all_cons p n (insert_beside w m xs ns) (all_head p n ns e) i

-- ---- remove

pub remove_beside_length : (w : ℕ) {ws ns : List ℕ} → InStep ws ns → contains w ws ≡ true → suc (length (remove_beside w ws ns)) ≡ length ns
unfolding remove_beside contains any
remove_beside_length w ended e = absurd_test {t = false} e refl
remove_beside_length w (onward {x = x} {n = n} {xs = xs} {ns = ns} s) e = go (eqb x w) (remove_beside_length w s) e
  where
    go : (t : Bool) → (contains w xs ≡ true → suc (length (remove_beside w xs ns)) ≡ length ns) → t || contains w xs ≡ true
        → suc (length (cond t ns (n ∷ remove_beside w xs ns))) ≡ suc (length ns)
    go true f h = refl
    go false f h = ap suc (f h)

pub total_remove : (test : ℕ → Bool) (w : ℕ) {ws ns : List ℕ} → InStep ws ns → contains w ws ≡ true
    → cond (test w) (beside w ws ns) 0 + total test (remove w ws) (remove_beside w ws ns) ≡ total test ws ns
unfolding remove remove_beside contains any total beside
total_remove test w ended e = absurd_test {t = false} e refl
total_remove test w (onward {x = x} {n = n} {xs = xs} {ns = ns} s) e = go (eqb x w) refl (total_remove test w s) e
  where
    go : (t : Bool) → eqb x w ≡ t → (contains w xs ≡ true → cond (test w) (beside w xs ns) 0 + total test (remove w xs) (remove_beside w xs ns) ≡ total test xs ns)
        → t || contains w xs ≡ true
        → cond (test w) (cond t n (beside w xs ns)) 0 + total test (cond t xs (x ∷ remove w xs)) (cond t ns (n ∷ remove_beside w xs ns))
        ≡ cond (test x) n 0 + total test xs ns
    go true q f h = ap (λ (k : ℕ). cond (test k) n 0 + total test xs ns) (sym (eqb-true x w q))
    go false q f h = let i : cond (test w) (beside w xs ns) 0 + total test (remove w xs) (remove_beside w xs ns) ≡ total test xs ns = f h in omega arith

pub all_remove_beside : (p : ℕ → Bool) (w : ℕ) {ws ns : List ℕ} → InStep ws ns → all p ns ≡ true → all p (remove_beside w ws ns) ≡ true
unfolding remove_beside
all_remove_beside p w ended e = e
all_remove_beside p w (onward {x = x} {n = n} {xs = xs} {ns = ns} s) e = go (eqb x w) (all_remove_beside p w s (all_tail p n ns e))
  where
    go : (t : Bool) → all p (remove_beside w xs ns) ≡ true → all p (cond t ns (n ∷ remove_beside w xs ns)) ≡ true
    go true i = all_tail p n ns e
    go false i = all_cons p n (remove_beside w xs ns) (all_head p n ns e) i

-- ---- another number

pub set_beside_length : (w m : ℕ) {ws ns : List ℕ} → InStep ws ns → length (set_beside w m ws ns) ≡ length ns
unfolding set_beside
set_beside_length w m ended = refl
set_beside_length w m (onward {x = x} {n = n} {xs = xs} {ns = ns} s) = go (eqb x w) (set_beside_length w m s)
  where
    go : (t : Bool) → length (set_beside w m xs ns) ≡ length ns → length (cond t (m ∷ ns) (n ∷ set_beside w m xs ns)) ≡ suc (length ns)
    go true e = refl
    go false e = ap suc e

pub total_set : (test : ℕ → Bool) (w m : ℕ) {ws ns : List ℕ} → InStep ws ns → contains w ws ≡ true
    → cond (test w) (beside w ws ns) 0 + total test ws (set_beside w m ws ns) ≡ cond (test w) m 0 + total test ws ns
unfolding set_beside contains any total beside
total_set test w m ended e = absurd_test {t = false} e refl
total_set test w m (onward {x = x} {n = n} {xs = xs} {ns = ns} s) e = go (eqb x w) refl (total_set test w m s) e
  where
    go : (t : Bool) → eqb x w ≡ t
        → (contains w xs ≡ true → cond (test w) (beside w xs ns) 0 + total test xs (set_beside w m xs ns) ≡ cond (test w) m 0 + total test xs ns)
        → t || contains w xs ≡ true
        → cond (test w) (cond t n (beside w xs ns)) 0 + total test (x ∷ xs) (cond t (m ∷ ns) (n ∷ set_beside w m xs ns))
        ≡ cond (test w) m 0 + (cond (test x) n 0 + total test xs ns)
    go true q f h =
        let same : cond (test x) m 0 ≡ cond (test w) m 0 = ap (λ (k : ℕ). cond (test k) m 0) (eqb-true x w q) in
        let also : cond (test x) n 0 ≡ cond (test w) n 0 = ap (λ (k : ℕ). cond (test k) n 0) (eqb-true x w q) in
        omega arith
    go false q f h =
        let i : cond (test w) (beside w xs ns) 0 + total test xs (set_beside w m xs ns) ≡ cond (test w) m 0 + total test xs ns = f h in omega arith

pub all_set_beside : (p : ℕ → Bool) (w m : ℕ) {ws ns : List ℕ} → InStep ws ns → p m ≡ true → all p ns ≡ true → all p (set_beside w m ws ns) ≡ true
unfolding set_beside
all_set_beside p w m ended h e = e
all_set_beside p w m (onward {x = x} {n = n} {xs = xs} {ns = ns} s) h e = go (eqb x w) (all_set_beside p w m s h (all_tail p n ns e))
  where
    go : (t : Bool) → all p (set_beside w m xs ns) ≡ true → all p (cond t (m ∷ ns) (n ∷ set_beside w m xs ns)) ≡ true
    go true i = all_cons p m ns h (all_tail p n ns e)
    go false i = all_cons p n (set_beside w m xs ns) (all_head p n ns e) i

-- ---- the number beside one pointer

-- What holds of each number holds of the one beside a pointer that is there.
pub beside_all : (p : ℕ → Bool) (w : ℕ) {ws ns : List ℕ} → InStep ws ns → contains w ws ≡ true → all p ns ≡ true → p (beside w ws ns) ≡ true
unfolding beside contains any
beside_all p w ended e h = absurd_test {t = false} e refl
beside_all p w (onward {x = x} {n = n} {xs = xs} {ns = ns} s) e h = go (eqb x w) (λ q. beside_all p w s q (all_tail p n ns h)) e
  where
    go : (t : Bool) → (contains w xs ≡ true → p (beside w xs ns) ≡ true) → t || contains w xs ≡ true → p (cond t n (beside w xs ns)) ≡ true
    go true f q = all_head p n ns h
    go false f q = f q

pub beside_absent : (w : ℕ) (ws ns : List ℕ) → contains w ws ≡ false → beside w ws ns ≡ 0
unfolding beside contains any
beside_absent w [] ns e = refl
beside_absent w (x ∷ xs) [] e = refl
beside_absent w (x ∷ xs) (n ∷ ns) e = rw (or_false_left (eqb x w) _ e) (beside_absent w xs ns (or_false_right (eqb x w) _ e))

-- ---- counts

-- A pointer that passes the test is counted as often as the number beside it says.
pub total_counted : (test : ℕ → Bool) (w : ℕ) {ws ns : List ℕ} → InStep ws ns → contains w ws ≡ true → test w ≡ true → beside w ws ns ≤ total test ws ns
total_counted test w {ws} {ns} s e q =
    let all_of_it : cond (test w) (beside w ws ns) 0 ≡ beside w ws ns = rw q in
    omega (arith, total_remove test w s e)

-- Where the sum is 0 and each number at least 1, no pointer passes the test.
pub uncounted : (test : ℕ → Bool) {ws ns : List ℕ} → InStep ws ns → all (λ n. leb 1 n) ns ≡ true → total test ws ns ≡ 0 → all (λ w. not (test w)) ws ≡ true
unfolding total all
uncounted test ended h e = refl
uncounted test (onward {x = x} {n = n} {xs = xs} {ns = ns} s) h e = go (test x) refl (uncounted test s (all_tail (λ n. leb 1 n) n ns h))
  where
    least : 1 ≤ n
    least = leb-true 1 n (all_head (λ n. leb 1 n) n ns h)

    go : (t : Bool) → test x ≡ t → (total test xs ns ≡ 0 → all (λ w. not (test w)) xs ≡ true) → all (λ w. not (test w)) (x ∷ xs) ≡ true
    go true q f = let z : cond (test x) n 0 ≡ n = rw q in absurd (omega (arith, least))
    go false q f = all_cons (λ w. not (test w)) x xs (ap not q) (f (omega arith))

-- Where the sum is at least 1, some pointer passes the test.
pub total_some : (test : ℕ → Bool) (ws ns : List ℕ) → 1 ≤ total test ws ns → any test ws ≡ true
unfolding total any
total_some test [] ns h = absurd (omega arith)
total_some test (x ∷ xs) [] h = absurd (omega arith)
total_some test (x ∷ xs) (n ∷ ns) h = go (test x) (total_some test xs ns) h
  where
    go : (t : Bool) → (1 ≤ total test xs ns → any test xs ≡ true) → 1 ≤ cond t n 0 + total test xs ns → t || any test xs ≡ true
    go true f e = refl
    go false f e = f (omega arith)

-- Where no pointer passes the test, the sum is 0.
pub total_none : (test : ℕ → Bool) (ws ns : List ℕ) → all (λ w. not (test w)) ws ≡ true → total test ws ns ≡ 0
unfolding total
total_none test [] ns h = refl
total_none test (x ∷ xs) [] h = refl
total_none test (x ∷ xs) (n ∷ ns) h =
    let none : cond (test x) n 0 ≡ 0 = rw (not-true (test x) (all_head (λ w. not (test w)) x xs h)) in
    omega (arith, total_none test xs ns (all_tail (λ w. not (test w)) x xs h))

-- A sum is at most as many times the bound as there are numbers.
pub total_high : (test : ℕ → Bool) (ws ns : List ℕ) (bound : ℕ) → all (λ n. leb n bound) ns ≡ true → total test ws ns ≤ length ns * bound
unfolding total
total_high test [] ns bound h = omega arith
total_high test (x ∷ xs) [] bound h = omega arith
total_high test (x ∷ xs) (n ∷ ns) bound h = go (test x) (total_high test xs ns bound (all_tail (λ n. leb n bound) n ns h))
  where
    low : n ≤ bound
    low = leb-true n bound (all_head (λ n. leb n bound) n ns h)

    more : suc (length ns) * bound ≡ length ns * bound + bound
    more = suc-mul (length ns) bound

    go : (t : Bool) → total test xs ns ≤ length ns * bound → cond t n 0 + total test xs ns ≤ suc (length ns) * bound
    go true e = omega (arith, low, more)
    go false e = omega (arith, more)

-- ---- what a change of one number does to every sum

-- The number beside w is `new` where it was `old`, and nothing else has changed: each sum in which w counts has changed by that.
pub record Moved (w old new : ℕ) (ws ns ws' ns' : List ℕ) : Type 0 where
  pub sums : (test : ℕ → Bool) → cond (test w) old 0 + total test ws' ns' ≡ cond (test w) new 0 + total test ws ns

cond_zero : (t : Bool) → ◌≡◌ {A = ℕ} (cond t 0 0) 0
cond_zero true = refl
cond_zero false = refl

pub moved_insert : (w m : ℕ) {ws ns : List ℕ} → InStep ws ns → Moved w 0 m ws ns (insert w ws) (insert_beside w m ws ns)
moved_insert w m s = record { sums = λ test. omega (arith, cond_zero (test w), total_insert test w m s) }

pub moved_remove : (w : ℕ) {ws ns : List ℕ} → InStep ws ns → contains w ws ≡ true → Moved w (beside w ws ns) 0 ws ns (remove w ws) (remove_beside w ws ns)
moved_remove w s there = record { sums = λ test. omega (arith, cond_zero (test w), total_remove test w s there) }

pub moved_set : (w m : ℕ) {ws ns : List ℕ} → InStep ws ns → contains w ws ≡ true → Moved w (beside w ws ns) m ws ns ws (set_beside w m ws ns)
moved_set w m s there = record { sums = λ test. total_set test w m s there }
