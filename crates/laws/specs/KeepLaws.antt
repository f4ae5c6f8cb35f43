-- Laws of the pointers that a test keeps, with the numbers beside them, and of a table of values.
use Prim.Native.Nat.{ℕ, zero, suc, ◌+◌, ◌≤◌, ◌<◌}
use Rattle.std.proofs.Math.Path.{◌≡◌, refl, ap, subst}
use Rattle.std.proofs.Common.{sym, ◌∙◌, not-suc-le-zero, le_of_suc-le-suc, eq-or-lt_of_le, eqb-true, eq-eqb}
use Rattle.std.proofs.Math.Logic.{⊎_elim}
use Rattle.std.specs.Prelude.{Bool, ◌&&◌, ◌||◌, not, get_or}
use Rattle.std.proofs.Math.Bool.{true, false, cond}
use mathlib.Core.List.{List, [], ◌∷◌}
use native.Mathlib.Omega.{arith}
use Rattle.std.proofs.Math.Dec.{eqb}
use Rattle.std.proofs.Math.ListN.{length, length-append, get_or-append}
use Rattle.std.proofs.lemmas.List.{get_or_at}
use Rattle.card.specs.Lists.{all, any, tabulate}
use Rattle.laws.specs.ListsLaws.{and_left, and_right, and_true, same_test, or_left, or_right, or_cases, or_false_left, or_false_right, absurd_test, all_cons, all_head, all_tail}
use Rattle.card.specs.Pointers.{ascending, contains, beside, total, remove_beside, keep, keep_beside}
use Rattle.laws.specs.BesideLaws.{InStep, ended, onward, in_step_self}
use Rattle.laws.specs.PointersLaws.{contains_all, ascending_cons, ascending_below, ascending_tail, ascending_lower, ascending_absent}

-- ---- what is kept

module _ (t : ℕ → Bool) where
  -- The pointers that are kept and the numbers beside them are in step.
  pub keep_in_step : {ws ns : List ℕ} → InStep ws ns → InStep (keep t ws) (keep_beside t ws ns)
  unfolding keep keep_beside
  keep_in_step ended = ended
  keep_in_step (onward {x = x} {n = n} {xs = xs} {ns = ns} s) = go (t x) (keep_in_step s)
    where
      go : (u : Bool) → InStep (keep t xs) (keep_beside t xs ns) → InStep (cond u (x ∷ keep t xs) (keep t xs)) (cond u (n ∷ keep_beside t xs ns) (keep_beside t xs ns))
      go true i = onward i
      go false i = i

  pub keep_most : (ws : List ℕ) → length (keep t ws) ≤ length ws
  unfolding keep keep_beside
  keep_most [] = omega arith
  keep_most (x ∷ xs) = go (t x) (keep_most xs)
    where
      go : (u : Bool) → length (keep t xs) ≤ length xs → length (cond u (x ∷ keep t xs) (keep t xs)) ≤ suc (length xs)
      go true h = omega arith
      go false h = omega arith

  -- What holds of each number holds of each that is kept.
  pub all_keep_beside : (p : ℕ → Bool) {ws ns : List ℕ} → InStep ws ns → all p ns ≡ true → all p (keep_beside t ws ns) ≡ true
  unfolding keep_beside
  all_keep_beside p ended h = h
  all_keep_beside p (onward {x = x} {n = n} {xs = xs} {ns = ns} s) h = go (t x) (all_keep_beside p s (all_tail p n ns h))
    where
      go : (u : Bool) → all p (keep_beside t xs ns) ≡ true → all p (cond u (n ∷ keep_beside t xs ns) (keep_beside t xs ns)) ≡ true
      go true i = all_cons p n (keep_beside t xs ns) (all_head p n ns h) i
      go false i = i

  pub all_keep : (p : ℕ → Bool) (ws : List ℕ) → all p ws ≡ true → all p (keep t ws) ≡ true
  unfolding keep
  all_keep p ws h = all_keep_beside p (in_step_self ws) h

  -- The test holds of each pointer that is kept.
  pub keep_passes : (ws : List ℕ) → all t (keep t ws) ≡ true
  unfolding keep keep_beside all
  keep_passes [] = refl
  keep_passes (x ∷ xs) = go (t x) refl (keep_passes xs)
    where
      go : (u : Bool) → t x ≡ u → all t (keep t xs) ≡ true → all t (cond u (x ∷ keep t xs) (keep t xs)) ≡ true
      go true e i = all_cons t x (keep t xs) e i
      go false e i = i

  pub keep_contains : (w : ℕ) (ws : List ℕ) → contains w (keep t ws) ≡ true → contains w ws ≡ true
  unfolding keep keep_beside contains any
  keep_contains w [] h = h
  keep_contains w (x ∷ xs) h = go (t x) (keep_contains w xs) h
    where
      go : (u : Bool) → (contains w (keep t xs) ≡ true → contains w xs ≡ true) → contains w (cond u (x ∷ keep t xs) (keep t xs)) ≡ true → eqb x w || contains w xs ≡ true
      go true f e = ⊎_elim (λ i. or_left (eqb x w) _ i) (λ i. or_right (eqb x w) _ (f i)) (or_cases (eqb x w) _ e)
      go false f e = or_right (eqb x w) _ (f e)

  pub contains_keep : (w : ℕ) (ws : List ℕ) → t w ≡ true → contains w ws ≡ true → contains w (keep t ws) ≡ true
  unfolding keep keep_beside contains any
  contains_keep w [] e h = h
  contains_keep w (x ∷ xs) e h = go (t x) refl (contains_keep w xs e) h
    where
      go : (u : Bool) → t x ≡ u → (contains w xs ≡ true → contains w (keep t xs) ≡ true) → eqb x w || contains w xs ≡ true
          → contains w (cond u (x ∷ keep t xs) (keep t xs)) ≡ true
      go true q f i = ⊎_elim (λ j. or_left (eqb x w) _ j) (λ j. or_right (eqb x w) _ (f j)) (or_cases (eqb x w) _ i)
      go false q f i =
          ⊎_elim (λ j. absurd_test (subst (λ (k : ℕ). t k ≡ true) (sym (eqb-true x w j)) e) q) (λ j. f j) (or_cases (eqb x w) _ i)

  pub contains_kept : (w : ℕ) (ws : List ℕ) → contains w (keep t ws) ≡ contains w ws && t w
  contains_kept w ws =
      same_test (contains w (keep t ws)) (contains w ws && t w)
      (λ e. and_true (contains w ws) (t w) (keep_contains w ws e) (contains_all t w (keep t ws) e (keep_passes ws)))
      (λ e. contains_keep w ws (and_right (contains w ws) (t w) e) (and_left (contains w ws) (t w) e))

  -- The numbers that are kept, added up: those beside pointers that pass both tests.
  pub total_keep : (test : ℕ → Bool) {ws ns : List ℕ} → InStep ws ns → total test (keep t ws) (keep_beside t ws ns) ≡ total (λ w. t w && test w) ws ns
  unfolding keep keep_beside total
  total_keep test ended = refl
  total_keep test (onward {x = x} {n = n} {xs = xs} {ns = ns} s) = go (t x) (total_keep test s)
    where
      go : (u : Bool) → total test (keep t xs) (keep_beside t xs ns) ≡ total (λ w. t w && test w) xs ns
          → total test (cond u (x ∷ keep t xs) (keep t xs)) (cond u (n ∷ keep_beside t xs ns) (keep_beside t xs ns)) ≡ cond (u && test x) n 0 + total (λ w. t w && test w) xs ns
      go true e = ap (λ (k : ℕ). cond (test x) n 0 + k) e
      go false e = omega arith

  -- They are at most as many as before.
  pub total_keep_most : (test : ℕ → Bool) {ws ns : List ℕ} → InStep ws ns → total test (keep t ws) (keep_beside t ws ns) ≤ total test ws ns
  unfolding keep keep_beside total
  total_keep_most test ended = omega arith
  total_keep_most test (onward {x = x} {n = n} {xs = xs} {ns = ns} s) = go (t x) (total_keep_most test s)
    where
      go : (u : Bool) → total test (keep t xs) (keep_beside t xs ns) ≤ total test xs ns
          → total test (cond u (x ∷ keep t xs) (keep t xs)) (cond u (n ∷ keep_beside t xs ns) (keep_beside t xs ns)) ≤ cond (test x) n 0 + total test xs ns
      go true e = omega arith
      go false e = omega arith

  -- The number beside a pointer that is kept stays, and one that goes has none.
  pub beside_keep : (w : ℕ) {ws ns : List ℕ} → InStep ws ns → beside w (keep t ws) (keep_beside t ws ns) ≡ cond (t w) (beside w ws ns) 0
  unfolding keep keep_beside beside
  beside_keep w ended = none (t w)
    where
      none : (u : Bool) → ◌≡◌ {A = ℕ} 0 (cond u 0 0)
      none true = refl
      none false = refl
  beside_keep w (onward {x = x} {n = n} {xs = xs} {ns = ns} s) = go (t x) (eqb x w) refl refl (beside_keep w s)
    where
      go : (u v : Bool) → t x ≡ u → eqb x w ≡ v → beside w (keep t xs) (keep_beside t xs ns) ≡ cond (t w) (beside w xs ns) 0
          → beside w (cond u (x ∷ keep t xs) (keep t xs)) (cond u (n ∷ keep_beside t xs ns) (keep_beside t xs ns)) ≡ cond (t w) (cond v n (beside w xs ns)) 0
      go true true e q h = rw (q, subst (λ (k : ℕ). t k ≡ true) (eqb-true x w q) e) refl
      go true false e q h = rw q h
      go false true e q h =
          let gone : t w ≡ false = subst (λ (k : ℕ). t k ≡ false) (eqb-true x w q) e in
          h ∙ rw gone refl
      go false false e q h = h

  keep_above : (x : ℕ) (ws : List ℕ) → ascending (x ∷ ws) ≡ true → ascending (x ∷ keep t ws) ≡ true
  unfolding keep keep_beside
  keep_above x [] e = e
  keep_above x (y ∷ ys) e =
      go (t y) (keep_above y ys (ascending_tail x (y ∷ ys) e))
      (keep_above x ys (ascending_lower x y ys (ascending_below x y ys e) (ascending_tail x (y ∷ ys) e)))
    where
      go : (u : Bool) → ascending (y ∷ keep t ys) ≡ true → ascending (x ∷ keep t ys) ≡ true → ascending (x ∷ cond u (y ∷ keep t ys) (keep t ys)) ≡ true
      go true i j = ascending_cons x y (keep t ys) (ascending_below x y ys e) i
      go false i j = j

  pub keep_ascending : (ws : List ℕ) → ascending ws ≡ true → ascending (keep t ws) ≡ true
  unfolding keep keep_beside
  keep_ascending [] e = e
  keep_ascending (x ∷ xs) e = go (t x) (keep_above x xs e) (keep_ascending xs (ascending_tail x xs e))
    where
      go : (u : Bool) → ascending (x ∷ keep t xs) ≡ true → ascending (keep t xs) ≡ true → ascending (cond u (x ∷ keep t xs) (keep t xs)) ≡ true
      go true i j = i
      go false i j = j

-- ---- two tests

-- Tests that agree on each pointer keep the same.
pub keep_same : (t u : ℕ → Bool) (ws ns : List ℕ) → ((w : ℕ) → contains w ws ≡ true → t w ≡ u w) → keep_beside t ws ns ≡ keep_beside u ws ns
unfolding keep_beside contains any
keep_same t u [] ns f = refl
keep_same t u (x ∷ xs) [] f = refl
keep_same t u (x ∷ xs) (n ∷ ns) f =
    rw (f x (or_left (eqb x x) _ (eq-eqb x x refl)), keep_same t u xs ns (λ w h. f w (or_right (eqb x w) _ h)))

-- Kept by one test and then by another is kept by both.
pub keep_keep : (t u : ℕ → Bool) {ws ns : List ℕ} → InStep ws ns → keep_beside t (keep u ws) (keep_beside u ws ns) ≡ keep_beside (λ w. u w && t w) ws ns
unfolding keep keep_beside
keep_keep t u ended = refl
keep_keep t u (onward {x = x} {n = n} {xs = xs} {ns = ns} s) = go (u x) (keep_keep t u s)
  where
    go : (v : Bool) → keep_beside t (keep u xs) (keep_beside u xs ns) ≡ keep_beside (λ w. u w && t w) xs ns
        → keep_beside t (cond v (x ∷ keep u xs) (keep u xs)) (cond v (n ∷ keep_beside u xs ns) (keep_beside u xs ns))
        ≡ cond (v && t x) (n ∷ keep_beside (λ w. u w && t w) xs ns) (keep_beside (λ w. u w && t w) xs ns)
    go true e = ap (λ (ms : List ℕ). cond (t x) (n ∷ ms) ms) e
    go false e = e

keep_whole : (t : ℕ → Bool) {ws ns : List ℕ} → InStep ws ns → all t ws ≡ true → keep_beside t ws ns ≡ ns
unfolding keep_beside
keep_whole t ended h = refl
keep_whole t (onward {x = x} {n = n} {xs = xs} {ns = ns} s) h = rw (all_head t x xs h, keep_whole t s (all_tail t x xs h))

-- What is not there is none of the list.
absent_all : (w : ℕ) (ws : List ℕ) → contains w ws ≡ false → all (λ x. not (eqb x w)) ws ≡ true
unfolding contains any all
absent_all w [] e = refl
absent_all w (x ∷ xs) e =
    all_cons (λ x. not (eqb x w)) x xs (ap not (or_false_left (eqb x w) _ e)) (absent_all w xs (or_false_right (eqb x w) _ e))

-- In an ascending list a pointer that goes leaves what is not it.
pub remove_keeps : (w : ℕ) {ws ns : List ℕ} → InStep ws ns → ascending ws ≡ true → remove_beside w ws ns ≡ keep_beside (λ x. not (eqb x w)) ws ns
unfolding remove_beside keep_beside
remove_keeps w ended e = refl
remove_keeps w (onward {x = x} {n = n} {xs = xs} {ns = ns} s) e = go (eqb x w) refl (remove_keeps w s (ascending_tail x xs e))
  where
    go : (t : Bool) → eqb x w ≡ t → remove_beside w xs ns ≡ keep_beside (λ x. not (eqb x w)) xs ns
        → cond t ns (n ∷ remove_beside w xs ns) ≡ cond (not t) (n ∷ keep_beside (λ x. not (eqb x w)) xs ns) (keep_beside (λ x. not (eqb x w)) xs ns)
    go true q f =
        let same : x ≡ w = eqb-true x w q in
        sym (keep_whole (λ x. not (eqb x w)) s (absent_all w xs (ascending_absent w x xs (omega arith) e)))
    go false q f = ap (λ (ms : List ℕ). n ∷ ms) f

-- ---- a table of values

module _ (f : ℕ → ℕ) where
  pub tabulate_length : (n : ℕ) → length (tabulate f n) ≡ n
  unfolding tabulate
  tabulate_length zero = refl
  tabulate_length (suc n) = omega (arith, length-append (tabulate f n) (f n ∷ []), tabulate_length n)

  pub tabulate_at : (n i : ℕ) → i < n → get_or (tabulate f n) i 0 ≡ f i
  unfolding tabulate
  tabulate_at zero i l = absurd (not-suc-le-zero l)
  tabulate_at (suc n) i l =
      ⊎_elim
      (λ (e : i ≡ n). rw e (get_or_at (tabulate f n) (f n) [] 0 n (tabulate_length n)))
      (λ (m : i < n). get_or-append (tabulate f n) (f n ∷ []) 0 i (omega (arith, tabulate_length n)) ∙ tabulate_at n i m)
      (eq-or-lt_of_le (le_of_suc-le-suc l))
