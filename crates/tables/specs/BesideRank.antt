-- Laws of insertion, removal and another number beside ascending pointers, by the rank of a pointer. The pointers themselves are an instance.
use Rattle.std.specs.Prelude.{ℕ, zero, suc, ◌≤◌, ◌<◌, ◌≡◌, refl, Bool, true, ◌||◌, cond, List, [], ◌∷◌, ◌++◌, take, drop, get_or, set}
use Rattle.std.proofs.Common.{ap, subst, le_of_suc-le-suc, not-suc-le-zero, arith, take-append-drop}
use Rattle.std.proofs.Math.Logic.{⊎_elim}
use Rattle.std.proofs.Math.Bool.{false}
use Rattle.std.proofs.Math.Dec.{eqb}
use borrow.Author.Tests.{lt-ltb, le-ltb, ne_eqb, eqb-false}
use Rattle.card.specs.Lists.{any}
use Rattle.laws.specs.ListsLaws.{or_false_left, or_false_right, absurd_test, below_or_not}
use Rattle.card.specs.Pointers.{ascending, contains, beside, insert_beside, remove_beside, set_beside}
use Rattle.laws.specs.PointersLaws.{ascending_tail}
use Rattle.laws.specs.BesideLaws.{InStep, ended, onward}
use Rattle.tables.specs.Places.{insert_at, remove_at}
use Rattle.tables.specs.Rank.{rank}
use Rattle.tables.specs.RankLaws.{rank_cons_below, rank_cons_above, first_is}

pub insert_beside_rank : (w m : ℕ) {ws ns : List ℕ} → InStep ws ns → ascending ws ≡ true → contains w ws ≡ false
    → insert_beside w m ws ns ≡ insert_at (rank w ws) m ns
unfolding insert_beside contains any rank insert_at
insert_beside_rank w m ended e a = refl
insert_beside_rank w m (onward {x = x} {n = n} {xs = xs} {ns = ns} s) e a =
    ⊎_elim
    (λ (b : x < w).
    rw (rank_cons_below w x xs b, le-ltb w x (omega arith))
    (ap (λ (l : List ℕ). n ∷ l) (insert_beside_rank w m s (ascending_tail x xs e) (or_false_right (eqb x w) _ a))))
    (λ (b : w ≤ x).
    let other : (x ≡ w → ⊥) = eqb-false x w (or_false_left (eqb x w) _ a) in
    rw (rank_cons_above w x xs e b, lt-ltb w x (omega arith)))
    (below_or_not x w)

-- By cases on the first pointer of a list that contains w: it is below w, or w itself.
module _ (w x : ℕ) (xs : List ℕ) (e : ascending (x ∷ xs) ≡ true) (h : contains w (x ∷ xs) ≡ true) where
  first_cases : (P : ℕ → Bool → Type 0) → (contains w xs ≡ true → P (suc (rank w xs)) false) → P 0 true → P (rank w (x ∷ xs)) (eqb x w)
  unfolding contains any
  first_cases P later here =
      ⊎_elim
      (λ (b : x < w).
      let other : eqb x w ≡ false = ne_eqb x w (λ q. omega arith) in
      rw (rank_cons_below w x xs b, other) (later (subst (λ (t : Bool). t || contains w xs ≡ true) other h)))
      (λ (b : w ≤ x). rw (rank_cons_above w x xs e b, first_is w x xs e b h) here)
      (below_or_not x w)

pub remove_beside_rank : (w : ℕ) {ws ns : List ℕ} → InStep ws ns → ascending ws ≡ true → contains w ws ≡ true
    → remove_beside w ws ns ≡ remove_at (rank w ws) ns
unfolding remove_beside contains any remove_at
remove_beside_rank w ended e h = absurd_test {t = false} h refl
remove_beside_rank w (onward {x = x} {n = n} {xs = xs} {ns = ns} s) e h =
    first_cases w x xs e h (λ r t. cond t ns (n ∷ remove_beside w xs ns) ≡ take r (n ∷ ns) ++ drop (suc r) (n ∷ ns))
    (λ there. ap (λ (l : List ℕ). n ∷ l) (remove_beside_rank w s (ascending_tail x xs e) there))
    refl

pub set_beside_rank : (w m : ℕ) {ws ns : List ℕ} → InStep ws ns → ascending ws ≡ true → contains w ws ≡ true → set_beside w m ws ns ≡ set ns (rank w ws) m
unfolding set_beside contains any
set_beside_rank w m ended e h = absurd_test {t = false} h refl
set_beside_rank w m (onward {x = x} {n = n} {xs = xs} {ns = ns} s) e h =
    first_cases w x xs e h (λ r t. cond t (m ∷ ns) (n ∷ set_beside w m xs ns) ≡ set (n ∷ ns) r m)
    (λ there. ap (λ (l : List ℕ). n ∷ l) (set_beside_rank w m s (ascending_tail x xs e) there))
    refl

pub beside_rank : (w : ℕ) {ws ns : List ℕ} → InStep ws ns → ascending ws ≡ true → contains w ws ≡ true → beside w ws ns ≡ get_or ns (rank w ws) 0
unfolding beside contains any
beside_rank w ended e h = absurd_test {t = false} h refl
beside_rank w (onward {x = x} {n = n} {xs = xs} {ns = ns} s) e h =
    first_cases w x xs e h (λ r t. cond t n (beside w xs ns) ≡ get_or (n ∷ ns) r 0) (beside_rank w s (ascending_tail x xs e)) refl

-- A store among the first places of a table.
pub set_within : (used i m : ℕ) (ms : List ℕ) → i < used → set (take used ms) i m ++ drop used ms ≡ set ms i m
set_within zero i m ms l = absurd (not-suc-le-zero l)
set_within (suc used) i m [] l = refl
set_within (suc used) zero m (x ∷ ms) l = ap (λ (t : List ℕ). m ∷ t) (take-append-drop used ms)
set_within (suc used) (suc i) m (x ∷ ms) l = ap (λ (t : List ℕ). x ∷ t) (set_within used i m ms (le_of_suc-le-suc l))
