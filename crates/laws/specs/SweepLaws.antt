-- The blocks that a SWEEP takes: waiting, all different, and the lowest that wait.
use Prim.Native.Nat.{ℕ, zero, suc, ◌-◌, ◌<◌}
use Rattle.std.specs.Prelude.{◌≡◌, Bool, not, cond, eqb}
use Rattle.std.proofs.Math.Path.{refl, subst}
use Rattle.std.proofs.Common.{sym, ap, ◌∙◌, arith}
use Rattle.std.proofs.Math.Logic.{⊎_elim}
use Rattle.std.proofs.Math.Bool.{true, false}
use mathlib.Core.List.{List, [], ◌∷◌, ◌++◌}
use Rattle.std.proofs.Math.ListN.{length, take}
use borrow.Author.Tests.{eqb-true}
use Rattle.card.specs.Lists.{all, any, numbers_below}
use Rattle.laws.specs.ListsLaws.{or_cases, absurd_test, same_or_other, all_cons, all_head, all_tail}
use Rattle.card.specs.Pointers.{contains}
use Rattle.laws.specs.NearestLaws.{contains_here, contains_append, contains_left, contains_right}
use Rattle.card.specs.Card.{Public, waiting, waiting_blocks}
use Rattle.card.specs.Lowest.{Lowest}
use Rattle.card.specs.Calls.{lowest_waiting}
use Rattle.laws.specs.Takeable.{Distinct, none, more, Sweepable}
use Rattle.laws.specs.PicksLaws.{numbers_below_all, numbers_below_distinct}

all_take : (q : ℕ → Bool) (n : ℕ) (xs : List ℕ) → all q xs ≡ true → all q (take n xs) ≡ true
unfolding all
all_take q zero xs h = refl
all_take q (suc n) [] h = refl
all_take q (suc n) (x ∷ xs) h = all_cons q x (take n xs) (all_head q x xs h) (all_take q n xs (all_tail q x xs h))

distinct_take : (n : ℕ) {xs : List ℕ} → Distinct xs → Distinct (take n xs)
distinct_take zero d = none
distinct_take (suc n) none = none
distinct_take (suc n) (more {x = x} {xs = xs} w d) = more (all_take (λ y. not (eqb y x)) n xs w) (distinct_take n d)

-- ---- the lowest numbers below a bound of which a test holds

take_append : (n : ℕ) (xs ys : List ℕ) → take n (xs ++ ys) ≡ take n xs ++ take (n - length xs) ys
take_append zero [] ys = refl
take_append zero (x ∷ xs) ys = let none : 0 ≡ 0 - suc (length xs) = omega arith in ap (λ (k : ℕ). take k ys) none
take_append (suc n) [] ys = let whole : suc n ≡ suc n - 0 = omega arith in ap (λ (k : ℕ). take k ys) whole
take_append (suc n) (x ∷ xs) ys =
    let less : n - length xs ≡ suc n - suc (length xs) = omega arith in
    ap (λ (zs : List ℕ). x ∷ zs) (take_append n xs ys ∙ ap (λ (k : ℕ). take n xs ++ take k ys) less)

-- As many as are taken can be taken.
pub take_length : (n : ℕ) (xs : List ℕ) → take (length (take n xs)) xs ≡ take n xs
take_length zero xs = refl
take_length (suc n) [] = refl
take_length (suc n) (x ∷ xs) = ap (λ (zs : List ℕ). x ∷ zs) (take_length n xs)

module _ (test : ℕ → Bool) where
  none_in : (n b : ℕ) → contains b (take n []) ≡ true → ⊥
  unfolding contains any
  none_in zero b h = absurd_test {t = false} h refl
  none_in (suc n) b h = absurd_test {t = false} h refl

  last_in : (n bound b : ℕ) (t : Bool) → test bound ≡ t → contains b (take n (cond t (bound ∷ []) [])) ≡ true → (b ≡ bound) × ((test b ≡ true) × (0 < n))
  unfolding contains any
  last_in n bound b false e h = absurd (none_in n b h)
  last_in zero bound b true e h = absurd_test {t = false} h refl
  last_in (suc n) bound b true e h =
      let same : bound ≡ b = ⊎_elim (λ q. eqb-true bound b q) (λ q. absurd (none_in n b q)) (or_cases (eqb bound b) _ h) in
      (sym same, (subst (λ (k : ℕ). test k ≡ true) same e, omega arith))

  pub taken_lowest : (n bound b : ℕ) → contains b (take n (numbers_below test bound)) ≡ true → Lowest test n bound b
  unfolding numbers_below
  taken_lowest n zero b h = absurd (none_in n b h)
  taken_lowest n (suc bound) b h =
      let xs : List ℕ = numbers_below test bound in
      ⊎_elim
      (λ (i : contains b (take n xs) ≡ true).
      let l = taken_lowest n bound b i in
      record { below = omega (arith, l.below); holds = l.holds; few = l.few })
      (λ (i : contains b (take (n - length xs) (cond (test bound) (bound ∷ []) [])) ≡ true).
      let l = last_in (n - length xs) bound b (test bound) refl i in
      let low : 0 < n - length xs = l.1.1 in
      record {
        below = omega (arith, l.0);
        holds = l.1.0;
        few = subst (λ (k : ℕ). length (numbers_below test k) < n) (sym l.0) (omega arith);
      })
      (contains_append b (take n xs) (take (n - length xs) (cond (test bound) (bound ∷ []) [])) (subst (λ (zs : List ℕ). contains b zs ≡ true) (take_append n xs _) h))

  last_there : (n b : ℕ) (t : Bool) → t ≡ true → 0 < n → contains b (take n (cond t (b ∷ []) [])) ≡ true
  last_there zero b t e l = absurd (omega arith)
  last_there (suc n) b true e l = contains_here b (take n [])
  last_there (suc n) b false e l = absurd_test {t = false} e refl

  pub lowest_taken : (n bound b : ℕ) → Lowest test n bound b → contains b (take n (numbers_below test bound)) ≡ true
  unfolding numbers_below
  lowest_taken n zero b l = absurd (omega (arith, l.below))
  lowest_taken n (suc bound) b l =
      let xs : List ℕ = numbers_below test bound in
      let rest : List ℕ = take (n - length xs) (cond (test bound) (bound ∷ []) []) in
      subst (λ (zs : List ℕ). contains b zs ≡ true) (sym (take_append n xs _))
      (⊎_elim
      (λ (e : b ≡ bound).
      let holds : test bound ≡ true = subst (λ (k : ℕ). test k ≡ true) e l.holds in
      let few : length xs < n = subst (λ (k : ℕ). length (numbers_below test k) < n) e l.few in
      contains_right b (take n xs) rest (subst (λ (k : ℕ). contains k rest ≡ true) (sym e) (last_there (n - length xs) bound (test bound) holds (omega arith))))
      (λ (other : b ≡ bound → ⊥).
      contains_left b (take n xs) rest
      (lowest_taken n bound b (record { below = omega (arith, l.below); holds = l.holds; few = l.few })))
      (same_or_other b bound))

-- ---- the blocks

pub lowest_sweepable : (p : Public) (most : ℕ) → Sweepable p (lowest_waiting p most)
unfolding lowest_waiting waiting_blocks
lowest_sweepable p most = record {
  waiting = all_take (waiting p) most (waiting_blocks p) (numbers_below_all (waiting p) p.info.blocks);
  distinct = distinct_take most (numbers_below_distinct (waiting p) p.info.blocks);
}
