-- The filler of a field: its bytes are looked at one after the other.
use Prim.Native.Nat.{ℕ, zero, suc, ◌+◌, ◌-◌, ◌≤◌, ◌<◌}
use mathlib.Core.Path.{◌≡◌, refl, sym, ◌∙◌}
use mathlib.Core.Bool.{Bool, true}
use mathlib.Core.List.{List}
use native.Mathlib.Nat.{not-suc-le-zero}
use native.Mathlib.Omega.{arith}
use lib.ListN.{length, get_or, take, drop, length-drop}
use lib.Seq.{get_or-take, length-take-le}
use borrow.Author.Tests.{eq-eqb, eqb-true}
use Rattle.std.specs.Prelude.{IsTrue, ◌↔◌, EachIndex}
use Rattle.std.proofs.Math.Logic.{⊎_elim}
use Rattle.laws.specs.ListsLaws.{and_true, and_left, and_right, same_test, same_or_other}
use Rattle.fields.specs.Bytes.{zeroed}

all_zeroed : (n : ℕ) (xs : List ℕ) → ((k : ℕ) → k < n → get_or xs k 0 ≡ 0) → zeroed n xs ≡ true
unfolding zeroed
all_zeroed zero xs f = refl
all_zeroed (suc n) xs f = and_true (zeroed n xs) _ (all_zeroed n xs (λ k l. f k (omega arith))) (eq-eqb _ 0 (f n (omega arith)))

zeroed_all : (n : ℕ) (xs : List ℕ) → zeroed n xs ≡ true → (k : ℕ) → k < n → get_or xs k 0 ≡ 0
unfolding zeroed
zeroed_all zero xs e k l = absurd (not-suc-le-zero l)
zeroed_all (suc n) xs e k l =
    ⊎_elim
    (λ (q : k ≡ n). rw q (eqb-true (get_or xs n 0) 0 (and_right (zeroed n xs) _ e)))
    (λ (o : k ≡ n → ⊥). zeroed_all n xs (and_left (zeroed n xs) _ e) k (omega arith))
    (same_or_other k n)

-- A look at each byte tells it.
pub filler_zeroed : (at n : ℕ) (xs : List ℕ) {r : Bool} → at + n ≤ length xs
    → (let part = take (at + n - at) (drop at xs) in IsTrue r ↔ EachIndex part (λ k. get_or part k 0 ≡ 0)) → r ≡ zeroed n (drop at xs)
filler_zeroed at n xs {r} fits told =
    let size : at + n - at ≡ n = omega arith in
    let long : length (take n (drop at xs)) ≡ n = length-take-le n (drop at xs) (omega (arith, length-drop at xs)) in
    let each = rw size at told in
    same_test r (zeroed n (drop at xs))
    (λ e. all_zeroed n (drop at xs) (λ k l. sym (get_or-take n (drop at xs) k 0 l) ∙ each.0 e k (omega arith)))
    (λ e. each.1 (λ k l. get_or-take n (drop at xs) k 0 (omega arith) ∙ zeroed_all n (drop at xs) e k (omega arith)))
