-- The tables that the walk begins with: the counts copied, and the first pointer of each block.
use Prim.Native.Nat.{ℕ, ◌+◌, ◌-◌, ◌≤◌, ◌<◌}
use mathlib.Core.Path.{◌≡◌, refl, sym, ap, ◌∙◌}
use mathlib.Core.Logic.{⊎_elim}
use mathlib.Core.List.{List, ◌++◌}
use native.Mathlib.Omega.{arith}
use lib.ListN.{length, take, drop, get_or, set, replicate, length-set, length-replicate, length-append, length-drop, get_or-append}
use lib.Seq.{get_or-append-add, get_or-drop, get_or-set_same, get_or-set_other, get_or-take, length-take-le}
use Rattle.laws.specs.ListsLaws.{same_or_other}
use Rattle.card.specs.Pointers.{source}
use Rattle.walks.specs.Walk.{Walkable}
use Rattle.walks.specs.WalkLaws.{none_marked}
use Rattle.trees.specs.Release.{Copied, Indexed}

-- ---- counts

pub copied_front : {counts left front : List ℕ} → length counts ≤ 4096 → left ≡ replicate 4096 0 → front ≡ counts
    → Copied counts (front ++ drop (length counts) left) (length counts)
copied_front {counts} {left} few e f =
    let long : length left ≡ 4096 = ap length e ∙ length-replicate {A = ℕ} 4096 0 in
    rw f
    (record {
      has_left = simp (length-append, length-drop) (omega arith);
      high = omega arith;
      same = λ b l. get_or-append counts (drop (length counts) left) 0 b l;
      rest = λ b l.
          let there : b ≡ length counts + (b - length counts) = omega arith in
          ap (λ (n : ℕ). get_or (counts ++ drop (length counts) left) n 0) there
          ∙ (get_or-append-add counts (drop (length counts) left) (b - length counts) 0
          ∙ (get_or-drop (length counts) left (b - length counts) 0 ∙ rw e (none_marked 4096 (length counts + (b - length counts)))));
    })

-- ---- the first pointer of each block

pub indexed_none : {pointers first : List ℕ} {used : ℕ} → Walkable pointers used → first ≡ replicate 4096 0 → Indexed (take used pointers) first used
indexed_none {pointers} {first} {used} fit e =
    let long : length (take used pointers) ≡ used = length-take-le used pointers fit.within in
    record {
      has_first = ap length e ∙ length-replicate {A = ℕ} 4096 0;
      high = omega arith;
      few = λ b l. let z : get_or first b 0 ≡ 0 = rw e (none_marked 4096 b) in omega arith;
      before = λ b k l m n. let z : get_or first b 0 ≡ 0 = rw e (none_marked 4096 b) in absurd (omega arith);
      starts = λ b k l m n. absurd (omega arith);
    }

-- The pointer before the place comes to its block.
pub indexed_more : {pointers first : List ℕ} {used at : ℕ} → Walkable pointers used → Indexed (take used pointers) first at → 0 < at
    → Indexed (take used pointers) (set first (source (get_or pointers (at - 1) 0)) (at - 1)) (at - 1)
indexed_more {pointers} {first} {used} {at} fit h more =
    let long : length (take used pointers) ≡ used = length-take-le used pointers fit.within in
    let high : at ≤ length (take used pointers) = h.high in
    let k : ℕ = at - 1 in
    let at_k : k ≡ at - 1 = refl in
    let inside : k < used = omega arith in
    let b : ℕ = source (get_or pointers k 0) in
    let low : b < 4096 = fit.source_low k inside in
    let here : source (get_or (take used pointers) k 0) ≡ b = ap (λ (w : ℕ). source w) (get_or-take used pointers k 0 inside) in
    let put : get_or (set first b k) b 0 ≡ k = get_or-set_same first b k 0 (omega (arith, h.has_first)) in
    let other : (x : ℕ) → (x ≡ b → ⊥) → get_or (set first b k) x 0 ≡ get_or first x 0 = λ x o. get_or-set_other first b x k 0 o in
    record {
      has_first = length-set first b k ∙ h.has_first;
      high = omega arith;
      few = λ x l.
          ⊎_elim
          (λ (q : x ≡ b). rw (q, put) (omega arith))
          (λ (o : x ≡ b → ⊥). rw (other x o) (h.few x l))
          (same_or_other x b);
      before = λ x j l m n s.
          ⊎_elim
          (λ (q : x ≡ b). let z : get_or (set first b k) x 0 ≡ k = rw (q, put) in omega arith)
          (λ (o : x ≡ b → ⊥).
          ⊎_elim
          (λ (q : j ≡ k). o (sym s ∙ ap (λ (i : ℕ). source (get_or (take used pointers) i 0)) q ∙ here))
          (λ (p : j ≡ k → ⊥). h.before x j l (omega arith) (rw (other x o) at n) s)
          (same_or_other j k))
          (same_or_other x b);
      starts = λ x j l m n s.
          ⊎_elim
          (λ (q : x ≡ b). rw (q, put) here)
          (λ (o : x ≡ b → ⊥).
          ⊎_elim
          (λ (q : j ≡ k). absurd (o (sym s ∙ ap (λ (i : ℕ). source (get_or (take used pointers) i 0)) q ∙ here)))
          (λ (p : j ≡ k → ⊥). rw (other x o) (h.starts x j l (omega arith) n s))
          (same_or_other j k))
          (same_or_other x b);
    }
