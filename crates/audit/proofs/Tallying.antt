-- The walk of the pointers in use: what is left to pass, and what the tally has.
use Prim.Native.Nat.{ℕ, suc, ◌+◌, ◌*◌, ◌≤◌, ◌<◌, zero-le}
use mathlib.Core.Path.{◌≡◌, refl, sym, ◌∙◌}
use mathlib.Core.Logic.{⊎_elim}
use mathlib.Core.Bool.{Bool, true, false, ◌&&◌, cond, and-true}
use mathlib.Core.List.{List, ◌∷◌}
use native.Mathlib.Numerals.{add-one}
use native.Mathlib.Omega.{arith}
use lib.Dec.{eqb, leb}
use lib.ListN.{length, take, drop, get_or, set, replicate, length-set, length-replicate, get_or-replicate, drop_of_length-le}
use lib.Seq.{drop-cons, get_or-set_same, get_or-set_other, get_or-take, length-take-le}
use borrow.Author.Tests.{le-leb, ltb-true, eq-eqb, ne_eqb, eqb-true, eqb-false}
use Rattle.card.specs.Lists.{all}
use Rattle.laws.specs.ListsLaws.{not_cases, and_left, and_right, absurd_test, Holds, every_true}
use Rattle.card.specs.Pointers.{destination, total, pointers_to}
use Rattle.card.specs.Soundness.{multiplicity_right}
use Rattle.card.specs.declared.Info.{Info}
use Rattle.audit.specs.Walks.{PointersFit, link_clauses, link_right, passes, PointersWalked}

-- The pointers from i on, and the numbers beside them, pass exactly when all do, and the tally has those before i.
pub record Tallied (right often : ℕ → Bool) (ws ns tally : List ℕ) (least i : ℕ) : Type 0 where
  pub most : i ≤ length ws
  pub rest : passes right least (drop i ws) && all often (drop i ns) ≡ passes right 0 ws && all often ns
  pub size : length tally ≡ 4096
  pub low : (b : ℕ) → b < 4096 → get_or tally b 0 ≤ i * 65535
  pub tallied : (b : ℕ) → b < 4096 → get_or tally b 0 + pointers_to b (drop i ws) (drop i ns) ≡ pointers_to b ws ns

tallied_none : (right often : ℕ → Bool) (ws ns : List ℕ) → Tallied right often ws ns (replicate 4096 0) 0 0
tallied_none right often ws ns =
    record {
      most = zero-le;
      rest = refl;
      size = length-replicate {A = ℕ} 4096 0;
      low = λ b l. omega (arith, get_or-replicate {A = ℕ} 4096 b 0 0 l);
      tallied = λ b l. omega (arith, get_or-replicate {A = ℕ} 4096 b 0 0 l);
    }

at_most : (t : Bool) (n : ℕ) → cond t n 0 ≤ n
at_most true n = omega arith
at_most false n = omega arith

-- So many more at d.
raised : (tally : List ℕ) (d b n : ℕ) → d < length tally → get_or (set tally d (get_or tally d 0 + n)) b 0 ≡ get_or tally b 0 + cond (eqb d b) n 0
raised tally d b n l =
    ⊎_elim
    (λ (e : eqb d b ≡ true). rw (e, ← eqb-true d b e, get_or-set_same tally d _ 0 l) refl)
    (λ (e : eqb d b ≡ false). rw (e, get_or-set_other tally d b _ 0 (λ q. eqb-false d b e (sym q))) (omega arith))
    (not_cases (eqb d b))

-- Two walks side by side: a fault of one is a fault of both.
either_fault : (t u x y : Bool) → t && u ≡ false → (t && x) && (u && y) ≡ false
either_fault true true x y e = absurd_test {t = true} refl e
either_fault true false true y e = refl
either_fault true false false y e = refl
either_fault false u x y e = refl

module _ {right often : ℕ → Bool} {ws ns tally : List ℕ} {least i : ℕ} (h : Tallied right often ws ns tally least i) where
  module _ (w n : ℕ) (here : drop i ws ≡ w ∷ drop (suc i) ws) (beside : drop i ns ≡ n ∷ drop (suc i) ns) where
    tallied_more : i < length ws → right w && leb least w ≡ true → often n ≡ true → n ≤ 65535 → destination w < 4096
        → Tallied right often ws ns (set tally (destination w) (get_or tally (destination w) 0 + n)) (w + 1) (i + 1)
    unfolding passes all total
    tallied_more l e f high d =
        let long : destination w < length tally = omega (arith, h.size) in
        record {
          most = omega arith;
          rest = rw (add-one i, add-one w) (rw (here, beside, e, f) at h.rest);
          size = length-set tally _ _ ∙ h.size;
          low = λ b m. rw (raised tally (destination w) b n long) (omega (arith, h.low b m, at_most (eqb (destination w) b) n));
          tallied = λ b m. rw (raised tally (destination w) b n long, add-one i) (omega (arith, rw (here, beside) at (h.tallied b m)));
        }

    tallied_fault : (right w && leb least w) && often n ≡ false → passes right 0 ws && all often ns ≡ false
    unfolding passes all
    tallied_fault e = sym (rw (here, beside) at h.rest) ∙ either_fault (right w && leb least w) (often n) _ _ e

  module _ (over : length ws ≤ i) where
    tallied_whole : length ns ≤ i → passes right 0 ws && all often ns ≡ true
    unfolding passes all
    tallied_whole l = sym (rw (drop_of_length-le ws over, drop_of_length-le ns l) at h.rest)

    tallied_counts : (b : ℕ) → b < 4096 → get_or tally b 0 ≡ pointers_to b ws ns
    unfolding total
    tallied_counts b m = omega (arith, rw (drop_of_length-le ws over) at (h.tallied b m))

-- ---- of a card

-- A number of 16 bits is at most the highest multiplicity.
often_enough : (n : ℕ) → n < 65536 → leb 1 n ≡ multiplicity_right n
unfolding multiplicity_right
often_enough n l = sym (rw (le-leb n 65535 (omega arith)) (and-true (leb 1 n)))

abbrev pub TalliedAt : Info → List ℕ → List ℕ → List ℕ → List ℕ → ℕ → ℕ → Type 0
TalliedAt info flags ps ms tally least i =
    Tallied (λ w. link_right info flags w) (λ n. multiplicity_right n) (take info.used ps) (take info.used ms) tally least i

abbrev WalkedAt : Info → List ℕ → List ℕ → List ℕ → List ℕ → ℕ → Type 0
WalkedAt info flags ps ms tally i = PointersWalked info flags (take info.used ps) (take info.used ms) (eqb i info.used) tally

module _ {info : Info} {flags ps ms : List ℕ} (fit : PointersFit info flags ps ms) where
  pub walk_none : (tally : List ℕ) → tally ≡ replicate 4096 0 → TalliedAt info flags ps ms tally 0 0
  walk_none tally e = rw e (tallied_none _ _ _ _)

  module _ (w : ℕ) (r t u : Bool) (q : r ≡ link_right info flags w) (e : r && t && u ≡ true) where
    ends : Holds (link_clauses info flags w)
    unfolding link_right
    ends = every_true (link_clauses info flags w) (sym q ∙ and_left r t (and_left (r && t) u e))

    -- The pointer's destination has a place in the tally.
    pub placed : destination w < 4096
    placed = omega (arith, fit.blocks_high, ltb-true (destination w) info.blocks ends.0)

  -- As many multiplicities are in use as pointers.
  pointers_long : length (take info.used ps) ≡ info.used
  pointers_long = length-take-le info.used ps fit.used_high

  times_long : length (take info.used ms) ≡ info.used
  times_long = length-take-le info.used ms (omega (arith, fit.used_high, fit.has_multiplicities))

  module _ {tally : List ℕ} {least i : ℕ} (h : TalliedAt info flags ps ms tally least i) where
    pub room : (d n : ℕ) → d < 4096 → i < info.used → n < 65536 → get_or tally d 0 + n < 4294967296
    room d n m l k = omega (arith, h.low d m, fit.used_high, fit.places_high)

    module _ (r : Bool) (q : r ≡ link_right info flags (get_or ps i 0)) (l : i < info.used) (k : get_or ms i 0 < 65536) where
      here : (xs : List ℕ) → length (take info.used xs) ≡ info.used → drop i (take info.used xs) ≡ get_or xs i 0 ∷ drop (suc i) (take info.used xs)
      here xs long = rw (← get_or-take info.used xs i 0 l) (drop-cons (take info.used xs) i 0 (omega arith))

      same_tests : r && leb least (get_or ps i 0) && leb 1 (get_or ms i 0) ≡ (link_right info flags (get_or ps i 0) && leb least (get_or ps i 0)) && multiplicity_right (get_or ms i 0)
      same_tests = rw (q, often_enough (get_or ms i 0) k)

      pub walk_more : r && leb least (get_or ps i 0) && leb 1 (get_or ms i 0) ≡ true
          → TalliedAt info flags ps ms (set tally (destination (get_or ps i 0)) (get_or tally (destination (get_or ps i 0)) 0 + get_or ms i 0)) (get_or ps i 0 + 1) (i + 1)
      walk_more e =
          let f = sym same_tests ∙ e in
          tallied_more h (get_or ps i 0) (get_or ms i 0) (here ps pointers_long) (here ms times_long) (omega (arith, pointers_long))
          (and_left _ _ f) (and_right (link_right info flags (get_or ps i 0) && leb least (get_or ps i 0)) _ f) (omega arith)
          (placed (get_or ps i 0) r _ _ q e)

      pub walk_fault : r && leb least (get_or ps i 0) && leb 1 (get_or ms i 0) ≡ false → WalkedAt info flags ps ms tally i
      walk_fault e =
          let f = tallied_fault h (get_or ps i 0) (get_or ms i 0) (here ps pointers_long) (here ms times_long) (sym same_tests ∙ e) in
          rw (ne_eqb i info.used (λ z. omega arith)) (record { passed = sym f; tallied = λ t. absurd_test t refl })

    pub walk_whole : info.used ≤ i → WalkedAt info flags ps ms tally i
    walk_whole l =
        let over : length (take info.used ps) ≤ i = omega (arith, pointers_long) in
        rw (eq-eqb i info.used (omega (arith, h.most, pointers_long)))
        (record { passed = sym (tallied_whole h over (omega (arith, times_long))); tallied = λ t. tallied_counts h over })
