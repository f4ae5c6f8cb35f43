-- The links, one pointer a turn, and what the way along them meets.
-- Assumes nothing.
use Prim.Native.Nat.{ℕ, zero, suc, ◌+◌, ◌-◌, ◌≤◌, ◌<◌}
use mathlib.Core.Path.{◌≡◌, refl, sym, ap, ◌∙◌}
use mathlib.Core.Logic.{⊎_elim}
use mathlib.Core.Bool.{Bool, true, false, cond}
use mathlib.Core.List.{List}
use native.Mathlib.Nat.{not-suc-le-zero}
use native.Mathlib.Numerals.{add-one}
use native.Mathlib.Omega.{arith}
use lib.Dec.{eqb}
use lib.ListN.{length, take, get_or, set, replicate, length-set, length-replicate, get_or-replicate}
use lib.Seq.{get_or-set_same, get_or-set_other, get_or-take, length-take-le}
use borrow.Author.Tests.{eq-eqb, ne_eqb, eqb-true, eqb-false}
use Rattle.laws.specs.ListsLaws.{same_or_other}
use Rattle.walks.specs.declared.Direction.{Direction}
use Rattle.walks.specs.declared.Direction.TheVariants.{Along, Against}
use Rattle.walks.specs.Walk.{near_end, far_end, Walkable, last}

-- ---- the last pointer that leaves a block

module _ (direction : Direction) (ws : List ℕ) where
  last_here : (i b : ℕ) → near_end direction (get_or ws i 0) ≡ b → last direction ws (i + 1) b ≡ i + 1
  unfolding last
  last_here i b e = rw (add-one i) (rw (eq-eqb (near_end direction (get_or ws i 0)) b e))

  last_other : (i b : ℕ) → (near_end direction (get_or ws i 0) ≡ b → ⊥) → last direction ws (i + 1) b ≡ last direction ws i b
  unfolding last
  last_other i b n = rw (add-one i) (rw (ne_eqb (near_end direction (get_or ws i 0)) b n))

  pub last_most : (i b : ℕ) → last direction ws i b ≤ i
  unfolding last
  last_most zero b = omega arith
  last_most (suc i) b = go (eqb (near_end direction (get_or ws i 0)) b) (last_most i b)
    where
      go : (t : Bool) → last direction ws i b ≤ i → cond t (suc i) (last direction ws i b) ≤ suc i
      go true h = omega arith
      go false h = omega arith

  -- It leaves the block, and none behind it does.
  pub last_leads : (i b : ℕ) → 1 ≤ last direction ws i b → near_end direction (get_or ws (last direction ws i b - 1) 0) ≡ b
  unfolding last
  last_leads zero b h = absurd (omega arith)
  last_leads (suc i) b h = go (eqb (near_end direction (get_or ws i 0)) b) refl (last_leads i b) h
    where
      go : (t : Bool) → eqb (near_end direction (get_or ws i 0)) b ≡ t
          → (1 ≤ last direction ws i b → near_end direction (get_or ws (last direction ws i b - 1) 0) ≡ b)
          → 1 ≤ cond t (suc i) (last direction ws i b) → near_end direction (get_or ws (cond t (suc i) (last direction ws i b) - 1) 0) ≡ b
      go true e f l = ap (λ (k : ℕ). near_end direction (get_or ws k 0)) (omega arith) ∙ eqb-true (near_end direction (get_or ws i 0)) b e
      go false e f l = f l

  pub none_behind : (i b k : ℕ) → last direction ws i b ≤ k → k < i → near_end direction (get_or ws k 0) ≡ b → ⊥
  unfolding last
  none_behind zero b k h l e = not-suc-le-zero l
  none_behind (suc i) b k h l e = go (eqb (near_end direction (get_or ws i 0)) b) refl (none_behind i b k) h
    where
      go : (t : Bool) → eqb (near_end direction (get_or ws i 0)) b ≡ t
          → (last direction ws i b ≤ k → k < i → near_end direction (get_or ws k 0) ≡ b → ⊥) → cond t (suc i) (last direction ws i b) ≤ k → ⊥
      go true q f m = omega arith
      go false q f m =
          ⊎_elim
          (λ (s : k ≡ i). eqb-false (near_end direction (get_or ws i 0)) b q (sym (ap (λ (j : ℕ). near_end direction (get_or ws j 0)) s) ∙ e))
          (λ (o : k ≡ i → ⊥). f m (omega arith) e)
          (same_or_other k i)

-- ---- the pointers in use

module _ {pointers : List ℕ} {used : ℕ} (fit : Walkable pointers used) where
  pub in_use : length (take used pointers) ≡ used
  in_use = length-take-le used pointers fit.within

  pub near_low : (direction : Direction) (k : ℕ) {b : ℕ} → b ≡ near_end direction (get_or pointers k 0) → k < used → b < 4096
  near_low Along k e l = omega (arith, fit.source_low k l)
  near_low Against k e l = omega (arith, fit.destination_low k l)

  pub far_low : (direction : Direction) (k : ℕ) {b : ℕ} → b ≡ far_end direction (get_or pointers k 0) → k < used → b < 4096
  far_low Along k e l = omega (arith, fit.destination_low k l)
  far_low Against k e l = omega (arith, fit.source_low k l)

-- ---- the turns of the loop

-- The first i pointers are linked.
pub record Linking (direction : Direction) (ws heads nexts : List ℕ) (i : ℕ) : Type 0 where
  pub has_heads : length heads ≡ 4096
  pub has_nexts : length nexts ≡ 16384
  pub most : i ≤ length ws
  pub head : (b : ℕ) → b < 4096 → get_or heads b 0 ≡ last direction ws i b
  pub next : (k : ℕ) → k < i → get_or nexts k 0 ≡ last direction ws k (near_end direction (get_or ws k 0))

pub linking_none : (direction : Direction) (ws : List ℕ) {heads nexts : List ℕ}
    → heads ≡ replicate 4096 0 → length nexts ≡ 16384 → Linking direction ws heads nexts 0
unfolding last
linking_none direction ws e l = record {
  has_heads = ap length e ∙ length-replicate {A = ℕ} 4096 0;
  has_nexts = l;
  most = omega arith;
  head = λ b m. rw e (get_or-replicate {A = ℕ} 4096 b 0 0 m);
  next = λ k m. absurd (not-suc-le-zero m);
}

module _ {pointers : List ℕ} {used : ℕ} (fit : Walkable pointers used) {direction : Direction} {heads nexts : List ℕ} {i : ℕ}
    (h : Linking direction (take used pointers) heads nexts i) where
  pub linking_more : (block : ℕ) → block ≡ near_end direction (get_or pointers i 0) → i < used
      → Linking direction (take used pointers) (set heads block (i + 1)) (set nexts i (get_or heads block 0)) (i + 1)
  linking_more block e l =
      let same : get_or (take used pointers) i 0 ≡ get_or pointers i 0 = get_or-take used pointers i 0 l in
      let here : near_end direction (get_or (take used pointers) i 0) ≡ block = ap (λ (w : ℕ). near_end direction w) same ∙ sym e in
      let low : block < 4096 = near_low fit direction i e l in
      record {
        has_heads = length-set heads _ _ ∙ h.has_heads;
        has_nexts = length-set nexts _ _ ∙ h.has_nexts;
        most = omega (arith, in_use fit);
        head = λ b m.
            ⊎_elim
            (λ (q : b ≡ block).
            rw (q, get_or-set_same heads block (i + 1) 0 (omega (arith, h.has_heads))) (sym (last_here direction (take used pointers) i block here)))
            (λ (o : b ≡ block → ⊥).
            get_or-set_other heads block b (i + 1) 0 o ∙ h.head b m ∙ sym (last_other direction (take used pointers) i b (λ q. o (sym q ∙ here))))
            (same_or_other b block);
        next = λ k m.
            ⊎_elim
            (λ (q : k ≡ i).
            rw (q, get_or-set_same nexts i (get_or heads block 0) 0 (omega (arith, h.has_nexts, fit.few)), here) (h.head block low))
            (λ (o : k ≡ i → ⊥). get_or-set_other nexts i k _ 0 o ∙ h.next k (omega arith))
            (same_or_other k i);
      }
