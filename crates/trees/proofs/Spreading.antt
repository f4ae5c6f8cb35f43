-- The whole walk from one block on: its start, one turn after the other, and its end.
use Prim.Native.Nat.{ℕ, ◌+◌, ◌≤◌, ◌<◌}
use mathlib.Core.Path.{◌≡◌, refl, sym, ap, ◌∙◌}
use mathlib.Core.Logic.{⊎_elim}
use mathlib.Core.Bool.{Bool, false}
use mathlib.Core.List.{List}
use native.Mathlib.Nat.{not-suc-le-zero}
use native.Mathlib.Omega.{arith}
use lib.Dec.{eqb}
use lib.ListN.{length, take, get_or, replicate}
use lib.Seq.{get_or-take}
use borrow.Author.Tests.{eq-eqb}
use Rattle.laws.specs.ListsLaws.{absurd_test, same_or_other}
use Rattle.card.specs.Pointers.{source, destination, pointers_to}
use Rattle.walks.specs.Walk.{mark, Queued, Walking, Entered}
use Rattle.walks.specs.WalkLaws.{none_marked, walking_none, walking_enter, walking_most, entered_marks, entered_cases, queued_among}
use Rattle.trees.specs.Release.{Releasable, split_total, leads_to, remaining, Orphan, begins, Releasing, Dropped, Loosened, Released}
use Rattle.trees.proofs.Remaining.{split_first, split_none, total_none, leads_gone, leads_elsewhere, leads_none}
use Rattle.trees.proofs.Releasing.{orphan_on, distinct_enter}
use Rattle.trees.proofs.Dropping.{long_in_use, releasable_step}

-- The block is marked, and what is marked goes with it.
pub record Spreading (ws ns left marks queue : List ℕ) (block head tail : ℕ) : Type 0 where
  pub releasing : Releasing ws ns left marks queue head tail 0
  pub begun : mark marks block ≡ 1
  pub only : (b : ℕ) → mark marks b ≡ 1 → Orphan ws (λ x. x ≡ block) b

-- With no block gone each pointer is counted.
remaining_whole : (ws ns queue : List ℕ) (b : ℕ) → remaining ws ns queue 0 0 b ≡ pointers_to b ws ns
unfolding remaining split_total
remaining_whole ws ns queue b =
    split_first (λ w. eqb (destination w) b) (leads_to (take 0 queue) b) 0 ws ns (λ k l m. sym (leads_none b (get_or ws k 0)))

pub spreading_more : {ws ns left marks queue left' marks' queue' : List ℕ} {block head tail tail' : ℕ} → Spreading ws ns left marks queue block head tail
    → Dropped ws ns marks left' marks' queue' (head + 1) tail' 0 → Spreading ws ns left' marks' queue' block (head + 1) tail'
spreading_more {block = block} h d = record {
  releasing = d.releasing;
  begun = d.widened.kept block h.begun;
  only = λ b e. orphan_on h.only (d.widened.only b e);
}

module _ {pointers multiplicities : List ℕ} {used : ℕ} (fit : Releasable pointers multiplicities used) where
  low : (k : ℕ) → k < length (take used pointers) → destination (get_or (take used pointers) k 0) < 4096
  low k l =
      let m : k < used = omega (arith, long_in_use fit) in
      rw (get_or-take used pointers k 0 m) (fit.walkable.destination_low k m)

  -- A pointer is counted.
  some_count : (k : ℕ) → k < length (take used pointers)
      → pointers_to (destination (get_or (take used pointers) k 0)) (take used pointers) (take used multiplicities) ≡ 0 → ⊥
  unfolding split_total
  some_count k l z =
      let d : ℕ = destination (get_or (take used pointers) k 0) in
      let test : ℕ → Bool = λ w. eqb (destination w) d in
      let fails : eqb d d ≡ false = ⊎_elim (λ t. t) (λ t. t) (split_none test test (releasable_step fit) fit.some 0 z k l) in
      absurd_test (eq-eqb d d refl) fails

  pub spreading_none : {left marks queue marks' queue' : List ℕ} {block tail' : ℕ} → Loosened (take used pointers) (take used multiplicities) left block
      → marks ≡ replicate 4096 0 → length queue ≡ 4096 → Entered marks queue 0 block marks' queue' tail'
      → Spreading (take used pointers) (take used multiplicities) left marks' queue' block 0 tail'
  spreading_none {left} {marks} {queue} {marks'} {queue'} {block} g e q r =
      let ws : List ℕ = take used pointers in
      let ns : List ℕ = take used multiplicities in
      let w : Walking (λ a b. ⊥) marks queue 0 0 = walking_none e q in
      let long : block < length marks = omega (arith, w.has_marks, g.low) in
      record {
        releasing = record {
          walking = walking_enter w g.low r;
          distinct = distinct_enter w (λ j k l m. absurd (not-suc-le-zero m)) (omega arith) (λ n. omega arith) r;
          has_left = g.has_left;
          remains = λ b l n.
              g.others b l (λ z. n (ap (λ (x : ℕ). get_or left x 0) z ∙ g.bare)) ∙ sym (remaining_whole ws ns queue' b);
          found = λ k l z.
              ⊎_elim
              (λ (s : destination (get_or ws k 0) ≡ block). rw s (entered_marks r long))
              (λ (o : destination (get_or ws k 0) ≡ block → ⊥). absurd (some_count k l (sym (g.others (destination (get_or ws k 0)) (low k l) o) ∙ z)))
              (same_or_other (destination (get_or ws k 0)) block);
        };
        begun = entered_marks r long;
        only = λ b m.
            ⊎_elim
            (λ (s : b ≡ block). begins s)
            (λ (z : mark marks b ≡ 1). let y : mark marks b ≡ 0 = rw e (none_marked 4096 b) in absurd (omega arith))
            (entered_cases r b m);
      }

  -- With no block left in the queue, a block of which something is left is pointed to from one that is not marked.
  pub spreading_whole : {left marks queue : List ℕ} {block head tail : ℕ} → Spreading (take used pointers) (take used multiplicities) left marks queue block head tail
      → tail ≤ head → Released (take used pointers) marks block tail
  unfolding remaining split_total
  spreading_whole {left} {marks} {queue} {block} {head} {tail} h l =
      let ws : List ℕ = take used pointers in
      let ns : List ℕ = take used multiplicities in
      let r : Releasing ws ns left marks queue head tail 0 = h.releasing in
      let few : head ≤ length queue = omega (arith, r.walking.order, walking_most r.walking, r.walking.has_queue) in
      record {
        has_marks = r.walking.has_marks;
        counted = r.walking.counted;
        begun = h.begun;
        closed = λ k m f.
            let d : ℕ = destination (get_or ws k 0) in
            let nothing : remaining ws ns queue head 0 d ≡ 0 =
            total_none (leads_to (take head queue) d) ws ns
            (λ j n.
            ⊎_elim
            (λ (q : destination (get_or ws j 0) ≡ d).
            let w : Queued queue tail (source (get_or ws j 0)) = r.walking.queued (source (get_or ws j 0)) (f j n q) in
            leads_gone (take head queue) d (get_or ws j 0)
            (queued_among queue head few (source (get_or ws j 0)) (record { at = w.at; low = omega (arith, w.low); is = w.is })))
            (λ (o : destination (get_or ws j 0) ≡ d → ⊥). leads_elsewhere (take head queue) d (get_or ws j 0) o)
            (same_or_other (destination (get_or ws j 0)) d)) in
            r.found k m
            (⊎_elim
            (λ (z : get_or left (destination (get_or ws k 0)) 0 ≡ 0). z)
            (λ (o : get_or left (destination (get_or ws k 0)) 0 ≡ 0 → ⊥). absurd (o (r.remains d (low k m) o ∙ nothing)))
            (same_or_other (get_or left (destination (get_or ws k 0)) 0) 0));
        only = h.only;
      }
