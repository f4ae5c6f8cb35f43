-- The pointers that leave the block at the head of the queue, followed from the last on.
-- Assumes nothing.
use Prim.Native.Nat.{ℕ, ◌+◌, ◌-◌, ◌≤◌, ◌<◌}
use mathlib.Core.Path.{◌≡◌, refl, sym, ap, ◌∙◌, subst}
use mathlib.Core.Logic.{⊎_elim}
use mathlib.Core.List.{List}
use native.Mathlib.Omega.{arith}
use lib.ListN.{length, take, get_or}
use lib.Seq.{get_or-take}
use Rattle.laws.specs.ListsLaws.{below_or_not, same_or_other}
use Rattle.card.specs.Pointers.{destination}
use Rattle.walks.specs.declared.Direction.{Direction}
use Rattle.walks.specs.Walk.{near_end, far_end, Walkable, Edge, last, Linked, mark, Walking, Grown, Followed, Entered}
use Rattle.walks.specs.WalkLaws.{entered_marks, entered_kept, entered_tail, entered_queue, walking_low, walking_room, walking_enter, walking_next, grown_none, grown_enter}
use Rattle.walks.proofs.Linking.{last_most, last_leads, none_behind, in_use, far_low}

-- ---- one block's pointers

-- Those from the place on have been followed; the one before it is the next.
pub record Following (direction : Direction) (shut ws before marks queue : List ℕ) (head tail block at : ℕ) : Type 0 where
  pub walking : Walking (Edge direction shut ws) marks queue head tail
  pub grown : Grown (Edge direction shut ws) before marks
  pub waits : head < tail
  pub is : get_or queue head 0 ≡ block
  pub high : at ≤ length ws
  pub leaves : 1 ≤ at → near_end direction (get_or ws (at - 1) 0) ≡ block
  pub passed : (k : ℕ) → at ≤ k → k < length ws → near_end direction (get_or ws k 0) ≡ block → get_or shut (destination (get_or ws k 0)) 0 ≡ 0
      → mark marks (far_end direction (get_or ws k 0)) ≡ 1

module _ {direction : Direction} {shut ws before marks queue : List ℕ} {head tail block at : ℕ}
    (h : Following direction shut ws before marks queue head tail block at) where
  pub following_whole : at ≡ 0 → Followed (Edge direction shut ws) before marks queue (head + 1) tail
  following_whole e = record {
    walking = walking_next h.walking h.waits
        (λ b f.
        subst (λ (x : ℕ). mark marks x ≡ 1) f.ends (h.passed f.at (omega arith) f.within (f.starts ∙ h.is) f.is_open));
    grown = h.grown;
  }

  -- The pointer at k, just before the place.
  module _ (k : ℕ) (l : at ≡ k + 1) where
    inside : k < length ws
    inside = omega (arith, h.high)

    here : near_end direction (get_or ws k 0) ≡ block
    here = let e : at - 1 ≡ k = omega arith in sym (ap (λ (i : ℕ). near_end direction (get_or ws i 0)) e) ∙ h.leaves (omega arith)

    -- The marked blocks are still marked, and where the pointer may be followed, so is its end.
    following_next : {marks' queue' : List ℕ} {tail' : ℕ}
        → Walking (Edge direction shut ws) marks' queue' head tail' → Grown (Edge direction shut ws) before marks'
        → tail ≤ tail' → get_or queue' head 0 ≡ get_or queue head 0 → ((x : ℕ) → mark marks x ≡ 1 → mark marks' x ≡ 1)
        → (get_or shut (destination (get_or ws k 0)) 0 ≡ 0 → mark marks' (far_end direction (get_or ws k 0)) ≡ 1)
        → Following direction shut ws before marks' queue' head tail' block (last direction ws k block)
    following_next w g t q kept now = record {
      walking = w;
      grown = g;
      waits = omega (arith, h.waits);
      is = q ∙ h.is;
      high = omega (arith, last_most direction ws k block, inside);
      leaves = λ m. last_leads direction ws k block m;
      passed = λ j m n f z.
          ⊎_elim
          (λ (b : j < k). absurd (none_behind direction ws k block j m b f))
          (λ (b : k ≤ j).
          ⊎_elim
          (λ (s : j ≡ k). rw s (now (rw s at z)))
          (λ (s : j ≡ k → ⊥). kept _ (h.passed j (omega arith) n f z))
          (same_or_other j k))
          (below_or_not j k);
    }

    following_open : {marks' queue' : List ℕ} {tail' : ℕ} → far_end direction (get_or ws k 0) < 4096 → get_or shut (destination (get_or ws k 0)) 0 ≡ 0
        → Entered marks queue tail (far_end direction (get_or ws k 0)) marks' queue' tail'
        → Following direction shut ws before marks' queue' head tail' block (last direction ws k block)
    following_open low o r =
        let long : far_end direction (get_or ws k 0) < length marks = omega (arith, h.walking.has_marks) in
        following_next (walking_enter h.walking low r)
        (grown_enter h.grown (h.walking.is_marked head h.waits)
        (record { at = k; within = inside; starts = here ∙ sym h.is; ends = refl; is_open = o }) long r)
        (entered_tail r) (entered_queue r head h.waits) (entered_kept r long) (λ z. entered_marks r long)

    following_shut : (get_or shut (destination (get_or ws k 0)) 0 ≡ 0 → ⊥)
        → Following direction shut ws before marks queue head tail block (last direction ws k block)
    following_shut n = following_next h.walking h.grown (omega arith) refl (λ x e. e) (λ z. absurd (n z))

-- ---- of a table with its links

module _ {pointers : List ℕ} {used : ℕ} (fit : Walkable pointers used) {direction : Direction} {heads nexts : List ℕ}
    (links : Linked direction (take used pointers) heads nexts) where
  -- Before the block's last pointer is followed.
  module _ {shut marks queue : List ℕ} {head tail : ℕ}
      (h : Walking (Edge direction shut (take used pointers)) marks queue head tail) (waits : head < tail) where
    start_is : get_or heads (get_or queue head 0) 0 ≡ last direction (take used pointers) (length (take used pointers)) (get_or queue head 0)
    start_is = links.head (get_or queue head 0) (walking_low h head waits)

    pub start_few : get_or heads (get_or queue head 0) 0 ≤ used
    start_few = omega (arith, start_is, in_use fit, last_most direction (take used pointers) (length (take used pointers)) (get_or queue head 0))

    pub follow_none : Following direction shut (take used pointers) marks marks queue head tail (get_or queue head 0) (get_or heads (get_or queue head 0) 0)
    follow_none = record {
      walking = h;
      grown = grown_none;
      waits = waits;
      is = refl;
      high = omega (arith, start_few, in_use fit);
      leaves = λ m. rw start_is (last_leads direction (take used pointers) (length (take used pointers)) (get_or queue head 0) (rw start_is at m));
      passed = λ k m o f z. absurd (none_behind direction (take used pointers) (length (take used pointers)) (get_or queue head 0) k (rw start_is at m) o f);
    }

  module _ {shut before marks queue : List ℕ} {head tail block at : ℕ}
      (h : Following direction shut (take used pointers) before marks queue head tail block at)
      (more : at ≡ 0 → ⊥) where
    one_more : at ≡ (at - 1) + 1
    one_more = omega arith

    placed : at - 1 < length (take used pointers)
    placed = omega (arith, h.high)

    used_place : at - 1 < used
    used_place = omega (arith, placed, in_use fit)

    same : get_or (take used pointers) (at - 1) 0 ≡ get_or pointers (at - 1) 0
    same = get_or-take used pointers (at - 1) 0 used_place

    next_is : get_or nexts (at - 1) 0 ≡ last direction (take used pointers) (at - 1) block
    next_is = links.next (at - 1) placed ∙ ap (λ (b : ℕ). last direction (take used pointers) (at - 1) b) (here h (at - 1) one_more)

    pub follow_less : get_or nexts (at - 1) 0 < at
    follow_less = omega (arith, next_is, last_most direction (take used pointers) (at - 1) block)

    -- Where the pointer's destination is shut.
    pub follow_shut : (get_or shut (destination (get_or pointers (at - 1) 0)) 0 ≡ 0 → ⊥)
        → Following direction shut (take used pointers) before marks queue head tail block (get_or nexts (at - 1) 0)
    follow_shut n = rw next_is (following_shut h (at - 1) one_more (rw same n))

    -- The block that the pointer leads to.
    module _ {b : ℕ} (e : b ≡ far_end direction (get_or pointers (at - 1) 0)) where
      pub follow_low : b < 4096
      follow_low = far_low fit direction (at - 1) e used_place

      pub follow_room : (mark marks b ≡ 1 → ⊥) → tail < 4096
      follow_room = walking_room h.walking b follow_low

      pub follow_open : {marks' queue' : List ℕ} {tail' : ℕ} → get_or shut (destination (get_or pointers (at - 1) 0)) 0 ≡ 0
          → Entered marks queue tail b marks' queue' tail'
          → Following direction shut (take used pointers) before marks' queue' head tail' block (get_or nexts (at - 1) 0)
      follow_open o r =
          let far : b ≡ far_end direction (get_or (take used pointers) (at - 1) 0) = rw same e in
          rw next_is (following_open h (at - 1) one_more (rw (← far) follow_low) (rw same o) (rw (← far) r))
