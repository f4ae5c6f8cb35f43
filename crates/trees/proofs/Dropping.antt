-- One turn of the walk: the pointers of the block at the head, taken off one after the other.
use Prim.Native.Nat.{ℕ, zero, suc, ◌+◌, ◌-◌, ◌≤◌, ◌<◌}
use mathlib.Core.Path.{◌≡◌, refl, sym, ap, ◌∙◌, subst}
use mathlib.Core.Logic.{⊎_elim}
use mathlib.Core.Bool.{true}
use mathlib.Core.List.{List, [], ◌∷◌}
use native.Mathlib.Nat.{le_of_suc-le-suc, not-suc-le-zero}
use native.Mathlib.Omega.{arith}
use lib.Dec.{leb}
use lib.ListN.{length, take, get_or, set, length-set}
use lib.Seq.{get_or-set_same, get_or-set_other, get_or-take, length-take-le}
use Rattle.card.specs.Lists.{all}
use Rattle.laws.specs.ListsLaws.{same_or_other}
use Rattle.card.specs.Pointers.{source, destination, ascending}
use Rattle.laws.specs.PointersLaws.{ascending_tail}
use Rattle.laws.specs.BesideLaws.{InStep}
use Rattle.laws.specs.ChangesLaws.{used_in_step}
use Rattle.tables.specs.RankLaws.{ascending_first}
use Rattle.walks.specs.Walk.{mark, Queued, Walking}
use Rattle.walks.specs.WalkLaws.{walking_most, walking_low, walking_room, walking_enter, walking_next, entered_marks, entered_kept, entered_tail, entered_queue, among_queued}
use Rattle.trees.specs.Release.{Indexed, Releasable, remaining, Orphan, begins, cut, Releasing, Widened, Dropped, Lost, none, fewer, last}
use Rattle.trees.proofs.Releasing.{widened_none, widened_on, widened_enter, distinct_enter, remaining_start, remaining_end, remaining_none, remaining_here, remaining_other, remaining_enter}

-- In an ascending list a pointer is below each later one.
ascending_at : (ws : List ℕ) → ascending ws ≡ true → (i k : ℕ) → i < k → k < length ws → get_or ws i 0 < get_or ws k 0
ascending_at [] e i k l m = absurd (not-suc-le-zero m)
ascending_at (x ∷ xs) e i zero l m = absurd (not-suc-le-zero l)
ascending_at (x ∷ xs) e zero (suc k) l m = ascending_first x xs e k (le_of_suc-le-suc m)
ascending_at (x ∷ xs) e (suc i) (suc k) l m = ascending_at xs (ascending_tail x xs e) i k (le_of_suc-le-suc l) (le_of_suc-le-suc m)

-- The block's pointers before the place are taken off. If it has one from there on, it is the one at the place.
pub record Dropping (ws ns before left marks queue : List ℕ) (head tail block at : ℕ) : Type 0 where
  pub dropped : Dropped ws ns before left marks queue head tail at
  pub waits : head < tail
  pub is : get_or queue head 0 ≡ block
  pub high : at ≤ length ws
  pub next : (k : ℕ) → at ≤ k → k < length ws → source (get_or ws k 0) ≡ block → source (get_or ws at 0) ≡ block

-- ---- the ends of the turn

-- Only what remains is counted in another way.
releasing_again : {ws ns left marks queue : List ℕ} {head tail at head' at' : ℕ} → Releasing ws ns left marks queue head tail at
    → Walking (λ a b. ⊥) marks queue head' tail → ((b : ℕ) → remaining ws ns queue head at b ≡ remaining ws ns queue head' at' b)
    → Releasing ws ns left marks queue head' tail at'
releasing_again h w f = record {
  walking = w;
  distinct = h.distinct;
  has_left = h.has_left;
  remains = λ b l n. h.remains b l n ∙ f b;
  found = h.found;
}

pub dropping_none : {ws ns left marks queue first : List ℕ} {head tail : ℕ} → Releasing ws ns left marks queue head tail 0 → head < tail → Indexed ws first 0
    → Dropping ws ns marks left marks queue head tail (get_or queue head 0) (get_or first (get_or queue head 0) 0)
dropping_none {queue = queue} {first = first} {head = head} h l i =
    let block : ℕ = get_or queue head 0 in
    let low : block < 4096 = walking_low h.walking head l in
    record {
      dropped = record {
        releasing = releasing_again h h.walking (λ b. remaining_start h l (get_or first block 0) b (λ k m n e. i.before block k low (omega arith) m e));
        widened = widened_none;
      };
      waits = l;
      is = refl;
      high = i.few block low;
      next = λ k m n e. i.starts block k low (omega arith) n e;
    }

module _ {ws ns before left marks queue : List ℕ} {head tail block at : ℕ} (h : Dropping ws ns before left marks queue head tail block at) where
  pub dropping_whole : (at < length ws → source (get_or ws at 0) ≡ block → ⊥) → Dropped ws ns before left marks queue (head + 1) tail 0
  dropping_whole f = record {
    releasing = releasing_again h.dropped.releasing (walking_next h.dropped.releasing.walking h.waits (λ b e. absurd e))
        (λ b. remaining_end h.dropped.releasing h.waits at b (λ k l m e. f (omega arith) (h.next k l m (e ∙ h.is))));
    widened = h.dropped.widened;
  }

  -- ---- one pointer

  module _ (s : InStep ws ns) (some : all (λ n. leb 1 n) ns ≡ true) (ascends : ascending ws ≡ true)
      (l : at < length ws) (e : source (get_or ws at 0) ≡ block) (low : destination (get_or ws at 0) < 4096) where
    r : Releasing ws ns left marks queue head tail at
    r = h.dropped.releasing

    own : source (get_or ws at 0) ≡ get_or queue head 0
    own = e ∙ sym h.is

    here : remaining ws ns queue head at (destination (get_or ws at 0)) ≡ remaining ws ns queue head (at + 1) (destination (get_or ws at 0)) + get_or ns at 0
    here = remaining_here r h.waits s at l own

    pub dropping_enough : (get_or left (destination (get_or ws at 0)) 0 ≡ 0 → ⊥) → get_or ns at 0 ≤ get_or left (destination (get_or ws at 0)) 0
    dropping_enough n = omega (arith, r.remains (destination (get_or ws at 0)) low n, here)

    -- The next pointer of the block, if there is one, follows this one.
    next_here : (k : ℕ) → at + 1 ≤ k → k < length ws → source (get_or ws k 0) ≡ block → source (get_or ws (at + 1) 0) ≡ block
    next_here k m n q =
        let first : get_or ws at 0 < get_or ws (at + 1) 0 = ascending_at ws ascends at (at + 1) (omega arith) (omega arith) in
        ⊎_elim
        (λ (z : at + 1 ≡ k). rw z q)
        (λ (o : at + 1 ≡ k → ⊥).
        let later : get_or ws (at + 1) 0 < get_or ws k 0 = ascending_at ws ascends (at + 1) k (omega arith) n in
        omega arith)
        (same_or_other (at + 1) k)

    -- What is left once the pointer is taken off.
    module _ (n : get_or left (destination (get_or ws at 0)) 0 ≡ 0 → ⊥) where
      left' : List ℕ
      left' = set left (destination (get_or ws at 0)) (get_or left (destination (get_or ws at 0)) 0 - get_or ns at 0)

      less : get_or left' (destination (get_or ws at 0)) 0 ≡ get_or left (destination (get_or ws at 0)) 0 - get_or ns at 0
      unfolding left'
      less = get_or-set_same left (destination (get_or ws at 0)) _ 0 (omega (arith, r.has_left))

      other_left : (b : ℕ) → (b ≡ destination (get_or ws at 0) → ⊥) → get_or left' b 0 ≡ get_or left b 0
      unfolding left'
      other_left b o = get_or-set_other left (destination (get_or ws at 0)) b _ 0 o

      rest : get_or left (destination (get_or ws at 0)) 0 - get_or ns at 0 ≡ remaining ws ns queue head (at + 1) (destination (get_or ws at 0))
      rest = omega (arith, r.remains (destination (get_or ws at 0)) low n, here)

      remains_less : (b : ℕ) → b < 4096 → (get_or left' b 0 ≡ 0 → ⊥) → get_or left' b 0 ≡ remaining ws ns queue head (at + 1) b
      remains_less b m z =
          ⊎_elim
          (λ (q : b ≡ destination (get_or ws at 0)). rw q (less ∙ rest))
          (λ (o : b ≡ destination (get_or ws at 0) → ⊥).
          other_left b o ∙ r.remains b m (λ y. z (other_left b o ∙ y)) ∙ remaining_other r h.waits s at l own b o)
          (same_or_other b (destination (get_or ws at 0)))

      -- A block of which nothing is left goes with the marked ones.
      goes : get_or left (destination (get_or ws at 0)) 0 - get_or ns at 0 ≡ 0 → Orphan ws (λ x. mark marks x ≡ 1) (destination (get_or ws at 0))
      goes z =
          cut at l
          (λ j m q.
          let few : head + 1 ≤ length queue = omega (arith, h.waits, walking_most r.walking, r.walking.has_queue) in
          let w : Queued queue (head + 1) (source (get_or ws j 0)) =
          among_queued queue (head + 1) few (source (get_or ws j 0)) (remaining_none r h.waits s some (at + 1) (destination (get_or ws at 0)) (sym rest ∙ z) j m q) in
          begins (subst (λ (x : ℕ). mark marks x ≡ 1) w.is (r.walking.is_marked w.at (omega (arith, w.low, h.waits)))))

    -- The turn goes on with other tables.
    dropping_with : {left'' marks' queue' : List ℕ} {tail' : ℕ} → Releasing ws ns left'' marks' queue' head tail' (at + 1) → Widened ws marks marks'
        → tail ≤ tail' → get_or queue' head 0 ≡ get_or queue head 0 → Dropping ws ns before left'' marks' queue' head tail' block (at + 1)
    dropping_with a w t q = record {
      dropped = record { releasing = a; widened = widened_on h.dropped.widened w };
      waits = omega (arith, h.waits);
      is = q ∙ h.is;
      high = omega arith;
      next = next_here;
    }

    pub dropping_more : {left'' marks' queue' : List ℕ} {tail' : ℕ} → Lost left marks queue tail (destination (get_or ws at 0)) (get_or ns at 0) left'' marks' queue' tail'
        → Dropping ws ns before left'' marks' queue' head tail' block (at + 1)
    unfolding left'
    dropping_more (none z) =
        dropping_with
        (record {
          walking = r.walking;
          distinct = r.distinct;
          has_left = r.has_left;
          remains = λ b m n.
              r.remains b m n
              ∙ remaining_other r h.waits s at l own b (λ q. n (ap (λ (x : ℕ). get_or left x 0) q ∙ z));
          found = r.found;
        })
        widened_none (omega arith) refl
    dropping_more (fewer n more) =
        dropping_with
        (record {
          walking = r.walking;
          distinct = r.distinct;
          has_left = length-set left _ _ ∙ r.has_left;
          remains = remains_less n;
          found = λ k m z.
              ⊎_elim
              (λ (q : destination (get_or ws k 0) ≡ destination (get_or ws at 0)). absurd (more (sym (less n) ∙ (rw q at z))))
              (λ (o : destination (get_or ws k 0) ≡ destination (get_or ws at 0) → ⊥). r.found k m (sym (other_left n _ o) ∙ z))
              (same_or_other (destination (get_or ws k 0)) (destination (get_or ws at 0)));
        })
        widened_none (omega arith) refl
    dropping_more (last n z y) =
        let long : destination (get_or ws at 0) < length marks = omega (arith, r.walking.has_marks) in
        let room : tail ≤ length queue = omega (arith, walking_most r.walking, r.walking.has_queue) in
        dropping_with
        (record {
          walking = walking_enter r.walking low y;
          distinct = distinct_enter r.walking r.distinct room (λ o. omega (arith, walking_room r.walking _ low o, r.walking.has_queue)) y;
          has_left = length-set left _ _ ∙ r.has_left;
          remains = λ b m o. remains_less n b m o ∙ sym (remaining_enter ws ns head (at + 1) b h.waits y);
          found = λ k m x.
              ⊎_elim
              (λ (q : destination (get_or ws k 0) ≡ destination (get_or ws at 0)). rw q (entered_marks y long))
              (λ (o : destination (get_or ws k 0) ≡ destination (get_or ws at 0) → ⊥). entered_kept y long _ (r.found k m (sym (other_left n _ o) ∙ x)))
              (same_or_other (destination (get_or ws k 0)) (destination (get_or ws at 0)));
        })
        (widened_enter long (goes n z) y) (entered_tail y) (entered_queue y head h.waits)

-- ---- of the pointers in use

module _ {pointers multiplicities : List ℕ} {used : ℕ} (fit : Releasable pointers multiplicities used) where
  pub long_in_use : length (take used pointers) ≡ used
  long_in_use = length-take-le used pointers fit.walkable.within

  pub releasable_step : InStep (take used pointers) (take used multiplicities)
  releasable_step = used_in_step 0 0 used pointers multiplicities fit.walkable.within fit.paired

  module _ {before left marks queue : List ℕ} {head tail block at : ℕ}
      (h : Dropping (take used pointers) (take used multiplicities) before left marks queue head tail block at) where
    pub drop_ended : used ≤ at → Dropped (take used pointers) (take used multiplicities) before left marks queue (head + 1) tail 0
    drop_ended l = dropping_whole h (λ m e. omega (arith, long_in_use))

    module _ (l : at < used) where
      same : get_or (take used pointers) at 0 ≡ get_or pointers at 0
      same = get_or-take used pointers at 0 l

      same_times : get_or (take used multiplicities) at 0 ≡ get_or multiplicities at 0
      same_times = get_or-take used multiplicities at 0 l

      within : at < length (take used pointers)
      within = omega (arith, long_in_use)

      pub drop_stopped : (source (get_or pointers at 0) ≡ block → ⊥) → Dropped (take used pointers) (take used multiplicities) before left marks queue (head + 1) tail 0
      drop_stopped n = dropping_whole h (λ m e. n (sym (ap (λ (w : ℕ). source w) same) ∙ e))

      pub drop_low : destination (get_or pointers at 0) < 4096
      drop_low = fit.walkable.destination_low at l

      pub drop_room : (mark marks (destination (get_or pointers at 0)) ≡ 1 → ⊥) → tail < 4096
      drop_room = walking_room h.dropped.releasing.walking (destination (get_or pointers at 0)) drop_low

      module _ (e : source (get_or pointers at 0) ≡ block) where
        pub drop_enough : (get_or left (destination (get_or pointers at 0)) 0 ≡ 0 → ⊥) → get_or multiplicities at 0 ≤ get_or left (destination (get_or pointers at 0)) 0
        drop_enough = rw (same, same_times) at (dropping_enough h releasable_step fit.some fit.ascends within (rw same e) (rw same drop_low))

        pub drop_more : {left' marks' queue' : List ℕ} {tail' : ℕ}
            → Lost left marks queue tail (destination (get_or pointers at 0)) (get_or multiplicities at 0) left' marks' queue' tail'
            → Dropping (take used pointers) (take used multiplicities) before left' marks' queue' head tail' block (at + 1)
        drop_more x = dropping_more h releasable_step fit.some fit.ascends within (rw same e) (rw same drop_low) (rw (same, same_times) x)
