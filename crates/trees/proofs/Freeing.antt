-- The walk of a sound card that is to lose a pointer: what it starts from, and that it marks the blocks that are freed with the pointer.
use Prim.Native.Nat.{ℕ, ◌+◌, ◌-◌, ◌≤◌, ◌<◌}
use mathlib.Core.Path.{◌≡◌, refl, sym, ap, ◌∙◌, subst}
use mathlib.Core.Logic.{⊎_elim}
use mathlib.Core.Bool.{Bool, true, false, not, cond}
use mathlib.Core.List.{List, [], ◌∷◌}
use native.Mathlib.Omega.{arith}
use lib.Dec.{eqb, leb}
use lib.ListN.{length, get_or, set, replicate, length-set, length-replicate}
use lib.Seq.{get_or-set_same, get_or-set_other}
use borrow.Author.Tests.{eq-eqb, ne_eqb, eqb-true, le-leb, not-true}
use Rattle.card.specs.Lists.{all}
use Rattle.laws.specs.ListsLaws.{all_map, absurd_test, same_test, below_or_not, same_or_other}
use Rattle.laws.specs.LeastLaws.{Some, least_own}
use Rattle.laws.specs.NearestLaws.{contains_here, contains_there, Place, contains_place, place_contains}
use Rattle.card.specs.Pointers.{pointer, source, destination, contains, beside, total, pointers_to, remove, remove_beside, keep}
use Rattle.laws.specs.PointersLaws.{destination_pointer, contains_all, contains_remove, remove_length}
use Rattle.laws.specs.BesideLaws.{InStep, in_step, in_step_self, step_length, remove_beside_length, all_remove_beside, total_remove, uncounted}
use Rattle.laws.specs.KeepLaws.{contains_keep, remove_keeps}
use Rattle.laws.specs.ChangesLaws.{removed_take}
use Rattle.card.specs.Card.{Public, Card, allocated, count, in_use, times_in_use, points_to}
use Rattle.card.specs.Soundness.{pointer_right, multiplicity_right}
use Rattle.card.specs.SoundCard.{SoundCard, RightPointer}
use Rattle.laws.specs.SoundnessLaws.{pointer_right_true, multiplicity_right_low, allocated_below, allocated_flag_law}
use Rattle.card.specs.Plan.{drop_pointer, change_public}
use Rattle.card.specs.Calls.{freed_with}
use Rattle.card.specs.Tree.{ordinary, orphaned, orphans}
use Rattle.laws.specs.TreeLaws.{ordinary_allocated, ordinary_below, ordinary_no_root, is_ordinary, orphans_closed, orphans_in, orphans_ordinary}
use Rattle.walks.specs.Walk.{mark, marked, marked_below}
use Rattle.walks.specs.WalkLaws.{sound_right, sound_walkable, marked_none, marked_below_law, none_marked}
use Rattle.trees.specs.Release.{Copied, Releasable, Orphan, begins, cut, Loosened, Released}
use Rattle.trees.specs.Freed.{Freed}
use Rattle.trees.proofs.Remaining.{total_none}
use Rattle.trees.proofs.Dropping.{releasable_step}

-- Where a test counts something, some pointer passes it.
counted_some : (test : ℕ → Bool) (ws ns : List ℕ) → (total test ws ns ≡ 0 → ⊥) → Some test ws
unfolding total
counted_some test [] ns n = absurd (n refl)
counted_some test (x ∷ xs) [] n = absurd (n refl)
counted_some test (x ∷ xs) (m ∷ ns) n = go (test x) refl (counted_some test xs ns) n
  where
    go : (t : Bool) → test x ≡ t → ((total test xs ns ≡ 0 → ⊥) → Some test xs) → (cond t m 0 + total test xs ns ≡ 0 → ⊥) → Some test (x ∷ xs)
    go true e f z = record { which = x; within = contains_here x xs; passes = e }
    go false e f z =
        let s : Some test xs = f (λ o. z (omega arith)) in
        record { which = s.which; within = contains_there s.which x xs s.within; passes = s.passes }

module _ (c : Card) (s : SoundCard c) where
  pub sound_releasable : Releasable c.public.pointers c.public.multiplicities c.public.info.used
  sound_releasable = record {
    walkable = sound_walkable c s;
    ascends = s.is_sound.ascends;
    paired = s.shaped.has_lengths.multiplicities;
    some = all_map (λ n. multiplicity_right n) (λ n. leb 1 n) (λ n e. le-leb _ _ (multiplicity_right_low n e)) (times_in_use c.public) s.is_sound.times_right;
  }

  step : InStep (in_use c.public) (times_in_use c.public)
  step = releasable_step sound_releasable

  -- No pointer leads to a block from N on, and none is counted there.
  pub copied_count : {left : List ℕ} → Copied c.public.counts left (length c.public.counts) → (x : ℕ)
      → get_or left x 0 ≡ pointers_to x (in_use c.public) (times_in_use c.public)
  copied_count {left} k x =
      let long : length c.public.counts ≡ c.public.info.blocks = s.shaped.has_lengths.counts in
      ⊎_elim
      (λ (l : x < c.public.info.blocks). k.same x (omega arith) ∙ s.is_sound.counts x l)
      (λ (l : c.public.info.blocks ≤ x).
      k.rest x (omega arith)
      ∙ sym
      (total_none (λ w. eqb (destination w) x) (in_use c.public) (times_in_use c.public)
      (λ j m.
      ne_eqb (destination (get_or (in_use c.public) j 0)) x
      (λ q. omega (arith, allocated_below c.public _ (sound_right c s j m).destination_allocated)))))
      (below_or_not x c.public.info.blocks)

  -- An allocated non-root is pointed to.
  pointed_some : (x : ℕ) → ordinary c.public x ≡ true → Some (λ w. eqb (destination w) x) (in_use c.public)
  pointed_some x o =
      let l : x < c.public.info.blocks = ordinary_below c.public x o in
      let more : 1 ≤ count c.public x = s.is_sound.pointed x l (ordinary_no_root c.public x o) (allocated_flag_law c.public x (ordinary_allocated c.public x o)) in
      counted_some (λ w. eqb (destination w) x) (in_use c.public) (times_in_use c.public) (λ z. omega (arith, s.is_sound.counts x l))

  module _ (a b : ℕ) (narrow : b < 65536) (there : points_to c.public a b ≡ true) where
    present : contains (pointer a b) (in_use c.public) ≡ true
    unfolding points_to
    present = there

    ends : destination (pointer a b) ≡ b
    ends = destination_pointer a b narrow

    right : RightPointer c.public (pointer a b)
    right = pointer_right_true _ _ (contains_all (λ w. pointer_right c.public w) (pointer a b) (in_use c.public) present s.is_sound.pointers_right)

    to_ordinary : ordinary c.public b ≡ true
    to_ordinary =
        is_ordinary c.public b
        (subst (λ (x : ℕ). allocated c.public x ≡ true) ends right.destination_allocated)
        (subst (λ (x : ℕ). c.public.info.roots ≤ x) ends right.no_root)

    pub to_low : b < 4096
    to_low = omega (arith, ordinary_below c.public b to_ordinary, s.shaped.in_ranges.blocks_high)

    -- ---- the counts once the pointer is gone

    times_out : beside (pointer a b) (in_use c.public) (times_in_use c.public)
        + total (λ w. eqb (destination w) b) (remove (pointer a b) (in_use c.public)) (remove_beside (pointer a b) (in_use c.public) (times_in_use c.public))
        ≡ pointers_to b (in_use c.public) (times_in_use c.public)
    times_out =
        let own : cond (eqb (destination (pointer a b)) b) (beside (pointer a b) (in_use c.public) (times_in_use c.public)) 0
        ≡ beside (pointer a b) (in_use c.public) (times_in_use c.public) = rw (eq-eqb (destination (pointer a b)) b ends) in
        omega (arith, total_remove (λ w. eqb (destination w) b) (pointer a b) step present)

    module _ {left : List ℕ} (k : Copied c.public.counts left (length c.public.counts)) {times : ℕ}
        (e : times ≡ beside (pointer a b) (in_use c.public) (times_in_use c.public)) where
      pub freed_enough : times ≤ get_or left b 0
      freed_enough = omega (arith, times_out, copied_count k b)

      rest_is : get_or left b 0 - times
          ≡ total (λ w. eqb (destination w) b) (remove (pointer a b) (in_use c.public)) (remove_beside (pointer a b) (in_use c.public) (times_in_use c.public))
      rest_is = omega (arith, times_out, copied_count k b)

      pub freed_loosened : get_or left b 0 - times ≡ 0
          → Loosened (in_use c.public) (times_in_use c.public) (set left b (get_or left b 0 - times)) b
      freed_loosened z = record {
        low = to_low;
        has_left = length-set left b _ ∙ k.has_left;
        bare = get_or-set_same left b _ 0 (omega (arith, k.has_left, to_low)) ∙ z;
        others = λ x l o. get_or-set_other left b x _ 0 o ∙ copied_count k x;
      }

    -- ---- the card once the pointer is gone

    after : Public
    after = change_public (drop_pointer a b) c.public

    after_pointers : in_use after ≡ remove (pointer a b) (in_use c.public)
    unfolding after change_public
    after_pointers = removed_take (pointer a b) c.public.info.used c.public.pointers s.shaped.used_high present

    after_ordinary : (x : ℕ) → ordinary after x ≡ ordinary c.public x
    unfolding after change_public ordinary allocated
    after_ordinary x = refl

    after_within : (w : ℕ) → contains w (in_use after) ≡ true → contains w (in_use c.public) ≡ true
    after_within w m = contains_remove w (pointer a b) (in_use c.public) (rw after_pointers at m)

    -- A pointer to another block stays.
    after_stays : (w : ℕ) → contains w (in_use c.public) ≡ true → (destination w ≡ b → ⊥) → contains w (in_use after) ≡ true
    unfolding remove keep
    after_stays w m n =
        let other : w ≡ pointer a b → ⊥ = λ q. n (ap (λ (x : ℕ). destination x) q ∙ ends) in
        rw (after_pointers, remove_keeps (pointer a b) (in_step_self (in_use c.public)) s.is_sound.ascends)
        (contains_keep (λ x. not (eqb x (pointer a b))) w (in_use c.public) (ap not (ne_eqb w (pointer a b) other)) m)

    freed_list : (marks : List ℕ) → ((x : ℕ) → mark marks x ≡ 1 → contains x (orphans after) ≡ true)
        → ((x : ℕ) → contains x (orphans after) ≡ true → mark marks x ≡ 1) → marked_below marks c.public.info.blocks ≡ orphans after
    unfolding orphans after change_public
    freed_list marks f g =
        least_own (orphaned after) c.public.info.blocks (λ x. eqb (mark marks x) 1)
        (λ x l. same_test _ _ (λ e. f x (eqb-true (mark marks x) 1 e)) (λ e. eq-eqb (mark marks x) 1 (g x e)))

    -- Each block marked is one of the freed, and the other way round: so the marks list them.
    freed_by : {marks : List ℕ} {count : ℕ} → length marks ≡ 4096 → count ≡ marked marks → ((x : ℕ) → mark marks x ≡ 1 → contains x (orphans after) ≡ true)
        → ((x : ℕ) → contains x (orphans after) ≡ true → mark marks x ≡ 1) → Freed c.public a b marks count
    unfolding freed_with after
    freed_by {marks} {count} long n f g =
        let below : (x : ℕ) → mark marks x ≡ 1 → x < c.public.info.blocks =
        λ x e. ordinary_below c.public x (sym (after_ordinary x) ∙ orphans_ordinary after x (f x e)) in
        let list : marked_below marks c.public.info.blocks ≡ orphans after = freed_list marks f g in
        record {
          has_marks = long;
          below = below;
          listed = list;
          counted = n ∙ marked_below_law marks c.public.info.blocks (omega (arith, s.shaped.in_ranges.blocks_high)) below ∙ ap length list;
        }

    -- ---- where the block keeps a pointer, nothing is freed

    -- Each allocated non-root but this one is still pointed to.
    after_pointed : (x : ℕ) → ordinary after x ≡ true → (x ≡ b → ⊥) → Some (λ w. eqb (destination w) x) (in_use after)
    after_pointed x o n =
        let m : Some (λ w. eqb (destination w) x) (in_use c.public) = pointed_some x (sym (after_ordinary x) ∙ o) in
        let leads : destination m.which ≡ x = eqb-true _ _ m.passes in
        record { which = m.which; within = after_stays m.which m.within (λ q. n (sym leads ∙ q)); passes = m.passes }

    none_freed : (total (λ w. eqb (destination w) b) (remove (pointer a b) (in_use c.public)) (remove_beside (pointer a b) (in_use c.public) (times_in_use c.public)) ≡ 0 → ⊥)
        → (x : ℕ) → contains x (orphans after) ≡ true → ⊥
    none_freed n =
        orphans_in after (λ x. ⊥)
        (λ x o f.
        let still : Some (λ w. eqb (destination w) x) (in_use after) =
        ⊎_elim
        (λ (q : x ≡ b). rw (q, after_pointers) (counted_some (λ w. eqb (destination w) b) _ _ n))
        (λ (z : x ≡ b → ⊥). after_pointed x o z)
        (same_or_other x b) in
        f still.which still.within (eqb-true _ _ still.passes))

    pub freed_none : {left : List ℕ} → Copied c.public.counts left (length c.public.counts)
        → {times : ℕ} → times ≡ beside (pointer a b) (in_use c.public) (times_in_use c.public) → (get_or left b 0 - times ≡ 0 → ⊥)
        → {marks : List ℕ} → marks ≡ replicate 4096 0 → Freed c.public a b marks 0
    freed_none k e n {marks} z =
        freed_by (ap length z ∙ length-replicate {A = ℕ} 4096 0) (sym (ap marked z ∙ marked_none 4096))
        (λ x m. let y : mark marks x ≡ 0 = rw z (none_marked 4096 x) in absurd (omega arith))
        (λ x m. absurd (none_freed (λ o. n (rest_is k e ∙ o)) x m))

    -- ---- where it loses its last one, the walk finds what is freed

    module _ (bare : total (λ w. eqb (destination w) b) (remove (pointer a b) (in_use c.public)) (remove_beside (pointer a b) (in_use c.public) (times_in_use c.public)) ≡ 0) where
      short_step : InStep (remove (pointer a b) (in_use c.public)) (remove_beside (pointer a b) (in_use c.public) (times_in_use c.public))
      short_step = in_step _ _ (omega (arith, remove_length (pointer a b) (in_use c.public) present, remove_beside_length (pointer a b) step present, step_length step))

      none_left : (w : ℕ) → contains w (in_use after) ≡ true → destination w ≡ b → ⊥
      none_left w m q =
          let no : all (λ w. not (eqb (destination w) b)) (remove (pointer a b) (in_use c.public)) ≡ true =
          uncounted (λ w. eqb (destination w) b) short_step (all_remove_beside (λ n. leb 1 n) (pointer a b) step sound_releasable.some) bare in
          absurd_test (eq-eqb (destination w) b q) (not-true _ (contains_all (λ w. not (eqb (destination w) b)) w _ (rw after_pointers at m) no))

      orphan_freed : {x : ℕ} → Orphan (in_use c.public) (λ y. y ≡ b) x → contains x (orphans after) ≡ true
      orphan_freed (begins {b = x} e) =
          rw e (orphans_closed after b (after_ordinary b ∙ to_ordinary) (λ w m q. absurd (none_left w m q)))
      orphan_freed (cut k l f) =
          let d : ℕ = destination (get_or (in_use c.public) k 0) in
          let r : RightPointer c.public (get_or (in_use c.public) k 0) = sound_right c s k l in
          orphans_closed after d (after_ordinary d ∙ is_ordinary c.public d r.destination_allocated r.no_root)
          (λ w m q.
          let v : Place (in_use c.public) w = contains_place w (in_use c.public) (after_within w m) in
          subst (λ (y : ℕ). contains (source y) (orphans after) ≡ true) v.is
          (orphan_freed (f v.at v.within (ap (λ (y : ℕ). destination y) v.is ∙ q))))

      freed_marked : {marks : List ℕ} {count : ℕ} → Released (in_use c.public) marks b count → (x : ℕ) → contains x (orphans after) ≡ true → mark marks x ≡ 1
      freed_marked {marks} r =
          orphans_in after (λ x. mark marks x ≡ 1)
          (λ x o f.
          ⊎_elim
          (λ (q : x ≡ b). rw q r.begun)
          (λ (n : x ≡ b → ⊥).
          let m : Some (λ w. eqb (destination w) x) (in_use after) = after_pointed x o n in
          let v : Place (in_use c.public) m.which = contains_place m.which (in_use c.public) (after_within m.which m.within) in
          let leads : destination (get_or (in_use c.public) v.at 0) ≡ x = ap (λ (y : ℕ). destination y) v.is ∙ eqb-true _ _ m.passes in
          subst (λ (y : ℕ). mark marks y ≡ 1) leads
          (r.closed v.at v.within
          (λ j l q.
          let w : ℕ = get_or (in_use c.public) j 0 in
          f w (after_stays w (place_contains (in_use c.public) j l) (λ z. n (sym leads ∙ sym q ∙ z))) (q ∙ leads))))
          (same_or_other x b))

    pub freed_all : {left : List ℕ} → Copied c.public.counts left (length c.public.counts)
        → {times : ℕ} → times ≡ beside (pointer a b) (in_use c.public) (times_in_use c.public) → get_or left b 0 - times ≡ 0
        → {marks : List ℕ} {count : ℕ} → Released (in_use c.public) marks b count → Freed c.public a b marks count
    freed_all k e z r =
        let bare = sym (rest_is k e) ∙ z in
        freed_by r.has_marks r.counted (λ x m. orphan_freed bare (r.only x m)) (freed_marked bare r)
