-- The request 2026-07, of DELETE_TREE: the blocks that it frees are the least set that the request describes, every other block is left, a cycle stays,
-- and so does a block with a write key.
use Prim.Native.Nat.{ℕ, ◌≤◌, ◌<◌}
use mathlib.Core.Path.{◌≡◌, refl, sym, ap, ◌∙◌, subst}
use mathlib.Core.Logic.{◌⊎◌, inl, inr, ⊎_elim}
use mathlib.Core.Bool.{Bool, true, false, ◌&&◌, ◌||◌, not, cond}
use mathlib.Core.List.{List}
use native.Mathlib.Omega.{arith}
use lib.Dec.{eqb}
use lib.ListN.{length}
use borrow.Author.Tests.{eq-eqb, eqb-true, ltb-true, ltb-false, le-ltb, not-false}
use Rattle.card.specs.Lists.{any}
use Rattle.laws.specs.ListsLaws.{and_left, and_right, and_true, or_left, or_right, or_cases, absurd_test, false_unless, not_cases, same_or_other}
use Rattle.card.specs.Pointers.{pointer, source, destination, contains, pointers_to, remove, keep}
use Rattle.laws.specs.PointersLaws.{source_pointer, destination_pointer, all_contains}
use Rattle.laws.specs.BesideLaws.{in_step_self, total_none}
use Rattle.laws.specs.KeepLaws.{contains_kept, remove_keeps}
use Rattle.laws.specs.ChangesLaws.{removed_take}
use Rattle.laws.specs.LeastLaws.{Some, any_member, member_any}
use Rattle.card.specs.Card.{Public, Card, allocated, has_key, is_root, count, in_use, times_in_use, multiplicity, points_to}
use Rattle.card.specs.SoundCard.{SoundCard}
use Rattle.laws.specs.SoundnessLaws.{allocated_below, allocated_flag_law}
use Rattle.card.specs.Tree.{ordinary}
use Rattle.laws.specs.TreeLaws.{is_ordinary, ordinary_allocated, ordinary_no_root, orphans_closed, orphans_in, orphans_ascend}
use Rattle.card.specs.Plan.{drop_pointer, change_public, change, Buffers, Result, settle}
use Rattle.card.specs.Calls.{is_done, freed_with, delete_tree_plan}
use Rattle.card.specs.Session.{plan, perform}
use Rattle.card.specs.Ledger.{goes}
use Rattle.card.specs.declared.Port.{Port}
use Rattle.card.specs.declared.Mode.TheVariants.{Writing}
use Rattle.card.specs.declared.DeleteOperands.{DeleteOperands}
use Rattle.card.specs.Answers.{Value}
use Rattle.card.specs.declared.Call.TheVariants.{DeleteTree}
use Rattle.laws.proofs.Judged.{judge_cases, judge_after}
use Rattle.laws.proofs.PointerSteps.{SoundBut, drop_pointer_sound, pointer_right_law, block_narrow}
use Rattle.card.specs.Statements.Trees.{deleting_tree, Freed, removed, LeastFreed, Goes, RestSpared, PointedWithin, TreeLeast, TreeSpares, TreeCycle, TreeKeyed, TreeSparesRoots, RemovedPoints}
use Rattle.laws.proofs.Severing.{freed_ordinary, freed_allocated, tree_deleted, deleted_frees, deleted_spares, deleted_allocated, deleted_contents, deleted_sound}
use Rattle.laws.proofs.KeepsSound.{not_missing}
use Rattle.guarantees.proofs.Ledger.{pointer_same, tree_left}

-- ---- pointers by their numbers and by their ends

module _ (p : Public) where
  -- A pointer of the list, by its ends.
  by_ends : (w b : ℕ) → contains w (in_use p) ≡ true → destination w ≡ b → points_to p (source w) b ≡ true
  unfolding points_to
  by_ends w b h e = let whole : pointer (source w) b ≡ w = omega arith in rw whole h

  pointing : (b : ℕ) → Bool
  pointing b = any (λ w. eqb (destination w) b) (in_use p)

  -- A block that some pointer goes to.
  record Pointed (b : ℕ) : Type 0 where
    from : ℕ
    points : points_to p from b ≡ true

  pointing_some : (b : ℕ) → pointing b ≡ true → Pointed b
  unfolding pointing
  pointing_some b h =
      let w : Some (λ w. eqb (destination w) b) (in_use p) = member_any (λ w. eqb (destination w) b) (in_use p) h in
      record { from = source w.which; points = by_ends w.which b w.within (eqb-true _ _ w.passes) }

  -- The sum is 0 where no pointer goes to the block.
  pointing_none : (b : ℕ) → pointing b ≡ false → pointers_to b (in_use p) (times_in_use p) ≡ 0
  unfolding pointing
  pointing_none b h =
      total_none (λ w. eqb (destination w) b) (in_use p) (times_in_use p)
      (all_contains (λ w. not (eqb (destination w) b)) (in_use p)
      (λ w i. ap not (false_unless _ (λ e. absurd_test (any_member (λ w. eqb (destination w) b) (in_use p) w i e) h))))

  pointing_nowhere : (b : ℕ) → b < 65536 → pointing b ≡ false → (a : ℕ) → points_to p a b ≡ true → ⊥
  unfolding pointing points_to
  pointing_nowhere b low h a q =
      absurd_test (any_member (λ w. eqb (destination w) b) (in_use p) (pointer a b) q (eq-eqb (destination (pointer a b)) b (destination_pointer a b low))) h

  -- What holds of the source of each pointer to the block, told by its number, holds of each block that points to it.
  by_number : (G : ℕ → Type 0) (b : ℕ) → b < 65536 → ((w : ℕ) → contains w (in_use p) ≡ true → destination w ≡ b → G (source w)) → (a : ℕ) → points_to p a b ≡ true → G a
  unfolding points_to
  by_number G b low f a q = subst G (source_pointer a b low) (f (pointer a b) q (destination_pointer a b low))

-- ---- on a sound card, where no check refuses

module _ (c : Card) (a b : ℕ) (s : SoundCard c) (toAllocated : allocated c.public b ≡ true) (there : points_to c.public a b ≡ true) where
  abbrev p : Public
  p = change_public (drop_pointer a b) c.public

  abbrev list : List ℕ
  list = freed_with c.public a b

  abbrev d : Card
  d = tree_deleted c a b

  freed_listed : (x : ℕ) → contains x list ≡ true → Freed c d x
  freed_listed x h = record { before = freed_allocated c a b x h; after = deleted_frees c a b x s.shaped.has_lengths.flags h }

  listed_freed : (x : ℕ) → Freed c d x → contains x list ≡ true
  listed_freed x f =
      ⊎_elim
      (λ (e : contains x list ≡ true). e)
      (λ (e : contains x list ≡ false). absurd_test (deleted_allocated c a b x e ∙ f.before) f.after)
      (not_cases (contains x list))

  -- The pointer that is gone leaves each block allocated or a root, as it was.
  may_be_freed : (x : ℕ) → allocated c.public x ≡ true → is_root c.public x ≡ false → ordinary p x ≡ true
  unfolding change_public allocated
  may_be_freed x held no_root = is_ordinary p x held (ltb-false x c.public.info.roots no_root)

  destination_no_root : is_root c.public b ≡ false
  destination_no_root =
      le-ltb b c.public.info.roots
      (subst (λ (n : ℕ). c.public.info.roots ≤ n) (destination_pointer a b (block_narrow s (allocated_below c.public b toAllocated))) (pointer_right_law a b s there).no_root)

  -- Closed, by the ends of the pointers.
  closed : (x : ℕ) → allocated c.public x ≡ true → is_root c.public x ≡ false → ((y : ℕ) → points_to p y x ≡ true → Freed c d y) → Freed c d x
  unfolding freed_with
  closed x held no_root f =
      freed_listed x
      (orphans_closed p x (may_be_freed x held no_root) (λ w h e. listed_freed (source w) (f (source w) (by_ends p w x h e))))

  -- A block to which nothing points once the pointer is gone is its destination.
  unpointed : (x : ℕ) → ordinary p x ≡ true → pointing p x ≡ false → x ≡ b
  unfolding change
  unpointed x e none =
      ⊎_elim
      (λ (q : x ≡ b). q)
      (λ (other : x ≡ b → ⊥).
      let but : SoundBut b (change c (drop_pointer a b)) = drop_pointer_sound a b s toAllocated there in
      let held : allocated p x ≡ true = ordinary_allocated p x e in
      let below : x < p.info.blocks = allocated_below p x held in
      let one : 1 ≤ count p x = but.pointed x other below (ordinary_no_root p x e) (allocated_flag_law p x held) in
      absurd (omega (arith, but.counts x below, pointing_none p x none)))
      (same_or_other x b)

  points_left : (x y : ℕ) → y < 65536 → points_to p x y ≡ points_to c.public x y && not (eqb x a && eqb y b)
  unfolding points_to change_public remove keep
  points_left x y low =
      let used : List ℕ = in_use c.public in
      let gone : ℕ = pointer a b in
      rw (
        removed_take gone c.public.info.used c.public.pointers s.shaped.used_high there,
        remove_keeps gone (in_step_self used) s.is_sound.ascends,
        contains_kept (λ w. not (eqb w gone)) (pointer x y) used,
        pointer_same x y a b low (block_narrow s (allocated_below c.public b toAllocated)),
      )

  was_allocated : (x : ℕ) → ordinary p x ≡ true → allocated c.public x ≡ true
  unfolding change_public allocated
  was_allocated x e = ordinary_allocated p x e

  was_no_root : (x : ℕ) → ordinary p x ≡ true → is_root c.public x ≡ false
  unfolding change_public
  was_no_root x e = le-ltb x c.public.info.roots (ordinary_no_root p x e)

  narrow : (x : ℕ) → ordinary p x ≡ true → x < 65536
  narrow x e = block_narrow s (allocated_below c.public x (was_allocated x e))

  -- Within each set that holds the destination and those that follow.
  within_each : (G : ℕ → Type 0) → (((y : ℕ) → points_to p y b ≡ true → ⊥) → G b)
      → ((x : ℕ) → allocated c.public x ≡ true → is_root c.public x ≡ false → (y : ℕ) → points_to p y x ≡ true → ((z : ℕ) → points_to p z x ≡ true → G z) → G x)
      → (x : ℕ) → Freed c d x → G x
  unfolding freed_with
  within_each G first followers x f =
      orphans_in p G
      (λ x e from.
      ⊎_elim
      (λ (h : pointing p x ≡ true).
      let some : Pointed p x = pointing_some p x h in
      followers x (was_allocated x e) (was_no_root x e) some.from some.points (λ y q. by_number p G x (narrow x e) from y q))
      (λ (h : pointing p x ≡ false).
      let same : x ≡ b = unpointed x e h in
      subst G (sym same)
      (first (λ y q. pointing_nowhere p x (narrow x e) h y (subst (λ (k : ℕ). points_to p y k ≡ true) (sym same) q))))
      (not_cases (pointing p x)))
      x
      (listed_freed x f)

  -- A set of blocks each of which is pointed to from within is not freed.
  cycle_kept : (S : ℕ → Type 0) → ((x : ℕ) → S x → allocated c.public x ≡ true) → ((x : ℕ) → S x → PointedWithin p S x) → (x : ℕ) → S x → allocated d.public x ≡ true
  unfolding freed_with
  cycle_kept S held within x i =
      deleted_allocated c a b x
      (false_unless _
      (λ h.
      orphans_in p (λ x. S x → ⊥)
      (λ x e from i. by_number p (λ y. S y → ⊥) x (narrow x e) from (within x i).from (within x i).points (within x i).within)
      x
      h
      i))
      ∙ held x i

-- The pointer from a to b is the one that is removed, or something else holds of it: as a statement and as a test.
module _ (o : DeleteOperands) (a b : ℕ) {F : Type 0} (test : Bool) where
  pub true_removed : (F → test ≡ true) → ((o.source ≡ a) × (o.destination ≡ b)) ⊎ F → (eqb o.source a && eqb o.destination b) || test ≡ true
  true_removed else g =
      ⊎_elim
      (λ (e : (o.source ≡ a) × (o.destination ≡ b)). or_left _ _ (and_true _ _ (eq-eqb _ _ e.0) (eq-eqb _ _ e.1)))
      (λ (f : F). or_right (eqb o.source a && eqb o.destination b) _ (else f))
      g

  pub removed_true : (test ≡ true → F) → (eqb o.source a && eqb o.destination b) || test ≡ true → ((o.source ≡ a) × (o.destination ≡ b)) ⊎ F
  removed_true else h =
      ⊎_elim
      (λ (e : eqb o.source a && eqb o.destination b ≡ true). inl (eqb-true _ _ (and_left _ _ e), eqb-true _ _ (and_right (eqb o.source a) _ e)))
      (λ (f : test ≡ true). inr (else f))
      (or_cases (eqb o.source a && eqb o.destination b) _ h)

-- The pointers that go are those of which the rules say so.
module _ (c : Card) (o : DeleteOperands) (s : SoundCard c) (held : allocated c.public o.destination ≡ true)
    (there : points_to c.public o.source o.destination ≡ true) where
  abbrev deleted : Card
  deleted = tree_deleted c o.source o.destination

  true_goes : (a b : ℕ) → Goes c deleted o a b → goes c o a b ≡ true
  true_goes a b = true_removed o a b _ (listed_freed c o.source o.destination s held there a)

  goes_true : (a b : ℕ) → goes c o a b ≡ true → Goes c deleted o a b
  goes_true a b = removed_true o a b _ (freed_listed c o.source o.destination s held there a)

  goes_where : (a b : ℕ) → b < 65536 → (t : Bool) → goes c o a b ≡ t → multiplicity deleted.public a b ≡ cond t 0 (multiplicity c.public a b)
  goes_where a b low t e = tree_left c o s held there a b low ∙ ap (λ (t : Bool). cond t 0 (multiplicity c.public a b)) e

-- ---- the theorems

module _ (port : Port) (c : Card) (o : DeleteOperands) (lent : Buffers) where
  abbrev result : Result
  result = perform port c (deleting_tree o lent)

  -- What is known of a DELETE_TREE that is done.
  pub record DoneTree (r : Result) : Type 0 where
    pub sound : SoundCard c
    pub held : allocated c.public o.destination ≡ true
    pub there : points_to c.public o.source o.destination ≡ true
    pub after : r.after ≡ tree_deleted c o.source o.destination
    pub answer : r.answer ≡ Value (length (freed_with c.public o.source o.destination))

  pub done_tree : is_done result.answer ≡ true → DoneTree result
  unfolding perform settle plan delete_tree_plan
  done_tree =
      judge_cases (λ (r : Result). is_done r.answer ≡ true → DoneTree r) c lent (plan port c (DeleteTree o) lent)
      (λ r e. absurd_test e refl)
      (λ s h e. record {
        sound = s;
        held = not_missing c.public o.destination h.1.0;
        there = not-false _ h.1.1.1.1.0;
        after = refl;
        answer = refl;
      })

  -- Once the pointer is removed, each block points where it did, but for that pointer. Block numbers have 16 bits.
  points_removed : is_done result.answer ≡ true → (a b : ℕ) → b < 65536
      → points_to (removed c o) a b ≡ points_to c.public a b && not (eqb a o.source && eqb b o.destination)
  points_removed e =
      let t : DoneTree result = done_tree e in
      points_left c o.source o.destination t.sound t.held t.there

  -- "After the pointer is wholly removed, the destination is freed if nothing points to it. Then each allocated non-root block whose every pointer comes
  -- from freed blocks is freed too", and no other. "Result: how many were freed."
  frees_least : is_done result.answer ≡ true → LeastFreed c result.after o result.answer
  unfolding freed_with
  frees_least e =
      let t : DoneTree result = done_tree e in
      let a : ℕ = o.source in
      let b : ℕ = o.destination in
      rw (t.after, t.answer)
      (record {
        destination_freed = λ none.
            closed c a b t.sound t.held t.there b t.held (destination_no_root c a b t.sound t.held t.there) (λ y q. absurd (none y q));
        followers_freed = closed c a b t.sound t.held t.there;
        least = within_each c a b t.sound t.held t.there;
        listed = λ x. (freed_listed c a b t.sound t.held t.there x, listed_freed c a b t.sound t.held t.there x);
        ascends = orphans_ascend (removed c o);
        answers = refl;
      })

  -- "is freed too, and their pointers go": nothing else changes, but the counts.
  spares_rest : is_done result.answer ≡ true → RestSpared c result.after o
  spares_rest e =
      let t : DoneTree result = done_tree e in
      let a : ℕ = o.source in
      let b : ℕ = o.destination in
      rw t.after
      (record {
        spared = λ x kept. deleted_spares c a b x (false_unless _ (λ h. kept (freed_listed c a b t.sound t.held t.there x h)));
        counted = (deleted_sound c a b t.sound t.held t.there).is_sound.counts;
        gone = λ x y low g. goes_where c o t.sound t.held t.there x y low true (true_goes c o t.sound t.held t.there x y g);
        left = λ x y low n.
            goes_where c o t.sound t.held t.there x y low false (false_unless _ (λ h. n (goes_true c o t.sound t.held t.there x y h)));
        contents = deleted_contents c a b;
      })

  -- "A cycle kept alive only by itself stays": any set of allocated blocks, each pointed to from within the set once the pointer is removed.
  keeps_cycles : is_done result.answer ≡ true → (S : ℕ → Type 0) → ((b : ℕ) → S b → allocated c.public b ≡ true)
      → ((b : ℕ) → S b → PointedWithin (removed c o) S b)
      → (b : ℕ) → S b → allocated result.after.public b ≡ true
  keeps_cycles e S held within x i =
      let t : DoneTree result = done_tree e in
      rw t.after (cycle_kept c o.source o.destination t.sound t.held t.there S held within x i)

  -- No root is freed.
  keeps_roots : is_done result.answer ≡ true → (b : ℕ) → is_root c.public b ≡ true → Freed c result.after b → ⊥
  keeps_roots e x root f =
      let t : DoneTree result = done_tree e in
      let a : ℕ = o.source in
      let b : ℕ = o.destination in
      let g : Freed c (tree_deleted c a b) x = rw t.after at f in
      let low : x < c.public.info.roots = ltb-true x c.public.info.roots root in
      let high : c.public.info.roots ≤ x = ordinary_no_root c.public x (freed_ordinary c a b x (listed_freed c a b t.sound t.held t.there x g)) in
      omega arith

  -- "Blocks under a foreign write key must survive this": on any card, at either port and whatever the answer, a block with a write key stays allocated.
  keeps_keyed : (b : ℕ) → allocated c.public b ≡ true → has_key c.public Writing b ≡ true → allocated result.after.public b ≡ true
  unfolding perform plan delete_tree_plan
  keeps_keyed x held keyed =
      judge_after (λ after. allocated after.public x ≡ true) c lent (plan port c (DeleteTree o) lent) held
      (λ s h.
      let list : List ℕ = freed_with c.public o.source o.destination in
      deleted_allocated c o.source o.destination x
      (false_unless _ (λ m. absurd_test (any_member (λ b. has_key c.public Writing b) list x m keyed) h.1.1.1.1.1.0))
      ∙ held)

-- ---- the theorems

pub tree_least : TreeLeast
tree_least = frees_least

pub tree_spares : TreeSpares
tree_spares = spares_rest

pub tree_cycle : TreeCycle
tree_cycle = keeps_cycles

pub tree_keyed : TreeKeyed
tree_keyed = keeps_keyed

pub tree_spares_roots : TreeSparesRoots
tree_spares_roots = keeps_roots

pub removed_points : RemovedPoints
removed_points = points_removed
