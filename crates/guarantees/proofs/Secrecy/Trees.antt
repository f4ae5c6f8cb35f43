-- A host's DELETE_TREE frees blocks of the closed set alone, so no hidden block: `tree_hides`.
use Prim.Native.Nat.{ℕ, ◌≤◌, ◌<◌}
use mathlib.Core.Path.{◌≡◌, refl, sym, ap, ◌∙◌, subst}
use mathlib.Core.Logic.{⊎_elim}
use mathlib.Core.Bool.{Bool, true, false}
use mathlib.Core.List.{List, [], ◌∷◌}
use native.Mathlib.Omega.{arith}
use lib.Dec.{eqb}
use borrow.Author.Tests.{eqb-true, not-false}
use Rattle.card.specs.Lists.{any}
use Rattle.laws.specs.ListsLaws.{false_unless, absurd_test}
use Rattle.card.specs.Pointers.{pointer, source, destination, contains, pointers_to}
use Rattle.laws.specs.BesideLaws.{total_some}
use Rattle.laws.specs.PointersLaws.{source_pointer, remove_contains}
use Rattle.laws.specs.NearestLaws.{contains_here, contains_there}
use Rattle.laws.specs.LeastLaws.{Some, any_member, member_any}
use Rattle.card.specs.Card.{Public, Card, allocated, has_key, in_use, times_in_use, points_to}
use Rattle.card.specs.Tree.{ordinary, orphans}
use Rattle.card.specs.SoundCard.{SoundCard}
use Rattle.laws.specs.SoundnessLaws.{allocated_below, allocated_flag_law}
use Rattle.laws.specs.TreeLaws.{ordinary_allocated, ordinary_no_root, orphans_closed, orphans_in}
use Rattle.card.specs.Plan.{NoneHolds, drop_pointer, change_public, changes, Buffers}
use Rattle.card.specs.Calls.{freed_with, free_each, delete_tree_plan}
use Rattle.card.specs.Session.{plan, perform, traits}
use Rattle.card.specs.Reach.{presents, some_shows, Reach, CallPresents}
use Rattle.card.specs.declared.Port.TheVariants.{Host}
use Rattle.card.specs.declared.Mode.TheVariants.{Writing}
use Rattle.card.specs.declared.DeleteOperands.{DeleteOperands}
use Rattle.card.specs.declared.Call.TheVariants.{DeleteTree}
use Rattle.laws.proofs.Judged.{judge_after}
use Rattle.guarantees.proofs.Secrecy.Closed.{Closed, in_use_dropped, reach_closed}
use Rattle.guarantees.proofs.Secrecy.StepsAlike.{FreesNone, KeptApart, apart_changes}
use Rattle.guarantees.proofs.Secrecy.Opened.{unsealed}
use Rattle.guarantees.proofs.Secrecy.Plans.{sound_regular, within, safe}
use Rattle.card.specs.Statements.Trees.{Survives, TreeHides}

-- On a sound card some pointer leads to each allocated block that is no root.
some_pointer : (c : Card) → SoundCard c → (b : ℕ) → allocated c.public b ≡ true → c.public.info.roots ≤ b → Some (λ w. eqb (destination w) b) (in_use c.public)
some_pointer c s b a r =
    let low : b < c.public.info.blocks = allocated_below c.public b a in
    let one : 1 ≤ pointers_to b (in_use c.public) (times_in_use c.public) = rw (← s.is_sound.counts b low) (s.is_sound.pointed b low r (allocated_flag_law c.public b a)) in
    member_any (λ w. eqb (destination w) b) (in_use c.public) (total_some (λ w. eqb (destination w) b) (in_use c.public) (times_in_use c.public) one)

each_frees_none : (bs : List ℕ) (x : ℕ) → (contains x bs ≡ true → ⊥) → FreesNone (free_each bs) x
unfolding free_each
each_frees_none [] x n = tt
each_frees_none (b ∷ bs) x n =
    (λ e. n (subst (λ (y : ℕ). contains x (y ∷ bs) ≡ true) e (contains_here x bs)), each_frees_none bs x (λ h. n (contains_there x b bs h)))

-- ---- the blocks that are freed

module _ (K : ℕ → ℕ → Bool) (G : ℕ → Type 0) (c : Card) (s : SoundCard c) (closed : Closed K G c) where
  -- Where the source is in the set and no block that is freed has a write key: each block that is freed lacks a key, so it is not sealed, and a
  -- pointer leads to it from the source or from another block that is freed. So it is in the set.
  module _ (a d : ℕ) (from : G a) (held : allocated c.public d ≡ true) (there : points_to c.public a d ≡ true)
      (keyless : any (λ b. has_key c.public Writing b) (freed_with c.public a d) ≡ false) where
    -- What is left without the pointer.
    left : Public
    left = change_public (drop_pointer a d) c.public

    -- A pointer in use is the one that goes, which comes from the set, or is left.
    source_within : (w : ℕ) → contains w (in_use c.public) ≡ true → (contains w (in_use left) ≡ true → G (source w)) → G (source w)
    unfolding left points_to
    source_within w h f =
        ⊎_elim
        (λ (e : pointer a d ≡ w).
        subst G (sym (source_pointer a d (omega (arith, s.shaped.in_ranges.blocks_high, allocated_below c.public d held))) ∙ ap source e) from)
        (λ e. f (rw (in_use_dropped c.public a d s.shaped.used_high there) e))
        (remove_contains w (pointer a d) (in_use c.public) h)

    unkeyed : (b : ℕ) → contains b (freed_with c.public a d) ≡ true → has_key c.public Writing b ≡ false
    unkeyed b h = false_unless _ (λ e. absurd_test (any_member (λ b. has_key c.public Writing b) (freed_with c.public a d) b h e) keyless)

    -- A block that is freed is in the set, if the pointers to it that are left come from the set.
    joined : (b : ℕ) → ordinary left b ≡ true → contains b (orphans left) ≡ true
        → ((w : ℕ) → contains w (in_use left) ≡ true → destination w ≡ b → G (source w)) → G b
    unfolding left change_public allocated points_to freed_with
    joined b o h f =
        let here : allocated c.public b ≡ true = ordinary_allocated left b o in
        let to : Some (λ w. eqb (destination w) b) (in_use c.public) = some_pointer c s b here (ordinary_no_root left b o) in
        let w : ℕ = to.which in
        let e : destination w ≡ b = eqb-true (destination w) b to.passes in
        let whole : pointer (source w) b ≡ w = omega arith in
        closed.pointed (source w) b (source_within w to.within (λ m. f w m e)) here (rw whole to.within) (unsealed K c b Writing (unkeyed b h))

    freed_within : (b : ℕ) → contains b (freed_with c.public a d) ≡ true → G b
    unfolding left freed_with
    freed_within b h =
        (orphans_in left (λ b. (contains b (orphans left) ≡ true) × G b)
        (λ b o f.
        let member : contains b (orphans left) ≡ true = orphans_closed left b o (λ w m q. (f w m q).0) in
        (member, joined b o member (λ w m q. (f w m q).1)))
        b h).1

  -- A host's DELETE_TREE that no check refuses frees no block outside the set.
  pub tree_frees_none : (o : DeleteOperands) (lent : Buffers) → CallPresents K (DeleteTree o) → NoneHolds (plan Host c (DeleteTree o) lent).checks
      → (x : ℕ) → (G x → ⊥) → FreesNone (plan Host c (DeleteTree o) lent).steps x
  unfolding plan delete_tree_plan presents some_shows traits
  tree_frees_none o lent k n x out =
      let from : G o.source = within K G c s closed Writing o.source o.credential n.0 n.1.1.1.0 k in (
        λ f. f,
        (
          λ f. f,
          each_frees_none (freed_with c.public o.source o.destination) x
              (λ h. out (freed_within o.source o.destination from (not-false _ n.1.0) (not-false _ n.1.1.1.1.0) n.1.1.1.1.1.0 x h)),
        ),
      )

-- ---- the theorem

pub tree_hides : TreeHides
unfolding perform
tree_hides K c o lent k b hidden =
    judge_after (λ after. Survives c after b) c lent (plan Host c (DeleteTree o) lent)
    (record { still_allocated = hidden.is_allocated; same_block = refl })
    (λ s n.
    let closed : Closed K (Reach K c) c = reach_closed K c in
    let kept : KeptApart _ c (changes c (plan Host c (DeleteTree o) lent).steps) b =
    apart_changes (Reach K c) c (plan Host c (DeleteTree o) lent).steps (sound_regular s) b hidden.is_allocated hidden.out_of_reach
    (safe K (Reach K c) c s closed (DeleteTree o) lent k n).allowed
    (tree_frees_none K (Reach K c) c s closed o lent k n b hidden.out_of_reach) in
    record { still_allocated = kept.still_allocated; same_block = kept.same_block })
