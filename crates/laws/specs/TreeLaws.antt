-- The blocks that are freed with a pointer: closed, and within each closed set.
use Rattle.std.specs.Prelude.{ℕ, ◌≤◌, ◌<◌, ◌≡◌, Bool, ◌||◌}
use Rattle.std.proofs.Math.Path.{refl}
use Rattle.std.proofs.Common.{ap}
use Rattle.std.proofs.Math.Bool.{true, false, not}
use mathlib.Core.List.{List, [], ◌∷◌}
use Rattle.std.proofs.Math.Dec.{eqb}
use borrow.Author.Tests.{eq-eqb, eqb-true, ltb-false, le-ltb, not-true}
use Rattle.card.specs.Lists.{all}
use Rattle.laws.specs.ListsLaws.{and_left, and_right, and_true, or_else}
use Rattle.laws.specs.LeastLaws.{Monotone, least_in, least_closed, least_ascends}
use Rattle.laws.specs.NearestLaws.{contains_here, contains_there}
use Rattle.card.specs.Pointers.{source, destination, ascending, contains}
use Rattle.laws.specs.PointersLaws.{contains_all}
use Rattle.card.specs.Card.{Public, allocated, in_use}
use Rattle.laws.specs.SoundnessLaws.{allocated_below}
use Rattle.card.specs.Tree.{ordinary, only_from, orphaned, orphans}

-- ---- pointers from some blocks alone

module _ (freed : List ℕ) (b : ℕ) where
  from_freed : ℕ → Bool
  from_freed w = not (eqb (destination w) b) || contains (source w) freed

  pub only_from_law : (ws : List ℕ) → only_from freed b ws ≡ true → (w : ℕ) → contains w ws ≡ true → destination w ≡ b → contains (source w) freed ≡ true
  unfolding only_from from_freed
  only_from_law ws e w h q = or_else (not (eqb (destination w) b)) _ (contains_all from_freed w ws h e) (ap not (eq-eqb (destination w) b q))

  pub from_only : (ws : List ℕ) → ((w : ℕ) → contains w ws ≡ true → destination w ≡ b → contains (source w) freed ≡ true) → only_from freed b ws ≡ true
  unfolding only_from all
  from_only [] f = refl
  from_only (x ∷ xs) f = and_true _ _ (go (eqb (destination x) b) refl) (from_only xs (λ w h. f w (contains_there w x xs h)))
    where
      go : (t : Bool) → eqb (destination x) b ≡ t → not t || contains (source x) freed ≡ true
      go true e = f x (contains_here x xs) (eqb-true (destination x) b e)
      go false e = refl

-- ---- the set

module _ (p : Public) where
  pub ordinary_allocated : (b : ℕ) → ordinary p b ≡ true → allocated p b ≡ true
  unfolding ordinary
  ordinary_allocated b e = and_left (allocated p b) _ e

  pub ordinary_below : (b : ℕ) → ordinary p b ≡ true → b < p.info.blocks
  ordinary_below b e = allocated_below p b (ordinary_allocated b e)

  pub ordinary_no_root : (b : ℕ) → ordinary p b ≡ true → p.info.roots ≤ b
  unfolding ordinary
  ordinary_no_root b e = ltb-false b p.info.roots (not-true _ (and_right (allocated p b) _ e))

  pub is_ordinary : (b : ℕ) → allocated p b ≡ true → p.info.roots ≤ b → ordinary p b ≡ true
  unfolding ordinary
  is_ordinary b a r = and_true (allocated p b) _ a (ap not (le-ltb b p.info.roots r))

  orphaned_mono : Monotone (orphaned p)
  unfolding orphaned
  orphaned_mono xs ys b w e =
      and_true (ordinary p b) _ (and_left (ordinary p b) _ e)
      (from_only ys b (in_use p) (λ x h q. w (source x) (only_from_law xs b (in_use p) (and_right (ordinary p b) _ e) x h q)))

  -- An allocated non-root whose every pointer comes from the set is in it.
  pub orphans_closed : (b : ℕ) → ordinary p b ≡ true
      → ((w : ℕ) → contains w (in_use p) ≡ true → destination w ≡ b → contains (source w) (orphans p) ≡ true) → contains b (orphans p) ≡ true
  unfolding orphans orphaned
  orphans_closed b e f =
      least_closed (orphaned p) p.info.blocks orphaned_mono b (ordinary_below b e)
      (and_true (ordinary p b) _ e (from_only (orphans p) b (in_use p) f))

  -- Each set of which that is true has it within.
  pub orphans_in : (G : ℕ → Type 0)
      → ((b : ℕ) → ordinary p b ≡ true → ((w : ℕ) → contains w (in_use p) ≡ true → destination w ≡ b → G (source w)) → G b)
      → (b : ℕ) → contains b (orphans p) ≡ true → G b
  unfolding orphans orphaned
  orphans_in G f b h =
      least_in (orphaned p) p.info.blocks G
      (λ members b i l e.
      f b (and_left (ordinary p b) _ e) (λ w m q. i (source w) (only_from_law members b (in_use p) (and_right (ordinary p b) _ e) w m q)))
      b h

  pub orphans_ordinary : (b : ℕ) → contains b (orphans p) ≡ true → ordinary p b ≡ true
  orphans_ordinary = orphans_in (λ b. ordinary p b ≡ true) (λ b e f. e)

  -- Each pointer to a block of the set comes from a block of it.
  pub orphans_inward : (b : ℕ) → contains b (orphans p) ≡ true → (w : ℕ) → contains w (in_use p) ≡ true → destination w ≡ b → contains (source w) (orphans p) ≡ true
  orphans_inward b h =
      (orphans_in
      (λ b. (contains b (orphans p) ≡ true) × ((w : ℕ) → contains w (in_use p) ≡ true → destination w ≡ b → contains (source w) (orphans p) ≡ true))
      (λ b e f. (orphans_closed b e (λ w m q. (f w m q).0), λ w m q. (f w m q).0))
      b h).1

  pub orphans_ascend : ascending (orphans p) ≡ true
  unfolding orphans
  orphans_ascend = least_ascends (orphaned p) p.info.blocks
