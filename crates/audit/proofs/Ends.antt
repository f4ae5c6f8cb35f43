-- The ends of the pointers in use: what the walk of the pointers asks of them, and what the tally shows, are together what soundness asks.
use Prim.Native.Nat.{ℕ, ◌≤◌, ◌<◌}
use mathlib.Core.Path.{◌≡◌, refl, ap, ◌∙◌}
use mathlib.Core.Logic.{⊎_elim}
use mathlib.Core.Bool.{Bool, true, false, ◌||◌, not, cond}
use mathlib.Core.List.{List, [], ◌∷◌}
use native.Mathlib.Omega.{arith}
use lib.Dec.{eqb}
use borrow.Author.Tests.{lt-ltb, le-ltb, eq-eqb, ne_eqb, ltb-true, eqb-false, not-true}
use Rattle.card.specs.Lists.{all}
use Rattle.laws.specs.ListsLaws.{or_left, or_right, not_cases, below_or_not, every_true, true_every, all_head, all_tail, all_cons, all_map}
use Rattle.card.specs.Pointers.{source, destination, contains, total, pointers_to}
use Rattle.laws.specs.PointersLaws.{contains_cons, contains_all}
use Rattle.laws.specs.BesideLaws.{InStep, beside_all, total_counted}
use Rattle.laws.specs.NearestLaws.{contains_here}
use Rattle.card.specs.Card.{Public, flag, allocated_flag, allocated, is_root, in_use, times_in_use}
use Rattle.card.specs.Soundness.{pointer_right, multiplicity_right}
use Rattle.laws.specs.SoundnessLaws.{pointer_right_true, true_pointer_right, multiplicity_right_low, allocated_below, flag_allocated}
use Rattle.audit.specs.Walks.{link_clauses, link_right}

-- What holds of each pointer that is there holds of all.
all_contained : (p : ℕ → Bool) (ws : List ℕ) → ((w : ℕ) → contains w ws ≡ true → p w ≡ true) → all p ws ≡ true
unfolding all
all_contained p [] f = refl
all_contained p (x ∷ xs) f =
    all_cons p x xs (f x (contains_here x xs)) (all_contained p xs (λ w e. f w (contains_cons w x xs ∙ or_right (eqb x w) _ e)))

-- Where no pointer passes the test, the sum is 0.
total_none : (test : ℕ → Bool) (ws ns : List ℕ) → all (λ w. not (test w)) ws ≡ true → total test ws ns ≡ 0
unfolding total
total_none test [] ns h = refl
total_none test (x ∷ xs) [] h = refl
total_none test (x ∷ xs) (n ∷ ns) h =
    let other : cond (test x) n 0 ≡ 0 = rw (not-true (test x) (all_head (λ w. not (test w)) x xs h)) in
    omega (arith, total_none test xs ns (all_tail (λ w. not (test w)) x xs h))

module _ (p : Public) where
  -- ---- where the pointers are right

  pub right_link : (w : ℕ) → pointer_right p w ≡ true → link_right p.info p.flags w ≡ true
  unfolding link_right allocated
  right_link w e =
      let h = pointer_right_true p w e in
      true_every (link_clauses p.info p.flags w) (
        lt-ltb _ _ (allocated_below p (destination w) h.destination_allocated),
        (
          ap not (ne_eqb (source w) (destination w) h.different),
          (
            h.source_allocated,
            tt,
          ),
        ),
      )

  -- No pointer leads to a root.
  pub root_untallied : all (λ w. pointer_right p w) (in_use p) ≡ true → (b tallied : ℕ) → tallied ≡ pointers_to b (in_use p) (times_in_use p) → not (is_root p b) || eqb tallied 0 ≡ true
  root_untallied h b tallied t =
      ⊎_elim
      (λ (l : b < p.info.roots). or_right (not (is_root p b)) _ (eq-eqb tallied 0 (t ∙ total_none (λ w. eqb (destination w) b) (in_use p) (times_in_use p) (all_map (λ w. pointer_right p w) (λ w. not (eqb (destination w) b)) (λ w e. elsewhere w l e) (in_use p) h))))
      (λ l. or_left (not (is_root p b)) _ (ap not (le-ltb _ _ l)))
      (below_or_not b p.info.roots)
    where
      elsewhere : (w : ℕ) → b < p.info.roots → pointer_right p w ≡ true → not (eqb (destination w) b) ≡ true
      elsewhere w l e = ap not (ne_eqb (destination w) b (λ q. omega (arith, (pointer_right_true p w e).no_root)))

  -- ---- where the tally is right

  module _ (s : InStep (in_use p) (times_in_use p)) (often : all (λ n. multiplicity_right n) (times_in_use p) ≡ true)
      (free : (b : ℕ) → b < p.info.blocks → allocated_flag (flag p b) ≡ false → pointers_to b (in_use p) (times_in_use p) ≡ 0)
      (root : (b : ℕ) → b < p.info.blocks → b < p.info.roots → pointers_to b (in_use p) (times_in_use p) ≡ 0) where
    reached : (w : ℕ) → contains w (in_use p) ≡ true → 1 ≤ pointers_to (destination w) (in_use p) (times_in_use p)
    reached w e =
        omega (arith, multiplicity_right_low _ (beside_all (λ n. multiplicity_right n) w s e often), total_counted (λ v. eqb (destination v) (destination w)) w s e (eq-eqb (destination w) (destination w) refl))

    link_right_law : (w : ℕ) → contains w (in_use p) ≡ true → link_right p.info p.flags w ≡ true → pointer_right p w ≡ true
    unfolding link_right allocated
    link_right_law w e l =
        let k = every_true (link_clauses p.info p.flags w) l in
        let below : destination w < p.info.blocks = ltb-true _ _ k.0 in
        true_pointer_right
        record {
          source_allocated = k.1.1.0;
          destination_allocated = flag_allocated p (destination w) below (⊎_elim (λ t. t) (λ f. absurd (omega (arith, reached w e, free (destination w) below f))) (not_cases (allocated_flag (flag p (destination w)))));
          no_root = ⊎_elim (λ r. absurd (omega (arith, reached w e, root (destination w) below r))) (λ r. r) (below_or_not (destination w) p.info.roots);
          different = eqb-false (source w) (destination w) (not-true _ k.1.0);
        }

    pub links_right : all (λ w. link_right p.info p.flags w) (in_use p) ≡ true → all (λ w. pointer_right p w) (in_use p) ≡ true
    links_right h = all_contained (λ w. pointer_right p w) (in_use p) (λ w e. link_right_law w e (contains_all (λ w. link_right p.info p.flags w) w (in_use p) e h))
