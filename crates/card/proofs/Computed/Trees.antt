-- `tree_least`, `tree_spares`, `tree_cycle`, `tree_keyed` and `tree_hides` as tests, which follow from them.
use native.Mathlib.Omega.{arith}
use Prim.Native.Nat.{ℕ, ◌<◌, ◌≤◌}
use mathlib.Core.Bool.{Bool, true, false, ◌&&◌, ◌||◌, not, cond}
use mathlib.Core.List.{List, [], ◌∷◌}
use mathlib.Core.Logic.{◌⊎◌, inl, inr, ⊎_elim}
use mathlib.Core.Path.{◌≡◌, refl, subst, ap}
use lib.Dec.{eqb, leb}
use lib.ListN.{length}
use borrow.Author.Tests.{eqb-true, eq-eqb, leb-true, not-true}
use Rattle.card.specs.Lists.{every, all, any, all_below}
use Rattle.card.specs.Pointers.{pointer, source, destination, contains, pointers_to}
use Rattle.card.specs.Card.{Card, flag, allocated, has_key, is_root, window_end, count, in_use, times_in_use, multiplicity, points_to, key_high, key_low, block}
use Rattle.card.specs.Plan.{drop_pointer, change_public, Buffers, Result}
use Rattle.card.specs.Calls.{is_done, answer_values, freed_with}
use Rattle.card.specs.Session.{perform}
use Rattle.card.specs.Reach.{presents}
use Rattle.card.specs.Statements.Trees.{deleting_tree, Freed, removed, HoldsDestination, HoldsFollowers, LeastFreed, TreeLeast, Spared, RestSpared, TreeSpares, PointedWithin, TreeCycle, TreeKeyed, Survives, TreeHides}
use Rattle.card.specs.declared.Port.{Port}
use Rattle.card.specs.declared.Port.TheVariants.{Host}
use Rattle.card.specs.declared.Mode.TheVariants.{Reading, Writing}
use Rattle.card.specs.declared.Call.TheVariants.{DeleteTree}
use Rattle.card.specs.declared.DeleteOperands.{DeleteOperands}
use Rattle.card.proofs.Computed.Same.{same_list}
use Rattle.card.proofs.Computed.TestLaws.{and_left, and_right, and_true, or_left, or_right, or_cases, or_else, absurd_test, Holds, every_true, true_every, all_below_true, true_all_below, true_same_list, false_unless, source_pointer, destination_pointer, contains_all, all_contains, any_member, Some, member_any}
use Rattle.card.proofs.Computed.Row.{implies, true_implies, Row}
use Rattle.card.proofs.Computed.SoundLaws.{allocated_below}
use Rattle.card.proofs.Computed.Bounds.{bounds, reach_inside}

-- ---- tree_least, tree_spares, tree_cycle and tree_keyed

-- A block's flags, the words of its keys, its windows and its contents.
abbrev pub block_numbers : Card → ℕ → List ℕ
block_numbers c b =
    flag c.public b
    ∷ key_high c.keys Reading b
    ∷ key_low c.keys Reading b
    ∷ key_high c.keys Writing b
    ∷ key_low c.keys Writing b
    ∷ window_end c.public Reading b
    ∷ window_end c.public Writing b
    ∷ block c b

module _ (o : DeleteOperands) (a b : ℕ) {F : Type 0} (test : Bool) where
  true_removed : (F → test ≡ true) → ((o.source ≡ a) × (o.destination ≡ b)) ⊎ F → (eqb o.source a && eqb o.destination b) || test ≡ true
  true_removed else g =
      ⊎_elim
      (λ (e : (o.source ≡ a) × (o.destination ≡ b)). or_left _ _ (and_true _ _ (eq-eqb _ _ e.0) (eq-eqb _ _ e.1)))
      (λ (f : F). or_right (eqb o.source a && eqb o.destination b) _ (else f))
      g

  removed_true : (test ≡ true → F) → (eqb o.source a && eqb o.destination b) || test ≡ true → ((o.source ≡ a) × (o.destination ≡ b)) ⊎ F
  removed_true else h =
      ⊎_elim
      (λ (e : eqb o.source a && eqb o.destination b ≡ true). inl (eqb-true _ _ (and_left _ _ e), eqb-true _ _ (and_right (eqb o.source a) _ e)))
      (λ (f : test ≡ true). inr (else f))
      (or_cases (eqb o.source a && eqb o.destination b) _ h)

-- The tests are worked out apart from the rules' own `freed_with`: from the pointers that are there once the one is removed, and from what is allocated before
-- and after the call.
module _ (port : Port) (c : Card) (o : DeleteOperands) (lent : Buffers) where
  abbrev pub tree_result : Result
  tree_result = perform port c (deleting_tree o lent)

  abbrev pub tree_left : Card
  tree_left = tree_result.after

  abbrev pub is_freed : ℕ → Bool
  is_freed b = allocated c.public b && not (allocated tree_left.public b)

  -- The pointer leads to the block.
  abbrev pub leads : ℕ → ℕ → Bool
  leads b w = eqb (destination w) b

  -- The pointers once the one is removed.
  abbrev pub left : List ℕ
  left = in_use (change_public (drop_pointer o.source o.destination) c.public)

  abbrev pub tree_done_tests : List Bool
  tree_done_tests = is_done tree_result.answer ∷ leb c.public.info.blocks 65536 ∷ allocated c.public o.destination ∷ []

  abbrev pub tree_done : Bool
  tree_done = every tree_done_tests

  -- An allocated block that is no root and has a pointer, every one from a block of the set.
  abbrev pub follows_tests : (ℕ → Bool) → ℕ → List Bool
  follows_tests G b =
      allocated c.public b
      ∷ not (is_root c.public b)
      ∷ any (leads b) left
      ∷ all (λ w. implies (leads b w) (G (source w))) left
      ∷ []

  -- The set holds the destination, where no pointer leads to it, and each block that follows.
  abbrev pub holds : (ℕ → Bool) → Bool
  holds G =
      implies (not (any (leads o.destination) left)) (G o.destination)
      && all_below (λ b. implies (every (follows_tests G b)) (G b)) c.public.info.blocks

  -- The freed blocks are such a set, within the given set if that is one, and the answer is how many they are.
  abbrev pub least_tests : (ℕ → Bool) → List Bool
  least_tests named =
      holds is_freed
      ∷ implies (holds named) (all_below (λ b. implies (is_freed b) (named b)) c.public.info.blocks)
      ∷ same_list (answer_values tree_result.answer) (length (freed_with c.public o.source o.destination) ∷ [])
      ∷ []

  abbrev pub tree_least_test : (ℕ → Bool) → Bool
  tree_least_test named = implies tree_done (every (least_tests named))

  abbrev pub is_gone : ℕ → ℕ → Bool
  is_gone a b = (eqb o.source a && eqb o.destination b) || is_freed a

  -- A pointer that goes is not there after the call, and any other is as before.
  abbrev pub times_left : ℕ → Bool
  times_left w =
      eqb (multiplicity tree_left.public (source w) (destination w))
      (cond (is_gone (source w) (destination w)) 0 (multiplicity c.public (source w) (destination w)))

  abbrev pub is_spared : ℕ → Bool
  is_spared b = is_freed b || same_list (block_numbers tree_left b) (block_numbers c b)

  abbrev pub is_counted : ℕ → Bool
  is_counted b = eqb (count tree_left.public b) (pointers_to b (in_use tree_left.public) (times_in_use tree_left.public))

  abbrev pub spares_tests : List Bool
  spares_tests =
      all_below is_spared c.public.info.blocks
      ∷ all_below is_counted tree_left.public.info.blocks
      ∷ all times_left (in_use c.public)
      ∷ all times_left (in_use tree_left.public)
      ∷ []

  abbrev pub tree_spares_test : Bool
  tree_spares_test = implies (is_done tree_result.answer) (every spares_tests)

  -- Where each allocated block of the given set has a pointer from such a block, all of them stay.
  module _ (named : ℕ → Bool) where
    abbrev pub inside : ℕ → Bool
    inside b = allocated c.public b && named b

    abbrev pub led_from_inside : ℕ → Bool
    led_from_inside b = implies (inside b) (any (λ w. leads b w && inside (source w)) left)

    abbrev pub tree_cycle_test : Bool
    tree_cycle_test =
        implies (tree_done && all_below led_from_inside c.public.info.blocks)
        (all_below (λ b. implies (inside b) (allocated tree_left.public b)) c.public.info.blocks)

  abbrev pub keyed_stays : ℕ → Bool
  keyed_stays b = implies (allocated c.public b && has_key c.public Writing b) (allocated tree_left.public b)

  abbrev pub tree_keyed_test : Bool
  tree_keyed_test = all_below keyed_stays c.public.info.blocks

  freed_is : (b : ℕ) → Freed c tree_left b → is_freed b ≡ true
  freed_is b f = and_true _ _ f.before (ap not f.after)

  is_freed_law : (b : ℕ) → is_freed b ≡ true → Freed c tree_left b
  is_freed_law b e = record { before = and_left _ _ e; after = not-true _ (and_right (allocated c.public b) _ e) }

  times_left_law : RestSpared c tree_left o → (w : ℕ) → times_left w ≡ true
  times_left_law r w = go (source w) (destination w) (omega arith) (is_gone (source w) (destination w)) refl
    where
      go : (a b : ℕ) → b < 65536 → (t : Bool) → is_gone a b ≡ t → eqb (multiplicity tree_left.public a b) (cond t 0 (multiplicity c.public a b)) ≡ true
      go a b low true q = eq-eqb _ _ (r.gone a b low (removed_true o a b _ (is_freed_law a) q))
      go a b low false q = eq-eqb _ _ (r.left a b low (λ g. absurd_test (true_removed o a b _ (freed_is a) g) q))

  is_spared_law : RestSpared c tree_left o → (b : ℕ) → is_spared b ≡ true
  is_spared_law r b = go (is_freed b) refl
    where
      go : (t : Bool) → is_freed b ≡ t → t || same_list (block_numbers tree_left b) (block_numbers c b) ≡ true
      go true q = refl
      go false q =
          let s : Spared c tree_left b = r.spared b (λ f. absurd_test (freed_is b f) q) in
          true_same_list
          (λ i.
          s.flags i
          ∷ s.high Reading i
          ∷ s.low Reading i
          ∷ s.high Writing i
          ∷ s.low Writing i
          ∷ s.window Reading i
          ∷ s.window Writing i
          ∷ s.contents i)

  spares_tests_law : RestSpared c tree_left o → Holds spares_tests
  spares_tests_law r = (
    true_all_below is_spared _ (λ b l. is_spared_law r b),
    (
      true_all_below is_counted _ (λ b l. eq-eqb _ _ (r.counted b l)),
      (all_contains times_left (in_use c.public) (λ w h. times_left_law r w), (all_contains times_left (in_use tree_left.public) (λ w h. times_left_law r w), tt)),
    ),
  )

  module _ (small : c.public.info.blocks ≤ 65536) where
    narrow : (b : ℕ) → b < c.public.info.blocks → b < 65536
    narrow b l = omega arith

    leads_points : (b w : ℕ) → contains w (in_use (removed c o)) ≡ true → leads b w ≡ true → points_to (removed c o) (source w) b ≡ true
    unfolding points_to
    leads_points b w h l =
        let to : destination w ≡ b = eqb-true _ _ l in
        let whole : pointer (source w) b ≡ w = omega arith in
        rw whole h

    points_leads : (a b : ℕ) → b < 65536 → points_to (removed c o) a b ≡ true
        → (contains (pointer a b) (in_use (removed c o)) ≡ true) × (leads b (pointer a b) ≡ true)
    unfolding points_to
    points_leads a b low h = (h, eq-eqb (destination (pointer a b)) b (destination_pointer a b low))

    true_holds : (G : ℕ → Bool) → allocated c.public o.destination ≡ true → HoldsDestination c o (λ b. G b ≡ true) → HoldsFollowers c o (λ b. G b ≡ true) → holds G ≡ true
    true_holds G held first next =
        let ws : List ℕ = in_use (removed c o) in
        let d : ℕ = o.destination in
        and_true _ _
        (true_implies (not (any (leads d) ws)) _
        (λ none.
        first
        (λ a q.
        let there : (contains (pointer a d) ws ≡ true) × (leads d (pointer a d) ≡ true) = points_leads a d (narrow d (allocated_below c.public d held)) q in
        absurd_test (any_member (leads d) ws (pointer a d) there.0 there.1) (not-true _ none))))
        (true_all_below (λ b. implies (every (follows_tests G b)) (G b)) c.public.info.blocks
        (λ b l.
        true_implies (every (follows_tests G b)) _
        (λ h.
        let t : Holds (follows_tests G b) = every_true (follows_tests G b) h in
        let some : Some (leads b) ws = member_any (leads b) ws t.1.1.0 in
        next b t.0 (not-true _ t.1.0) (source some.which) (leads_points b some.which some.within some.passes)
        (λ a q.
        let there : (contains (pointer a b) ws ≡ true) × (leads b (pointer a b) ≡ true) = points_leads a b (narrow b l) q in
        subst (λ (k : ℕ). G k ≡ true) (source_pointer a b (narrow b l))
        (or_else (not (leads b (pointer a b))) _
        (contains_all (λ w. implies (leads b w) (G (source w))) (pointer a b) ws there.0 t.1.1.1.0)
        (ap not there.1))))))

    holds_destination : (G : ℕ → Bool) → holds G ≡ true → HoldsDestination c o (λ b. G b ≡ true)
    holds_destination G h none =
        let ws : List ℕ = in_use (removed c o) in
        let d : ℕ = o.destination in
        or_else (not (not (any (leads d) ws))) _ (and_left _ _ h)
        (ap (λ (t : Bool). not (not t))
        (false_unless _
        (λ q.
        let some : Some (leads d) ws = member_any (leads d) ws q in
        none (source some.which) (leads_points d some.which some.within some.passes))))

    holds_followers : (G : ℕ → Bool) → holds G ≡ true → HoldsFollowers c o (λ b. G b ≡ true)
    holds_followers G h b held no_root a q from =
        let ws : List ℕ = in_use (removed c o) in
        let l : b < c.public.info.blocks = allocated_below c.public b held in
        let there : (contains (pointer a b) ws ≡ true) × (leads b (pointer a b) ≡ true) = points_leads a b (narrow b l) q in
        or_else (not (every (follows_tests G b))) _
        (all_below_true (λ b. implies (every (follows_tests G b)) (G b)) c.public.info.blocks
        (and_right (implies (not (any (leads o.destination) ws)) (G o.destination)) _ h)
        b
        l)
        (ap not
        (true_every (follows_tests G b) (
          held,
          (
            ap not no_root,
            (
              any_member (leads b) ws (pointer a b) there.0 there.1,
              (
                all_contains (λ w. implies (leads b w) (G (source w))) ws (λ w m. true_implies (leads b w) _ (λ t. from (source w) (leads_points b w m t))),
                tt,
              ),
            ),
          ),
        )))

    least_tests_law : allocated c.public o.destination ≡ true → LeastFreed c tree_left o tree_result.answer → (named : ℕ → Bool) → Holds (least_tests named)
    least_tests_law held t named = (
      true_holds is_freed held (λ none. freed_is o.destination (t.destination_freed none))
          (λ b held no_root a q from. freed_is b (t.followers_freed b held no_root (λ a q. is_freed_law a (from a q)))),
      (
        true_implies (holds named) _
            (λ h.
            true_all_below (λ b. implies (is_freed b) (named b)) _
            (λ b l. true_implies (is_freed b) _ (λ f. t.least (λ b. named b ≡ true) (holds_destination named h) (holds_followers named h) b (is_freed_law b f)))),
        (true_same_list (ap answer_values t.answers), tt),
      ),
    )

    led_within : (named : ℕ → Bool) → all_below (led_from_inside named) c.public.info.blocks ≡ true
        → (b : ℕ) → inside named b ≡ true → PointedWithin (removed c o) (λ b. inside named b ≡ true) b
    led_within named h b i =
        let q : ℕ → Bool = λ w. leads b w && inside named (source w) in
        let some : Some q (in_use (removed c o)) =
        member_any q (in_use (removed c o))
        (or_else (not (inside named b)) _
        (all_below_true (led_from_inside named) c.public.info.blocks h b (allocated_below c.public b (and_left _ _ i)))
        (ap not i)) in
        record {
          from = source some.which;
          within = and_right (leads b some.which) _ some.passes;
          points = leads_points b some.which some.within (and_left _ _ some.passes);
        }

pub tree_least_tests : TreeLeast → (port : Port) (c : Card) (o : DeleteOperands) (lent : Buffers) (named : ℕ → Bool) → tree_least_test port c o lent named ≡ true
tree_least_tests tree_least port c o lent named =
    true_implies (tree_done port c o lent) _
    (λ h.
    let g = every_true (tree_done_tests port c o lent) h in
    true_every (least_tests port c o lent named) (least_tests_law port c o lent (leb-true _ _ g.1.0) g.1.1.0 (tree_least port c o lent g.0) named))

pub tree_spares_tests : TreeSpares → (port : Port) (c : Card) (o : DeleteOperands) (lent : Buffers) → tree_spares_test port c o lent ≡ true
tree_spares_tests tree_spares port c o lent =
    true_implies (is_done (tree_result port c o lent).answer) _ (λ e. true_every (spares_tests port c o lent) (spares_tests_law port c o lent (tree_spares port c o lent e)))

pub tree_cycle_tests : TreeCycle → (port : Port) (c : Card) (o : DeleteOperands) (lent : Buffers) (named : ℕ → Bool) → tree_cycle_test port c o lent named ≡ true
tree_cycle_tests tree_cycle port c o lent named =
    let n = c.public.info.blocks in
    let cycle = inside port c o lent named in
    true_implies (tree_done port c o lent && all_below (led_from_inside port c o lent named) n) _
    (λ h.
    let g = every_true (tree_done_tests port c o lent) (and_left _ _ h) in
    true_all_below (λ b. implies (cycle b) (allocated (tree_left port c o lent).public b)) n
    (λ b l.
    true_implies (cycle b) _
    (tree_cycle port c o lent g.0 (λ b. cycle b ≡ true) (λ b i. and_left _ _ i)
    (led_within port c o lent (leb-true _ _ g.1.0) named (and_right (tree_done port c o lent) _ h))
    b)))

pub tree_keyed_tests : TreeKeyed → (port : Port) (c : Card) (o : DeleteOperands) (lent : Buffers) → tree_keyed_test port c o lent ≡ true
tree_keyed_tests tree_keyed port c o lent =
    true_all_below (keyed_stays port c o lent) _
    (λ b l.
    true_implies (allocated c.public b && has_key c.public Writing b) _
    (λ h. tree_keyed port c o lent b (and_left _ _ h) (and_right (allocated c.public b) _ h)))

abbrev pub tree_least_row : (port : Port) (c : Card) (o : DeleteOperands) (lent : Buffers) (named : ℕ → Bool) → Row TreeLeast
tree_least_row port c o lent named = record { test = tree_least_test port c o lent named; follows = λ statement. tree_least_tests statement port c o lent named }

abbrev pub tree_spares_row : (port : Port) (c : Card) (o : DeleteOperands) (lent : Buffers) → Row TreeSpares
tree_spares_row port c o lent = record { test = tree_spares_test port c o lent; follows = λ statement. tree_spares_tests statement port c o lent }

abbrev pub tree_cycle_row : (port : Port) (c : Card) (o : DeleteOperands) (lent : Buffers) (named : ℕ → Bool) → Row TreeCycle
tree_cycle_row port c o lent named = record { test = tree_cycle_test port c o lent named; follows = λ statement. tree_cycle_tests statement port c o lent named }

abbrev pub tree_keyed_row : (port : Port) (c : Card) (o : DeleteOperands) (lent : Buffers) → Row TreeKeyed
tree_keyed_row port c o lent = record { test = tree_keyed_test port c o lent; follows = λ statement. tree_keyed_tests statement port c o lent }

-- ---- tree_hides

-- Where the named blocks bound what is within reach of the key that is presented, an allocated block that is not named survives a host's DELETE_TREE.
module _ (c : Card) (o : DeleteOperands) (lent : Buffers) (named : ℕ → Bool) where
  abbrev pub host_left : Card
  host_left = tree_left Host c o lent

  abbrev pub survives : ℕ → Bool
  survives b = implies (allocated c.public b && not (named b)) (allocated host_left.public b && same_list (block host_left b) (block c b))

  abbrev pub tree_hides_test : Bool
  tree_hides_test = implies (bounds (presents (DeleteTree o)) c named) (all_below survives c.public.info.blocks)

pub tree_hides_tests : TreeHides → (c : Card) (o : DeleteOperands) (lent : Buffers) (named : ℕ → Bool) → tree_hides_test c o lent named ≡ true
tree_hides_tests tree_hides c o lent named =
    let K = presents (DeleteTree o) in
    true_implies (bounds K c named) _
    (λ h.
    true_all_below (survives c o lent named) _
    (λ b l.
    true_implies (allocated c.public b && not (named b)) _
    (λ g.
    let out : named b ≡ false = not-true _ (and_right (allocated c.public b) _ g) in
    let kept : Survives c (host_left c o lent named) b =
    tree_hides K c o lent (λ high low p. p) b (record { is_allocated = and_left _ _ g; out_of_reach = λ r. absurd_test (reach_inside K c named h r) out }) in
    and_true _ _ kept.still_allocated (true_same_list kept.same_block))))

abbrev pub tree_hides_row : (c : Card) (o : DeleteOperands) (lent : Buffers) (named : ℕ → Bool) → Row TreeHides
tree_hides_row c o lent named = record { test = tree_hides_test c o lent named; follows = λ statement. tree_hides_tests statement c o lent named }
