-- The pointers that stay, closed up with zeros behind them, are what is left once the pointer is dropped, and then each that starts at a marked block.
use Prim.Native.Nat.{ℕ, ◌+◌, ◌-◌, ◌≤◌, ◌<◌}
use mathlib.Core.Path.{◌≡◌, refl, sym, ap, ◌∙◌, subst}
use mathlib.Core.Bool.{Bool, true, false, ◌&&◌, ◌||◌, not}
use mathlib.Core.List.{List, [], ◌∷◌, ◌++◌, append_assoc}
use native.Mathlib.Omega.{arith}
use lib.Dec.{eqb}
use lib.ListN.{length, take, drop, length-set, replicate-append-replicate}
use lib.Seq.{ext_get_or, get_or-take, length-take-le}
use Rattle.card.specs.Lists.{tabulate}
use Rattle.laws.specs.ListsLaws.{same_test}
use Rattle.card.specs.Pointers.{pointer, source, contains, pointers_to, remove, remove_beside, keep, keep_beside, not_from}
use Rattle.laws.specs.BesideLaws.{InStep, in_step_self}
use Rattle.laws.specs.KeepLaws.{keep_most, keep_same, keep_keep, remove_keeps, tabulate_length, tabulate_at}
use Rattle.laws.specs.NearestLaws.{Place, contains_place, numbers_hold, hold_numbers}
use Rattle.card.specs.Contents.{zeros}
use Rattle.card.specs.Card.{card}
use Rattle.card.specs.Plan.{drop_pointer, drop_from, with_used, change_public, change_keys, change_contents, change, changes}
use Rattle.laws.specs.ChangesLaws.{used_in_step, removed_long, removed_take, removed_drop, removed_times_take, removed_times_drop}
use Rattle.card.specs.declared.Info.{Info}
use Rattle.walks.specs.Walk.{mark, marked_below}
use Rattle.removal.specs.Dropping.{stays, ClosedUp, Blanked, CanDrop}

not_or : (s t : Bool) → not s && not t ≡ not (s || t)
not_or true t = refl
not_or false t = refl

-- One zero more stands behind.
zeros_behind : (kept used : ℕ) (xs : List ℕ) → kept < used → zeros (used - kept) ++ xs ≡ zeros ((used - 1) - kept) ++ (0 ∷ xs)
zeros_behind kept used xs l =
    let n : ℕ = (used - 1) - kept in
    let e : used - kept ≡ n + 1 = omega arith in
    ap (λ (k : ℕ). zeros k ++ xs) e ∙ ap (λ (ys : List ℕ). ys ++ xs) (sym (replicate-append-replicate {A = ℕ} n 1 0)) ∙ append_assoc (zeros n) (0 ∷ []) xs

module _ (info : Info) (counts pointers multiplicities marks : List ℕ) (a b : ℕ)
    (d : CanDrop counts pointers multiplicities info.used info.blocks (pointer a b)) where
  abbrev used : ℕ
  used = info.used

  abbrev w : ℕ
  w = pointer a b

  abbrev ws : List ℕ
  ws = take used pointers

  abbrev ns : List ℕ
  ns = take used multiplicities

  abbrev bs : List ℕ
  bs = marked_below marks info.blocks

  fit : used ≤ length pointers
  fit = d.sorted.within

  same : length multiplicities ≡ length pointers
  same = d.countable.paired.same

  -- ---- the pointers that stay

  source_low : (x : ℕ) → contains x ws ≡ true → source x < info.blocks
  source_low x h =
      let p : Place ws x = contains_place x ws h in
      let inside : p.at < used = omega (arith, p.within, length-take-le used pointers fit) in
      subst (λ (k : ℕ). source k < info.blocks) (sym (get_or-take used pointers p.at 0 inside) ∙ p.is) (d.source_below p.at inside)

  marked_source : (x : ℕ) → contains x ws ≡ true → contains (source x) bs ≡ eqb (mark marks (source x)) 1
  marked_source x h =
      same_test _ _
      (λ e. (numbers_hold (λ b. eqb (mark marks b) 1) info.blocks (source x) e).1)
      (λ e. hold_numbers (λ b. eqb (mark marks b) 1) info.blocks (source x) (source_low x h) e)

  both_stay : (x : ℕ) → contains x ws ≡ true → not (eqb x w) && not_from bs x ≡ stays marks w x
  unfolding stays not_from
  both_stay x h = not_or (eqb x w) (contains (source x) bs) ∙ ap (λ (t : Bool). not (eqb x w || t)) (marked_source x h)

  kept_beside : {ms : List ℕ} → InStep ws ms → keep_beside (not_from bs) (remove w ws) (remove_beside w ws ms) ≡ keep_beside (stays marks w) ws ms
  unfolding remove keep
  kept_beside {ms} s =
      rw (remove_keeps w s d.sorted.ascends, remove_keeps w (in_step_self ws) d.sorted.ascends)
      (keep_keep (not_from bs) (λ x. not (eqb x w)) s ∙ keep_same (λ x. not (eqb x w) && not_from bs x) (stays marks w) ws ms both_stay)

  -- ---- the tables once the pointer is dropped

  abbrev pointers₁ : List ℕ
  pointers₁ = remove w ws ++ (0 ∷ drop used pointers)

  abbrev multiplicities₁ : List ℕ
  multiplicities₁ = remove_beside w ws ns ++ (0 ∷ drop used multiplicities)

  abbrev ws₁ : List ℕ
  ws₁ = keep (not_from bs) (take (used - 1) pointers₁)

  abbrev ns₁ : List ℕ
  ns₁ = keep_beside (not_from bs) (take (used - 1) pointers₁) (take (used - 1) multiplicities₁)

  stay_pointers : ws₁ ≡ keep (stays marks w) ws
  unfolding keep remove
  stay_pointers = rw (removed_take w used pointers fit d.present) (kept_beside (in_step_self ws))

  stay_times : ns₁ ≡ keep_beside (stays marks w) ws ns
  stay_times =
      rw (removed_take w used pointers fit d.present, removed_times_take w used pointers multiplicities fit same d.present)
      (kept_beside (used_in_step w 0 used pointers multiplicities fit same))

  pub fewer : length (keep (stays marks w) ws) < used
  fewer =
      let few : length (keep (not_from bs) (remove w ws)) ≤ length (remove w ws) = keep_most (not_from bs) (remove w ws) in
      let long : length (keep (not_from bs) (remove w ws)) ≡ length (keep (stays marks w) ws) =
      ap (λ (xs : List ℕ). length (keep (not_from bs) xs)) (sym (removed_take w used pointers fit d.present)) ∙ ap length stay_pointers in
      omega (arith, removed_long w used pointers fit d.present)

  module _ {counts' between betweenTimes pointers' multiplicities' : List ℕ} {kept : ℕ} {after : Info}
      (g : ClosedUp marks w used counts pointers multiplicities counts' between betweenTimes kept)
      (z : Blanked between betweenTimes kept used pointers' multiplicities')
      (e : after ≡ with_used info kept) where
    is_kept_law : kept ≡ length ws₁
    is_kept_law = g.is_kept ∙ ap length (sym stay_pointers)

    low : kept < used
    low = omega (arith, g.is_kept, fewer)

    is_pointers_law : pointers' ≡ ws₁ ++ (zeros ((used - 1) - length ws₁) ++ drop (used - 1) pointers₁)
    is_pointers_law =
        z.is_pointers
        ∙ rw (← is_kept_law, removed_drop w used pointers fit d.present, stay_pointers, g.front, g.behind, zeros_behind kept used (drop used pointers) low) refl

    is_times : multiplicities' ≡ ns₁ ++ (zeros ((used - 1) - length ws₁) ++ drop (used - 1) multiplicities₁)
    is_times =
        z.is_multiplicities
        ∙ rw (← is_kept_law, removed_times_drop w used pointers multiplicities fit same d.present, stay_times, g.front_times, g.behind_times, zeros_behind kept used (drop used multiplicities) low) refl

    is_counts : counts' ≡ tabulate (λ x. pointers_to x ws₁ ns₁) (length counts)
    is_counts =
        ext_get_or 0 counts' (tabulate (λ x. pointers_to x ws₁ ns₁) (length counts))
        (g.same_counts ∙ sym (tabulate_length (λ x. pointers_to x ws₁ ns₁) (length counts)))
        (λ i l.
        let inside : i < length counts = omega (arith, g.same_counts) in
        g.counted i inside ∙ rw (← stay_pointers, ← stay_times) (sym (tabulate_at (λ x. pointers_to x ws₁ ns₁) (length counts) i inside)))

    pub dropped : (flags keys windows contents : List ℕ)
        → card after flags keys counts' pointers' multiplicities' windows contents
        ≡ changes (card info flags keys counts pointers multiplicities windows contents) (drop_pointer a b ∷ (drop_from bs ∷ []))
    unfolding changes change change_public change_keys change_contents
    dropped flags keys windows contents = rw (e, is_kept_law, is_counts, is_pointers_law, is_times, length-set) refl
