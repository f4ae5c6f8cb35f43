-- A key looked for in the blocks of a queue, one after the other, unless the block leads on itself.
-- Assumes nothing.
use Prim.Native.Nat.{ℕ, ◌+◌, ◌≤◌, ◌<◌}
use mathlib.Core.Path.{◌≡◌, refl, sym, ap, ◌∙◌, subst}
use mathlib.Core.Logic.{⊎_elim}
use mathlib.Core.Bool.{Bool, true, false, ◌&&◌, ◌||◌}
use mathlib.Core.List.{List}
use native.Mathlib.Nat.{not-suc-le-zero}
use native.Mathlib.Omega.{arith}
use lib.Dec.{eqb}
use lib.ListN.{length, take, get_or}
use borrow.Author.Tests.{eq-eqb, ne_eqb}
use Rattle.laws.specs.ListsLaws.{or_left, false_unless, absurd_test, same_or_other}
use Rattle.card.specs.Card.{key_flag, key_high, key_low}
use Rattle.card.specs.Access.{key_is}
use Rattle.card.specs.declared.Mode.TheVariants.{Reading, Writing}
use Rattle.laws.specs.LeastLaws.{Some, any_member, member_any}
use Rattle.walks.specs.Walk.{mark, Queued}
use Rattle.walks.specs.WalkLaws.{queued_among, among_queued}
use Rattle.unlocking.specs.Unlocking.{QueuedBelow, has_this_key, fits_queued, leads_or_fits}

-- What is computed of a block's keys is what the definition says of them.
pub has_this : (flags keys : List ℕ) (high low b : ℕ) {hasRead read hasWrite write : Bool}
    → hasRead ≡ key_flag Reading (get_or flags b 0) → read ≡ key_is keys Reading b high low
    → hasWrite ≡ key_flag Writing (get_or flags b 0) → write ≡ key_is keys Writing b high low
    → (hasRead && read) || (hasWrite && write) ≡ has_this_key flags keys high low b
unfolding has_this_key
has_this flags keys high low b hr r hw w = rw (hr, r, hw, w)

-- ---- the first blocks in the queue

module _ {queue : List ℕ} {count n : ℕ} (f : QueuedBelow queue count n) where
  pub first_few : count ≤ length queue
  first_few = omega (arith, f.has_queue, f.most)

-- ---- the turns of the loop

module _ (flags keys queue : List ℕ) (count high low : ℕ) where
  -- None of the blocks before this place has the key.
  pub record Passed (at : ℕ) : Type 0 where
    pub first : QueuedBelow queue count (length flags)
    pub most : at ≤ count
    pub others : (k : ℕ) → k < at → has_this_key flags keys high low (get_or queue k 0) ≡ false

  pub passed_none : QueuedBelow queue count (length flags) → Passed 0
  passed_none f = record { first = f; most = omega arith; others = λ k l. absurd (not-suc-le-zero l) }

  module _ {at : ℕ} (h : Passed at) where
    pub passed_found : at < count → {t : Bool} → t ≡ has_this_key flags keys high low (get_or queue at 0) → t ≡ true
        → true ≡ fits_queued flags keys (take count queue) high low
    unfolding fits_queued
    passed_found l e p =
        let q : Queued queue count (get_or queue at 0) = record { at = at; low = l; is = refl } in
        sym (any_member (has_this_key flags keys high low) (take count queue) _ (queued_among queue count (first_few h.first) _ q) (sym e ∙ p))

    pub passed_more : at < count → {t : Bool} → t ≡ has_this_key flags keys high low (get_or queue at 0) → t ≡ false → Passed (at + 1)
    passed_more l e p = record {
      first = h.first;
      most = omega arith;
      others = λ k m.
          ⊎_elim
          (λ (s : k ≡ at). subst (λ (i : ℕ). has_this_key flags keys high low (get_or queue i 0) ≡ false) (sym s) (sym e ∙ p))
          (λ (o : k ≡ at → ⊥). h.others k (omega arith))
          (same_or_other k at);
    }

    pub passed_whole : count ≤ at → false ≡ fits_queued flags keys (take count queue) high low
    unfolding fits_queued
    passed_whole l =
        sym
        (false_unless _
        (λ e.
        let m : Some (has_this_key flags keys high low) (take count queue) = member_any (has_this_key flags keys high low) (take count queue) e in
        let r : Queued queue count m.which = among_queued queue count (first_few h.first) m.which m.within in
        absurd_test (ap (has_this_key flags keys high low) r.is ∙ m.passes) (h.others r.at (omega (arith, r.low)))))

-- ---- a block that leads on, or whose write key fits

module _ (flags keys marks queued : List ℕ) (b : ℕ) where
  pub leads_marked : mark marks b ≡ 1 → true ≡ leads_or_fits flags keys marks queued b
  unfolding leads_or_fits
  leads_marked e = sym (or_left (eqb (mark marks b) 1) _ (eq-eqb (mark marks b) 1 e))

  pub fits_unmarked : (mark marks b ≡ 1 → ⊥) → {t : Bool} → t ≡ fits_queued flags keys queued (key_high keys Writing b) (key_low keys Writing b)
      → t ≡ leads_or_fits flags keys marks queued b
  unfolding leads_or_fits
  fits_unmarked n e = rw (ne_eqb (mark marks b) 1 n) e
