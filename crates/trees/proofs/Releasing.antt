-- The walk between its turns: the blocks that are gone, what is left of a block's pointers, what goes with the marked blocks, and the end.
use Prim.Native.Nat.{ℕ, ◌+◌, ◌≤◌, ◌<◌}
use mathlib.Core.Path.{◌≡◌, refl, sym, ap, ◌∙◌, subst}
use mathlib.Core.Logic.{⊎_elim}
use mathlib.Core.Bool.{Bool, true, false, ◌&&◌, not, cond}
use mathlib.Core.List.{List}
use native.Mathlib.Numerals.{add-one}
use native.Mathlib.Omega.{arith}
use lib.Dec.{eqb, leb}
use lib.ListN.{length, take, get_or, set}
use lib.Seq.{get_or-set_same, get_or-set_other, take-set-le}
use Rattle.card.specs.Lists.{all}
use Rattle.laws.specs.ListsLaws.{same_test, same_or_other, false_unless}
use Rattle.card.specs.Pointers.{source, destination, contains, not_from}
use Rattle.laws.specs.BesideLaws.{InStep}
use Rattle.walks.specs.Walk.{mark, Queued, Walking, Entered}
use Rattle.walks.specs.WalkLaws.{walking_most, entered_by, entered_kept, entered_cases, queued_among, among_queued}
use Rattle.trees.specs.Release.{split_total, leads_to, remaining, Orphan, begins, cut, Releasing, Widened}
use Rattle.trees.proofs.Remaining.{split_more, split_later, split_first, split_none, leads_yes, leads_gone, leads_elsewhere, gone_leads}

-- ---- what goes with the marked blocks

pub orphan_on : {ws : List ℕ} {S T : ℕ → Type 0} → ((b : ℕ) → S b → Orphan ws T b) → {b : ℕ} → Orphan ws S b → Orphan ws T b
orphan_on f (begins e) = f _ e
orphan_on f (cut k l g) = cut k l (λ j m e. orphan_on f (g j m e))

pub widened_none : {ws marks : List ℕ} → Widened ws marks marks
widened_none = record { kept = λ b e. e; only = λ b e. begins e }

pub widened_on : {ws before marks after : List ℕ} → Widened ws before marks → Widened ws marks after → Widened ws before after
widened_on g f = record { kept = λ b e. f.kept b (g.kept b e); only = λ b e. orphan_on g.only (f.only b e) }

-- A block that goes with the marked ones is entered.
pub widened_enter : {ws marks queue marks' queue' : List ℕ} {tail b tail' : ℕ}
    → b < length marks → Orphan ws (λ x. mark marks x ≡ 1) b → Entered marks queue tail b marks' queue' tail' → Widened ws marks marks'
widened_enter {ws} {marks} {b = b} l o r = record {
  kept = λ x e. entered_kept r l x e;
  only = λ x e.
      ⊎_elim
      (λ (q : x ≡ b). subst (λ (y : ℕ). Orphan ws (λ x. mark marks x ≡ 1) y) (sym q) o)
      (λ (m : mark marks x ≡ 1). begins m)
      (entered_cases r x e);
}

-- ---- the queue

-- A block that is entered is another than those in the queue.
pub distinct_enter : {edge : ℕ → ℕ → Type 0} {marks queue marks' queue' : List ℕ} {head tail b tail' : ℕ} → Walking edge marks queue head tail
    → ((j k : ℕ) → j < k → k < tail → get_or queue j 0 ≡ get_or queue k 0 → ⊥)
    → tail ≤ length queue → ((mark marks b ≡ 1 → ⊥) → tail < length queue) → Entered marks queue tail b marks' queue' tail'
    → (j k : ℕ) → j < k → k < tail' → get_or queue' j 0 ≡ get_or queue' k 0 → ⊥
distinct_enter {marks = marks} {queue = queue} {tail = tail} {b = b} h d m room r =
    entered_by r (λ ms qs t. (j k : ℕ) → j < k → k < t → get_or qs j 0 ≡ get_or qs k 0 → ⊥)
    (λ e. d)
    (λ n j k l o e.
    let first : get_or (set queue tail b) j 0 ≡ get_or queue j 0 = get_or-set_other queue tail j b 0 (λ q. omega arith) in
    ⊎_elim
    (λ (q : k ≡ tail). n (subst (λ (x : ℕ). mark marks x ≡ 1) (sym first ∙ e ∙ rw (q, get_or-set_same queue tail b 0 (room n))) (h.is_marked j (omega arith))))
    (λ (o' : k ≡ tail → ⊥). d j k l (omega arith) (sym first ∙ e ∙ get_or-set_other queue tail k b 0 o'))
    (same_or_other k tail))

-- ---- the block at the head

module _ {ws ns left marks queue : List ℕ} {head tail at : ℕ} (h : Releasing ws ns left marks queue head tail at) (waits : head < tail) where
  inside : head < length queue
  inside = omega (arith, walking_most h.walking, h.walking.has_queue)

  gone_more : (x : ℕ) → contains x (take head queue) ≡ true → contains x (take (head + 1) queue) ≡ true
  gone_more x e =
      let q : Queued queue head x = among_queued queue head (omega (arith, inside)) x e in
      queued_among queue (head + 1) (omega (arith, inside)) x (record { at = q.at; low = omega (arith, q.low); is = q.is })

  gone_head : contains (get_or queue head 0) (take (head + 1) queue) ≡ true
  gone_head = queued_among queue (head + 1) (omega (arith, inside)) (get_or queue head 0) (record { at = head; low = omega arith; is = refl })

  gone_other : (x : ℕ) → (x ≡ get_or queue head 0 → ⊥) → contains x (take (head + 1) queue) ≡ contains x (take head queue)
  gone_other x n =
      same_test _ _
      (λ e.
      let q : Queued queue (head + 1) x = among_queued queue (head + 1) (omega (arith, inside)) x e in
      ⊎_elim
      (λ (s : q.at ≡ head). absurd (n (sym q.is ∙ ap (λ (k : ℕ). get_or queue k 0) s)))
      (λ (o : q.at ≡ head → ⊥).
      queued_among queue head (omega (arith, inside)) x (record { at = q.at; low = omega (arith, q.low); is = q.is }))
      (same_or_other q.at head))
      (gone_more x)

  not_yet : contains (get_or queue head 0) (take head queue) ≡ false
  not_yet =
      false_unless _
      (λ e.
      let q : Queued queue head (get_or queue head 0) = among_queued queue head (omega (arith, inside)) (get_or queue head 0) e in
      h.distinct q.at head q.low waits q.is)

  -- A pointer that starts elsewhere leads to a block as before.
  leads_other : (b w : ℕ) → (source w ≡ get_or queue head 0 → ⊥) → leads_to (take (head + 1) queue) b w ≡ leads_to (take head queue) b w
  unfolding leads_to not_from
  leads_other b w n = ap (λ (t : Bool). eqb (destination w) b && not t) (gone_other (source w) n)

  -- Before the first pointer of the block nothing of it is gone.
  pub remaining_start : (i b : ℕ) → ((k : ℕ) → k < i → k < length ws → source (get_or ws k 0) ≡ get_or queue head 0 → ⊥)
      → remaining ws ns queue head 0 b ≡ remaining ws ns queue head i b
  unfolding remaining split_total
  remaining_start i b f =
      sym (split_later (leads_to (take (head + 1) queue) b) (leads_to (take head queue) b) i ws ns (λ k l m. leads_other b (get_or ws k 0) (f k l m)))

  -- Behind its last one all of it is.
  pub remaining_end : (i b : ℕ) → ((k : ℕ) → i ≤ k → k < length ws → source (get_or ws k 0) ≡ get_or queue head 0 → ⊥)
      → remaining ws ns queue head i b ≡ remaining ws ns queue (head + 1) 0 b
  unfolding remaining split_total
  remaining_end i b f =
      split_first (leads_to (take (head + 1) queue) b) (leads_to (take head queue) b) i ws ns (λ k l m. leads_other b (get_or ws k 0) (f k l m))

  -- A block to which nothing is left has pointers from blocks alone that are gone.
  pub remaining_none : InStep ws ns → all (λ n. leb 1 n) ns ≡ true → (i b : ℕ) → remaining ws ns queue head i b ≡ 0
      → (k : ℕ) → k < length ws → destination (get_or ws k 0) ≡ b → contains (source (get_or ws k 0)) (take (head + 1) queue) ≡ true
  unfolding remaining
  remaining_none s some i b e k l q =
      ⊎_elim
      (λ t. gone_leads (take (head + 1) queue) b (get_or ws k 0) t q)
      (λ t. gone_more (source (get_or ws k 0)) (gone_leads (take head queue) b (get_or ws k 0) t q))
      (split_none (leads_to (take (head + 1) queue) b) (leads_to (take head queue) b) s some i e k l)

  -- One pointer of the block more is gone.
  module _ (s : InStep ws ns) (i : ℕ) (l : i < length ws) (e : source (get_or ws i 0) ≡ get_or queue head 0) where
    now_gone : (b : ℕ) → leads_to (take (head + 1) queue) b (get_or ws i 0) ≡ false
    now_gone b = leads_gone (take (head + 1) queue) b (get_or ws i 0) (rw e gone_head)

    pub remaining_here : remaining ws ns queue head i (destination (get_or ws i 0)) ≡ remaining ws ns queue head (i + 1) (destination (get_or ws i 0)) + get_or ns i 0
    unfolding remaining
    remaining_here =
        let d : ℕ = destination (get_or ws i 0) in
        let z : cond (leads_to (take (head + 1) queue) d (get_or ws i 0)) (get_or ns i 0) 0 ≡ 0 = rw (now_gone d) in
        let o : cond (leads_to (take head queue) d (get_or ws i 0)) (get_or ns i 0) 0 ≡ get_or ns i 0 = rw (leads_yes (take head queue) d (get_or ws i 0) refl (rw e not_yet)) in
        rw (add-one i) (omega (arith, split_more (leads_to (take (head + 1) queue) d) (leads_to (take head queue) d) s i l))

    pub remaining_other : (b : ℕ) → (b ≡ destination (get_or ws i 0) → ⊥) → remaining ws ns queue head i b ≡ remaining ws ns queue head (i + 1) b
    unfolding remaining
    remaining_other b n =
        let z : cond (leads_to (take (head + 1) queue) b (get_or ws i 0)) (get_or ns i 0) 0 ≡ 0 = rw (now_gone b) in
        let o : cond (leads_to (take head queue) b (get_or ws i 0)) (get_or ns i 0) 0 ≡ 0 = rw (leads_elsewhere (take head queue) b (get_or ws i 0) (λ q. n (sym q))) in
        rw (add-one i) (omega (arith, split_more (leads_to (take (head + 1) queue) b) (leads_to (take head queue) b) s i l))

-- A block that is entered behind the head leaves what remains.
pub remaining_enter : (ws ns : List ℕ) (head i x : ℕ) {marks queue marks' queue' : List ℕ} {tail b tail' : ℕ} → head < tail → Entered marks queue tail b marks' queue' tail'
    → remaining ws ns queue' head i x ≡ remaining ws ns queue head i x
unfolding remaining
remaining_enter ws ns head i x {queue = queue} {tail = tail} {b = b} l r =
    entered_by r (λ ms qs t. remaining ws ns qs head i x ≡ remaining ws ns queue head i x)
    (λ e. refl)
    (λ n. rw (take-set-le (head + 1) queue tail b (omega arith), take-set-le head queue tail b (omega arith)))
