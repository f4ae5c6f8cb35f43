-- Laws of a walk: that a sound card's pointers can be walked along, its start, a block entered, the block at its head left, the growth of the marks, and its end.
-- Assumes nothing.
use Rattle.std.specs.Prelude.{ℕ, zero, suc, ◌+◌, ◌≤◌, ◌<◌, ◌≡◌, refl, ◌⊎◌, Bool, true, false, cond, List, [], ◌∷◌, eqb, length, take, get_or, set, replicate}
use Rattle.std.proofs.Common.{sym, ap, ◌∙◌, subst, inl, inr, ⊎_elim, append-nil, le_of_suc-le-suc, not-suc-le-zero, arith, length-set, get_or-set_same, get_or-set_other, get_or-take, length-take-le, eq-eqb, ne_eqb, eqb-true}
use Rattle.std.proofs.lemmas.List.{length-replicate}
use Rattle.std.proofs.Math.ListN.{get_or-eq_default}
use Rattle.std.proofs.lemmas.Bool.{eqb-false}
use Rattle.card.specs.Lists.{numbers_below}
use Rattle.laws.specs.ListsLaws.{not_cases, below_or_not, same_or_other, all_at}
use Rattle.card.specs.Pointers.{contains}
use Rattle.laws.specs.NearestLaws.{Place, contains_place, place_contains}
use Rattle.laws.specs.NumbersLaws.{one, numbers_more}
use Rattle.card.specs.Card.{Card, allocated, in_use}
use Rattle.card.specs.SoundCard.{SoundCard, RightPointer}
use Rattle.laws.specs.SoundnessLaws.{pointer_right_true, allocated_below}
use Rattle.walks.specs.Walk.{Walkable, mark, marked, marked_below, Queued, Led, begins, leads, Walking, Grown, Spread, Entered}

-- ---- the pointers of a sound card

module _ (c : Card) (s : SoundCard c) where
  pub sound_right : (k : ℕ) → k < length (in_use c.public) → RightPointer c.public (get_or (in_use c.public) k 0)
  sound_right k l = pointer_right_true _ _ (all_at _ (in_use c.public) s.is_sound.pointers_right k l)

  right_used : (k : ℕ) → k < c.public.info.used → RightPointer c.public (get_or c.public.pointers k 0)
  right_used k l =
      subst (λ (w : ℕ). RightPointer c.public w) (get_or-take c.public.info.used c.public.pointers k 0 l)
      (sound_right k (omega (arith, length-take-le c.public.info.used c.public.pointers s.shaped.used_high)))

  low : (b : ℕ) → allocated c.public b ≡ true → b < 4096
  low b a = omega (arith, allocated_below c.public b a, s.shaped.in_ranges.blocks_high)

  pub sound_walkable : Walkable c.public.pointers c.public.info.used
  sound_walkable = record {
    within = s.shaped.used_high;
    few = omega (arith, s.shaped.used_high, s.shaped.has_lengths.places_high);
    source_low = λ k l. low _ (right_used k l).source_allocated;
    destination_low = λ k l. low _ (right_used k l).destination_allocated;
  }

-- ---- how many blocks are marked

pub marked_none : (n : ℕ) → marked (replicate n 0) ≡ 0
unfolding marked
marked_none zero = refl
marked_none (suc n) = omega (arith, marked_none n)

marked_most : (xs : List ℕ) → marked xs ≤ length xs
unfolding marked
marked_most [] = omega arith
marked_most (x ∷ xs) = go (eqb x 1) (marked_most xs)
  where
    go : (t : Bool) → marked xs ≤ length xs → cond t 1 0 + marked xs ≤ suc (length xs)
    go true h = omega arith
    go false h = omega arith

-- Where one block is not marked, fewer are marked than there are blocks.
marked_room : (xs : List ℕ) (i : ℕ) → i < length xs → (mark xs i ≡ 1 → ⊥) → marked xs < length xs
unfolding marked
marked_room [] i l n = absurd (not-suc-le-zero l)
marked_room (x ∷ xs) zero l n = rw (ne_eqb x 1 n) (omega (arith, marked_most xs))
marked_room (x ∷ xs) (suc i) l n = go (eqb x 1) (marked_room xs i (le_of_suc-le-suc l) n)
  where
    go : (t : Bool) → marked xs < length xs → cond t 1 0 + marked xs < suc (length xs)
    go true h = omega arith
    go false h = omega arith

marked_set : (xs : List ℕ) (i : ℕ) → i < length xs → (mark xs i ≡ 1 → ⊥) → marked (set xs i 1) ≡ marked xs + 1
unfolding marked
marked_set [] i l n = absurd (not-suc-le-zero l)
marked_set (x ∷ xs) zero l n = rw (ne_eqb x 1 n) (omega arith)
marked_set (x ∷ xs) (suc i) l n = omega (arith, marked_set xs i (le_of_suc-le-suc l) n)

-- The marked blocks below a bound are as many.
numbers_front : (q : ℕ → Bool) (m : ℕ) → length (numbers_below q (suc m)) ≡ one (q 0) + length (numbers_below (λ b. q (suc b)) m)
unfolding numbers_below
numbers_front q zero = omega (arith, numbers_more q 0)
numbers_front q (suc m) = omega (arith, numbers_more q (suc m), numbers_front q m, numbers_more (λ b. q (suc b)) m)

marked_length : (marks : List ℕ) → marked marks ≡ length (marked_below marks (length marks))
unfolding marked numbers_below
marked_length [] = refl
marked_length (x ∷ xs) = omega (arith, marked_length xs, numbers_front (λ b. eqb (mark (x ∷ xs) b) 1) (length xs))

numbers_beyond : (q : ℕ → Bool) (m n : ℕ) → m ≤ n → ((b : ℕ) → m ≤ b → b < n → q b ≡ false) → numbers_below q n ≡ numbers_below q m
unfolding numbers_below
numbers_beyond q m zero l f = let e : m ≡ 0 = omega arith in rw e
numbers_beyond q m (suc n) l f =
    ⊎_elim
    (λ (k : m < suc n). rw (f n (omega arith) (omega arith)) (append-nil _ ∙ numbers_beyond q m n (omega arith) (λ b i j. f b i (omega arith))))
    (λ (k : suc n ≤ m). let e : m ≡ suc n = omega arith in rw e)
    (below_or_not m (suc n))

-- With no mark from n on, as many blocks are marked as stand below n.
pub marked_below_law : (marks : List ℕ) (n : ℕ) → n ≤ length marks → ((b : ℕ) → mark marks b ≡ 1 → b < n) → marked marks ≡ length (marked_below marks n)
marked_below_law marks n l f =
    marked_length marks
    ∙ ap length
    (numbers_beyond (λ b. eqb (mark marks b) 1) n (length marks) l (λ b i j. ne_eqb (mark marks b) 1 (λ e. omega (arith, f b e))))

-- ---- no block is marked

pub none_marked : (n b : ℕ) → mark (replicate n 0) b ≡ 0
none_marked zero b = refl
none_marked (suc n) zero = refl
none_marked (suc n) (suc b) = none_marked n b

pub walking_none : {edge : ℕ → ℕ → Type 0} {marks queue : List ℕ} → marks ≡ replicate 4096 0 → length queue ≡ 4096 → Walking edge marks queue 0 0
walking_none {marks} e l = record {
  has_marks = ap length e ∙ length-replicate {A = ℕ} 4096 0;
  has_queue = l;
  order = omega arith;
  counted = sym (ap marked e ∙ marked_none 4096);
  is_marked = λ k m. absurd (not-suc-le-zero m);
  queued = λ b m.
      let z : mark marks b ≡ 0 = rw e (none_marked 4096 b) in
      absurd (omega arith);
  settled = λ k b m. absurd (not-suc-le-zero m);
}

-- ---- a block that is entered

-- It was marked, and nothing changes; or it was not, and it is marked and queued.
pub entered_old : (marks queue : List ℕ) (tail b : ℕ) → mark marks b ≡ 1 → Entered marks queue tail b marks queue tail
entered_old marks queue tail b e = let t = eq-eqb (mark marks b) 1 e in record { is_marks = rw t; is_queue = rw t; is_tail = rw t }

pub entered_new : (marks queue : List ℕ) (tail b : ℕ)
    → (mark marks b ≡ 1 → ⊥) → Entered marks queue tail b (set marks b 1) (set queue tail b) (tail + 1)
entered_new marks queue tail b n = let t = ne_eqb (mark marks b) 1 n in record { is_marks = rw t; is_queue = rw t; is_tail = rw t }

module _ {marks queue : List ℕ} {tail b : ℕ} {marks' queue' : List ℕ} {tail' : ℕ} (r : Entered marks queue tail b marks' queue' tail') where
  -- By cases: it was marked, or it was not.
  pub entered_by : (P : List ℕ → List ℕ → ℕ → Type 0) → (mark marks b ≡ 1 → P marks queue tail)
      → ((mark marks b ≡ 1 → ⊥) → P (set marks b 1) (set queue tail b) (tail + 1)) → P marks' queue' tail'
  entered_by P was new =
      ⊎_elim
      (λ (t : eqb (mark marks b) 1 ≡ true). rw (r.is_marks, r.is_queue, r.is_tail, t) (was (eqb-true (mark marks b) 1 t)))
      (λ (t : eqb (mark marks b) 1 ≡ false). rw (r.is_marks, r.is_queue, r.is_tail, t) (new (eqb-false (mark marks b) 1 t)))
      (not_cases (eqb (mark marks b) 1))

  pub entered_marks : b < length marks → mark marks' b ≡ 1
  entered_marks l = entered_by (λ ms qs t. mark ms b ≡ 1) (λ e. e) (λ n. get_or-set_same marks b 1 0 l)

  pub entered_other : (x : ℕ) → (x ≡ b → ⊥) → mark marks' x ≡ mark marks x
  entered_other x o = entered_by (λ ms qs t. mark ms x ≡ mark marks x) (λ e. refl) (λ n. get_or-set_other marks b x 1 0 o)

  -- Each marked block stays marked, and no other than this one becomes so.
  pub entered_kept : b < length marks → (x : ℕ) → mark marks x ≡ 1 → mark marks' x ≡ 1
  entered_kept l x e = ⊎_elim (λ (q : x ≡ b). rw q (entered_marks l)) (λ o. entered_other x o ∙ e) (same_or_other x b)

  pub entered_cases : (x : ℕ) → mark marks' x ≡ 1 → (x ≡ b) ⊎ (mark marks x ≡ 1)
  entered_cases x e = ⊎_elim (λ q. inl q) (λ o. inr (sym (entered_other x o) ∙ e)) (same_or_other x b)

  pub entered_tail : tail ≤ tail'
  entered_tail = entered_by (λ ms qs t. tail ≤ t) (λ e. omega arith) (λ n. omega arith)

  pub entered_queue : (k : ℕ) → k < tail → get_or queue' k 0 ≡ get_or queue k 0
  entered_queue k l = entered_by (λ ms qs t. get_or qs k 0 ≡ get_or queue k 0) (λ e. refl) (λ n. get_or-set_other queue tail k b 0 (λ q. omega arith))

-- ---- the queue

-- The blocks before a place of the queue are those that it contains there.
module _ (queue : List ℕ) (count : ℕ) (few : count ≤ length queue) where
  pub queued_among : (b : ℕ) → Queued queue count b → contains b (take count queue) ≡ true
  queued_among b q =
      subst (λ (x : ℕ). contains x (take count queue) ≡ true) (get_or-take count queue q.at 0 q.low ∙ q.is)
      (place_contains (take count queue) q.at (omega (arith, q.low, length-take-le count queue few)))

  pub among_queued : (b : ℕ) → contains b (take count queue) ≡ true → Queued queue count b
  among_queued b m =
      let p : Place (take count queue) b = contains_place b (take count queue) m in
      let l : p.at < count = omega (arith, p.within, length-take-le count queue few) in
      record { at = p.at; low = l; is = sym (get_or-take count queue p.at 0 l) ∙ p.is }

module _ {edge : ℕ → ℕ → Type 0} {marks queue : List ℕ} {head tail : ℕ} (h : Walking edge marks queue head tail) where
  pub walking_most : tail ≤ 4096
  walking_most = omega (arith, h.counted, h.has_marks, marked_most marks)

  pub walking_low : (k : ℕ) → k < tail → get_or queue k 0 < 4096
  walking_low k l =
      ⊎_elim
      (λ b. omega (arith, h.has_marks))
      (λ b.
      let z : mark marks (get_or queue k 0) ≡ 0 = get_or-eq_default marks 0 b in
      absurd (omega (arith, h.is_marked k l)))
      (below_or_not (get_or queue k 0) (length marks))

  pub walking_room : (b : ℕ) → b < 4096 → (mark marks b ≡ 1 → ⊥) → tail < 4096
  walking_room b l n = omega (arith, h.counted, h.has_marks, marked_room marks b (omega (arith, h.has_marks)) n)

  -- A block that was not marked.
  walking_new : (b : ℕ) → b < 4096 → (mark marks b ≡ 1 → ⊥) → Walking edge (set marks b 1) (set queue tail b) head (tail + 1)
  walking_new b l n =
      let long : b < length marks = omega (arith, h.has_marks) in
      let room : tail < length queue = omega (arith, h.has_queue, walking_room b l n) in
      let r = entered_new marks queue tail b n in
      record {
        has_marks = length-set marks b 1 ∙ h.has_marks;
        has_queue = length-set queue tail b ∙ h.has_queue;
        order = omega (arith, h.order);
        counted = omega (arith, h.counted, marked_set marks b long n);
        is_marked = λ k m.
            ⊎_elim
            (λ (q : k ≡ tail). rw (q, get_or-set_same queue tail b 0 room) (entered_marks r long))
            (λ (o : k ≡ tail → ⊥). rw (get_or-set_other queue tail k b 0 o) (entered_kept r long _ (h.is_marked k (omega arith))))
            (same_or_other k tail);
        queued = λ x m.
            ⊎_elim
            (λ (q : x ≡ b). record { at = tail; low = omega arith; is = get_or-set_same queue tail b 0 room ∙ sym q })
            (λ (z : mark marks x ≡ 1).
            let w : Queued queue tail x = h.queued x z in
            record { at = w.at; low = omega (arith, w.low); is = entered_queue r w.at w.low ∙ w.is })
            (entered_cases r x m);
        settled = λ k x m e.
            entered_kept r long x (h.settled k x m (subst (λ (a : ℕ). edge a x) (entered_queue r k (omega (arith, h.order))) e));
      }

  pub walking_enter : {b tail' : ℕ} {marks' queue' : List ℕ}
      → b < 4096 → Entered marks queue tail b marks' queue' tail' → Walking edge marks' queue' head tail'
  walking_enter {b} l r = entered_by r (λ ms qs t. Walking edge ms qs head t) (λ e. h) (λ n. walking_new b l n)

  -- The block at the head is left.
  pub walking_next : head < tail → ((b : ℕ) → edge (get_or queue head 0) b → mark marks b ≡ 1) → Walking edge marks queue (head + 1) tail
  walking_next l f = record {
    has_marks = h.has_marks;
    has_queue = h.has_queue;
    order = omega arith;
    counted = h.counted;
    is_marked = h.is_marked;
    queued = h.queued;
    settled = λ k b m e.
        ⊎_elim
        (λ (q : k ≡ head). f b (subst (λ (i : ℕ). edge (get_or queue i 0) b) q e))
        (λ (o : k ≡ head → ⊥). h.settled k b (omega arith) e)
        (same_or_other k head);
  }

-- ---- what the marks become

pub grown_none : {edge : ℕ → ℕ → Type 0} {marks : List ℕ} → Grown edge marks marks
grown_none = record { kept = λ b e. e; led = λ b e. begins e }

module _ {edge : ℕ → ℕ → Type 0} {before marks : List ℕ} (g : Grown edge before marks) where
  pub led_back : {b : ℕ} → Led edge marks b → Led edge before b
  led_back (begins e) = g.led _ e
  led_back (leads r e) = leads (led_back r) e

  pub grown_on : {after : List ℕ} → Grown edge marks after → Grown edge before after
  grown_on f = record { kept = λ b e. f.kept b (g.kept b e); led = λ b e. led_back (f.led b e) }

  -- The end of an edge from a marked block is entered.
  pub grown_enter : {a b : ℕ} {queue : List ℕ} {tail : ℕ} {marks' queue' : List ℕ} {tail' : ℕ}
      → mark marks a ≡ 1 → edge a b → b < length marks → Entered marks queue tail b marks' queue' tail' → Grown edge before marks'
  grown_enter {a} {b} m e l r = record {
    kept = λ x z. entered_kept r l x (g.kept x z);
    led = λ x z.
        ⊎_elim
        (λ (q : x ≡ b). subst (λ (y : ℕ). Led edge before y) (sym q) (leads (g.led a m) e))
        (λ (w : mark marks x ≡ 1). g.led x w)
        (entered_cases r x z);
  }

-- ---- the end

-- With no block left in the queue, the marked blocks are those of the least set.
module _ {edge : ℕ → ℕ → Type 0} {before marks queue : List ℕ} {head tail : ℕ}
    (h : Walking edge marks queue head tail) (g : Grown edge before marks) (l : tail ≤ head) where
  walking_reached : (b : ℕ) → Led edge before b → mark marks b ≡ 1
  walking_reached b (begins e) = g.kept b e
  walking_reached b (leads {a} r e) =
      let w : Queued queue tail a = h.queued a (walking_reached a r) in
      h.settled w.at b (omega (arith, w.low)) (subst (λ (x : ℕ). edge x b) (sym w.is) e)

  pub walking_whole : Spread edge before marks queue tail
  walking_whole = record {
    walking = let e : head ≡ tail = omega (arith, h.order) in subst (λ (n : ℕ). Walking edge marks queue n tail) e h;
    reached = walking_reached;
    led = g.led;
  }
