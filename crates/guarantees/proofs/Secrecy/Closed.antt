-- A set of blocks that is closed under the four rules of reach, and how it stays closed under each change of a card.
use Rattle.std.specs.Prelude.{Option}
use Prim.Native.Nat.{ℕ, ◌*◌, ◌≤◌, ◌<◌}
use mathlib.Core.Path.{◌≡◌, refl, sym, ap, ◌∙◌, subst}
use mathlib.Core.Logic.{◌⊎◌, inl, inr, ⊎_elim}
use mathlib.Core.Bool.{Bool, true, false, not, false≢true}
use mathlib.Core.List.{List}
use native.Mathlib.Omega.{arith}
use lib.Dec.{eqb, ltb}
use lib.ListN.{length, get_or, set, length-set, length-append, length-replicate}
use lib.Seq.{get_or-set_same, get_or-set_other, set_out}
use borrow.Author.Tests.{lt-ltb, ltb-true, eq-eqb}
use Rattle.card.specs.Lists.{all}
use Rattle.laws.specs.ListsLaws.{and_right, absurd_test, same_or_other, below_or_not}
use Rattle.card.specs.Pointers.{pointer, source, destination, contains, insert, remove, not_from}
use Rattle.laws.specs.PointersLaws.{source_pointer, destination_pointer, contains_insert, contains_remove, contains_all}
use Rattle.laws.specs.KeepLaws.{keep_contains}
use Rattle.card.specs.Contents.{fill, zeros}
use Rattle.laws.specs.ContentsLaws.{fill_length, block_fits}
use Rattle.card.specs.Card.{Public, Card, flag, allocated, has_key, is_root, window_at, window_end, window_open, in_use, points_to, key_high, key_low}
use Rattle.laws.specs.SoundnessLaws.{allocated_below}
use Rattle.card.specs.Plan.{Change, freed_flags, with_flags, set_window, set_block, set_key, take_block, free_block, sweep_block, add_pointer, raise_pointer, lower_pointer, drop_pointer, drop_from, set_time, change_public, change_keys, change_contents, change}
use Rattle.laws.specs.ChangesLaws.{window_at_block, kept_high, kept_low, uncleared_high, uncleared_low, inserted_long, inserted_take, removed_take, removed_length, in_use_kept}
use Rattle.card.specs.Reach.{key_presented, sealed, Reach, unsealed_root, by_key, open_window, pointed}
use Rattle.card.specs.declared.Mode.{Mode}
use Rattle.card.specs.declared.Mode.TheVariants.{Reading, Writing}

-- The set satisfies the four rules of "within reach" on the card.
pub record Closed (K : ℕ → ℕ → Bool) (G : ℕ → Type 0) (c : Card) : Type 0 where
  pub root : (b : ℕ) → allocated c.public b ≡ true → is_root c.public b ≡ true → sealed K c b ≡ false → G b
  pub key : (mode : Mode) (b : ℕ) → allocated c.public b ≡ true → key_presented K c mode b ≡ true → G b
  pub window : (mode : Mode) (b : ℕ) → allocated c.public b ≡ true → window_open c.public mode b ≡ true → G b
  pub pointed : (a b : ℕ) → G a → allocated c.public b ≡ true → points_to c.public a b ≡ true → sealed K c b ≡ false → G b

-- The blocks within reach are closed under reach.
pub reach_closed : (K : ℕ → ℕ → Bool) (c : Card) → Closed K (Reach K c) c
reach_closed K c = record {
  root = λ b a r s. unsealed_root a r s;
  key = λ mode b a k. by_key mode a k;
  window = λ mode b a o. open_window mode a o;
  pointed = λ a b g h p s. pointed g h p s;
}

-- The lengths and bounds that every change keeps, a sound card's among them.
pub record Regular (c : Card) : Type 0 where
  pub blocks_high : c.public.info.blocks ≤ 4096
  pub flags : length c.public.flags ≡ c.public.info.blocks
  pub contents : length c.contents ≡ c.public.info.blocks * c.public.info.bytes
  pub used_high : c.public.info.used ≤ length c.public.pointers

-- A block below N that is not allocated, with no pointer of its own.
abbrev pub Idle : Public → ℕ → Type 0
Idle p b = (b < p.info.blocks) × (allocated p b ≡ false) × (all (λ w. not (eqb (source w) b)) (in_use p) ≡ true)

-- What a host's call must show of a change on a card's public part, for a set of blocks to stay closed and the others to keep their contents.
abbrev pub Allowed : (ℕ → Type 0) → Public → Change → Type 0
Allowed G p (set_window mode b end) = G b ⊎ (end ≤ p.info.time)
Allowed G p (set_block b ys) = G b × (b < p.info.blocks) × (length ys ≡ p.info.bytes)
Allowed G p (set_key mode b key) = G b
Allowed G p (take_block b) = Idle p b
Allowed G p (free_block b) = b < p.info.blocks
Allowed G p (sweep_block b) = Idle p b
Allowed G p (add_pointer a b) = G b × (b < p.info.blocks)
Allowed G p (raise_pointer a b) = Unit {0}
Allowed G p (lower_pointer a b) = Unit {0}
Allowed G p (drop_pointer a b) = contains (pointer a b) (in_use p) ≡ true
Allowed G p (drop_from bs) = Unit {0}
Allowed G p (set_time t total) = p.info.time ≤ t

-- A block that is taken or swept joins the set: its contents are known, and no pointer leads on from it.
abbrev pub TakenBy : Change → ℕ → Type 0
TakenBy (set_window mode b end) x = ⊥
TakenBy (set_block b ys) x = ⊥
TakenBy (set_key mode b key) x = ⊥
TakenBy (take_block b) x = x ≡ b
TakenBy (free_block b) x = ⊥
TakenBy (sweep_block b) x = x ≡ b
TakenBy (add_pointer a b) x = ⊥
TakenBy (raise_pointer a b) x = ⊥
TakenBy (lower_pointer a b) x = ⊥
TakenBy (drop_pointer a b) x = ⊥
TakenBy (drop_from bs) x = ⊥
TakenBy (set_time t total) x = ⊥

abbrev pub Grown : (ℕ → Type 0) → Change → ℕ → Type 0
Grown G step x = G x ⊎ TakenBy step x

-- ---- pointers after a change

module _ (p : Public) (a b : ℕ) (h : p.info.used ≤ length p.pointers) where
  pub in_use_added : in_use (change_public (add_pointer a b) p) ≡ insert (pointer a b) (in_use p)
  unfolding change_public
  in_use_added = inserted_take (pointer a b) p.info.used p.pointers h

  pub used_added : (change_public (add_pointer a b) p).info.used ≤ length (change_public (add_pointer a b) p).pointers
  unfolding change_public
  used_added = simp (length-append, inserted_long (pointer a b) p.info.used p.pointers h) (omega arith)

  pub in_use_dropped : contains (pointer a b) (in_use p) ≡ true → in_use (change_public (drop_pointer a b) p) ≡ remove (pointer a b) (in_use p)
  unfolding change_public
  in_use_dropped e = removed_take (pointer a b) p.info.used p.pointers h e

  pub used_dropped : contains (pointer a b) (in_use p) ≡ true
      → (change_public (drop_pointer a b) p).info.used ≤ length (change_public (drop_pointer a b) p).pointers
  unfolding change_public
  used_dropped e = omega (arith, removed_length (pointer a b) p.info.used p.pointers h e)

used_kept : (p : Public) (bs : List ℕ) → (change_public (drop_from bs) p).info.used ≤ length (change_public (drop_from bs) p).pointers
unfolding change_public
used_kept p bs = simp length-append (omega arith)

-- ---- lengths are kept

zeroed_length : (c : Card) (b : ℕ) → Regular c → b < c.public.info.blocks
    → length (fill c.public.info.bytes c.contents b (zeros c.public.info.bytes)) ≡ c.public.info.blocks * c.public.info.bytes
zeroed_length c b r l =
    fill_length c.public.info.bytes c.contents b (zeros c.public.info.bytes) (omega (arith, r.contents, block_fits c.public.info.bytes l)) (length-replicate _ 0)
    ∙ r.contents

pub regular_change : (G : ℕ → Type 0) (c : Card) (step : Change) → Regular c → Allowed G c.public step → Regular (change c step)
unfolding change change_public change_keys change_contents
regular_change G c (set_window mode b end) r h = record { blocks_high = r.blocks_high; flags = r.flags; contents = r.contents; used_high = r.used_high }
regular_change G c (set_block b ys) r h = record {
  blocks_high = r.blocks_high;
  flags = r.flags;
  contents = fill_length c.public.info.bytes c.contents b ys (omega (arith, r.contents, block_fits c.public.info.bytes h.1)) h.2 ∙ r.contents;
  used_high = r.used_high;
}
regular_change G c (set_key mode b key) r h = record {
  blocks_high = r.blocks_high;
  flags = length-set c.public.flags b _ ∙ r.flags;
  contents = r.contents;
  used_high = r.used_high;
}
regular_change G c (take_block b) r h = record {
  blocks_high = r.blocks_high;
  flags = length-set c.public.flags b _ ∙ r.flags;
  contents = zeroed_length c b r h.0;
  used_high = r.used_high;
}
regular_change G c (free_block b) r h = record {
  blocks_high = r.blocks_high;
  flags = length-set c.public.flags b _ ∙ r.flags;
  contents = r.contents;
  used_high = r.used_high;
}
regular_change G c (sweep_block b) r h = record {
  blocks_high = r.blocks_high;
  flags = length-set c.public.flags b _ ∙ r.flags;
  contents = zeroed_length c b r h.0;
  used_high = r.used_high;
}
regular_change G c (add_pointer a b) r h = record {
  blocks_high = r.blocks_high;
  flags = r.flags;
  contents = r.contents;
  used_high = used_added c.public a b r.used_high;
}
regular_change G c (raise_pointer a b) r h = record { blocks_high = r.blocks_high; flags = r.flags; contents = r.contents; used_high = r.used_high }
regular_change G c (lower_pointer a b) r h = record { blocks_high = r.blocks_high; flags = r.flags; contents = r.contents; used_high = r.used_high }
regular_change G c (drop_pointer a b) r h = record {
  blocks_high = r.blocks_high;
  flags = r.flags;
  contents = r.contents;
  used_high = used_dropped c.public a b r.used_high h;
}
regular_change G c (drop_from bs) r h = record { blocks_high = r.blocks_high; flags = r.flags; contents = r.contents; used_high = used_kept c.public bs }
regular_change G c (set_time t total) r h = record { blocks_high = r.blocks_high; flags = r.flags; contents = r.contents; used_high = r.used_high }

-- ---- the frame

-- What held of a block before a change, from what holds of it after.
record Framed (K : ℕ → ℕ → Bool) (G G' : ℕ → Type 0) (c c' : Card) (x : ℕ) : Type 0 where
  was_allocated : allocated c.public x ≡ true
  was_unsealed : sealed K c' x ≡ false → sealed K c x ≡ false
  was_presented : (mode : Mode) → key_presented K c' mode x ≡ true → key_presented K c mode x ≡ true
  was_open : (mode : Mode) → window_open c'.public mode x ≡ true → window_open c.public mode x ≡ true
  was_pointed : (a : ℕ) → G' a → points_to c'.public a x ≡ true → G a × (points_to c.public a x ≡ true)

-- A larger set is closed after a change if each block outside it is framed.
frame : (K : ℕ → ℕ → Bool) (G G' : ℕ → Type 0) (c c' : Card) → Closed K G c → c'.public.info.roots ≡ c.public.info.roots
    → ((x : ℕ) → G x → G' x)
    → ((x : ℕ) → allocated c'.public x ≡ true → G' x ⊎ Framed K G G' c c' x)
    → Closed K G' c'
frame K G G' c c' closed roots grows f = record {
  root = λ b h r s. ⊎_elim (λ g. g) (λ w. grows b (closed.root b w.was_allocated (rw roots at r) (w.was_unsealed s))) (f b h);
  key = λ mode b h k. ⊎_elim (λ g. g) (λ w. grows b (closed.key mode b w.was_allocated (w.was_presented mode k))) (f b h);
  window = λ mode b h o. ⊎_elim (λ g. g) (λ w. grows b (closed.window mode b w.was_allocated (w.was_open mode o))) (f b h);
  pointed = λ a b g h p s.
      ⊎_elim (λ g. g)
      (λ w. let was = w.was_pointed a g p in grows b (closed.pointed a b was.0 w.was_allocated was.1 (w.was_unsealed s)))
      (f b h);
}

-- ---- what a change leaves of a block

-- A window that is open after an end was set in its table was open before, unless it is the one that was set, to an end past T.
open_before : (windows : List ℕ) (i j time end : ℕ) → (i ≡ j → end ≤ time) → ltb time (get_or (set windows j end) i 0) ≡ true → ltb time (get_or windows i 0) ≡ true
open_before windows i j time end late h =
    ⊎_elim
    (λ (e : i ≡ j).
    ⊎_elim
    (λ (l : j < length windows).
    let same : get_or (set windows j end) i 0 ≡ end = rw e (get_or-set_same windows j end 0 l) in
    let bound : end ≤ time = late e in
    let above : time < end = ltb-true time end (rw same at h) in
    absurd (omega arith))
    (λ (l : length windows ≤ j). rw (set_out windows j end l) at h)
    (below_or_not j (length windows)))
    (λ (n : i ≡ j → ⊥). rw (get_or-set_other windows j i end 0 n) at h)
    (same_or_other i j)

-- Keys of one block are presented alike, and sealed alike, on two cards with the same flags and words of it.
record SameKeys (c c' : Card) (x : ℕ) : Type 0 where
  same_flag : flag c'.public x ≡ flag c.public x
  same_high : (mode : Mode) → key_high c'.keys mode x ≡ key_high c.keys mode x
  same_low : (mode : Mode) → key_low c'.keys mode x ≡ key_low c.keys mode x

presented_same : (K : ℕ → ℕ → Bool) (c c' : Card) (x : ℕ) → SameKeys c c' x → (mode : Mode) → key_presented K c' mode x ≡ key_presented K c mode x
unfolding key_presented has_key
presented_same K c c' x s mode = rw (s.same_flag, s.same_high mode, s.same_low mode)

sealed_same : (K : ℕ → ℕ → Bool) (c c' : Card) (x : ℕ) → SameKeys c c' x → sealed K c' x ≡ sealed K c x
unfolding sealed has_key
sealed_same K c c' x s = rw (presented_same K c c' x s Reading, presented_same K c c' x s Writing, s.same_flag)

-- ---- closed after each change

-- The set is no larger where nothing is taken.
same_set : (G : ℕ → Type 0) (x : ℕ) → G x ⊎ ⊥ → G x
same_set G x g = ⊎_elim (λ h. h) (λ h. absurd h) g

module _ (K : ℕ → ℕ → Bool) (G : ℕ → Type 0) (c : Card) (r : Regular c) (closed : Closed K G c) where
  closed_set_window : (mode : Mode) (b end : ℕ) → Allowed G c.public (set_window mode b end) → Closed K (Grown G (set_window mode b end)) (change c (set_window mode b end))
  unfolding change change_public change_keys change_contents allocated sealed key_presented has_key window_open points_to
  closed_set_window mode b end h =
      frame K G (Grown G (set_window mode b end)) c (change c (set_window mode b end)) closed refl (λ x g. inl g)
      (λ x a.
      ⊎_elim
      (λ (e : x ≡ b). ⊎_elim (λ (g : G b). inl (inl (subst G (sym e) g))) (λ (l : end ≤ c.public.info.time). inr (framed x a (λ _. l))) h)
      (λ (n : x ≡ b → ⊥). inr (framed x a (λ e. absurd (n e))))
      (same_or_other x b))
    where
      framed : (x : ℕ) → allocated c.public x ≡ true → (x ≡ b → end ≤ c.public.info.time)
          → Framed K G (Grown G (set_window mode b end)) c (change c (set_window mode b end)) x
      framed x a late = record {
        was_allocated = a;
        was_unsealed = λ s. s;
        was_presented = λ m k. k;
        was_open = λ m o.
            open_before c.public.windows (window_at m x) (window_at mode b) c.public.info.time end (λ e. late (window_at_block m mode x b e)) o;
        was_pointed = λ y g p. (same_set G y g, p);
      }

  closed_set_block : (b : ℕ) (ys : List ℕ) → Closed K (Grown G (set_block b ys)) (change c (set_block b ys))
  unfolding change change_public change_keys change_contents allocated sealed key_presented has_key window_open points_to
  closed_set_block b ys =
      frame K G (Grown G (set_block b ys)) c (change c (set_block b ys)) closed refl (λ x g. inl g)
      (λ x a.
      inr
      (record {
        was_allocated = a;
        was_unsealed = λ s. s;
        was_presented = λ m k. k;
        was_open = λ m o. o;
        was_pointed = λ y g p. (same_set G y g, p);
      }))

  closed_set_key : (mode : Mode) (b : ℕ) (key : Option (ℕ × ℕ)) → Allowed G c.public (set_key mode b key) → Closed K (Grown G (set_key mode b key)) (change c (set_key mode b key))
  unfolding change change_public change_keys change_contents allocated window_open points_to
  closed_set_key mode b key h =
      frame K G (Grown G (set_key mode b key)) c (change c (set_key mode b key)) closed refl (λ x g. inl g)
      (λ x a. ⊎_elim (λ (e : x ≡ b). inl (inl (subst G (sym e) h))) (λ (n : x ≡ b → ⊥). inr (framed x a n)) (same_or_other x b))
    where
      same : (x : ℕ) → (x ≡ b → ⊥) → SameKeys c (change c (set_key mode b key)) x
      same x n = record {
        same_flag = get_or-set_other c.public.flags b x _ 0 n;
        same_high = λ m. kept_high c.keys mode b key m x (λ _ e. n e);
        same_low = λ m. kept_low c.keys mode b key m x (λ _ e. n e);
      }

      framed : (x : ℕ) → allocated (change c (set_key mode b key)).public x ≡ true → (x ≡ b → ⊥)
          → Framed K G (Grown G (set_key mode b key)) c (change c (set_key mode b key)) x
      framed x a n = record {
        was_allocated = rw (get_or-set_other c.public.flags b x _ 0 n) at a;
        was_unsealed = λ s. sym (sealed_same K c _ x (same x n)) ∙ s;
        was_presented = λ m k. sym (presented_same K c _ x (same x n) m) ∙ k;
        was_open = λ m o. o;
        was_pointed = λ y g p. (same_set G y g, p);
      }

  -- A block that is taken or swept: its flags are set, whatever they become and whatever the contents are.
  closed_joined : (b v : ℕ) (contents : List ℕ) → Idle c.public b
      → Closed K (λ x. G x ⊎ (x ≡ b)) (record { public = with_flags c.public (set c.public.flags b v); keys = c.keys; contents = contents })
  unfolding allocated window_open points_to
  closed_joined b v contents h =
      frame K G (λ x. G x ⊎ (x ≡ b)) c joined closed refl (λ x g. inl g)
      (λ x a. ⊎_elim (λ (e : x ≡ b). inl (inr e)) (λ (n : x ≡ b → ⊥). inr (framed x a n)) (same_or_other x b))
    where
      joined : Card
      joined = record { public = with_flags c.public (set c.public.flags b v); keys = c.keys; contents = contents }

      same : (x : ℕ) → (x ≡ b → ⊥) → SameKeys c joined x
      same x n = record { same_flag = get_or-set_other c.public.flags b x _ 0 n; same_high = λ m. refl; same_low = λ m. refl }

      -- No pointer leaves the block.
      unpointed : (x y : ℕ) → x < 65536 → y ≡ b → contains (pointer y x) (in_use c.public) ≡ true → ⊥
      unpointed x y l e p =
          let elsewhere = contains_all (λ w. not (eqb (source w) b)) (pointer y x) (in_use c.public) p h.2 in
          absurd_test (eq-eqb (source (pointer y x)) b (source_pointer y x l ∙ e)) (borrow.Author.Tests.not-true _ elsewhere)

      framed : (x : ℕ) → allocated joined.public x ≡ true → (x ≡ b → ⊥) → Framed K G (λ x. G x ⊎ (x ≡ b)) c joined x
      framed x a n = record {
        was_allocated = rw (get_or-set_other c.public.flags b x v 0 n) at a;
        was_unsealed = λ s. sym (sealed_same K c _ x (same x n)) ∙ s;
        was_presented = λ m k. sym (presented_same K c _ x (same x n) m) ∙ k;
        was_open = λ m o. o;
        was_pointed = λ y g p.
            ⊎_elim (λ (k : G y). (k, p))
            (λ (e : y ≡ b).
            absurd (unpointed x y (omega (arith, r.blocks_high, allocated_below joined.public x a)) e p))
            g;
      }

  closed_free_block : (b : ℕ) → Allowed G c.public (free_block b) → Closed K (Grown G (free_block b)) (change c (free_block b))
  unfolding change change_public change_keys change_contents allocated window_open points_to
  closed_free_block b h =
      frame K G (Grown G (free_block b)) c (change c (free_block b)) closed refl (λ x g. inl g)
      (λ x a. ⊎_elim (λ (e : x ≡ b). absurd (freed x e a)) (λ (n : x ≡ b → ⊥). inr (framed x a n)) (same_or_other x b))
    where
      freed : (x : ℕ) → x ≡ b → allocated (change c (free_block b)).public x ≡ true → ⊥
      freed x e a =
          let waits : get_or (set c.public.flags b freed_flags) x 0 ≡ freed_flags = rw e (get_or-set_same c.public.flags b freed_flags 0 (omega (arith, r.flags))) in
          false≢true (rw waits at (and_right (ltb x c.public.info.blocks) _ a))

      same : (x : ℕ) → (x ≡ b → ⊥) → SameKeys c (change c (free_block b)) x
      same x n = record {
        same_flag = get_or-set_other c.public.flags b x freed_flags 0 n;
        same_high = λ m. uncleared_high c.keys b m x n;
        same_low = λ m. uncleared_low c.keys b m x n;
      }

      -- Both windows of the block were set to 0.
      opened : (m : Mode) (x : ℕ) → window_open (change c (free_block b)).public m x ≡ true → window_open c.public m x ≡ true
      opened m x o =
          open_before c.public.windows (window_at m x) (window_at Reading b) c.public.info.time 0 (λ _. omega arith)
          (open_before (set c.public.windows (window_at Reading b) 0) (window_at m x) (window_at Writing b) c.public.info.time 0 (λ _. omega arith) o)

      framed : (x : ℕ) → allocated (change c (free_block b)).public x ≡ true → (x ≡ b → ⊥)
          → Framed K G (Grown G (free_block b)) c (change c (free_block b)) x
      framed x a n = record {
        was_allocated = rw (get_or-set_other c.public.flags b x freed_flags 0 n) at a;
        was_unsealed = λ s. sym (sealed_same K c _ x (same x n)) ∙ s;
        was_presented = λ m k. sym (presented_same K c _ x (same x n) m) ∙ k;
        was_open = λ m o. opened m x o;
        was_pointed = λ y g p. (same_set G y g, p);
      }

  closed_add_pointer : (a b : ℕ) → Allowed G c.public (add_pointer a b) → Closed K (Grown G (add_pointer a b)) (change c (add_pointer a b))
  unfolding change change_public change_keys change_contents allocated sealed key_presented has_key window_open points_to
  closed_add_pointer a b h =
      frame K G (Grown G (add_pointer a b)) c (change c (add_pointer a b)) closed refl (λ x g. inl g)
      (λ x al. ⊎_elim (λ (e : x ≡ b). inl (inl (subst G (sym e) h.0))) (λ (n : x ≡ b → ⊥). inr (framed x al n)) (same_or_other x b))
    where
      other : (x y : ℕ) → x < 65536 → (x ≡ b → ⊥) → pointer a b ≡ pointer y x → ⊥
      other x y l n e = n (sym (destination_pointer y x l) ∙ ap destination (sym e) ∙ destination_pointer a b (omega (arith, r.blocks_high, h.1)))

      framed : (x : ℕ) → allocated c.public x ≡ true → (x ≡ b → ⊥) → Framed K G (Grown G (add_pointer a b)) c (change c (add_pointer a b)) x
      framed x al n = record {
        was_allocated = al;
        was_unsealed = λ s. s;
        was_presented = λ m k. k;
        was_open = λ m o. o;
        was_pointed = λ y g p. (
          same_set G y g,
          ⊎_elim
              (λ (e : pointer a b ≡ pointer y x). absurd (other x y (omega (arith, r.blocks_high, allocated_below c.public x al)) n e))
              (λ (k : contains (pointer y x) (in_use c.public) ≡ true). k)
              (contains_insert (pointer y x) (pointer a b) (in_use c.public) (rw (in_use_added c.public a b r.used_high) at p)),
        );
      }

  -- Another multiplicity of a pointer that is there, and another count of its destination: the same blocks are pointed to.
  unmoved : (step : Change) → ((x : ℕ) → Grown G step x → G x) → (change_public step c.public).info ≡ c.public.info → (change_public step c.public).flags ≡ c.public.flags
      → (change_public step c.public).pointers ≡ c.public.pointers → (change_public step c.public).windows ≡ c.public.windows → change_keys step c.keys ≡ c.keys
      → Closed K (Grown G step) (change c step)
  unfolding change allocated sealed key_presented has_key window_open points_to
  unmoved step same i f p w k =
      frame K G (Grown G step) c (change c step) closed (rw i) (λ x g. inl g)
      (λ x al.
      inr
      (record {
        was_allocated = rw (i, f) at al;
        was_unsealed = λ s. rw (f, k) at s;
        was_presented = λ m h. rw (f, k) at h;
        was_open = λ m o. rw (i, w) at o;
        was_pointed = λ y g h. (same y g, rw (i, p) at h);
      }))

  closed_raise_pointer : (a b : ℕ) → Closed K (Grown G (raise_pointer a b)) (change c (raise_pointer a b))
  unfolding change_public change_keys
  closed_raise_pointer a b = unmoved (raise_pointer a b) (same_set G) refl refl refl refl refl

  closed_lower_pointer : (a b : ℕ) → Closed K (Grown G (lower_pointer a b)) (change c (lower_pointer a b))
  unfolding change_public change_keys
  closed_lower_pointer a b = unmoved (lower_pointer a b) (same_set G) refl refl refl refl refl

  closed_drop_pointer : (a b : ℕ) → Allowed G c.public (drop_pointer a b) → Closed K (Grown G (drop_pointer a b)) (change c (drop_pointer a b))
  unfolding change change_public change_keys change_contents allocated sealed key_presented has_key window_open points_to
  closed_drop_pointer a b h =
      frame K G (Grown G (drop_pointer a b)) c (change c (drop_pointer a b)) closed refl (λ x g. inl g)
      (λ x al.
      inr
      (record {
        was_allocated = al;
        was_unsealed = λ s. s;
        was_presented = λ m k. k;
        was_open = λ m o. o;
        was_pointed = λ y g p.
            (same_set G y g, contains_remove (pointer y x) (pointer a b) (in_use c.public) (rw (in_use_dropped c.public a b r.used_high h) at p));
      }))

  closed_drop_from : (bs : List ℕ) → Closed K (Grown G (drop_from bs)) (change c (drop_from bs))
  unfolding change change_public change_keys change_contents allocated sealed key_presented has_key window_open points_to
  closed_drop_from bs =
      frame K G (Grown G (drop_from bs)) c (change c (drop_from bs)) closed refl (λ x g. inl g)
      (λ x al.
      inr
      (record {
        was_allocated = al;
        was_unsealed = λ s. s;
        was_presented = λ m k. k;
        was_open = λ m o. o;
        was_pointed = λ y g p. (same_set G y g, keep_contains (not_from bs) (pointer y x) (in_use c.public) (rw (in_use_kept c.public bs) at p));
      }))

  closed_set_time : (t total : ℕ) → Allowed G c.public (set_time t total) → Closed K (Grown G (set_time t total)) (change c (set_time t total))
  unfolding change change_public change_keys change_contents allocated sealed key_presented has_key window_open points_to
  closed_set_time t total h =
      frame K G (Grown G (set_time t total)) c (change c (set_time t total)) closed refl (λ x g. inl g)
      (λ x al.
      inr
      (record {
        was_allocated = al;
        was_unsealed = λ s. s;
        was_presented = λ m k. k;
        was_open = λ m o. still (window_end c.public m x) o;
        was_pointed = λ y g p. (same_set G y g, p);
      }))
    where
      still : (end : ℕ) → ltb t end ≡ true → ltb c.public.info.time end ≡ true
      still end o = lt-ltb c.public.info.time end (omega (arith, ltb-true t end o))

  -- The set, with a block that is taken or swept, stays closed under an allowed change.
  pub closed_change : (step : Change) → Allowed G c.public step → Closed K (Grown G step) (change c step)
  unfolding change change_public change_keys change_contents
  closed_change (set_window mode b end) h = closed_set_window mode b end h
  closed_change (set_block b ys) h = closed_set_block b ys
  closed_change (set_key mode b key) h = closed_set_key mode b key h
  closed_change (take_block b) h = closed_joined b 1 _ h
  closed_change (free_block b) h = closed_free_block b h
  closed_change (sweep_block b) h = closed_joined b 0 _ h
  closed_change (add_pointer a b) h = closed_add_pointer a b h
  closed_change (raise_pointer a b) h = closed_raise_pointer a b
  closed_change (lower_pointer a b) h = closed_lower_pointer a b
  closed_change (drop_pointer a b) h = closed_drop_pointer a b h
  closed_change (drop_from bs) h = closed_drop_from bs
  closed_change (set_time t total) h = closed_set_time t total h
