-- Changes on two cards that agree on a set of blocks, and changes in order: what stays closed, alike and unwritten.
use Prim.Native.Nat.{ℕ, ◌+◌, ◌*◌, ◌≤◌, ◌<◌}
use mathlib.Core.Path.{◌≡◌, refl, sym, ap, ◌∙◌, subst}
use mathlib.Core.Logic.{◌⊎◌, inl, inr, ⊎_elim}
use mathlib.Core.Bool.{Bool, true, false, ◌&&◌}
use mathlib.Core.List.{List, [], ◌∷◌}
use native.Mathlib.Omega.{arith}
use lib.Dec.{ltb}
use lib.ListN.{length, length-replicate}
use lib.Seq.{get_or-set_same, get_or-set_other}
use Rattle.laws.specs.ListsLaws.{and_right, absurd_test, same_or_other}
use Rattle.card.specs.Contents.{part, fill, zeros}
use Rattle.laws.specs.ContentsLaws.{part_fill_same, part_fill_other, block_fits}
use Rattle.card.specs.Card.{Public, Card, flag, allocated, block}
use Rattle.card.specs.Plan.{Change, freed_flags, set_window, set_block, set_key, take_block, free_block, sweep_block, add_pointer, raise_pointer, lower_pointer, drop_pointer, drop_from, set_time, change_public, change_keys, change_contents, change, changes}
use Rattle.laws.proofs.Steps.{state_other}
use Rattle.guarantees.proofs.Secrecy.Closed.{Closed, Regular, Idle, Allowed, Grown, regular_change, closed_change}

-- ---- the contents of a block after one change

-- The change writes the block's contents.
abbrev pub WrittenBy : Change → ℕ → Type 0
WrittenBy (set_window mode b end) x = ⊥
WrittenBy (set_block b ys) x = x ≡ b
WrittenBy (set_key mode b key) x = ⊥
WrittenBy (take_block b) x = x ≡ b
WrittenBy (free_block b) x = ⊥
WrittenBy (sweep_block b) x = x ≡ b
WrittenBy (add_pointer a b) x = ⊥
WrittenBy (raise_pointer a b) x = ⊥
WrittenBy (lower_pointer a b) x = ⊥
WrittenBy (drop_pointer a b) x = ⊥
WrittenBy (drop_from bs) x = ⊥
WrittenBy (set_time t total) x = ⊥

-- A block lies within the contents.
fits : (c : Card) (b : ℕ) → Regular c → b < c.public.info.blocks → b * c.public.info.bytes + c.public.info.bytes ≤ length c.contents
fits c b r h = omega (arith, r.contents, block_fits c.public.info.bytes h)

-- A block filled with zeros, and another.
zeroed : (c : Card) (b : ℕ) → Regular c → b < c.public.info.blocks
    → part c.public.info.bytes (fill c.public.info.bytes c.contents b (zeros c.public.info.bytes)) b ≡ zeros c.public.info.bytes
zeroed c b r l = part_fill_same c.public.info.bytes c.contents b (zeros c.public.info.bytes) (fits c b r l) (length-replicate _ 0)

zeroed_other : (c : Card) (b : ℕ) → Regular c → b < c.public.info.blocks → (x : ℕ) → (x ≡ b → ⊥)
    → part c.public.info.bytes (fill c.public.info.bytes c.contents b (zeros c.public.info.bytes)) x ≡ block c x
zeroed_other c b r l x n = part_fill_other c.public.info.bytes c.contents b (zeros c.public.info.bytes) (fits c b r l) (length-replicate _ 0) x n

block_kept : (G : ℕ → Type 0) (c : Card) (step : Change) → Regular c → Allowed G c.public step → (x : ℕ) → (WrittenBy step x → ⊥)
    → block (change c step) x ≡ block c x
unfolding change change_public change_contents
block_kept G c (set_window mode b end) r h x n = refl
block_kept G c (set_block b ys) r h x n = part_fill_other c.public.info.bytes c.contents b ys (fits c b r h.1) h.2 x n
block_kept G c (set_key mode b key) r h x n = refl
block_kept G c (take_block b) r h x n = zeroed_other c b r h.0 x n
block_kept G c (free_block b) r h x n = refl
block_kept G c (sweep_block b) r h x n = zeroed_other c b r h.0 x n
block_kept G c (add_pointer a b) r h x n = refl
block_kept G c (raise_pointer a b) r h x n = refl
block_kept G c (lower_pointer a b) r h x n = refl
block_kept G c (drop_pointer a b) r h x n = refl
block_kept G c (drop_from bs) r h x n = refl
block_kept G c (set_time t total) r h x n = refl

-- ---- two cards

-- Equal but for keys, which are linked, and for the contents of blocks outside the set.
pub record Alike (L : Public → List ℕ → List ℕ → Type 0) (G : ℕ → Type 0) (c d : Card) : Type 0 where
  pub same_public : c.public ≡ d.public
  pub linked : L c.public c.keys d.keys
  pub same_blocks : (b : ℕ) → G b → block c b ≡ block d b

-- A link between the keys of two cards is kept by every change that both undergo.
abbrev pub Kept : (Public → List ℕ → List ℕ → Type 0) → Type 0
Kept L = (p : Public) (ks ls : List ℕ) (step : Change) → L p ks ls → L (change_public step p) (change_keys step ks) (change_keys step ls)

module _ (L : Public → List ℕ → List ℕ → Type 0) (kept : Kept L) (G : ℕ → Type 0) (c d : Card) (rc : Regular c) (rd : Regular d) (alike : Alike L G c d) where
  same_zeroed : (b : ℕ) → Idle c.public b
      → part c.public.info.bytes (fill c.public.info.bytes c.contents b (zeros c.public.info.bytes)) b
      ≡ part d.public.info.bytes (fill d.public.info.bytes d.contents b (zeros d.public.info.bytes)) b
  same_zeroed b h =
      zeroed c b rc h.0
      ∙ ap (λ (p : Public). zeros p.info.bytes) alike.same_public
      ∙ sym (zeroed d b rd (subst (λ (p : Public). b < p.info.blocks) alike.same_public h.0))

  -- A block that both cards have written alike.
  same_written : (step : Change) → Allowed G c.public step → (x : ℕ) → WrittenBy step x → block (change c step) x ≡ block (change d step) x
  unfolding change change_public change_contents
  same_written (set_window mode b end) h x w = absurd w
  same_written (set_block b ys) h x w =
      let h' = subst (λ (p : Public). Allowed G p (set_block b ys)) alike.same_public h in
      rw w
      (part_fill_same c.public.info.bytes c.contents b ys (fits c b rc h.1) h.2
      ∙ sym (part_fill_same d.public.info.bytes d.contents b ys (fits d b rd h'.1) h'.2))
  same_written (set_key mode b key) h x w = absurd w
  same_written (take_block b) h x w = rw w (same_zeroed b h)
  same_written (free_block b) h x w = absurd w
  same_written (sweep_block b) h x w = rw w (same_zeroed b h)
  same_written (add_pointer a b) h x w = absurd w
  same_written (raise_pointer a b) h x w = absurd w
  same_written (lower_pointer a b) h x w = absurd w
  same_written (drop_pointer a b) h x w = absurd w
  same_written (drop_from bs) h x w = absurd w
  same_written (set_time t total) h x w = absurd w

  -- A block of the grown set was in the set, or is written.
  joins : (step : Change) (x : ℕ) → Grown G step x → G x ⊎ WrittenBy step x
  joins (set_window mode b end) x g = g
  joins (set_block b ys) x g = ⊎_elim (λ k. inl k) (λ k. absurd k) g
  joins (set_key mode b key) x g = g
  joins (take_block b) x g = g
  joins (free_block b) x g = g
  joins (sweep_block b) x g = g
  joins (add_pointer a b) x g = g
  joins (raise_pointer a b) x g = g
  joins (lower_pointer a b) x g = g
  joins (drop_pointer a b) x g = g
  joins (drop_from bs) x g = g
  joins (set_time t total) x g = g

  written_or_not : (step : Change) (x : ℕ) → WrittenBy step x ⊎ (WrittenBy step x → ⊥)
  written_or_not (set_window mode b end) x = inr (λ w. w)
  written_or_not (set_block b ys) x = same_or_other x b
  written_or_not (set_key mode b key) x = inr (λ w. w)
  written_or_not (take_block b) x = same_or_other x b
  written_or_not (free_block b) x = inr (λ w. w)
  written_or_not (sweep_block b) x = same_or_other x b
  written_or_not (add_pointer a b) x = inr (λ w. w)
  written_or_not (raise_pointer a b) x = inr (λ w. w)
  written_or_not (lower_pointer a b) x = inr (λ w. w)
  written_or_not (drop_pointer a b) x = inr (λ w. w)
  written_or_not (drop_from bs) x = inr (λ w. w)
  written_or_not (set_time t total) x = inr (λ w. w)

  pub alike_change : (step : Change) → Allowed G c.public step → Alike L (Grown G step) (change c step) (change d step)
  unfolding change
  alike_change step h = record {
    same_public = ap (change_public step) alike.same_public;
    linked = kept c.public c.keys d.keys step alike.linked;
    same_blocks = λ x g.
        ⊎_elim (λ w. same_written step h x w)
        (λ n.
        block_kept G c step rc h x n
        ∙ alike.same_blocks x (⊎_elim (λ k. k) (λ w. absurd (n w)) (joins step x g))
        ∙ sym (block_kept G d step rd (subst (λ (p : Public). Allowed G p step) alike.same_public h) x n))
        (written_or_not step x);
  }

-- ---- changes in order

-- Each change is allowed on what the changes before it left.
abbrev pub AllowedAll : (ℕ → Type 0) → Public → List Change → Type 0
AllowedAll G p [] = Unit {0}
AllowedAll G p (step ∷ steps) = Allowed G p step × AllowedAll (Grown G step) (change_public step p) steps

-- The set with each block that the changes take.
abbrev pub GrownAll : (ℕ → Type 0) → List Change → ℕ → Type 0
GrownAll G [] = G
GrownAll G (step ∷ steps) = GrownAll (Grown G step) steps

pub grows : (G : ℕ → Type 0) (steps : List Change) (x : ℕ) → G x → GrownAll G steps x
grows G [] x g = g
grows G (step ∷ steps) x g = grows (Grown G step) steps x (inl g)

pub regular_changes : (G : ℕ → Type 0) (c : Card) (steps : List Change) → Regular c → AllowedAll G c.public steps → Regular (changes c steps)
unfolding changes change
regular_changes G c [] r h = r
regular_changes G c (step ∷ steps) r h = regular_changes (Grown G step) (change c step) steps (regular_change G c step r h.0) h.1

pub closed_changes : (K : ℕ → ℕ → Bool) (G : ℕ → Type 0) (c : Card) (steps : List Change) → Regular c → AllowedAll G c.public steps
    → Closed K G c → Closed K (GrownAll G steps) (changes c steps)
unfolding changes change
closed_changes K G c [] r h closed = closed
closed_changes K G c (step ∷ steps) r h closed =
    closed_changes K (Grown G step) (change c step) steps (regular_change G c step r h.0) h.1 (closed_change K G c r closed step h.0)

pub alike_changes : (L : Public → List ℕ → List ℕ → Type 0) → Kept L → (G : ℕ → Type 0) (c d : Card) (steps : List Change) → Regular c → Regular d
    → AllowedAll G c.public steps → Alike L G c d → Alike L (GrownAll G steps) (changes c steps) (changes d steps)
unfolding changes change
alike_changes L kept G c d [] rc rd h alike = alike
alike_changes L kept G c d (step ∷ steps) rc rd h alike =
    let h' = subst (λ (p : Public). Allowed G p step) alike.same_public h.0 in
    alike_changes L kept (Grown G step) (change c step) (change d step) steps (regular_change G c step rc h.0) (regular_change G d step rd h') h.1
    (alike_change L kept G c d rc rd alike step h.0)

-- ---- a block that is allocated, or free, after changes joined the set or was so before

-- The change frees the block.
abbrev pub Frees : Change → ℕ → Type 0
Frees (set_window mode b end) x = ⊥
Frees (set_block b ys) x = ⊥
Frees (set_key mode b key) x = ⊥
Frees (take_block b) x = ⊥
Frees (free_block b) x = x ≡ b
Frees (sweep_block b) x = ⊥
Frees (add_pointer a b) x = ⊥
Frees (raise_pointer a b) x = ⊥
Frees (lower_pointer a b) x = ⊥
Frees (drop_pointer a b) x = ⊥
Frees (drop_from bs) x = ⊥
Frees (set_time t total) x = ⊥

-- The block is below N, and the test holds of its flags.
abbrev InState : (ℕ → Bool) → Public → ℕ → Bool
InState test p x = ltb x p.info.blocks && test (flag p x)

-- Flags stay, but those of a block that joins the set or is freed.
state_kept : (test : ℕ → Bool) (p : Public) (step : Change) (G : ℕ → Type 0) → Allowed G p step → (x : ℕ)
    → Grown G step x ⊎ (Frees step x ⊎ (InState test (change_public step p) x ≡ InState test p x))
unfolding change_public
state_kept test p (set_window mode b end) G h x = inr (inr refl)
state_kept test p (set_block b ys) G h x = inr (inr refl)
state_kept test p (set_key mode b key) G h x =
    ⊎_elim (λ (e : x ≡ b). inl (inl (subst G (sym e) h))) (λ (n : x ≡ b → ⊥). inr (inr (state_other test p b _ x n))) (same_or_other x b)
state_kept test p (take_block b) G h x =
    ⊎_elim (λ (e : x ≡ b). inl (inr e)) (λ (n : x ≡ b → ⊥). inr (inr (state_other test p b 1 x n))) (same_or_other x b)
state_kept test p (free_block b) G h x =
    ⊎_elim (λ (e : x ≡ b). inr (inl e)) (λ (n : x ≡ b → ⊥). inr (inr (state_other test p b freed_flags x n))) (same_or_other x b)
state_kept test p (sweep_block b) G h x =
    ⊎_elim (λ (e : x ≡ b). inl (inr e)) (λ (n : x ≡ b → ⊥). inr (inr (state_other test p b 0 x n))) (same_or_other x b)
state_kept test p (add_pointer y b) G h x = inr (inr refl)
state_kept test p (raise_pointer y b) G h x = inr (inr refl)
state_kept test p (lower_pointer y b) G h x = inr (inr refl)
state_kept test p (drop_pointer y b) G h x = inr (inr refl)
state_kept test p (drop_from bs) G h x = inr (inr refl)
state_kept test p (set_time t total) G h x = inr (inr refl)

-- A freed block has the flags of a freed one.
freed_flags_law : (c : Card) (step : Change) (G : ℕ → Type 0) → Regular c → Allowed G c.public step → (x : ℕ) → Frees step x
    → flag (change_public step c.public) x ≡ freed_flags
unfolding change_public
freed_flags_law c (set_window mode b end) G r h x f = absurd f
freed_flags_law c (set_block b ys) G r h x f = absurd f
freed_flags_law c (set_key mode b key) G r h x f = absurd f
freed_flags_law c (take_block b) G r h x f = absurd f
freed_flags_law c (free_block b) G r h x f = rw f (get_or-set_same c.public.flags b freed_flags 0 (omega (arith, r.flags)))
freed_flags_law c (sweep_block b) G r h x f = absurd f
freed_flags_law c (add_pointer y b) G r h x f = absurd f
freed_flags_law c (raise_pointer y b) G r h x f = absurd f
freed_flags_law c (lower_pointer y b) G r h x f = absurd f
freed_flags_law c (drop_pointer y b) G r h x f = absurd f
freed_flags_law c (drop_from bs) G r h x f = absurd f
freed_flags_law c (set_time t total) G r h x f = absurd f

-- Of a test that fails of a freed block's flags: "allocated" and "free" are such tests.
module _ (test : ℕ → Bool) (none : test freed_flags ≡ false) where
  state_before : (c : Card) (step : Change) (G : ℕ → Type 0) → Regular c → Allowed G c.public step → (x : ℕ)
      → InState test (change_public step c.public) x ≡ true → Grown G step x ⊎ (InState test c.public x ≡ true)
  state_before c step G r h x a =
      ⊎_elim (λ g. inl g)
      (λ k.
      ⊎_elim
      (λ (f : Frees step x).
      absurd_test (and_right (ltb x (change_public step c.public).info.blocks) _ a) (ap test (freed_flags_law c step G r h x f) ∙ none))
      (λ same. inr (sym same ∙ a))
      k)
      (state_kept test c.public step G h x)

  pub covered : (G : ℕ → Type 0) (c : Card) (steps : List Change) → Regular c → AllowedAll G c.public steps → (x : ℕ)
      → InState test (changes c steps).public x ≡ true → GrownAll G steps x ⊎ (InState test c.public x ≡ true)
  unfolding changes change
  covered G c [] r h x a = inr a
  covered G c (step ∷ steps) r h x a =
      ⊎_elim (λ g. inl g)
      (λ b. ⊎_elim (λ g. inl (grows (Grown G step) steps x g)) (λ k. inr k) (state_before c step G r h.0 x b))
      (covered (Grown G step) (change c step) steps (regular_change G c step r h.0) h.1 x a)

-- ---- a block outside the set

abbrev pub FreesNone : List Change → ℕ → Type 0
FreesNone [] x = Unit {0}
FreesNone (step ∷ steps) x = (Frees step x → ⊥) × FreesNone steps x

-- An allocated block outside the set, as one change leaves it: allocated, outside the grown set, and unwritten.
pub record KeptApart (G : ℕ → Type 0) (c c' : Card) (x : ℕ) : Type 0 where
  pub still_allocated : allocated c'.public x ≡ true
  pub still_outside : G x → ⊥
  pub same_block : block c' x ≡ block c x

module _ (G : ℕ → Type 0) (c : Card) (r : Regular c) (x : ℕ) (a : allocated c.public x ≡ true) (out : G x → ⊥) where
  -- A block that is written or taken is in the set or unallocated.
  unwritten : (step : Change) → Allowed G c.public step → WrittenBy step x → ⊥
  unwritten (set_window mode b end) h w = w
  unwritten (set_block b ys) h w = out (subst G (sym w) h.0)
  unwritten (set_key mode b key) h w = w
  unwritten (take_block b) h w = absurd_test a (subst (λ (k : ℕ). allocated c.public k ≡ false) (sym w) h.1)
  unwritten (free_block b) h w = w
  unwritten (sweep_block b) h w = absurd_test a (subst (λ (k : ℕ). allocated c.public k ≡ false) (sym w) h.1)
  unwritten (add_pointer y b) h w = w
  unwritten (raise_pointer y b) h w = w
  unwritten (lower_pointer y b) h w = w
  unwritten (drop_pointer y b) h w = w
  unwritten (drop_from bs) h w = w
  unwritten (set_time t total) h w = w

  still_outside_law : (step : Change) → Allowed G c.public step → Grown G step x → ⊥
  still_outside_law (set_window mode b end) h g = ⊎_elim out (λ k. k) g
  still_outside_law (set_block b ys) h g = ⊎_elim out (λ k. k) g
  still_outside_law (set_key mode b key) h g = ⊎_elim out (λ k. k) g
  still_outside_law (take_block b) h g = ⊎_elim out (λ k. unwritten (take_block b) h k) g
  still_outside_law (free_block b) h g = ⊎_elim out (λ k. k) g
  still_outside_law (sweep_block b) h g = ⊎_elim out (λ k. unwritten (sweep_block b) h k) g
  still_outside_law (add_pointer y b) h g = ⊎_elim out (λ k. k) g
  still_outside_law (raise_pointer y b) h g = ⊎_elim out (λ k. k) g
  still_outside_law (lower_pointer y b) h g = ⊎_elim out (λ k. k) g
  still_outside_law (drop_pointer y b) h g = ⊎_elim out (λ k. k) g
  still_outside_law (drop_from bs) h g = ⊎_elim out (λ k. k) g
  still_outside_law (set_time t total) h g = ⊎_elim out (λ k. k) g

  still_allocated_law : (step : Change) → Allowed G c.public step → (Frees step x → ⊥) → allocated (change_public step c.public) x ≡ true
  unfolding change_public allocated
  still_allocated_law (set_window mode b end) h n = a
  still_allocated_law (set_block b ys) h n = a
  still_allocated_law (set_key mode b key) h n = rw (get_or-set_other c.public.flags b x _ 0 (λ e. out (subst G (sym e) h))) a
  still_allocated_law (take_block b) h n = rw (get_or-set_other c.public.flags b x 1 0 (λ e. unwritten (take_block b) h e)) a
  still_allocated_law (free_block b) h n = rw (get_or-set_other c.public.flags b x freed_flags 0 n) a
  still_allocated_law (sweep_block b) h n = rw (get_or-set_other c.public.flags b x 0 0 (λ e. unwritten (sweep_block b) h e)) a
  still_allocated_law (add_pointer y b) h n = a
  still_allocated_law (raise_pointer y b) h n = a
  still_allocated_law (lower_pointer y b) h n = a
  still_allocated_law (drop_pointer y b) h n = a
  still_allocated_law (drop_from bs) h n = a
  still_allocated_law (set_time t total) h n = a

  apart_change : (step : Change) → Allowed G c.public step → (Frees step x → ⊥) → KeptApart (Grown G step) c (change c step) x
  unfolding change
  apart_change step h n = record {
    still_allocated = still_allocated_law step h n;
    still_outside = still_outside_law step h;
    same_block = block_kept G c step r h x (unwritten step h);
  }

pub apart_changes : (G : ℕ → Type 0) (c : Card) (steps : List Change) → Regular c → (x : ℕ) → allocated c.public x ≡ true → (G x → ⊥)
    → AllowedAll G c.public steps → FreesNone steps x → KeptApart (GrownAll G steps) c (changes c steps) x
unfolding changes change
apart_changes G c [] r x a out h n = record { still_allocated = a; still_outside = out; same_block = refl }
apart_changes G c (step ∷ steps) r x a out h n =
    let one = apart_change G c r x a out step h.0 n.0 in
    let rest = apart_changes (Grown G step) (change c step) steps (regular_change G c step r h.0) x one.still_allocated one.still_outside h.1 n.1 in
    record { still_allocated = rest.still_allocated; still_outside = rest.still_outside; same_block = rest.same_block ∙ one.same_block }
