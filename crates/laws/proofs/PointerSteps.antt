-- Changes of blocks and pointers keep soundness in pairs: a block taken and pointed to, a pointer dropped and its block freed.
-- Between the two the card is sound but for that block, which no pointer goes to.
use Prim.Native.Nat.{ℕ, ◌+◌, ◌-◌, ◌*◌, ◌≤◌, ◌<◌}
use mathlib.Core.Path.{◌≡◌, refl, sym, ap, ◌∙◌, subst}
use mathlib.Core.Logic.{◌⊎◌, inl, inr, ⊎_elim}
use mathlib.Core.Bool.{true, false, ◌&&◌, ◌||◌, not, cond}
use mathlib.Core.List.{List, ◌∷◌, ◌++◌}
use native.Mathlib.Omega.{arith}
use lib.Dec.{eqb, leb}
use lib.ListN.{length, take, drop, get_or, set, length-set, length-replicate}
use lib.Seq.{get_or-set_same, get_or-set_other}
use borrow.Author.Tests.{eq-eqb, ne_eqb, eqb-false, not-true, le-leb}
use Rattle.card.specs.Lists.{all}
use Rattle.laws.specs.ListsLaws.{and_left, and_right, and_true, absurd_test, false_unless, below_or_not, same_or_other, all_both, all_map, all_drop, all_cons, not_cases}
use Rattle.card.specs.Pointers.{pointer, source, destination, ascending, pointers_to, insert, remove, beside, insert_beside, remove_beside, set_beside}
use Rattle.laws.specs.PointersLaws.{source_pointer, destination_pointer, insert_ascending, all_insert, remove_ascending, all_remove, contains_all, unpointing}
use Rattle.laws.specs.BesideLaws.{InStep, Moved, moved_insert, moved_remove, moved_set, all_insert_beside, all_remove_beside, all_set_beside, beside_all, beside_absent, total_counted, uncounted}
use Rattle.card.specs.Contents.{zeros}
use Rattle.card.specs.Card.{Public, Card, flag, allocated_flag, key_flag, waiting_flag, free_flag, allocated, window_at, window_end, longest_interval, count, in_use, times_in_use, multiplicity, highest_multiplicity, points_to, has_pointers}
use Rattle.card.specs.Soundness.{most_blocks, pointer_right, multiplicity_right}
use Rattle.card.specs.SoundCard.{Shaped, KeyZero, Empty, RightPointer, SoundCard}
use Rattle.laws.specs.SoundnessLaws.{pointer_right_true, true_pointer_right, multiplicity_right_low, multiplicity_right_high, true_multiplicity_right, allocated_below, allocated_flag_law, flag_allocated}
use Rattle.card.specs.Plan.{freed_flags, take_block, free_block, add_pointer, raise_pointer, lower_pointer, drop_pointer, with_flags, with_count, with_multiplicity, change_public, change_keys, change_contents, change}
use Rattle.card.specs.declared.Mode.{Mode}
use Rattle.card.specs.declared.Mode.TheVariants.{Reading, Writing}
use Rattle.laws.specs.ChangesLaws.{inserted_take, inserted_drop, inserted_length, removed_take, removed_drop, removed_length, used_in_step, inserted_times_take, inserted_times_drop, inserted_times_length, set_times_take, set_times_drop, set_times_length, removed_times_take, removed_times_drop, removed_times_length, get_d_set_either, get_d_set_cases, window_at_block, clear_keys_length, cleared_high, cleared_low, uncleared_high, uncleared_low}
use Rattle.laws.proofs.Steps.{shaped_with, filled_length, key_zero_from, empty_from, not_allocated, allocated_set, allocated_other, right_kept, set_flag_pointers}

-- ---- soundness but for some blocks

-- Sound, but that a block of X may be allocated without a pointer to it.
pub record SoundExcept (X : ℕ → Type 0) (c : Card) : Type 0 where
  pub shaped : Shaped c
  pub flags_low : (b : ℕ) → b < c.public.info.blocks → flag c.public b ≤ 8
  pub roots_allocated : (b : ℕ) → b < c.public.info.blocks → b < c.public.info.roots → allocated_flag (flag c.public b) ≡ true
  pub unallocated : (b : ℕ) → b < c.public.info.blocks → allocated_flag (flag c.public b) ≡ false → Empty c b
  pub absent_key : (mode : Mode) (b : ℕ) → b < c.public.info.blocks → key_flag mode (flag c.public b) ≡ false → KeyZero c mode b
  pub ascends : ascending (in_use c.public) ≡ true
  pub rest_zero : all (λ w. eqb w 0) (drop c.public.info.used c.public.pointers) ≡ true
  pub times_right : all (λ n. multiplicity_right n) (times_in_use c.public) ≡ true
  pub rest_times_zero : all (λ n. eqb n 0) (drop c.public.info.used c.public.multiplicities) ≡ true
  pub pointers_right : all (λ w. pointer_right c.public w) (in_use c.public) ≡ true
  pub counts : (b : ℕ) → b < c.public.info.blocks → count c.public b ≡ pointers_to b (in_use c.public) (times_in_use c.public)
  pub pointed : (b : ℕ) → (X b → ⊥) → b < c.public.info.blocks → c.public.info.roots ≤ b → allocated_flag (flag c.public b) ≡ true → 1 ≤ count c.public b
  pub windows_low : (mode : Mode) (b : ℕ) → b < c.public.info.blocks → window_end c.public mode b ≤ c.public.info.time + longest_interval
  pub total_low : c.public.info.total ≤ c.public.info.time * most_blocks

-- Sound, but that block x may be so.
abbrev pub SoundBut : ℕ → Card → Type 0
SoundBut x c = SoundExcept (λ b. b ≡ x) c

-- A sound card is sound but for any block.
pub sound_but : {c : Card} (x : ℕ) → SoundCard c → SoundBut x c
sound_but x s = record {
  shaped = s.shaped;
  flags_low = s.is_sound.flags_low;
  roots_allocated = s.is_sound.roots_allocated;
  unallocated = s.is_sound.unallocated;
  absent_key = s.is_sound.absent_key;
  ascends = s.is_sound.ascends;
  rest_zero = s.is_sound.rest_zero;
  times_right = s.is_sound.times_right;
  rest_times_zero = s.is_sound.rest_times_zero;
  pointers_right = s.is_sound.pointers_right;
  counts = s.is_sound.counts;
  pointed = λ b other. s.is_sound.pointed b;
  windows_low = s.is_sound.windows_low;
  total_low = s.is_sound.total_low;
}

-- With a pointer to each block of X the card is sound.
pub except_sound : {c : Card} {X : ℕ → Type 0} → SoundExcept X c
    → ((b : ℕ) → b < c.public.info.blocks → c.public.info.roots ≤ b → allocated_flag (flag c.public b) ≡ true → (X b → ⊥) ⊎ (1 ≤ count c.public b)) → SoundCard c
except_sound s f = record {
  shaped = s.shaped;
  is_sound = record {
    flags_low = s.flags_low;
    roots_allocated = s.roots_allocated;
    unallocated = s.unallocated;
    absent_key = s.absent_key;
    ascends = s.ascends;
    rest_zero = s.rest_zero;
    times_right = s.times_right;
    rest_times_zero = s.rest_times_zero;
    pointers_right = s.pointers_right;
    counts = s.counts;
    pointed = λ b l r a. ⊎_elim (λ other. s.pointed b other l r a) (λ one. one) (f b l r a);
    windows_low = s.windows_low;
    total_low = s.total_low;
  };
}

pub but_sound : {c : Card} {x : ℕ} → SoundBut x c → 1 ≤ count c.public x → SoundCard c
but_sound {c} {x} s one =
    except_sound s
    (λ b l r a.
    ⊎_elim
    (λ (e : b ≡ x). inr (subst (λ (n : ℕ). 1 ≤ count c.public n) (sym e) one))
    (λ (other : b ≡ x → ⊥). inl other)
    (same_or_other b x))

-- ---- a block taken, and a pointer added to it

-- Take an unallocated block: sound but for a pointer to it.
pub take_block_sound : {c : Card} (b : ℕ) → SoundCard c → b < c.public.info.blocks → allocated_flag (flag c.public b) ≡ false
    → SoundBut b (change c (take_block b))
unfolding change change_public change_keys change_contents pointer_right allocated
take_block_sound {c} b s below free =
    let p : Public = c.public in
    let d : Card = change c (take_block b) in
    let in_flags : b < length p.flags = omega (arith, s.shaped.has_lengths.flags) in
    record {
      shaped = shaped_with s.shaped (length-set p.flags b 1) refl refl refl refl refl
          (filled_length b (zeros p.info.bytes) s.shaped below (length-replicate p.info.bytes 0))
          s.shaped.used_high
          s.shaped.time_high;
      flags_low = λ x l. get_d_set_either (λ (f : ℕ). f ≤ 8) p.flags b 1 x (omega arith) (s.is_sound.flags_low x l);
      roots_allocated = λ x l r. get_d_set_either (λ (f : ℕ). allocated_flag f ≡ true) p.flags b 1 x refl (s.is_sound.roots_allocated x l r);
      unallocated = λ x l.
          get_d_set_cases (λ (x f : ℕ). allocated_flag f ≡ false → Empty d x) p.flags b 1 x in_flags
          (λ e. absurd_test {t = allocated_flag 1} refl e)
          (λ other e. empty_from (get_or-set_other p.flags b x 1 0 other) (λ m. refl) (λ m. refl) refl (λ m. refl) (s.is_sound.unallocated x l e));
      absent_key = λ m x l.
          get_d_set_cases (λ (x f : ℕ). key_flag m f ≡ false → KeyZero d m x) p.flags b 1 x in_flags
          (λ e. key_zero_from refl refl ((s.is_sound.unallocated b below free).keys_zero m))
          (λ other e. key_zero_from refl refl (s.is_sound.absent_key m x l e));
      ascends = s.is_sound.ascends;
      rest_zero = s.is_sound.rest_zero;
      times_right = s.is_sound.times_right;
      rest_times_zero = s.is_sound.rest_times_zero;
      pointers_right = set_flag_pointers p b 1 refl (in_use p) s.is_sound.pointers_right;
      counts = s.is_sound.counts;
      pointed = λ x other l r e. s.is_sound.pointed x l r (subst (λ (f : ℕ). allocated_flag f ≡ true) (get_or-set_other p.flags b x 1 0 other) e);
      windows_low = s.is_sound.windows_low;
      total_low = s.is_sound.total_low;
    }

-- Counts stay right where the number beside one pointer to b moves, and b's count with it.
count_moved : (counts : List ℕ) (a b counted old new : ℕ) {ws ns ws' ns' : List ℕ} → b < 65536 → b < length counts
    → Moved (pointer a b) old new ws ns ws' ns' → counted + old ≡ get_or counts b 0 + new → get_or counts b 0 ≡ pointers_to b ws ns
    → (x : ℕ) → get_or counts x 0 ≡ pointers_to x ws ns → get_or (set counts b counted) x 0 ≡ pointers_to x ws' ns'
count_moved counts a b counted old new {ws} {ns} {ws'} {ns'} narrow in_counts moved e at_end x right =
    get_d_set_cases (λ (x n : ℕ). n ≡ pointers_to x ws' ns') counts b counted x in_counts
    (let here : eqb (destination (pointer a b)) b ≡ true = eq-eqb _ b (destination_pointer a b narrow) in
    let before : cond (eqb (destination (pointer a b)) b) old 0 ≡ old = rw here in
    let after : cond (eqb (destination (pointer a b)) b) new 0 ≡ new = rw here in
    omega (arith, moved.sums (λ w. eqb (destination w) b)))
    (λ other.
    let elsewhere : eqb (destination (pointer a b)) x ≡ false = ne_eqb _ x (λ q. other (sym q ∙ destination_pointer a b narrow)) in
    let before : cond (eqb (destination (pointer a b)) x) old 0 ≡ 0 = rw elsewhere in
    let after : cond (eqb (destination (pointer a b)) x) new 0 ≡ 0 = rw elsewhere in
    omega (arith, moved.sums (λ w. eqb (destination w) x)))

-- Add a pointer that is not there, between two allocated blocks, to no root, where a place is left.
pub add_pointer_sound : {c : Card} (a b : ℕ) → SoundBut b c
    → allocated c.public a ≡ true
    → allocated c.public b ≡ true
    → c.public.info.roots ≤ b
    → (a ≡ b → ⊥)
    → points_to c.public a b ≡ false
    → c.public.info.used < length c.public.pointers
    → SoundCard (change c (add_pointer a b))
unfolding change change_public change_keys change_contents points_to pointer_right allocated
add_pointer_sound {c} a b s fromAllocated toAllocated no_root different absent room =
    let p : Public = c.public in
    let below : b < p.info.blocks = allocated_below p b toAllocated in
    let narrow : b < 65536 = omega (arith, s.shaped.in_ranges.blocks_high) in
    let in_counts : b < length p.counts = omega (arith, s.shaped.has_lengths.counts) in
    let used : ℕ = p.info.used in
    let ps : List ℕ = p.pointers in
    let ms : List ℕ = p.multiplicities in
    let same : length ms ≡ length ps = s.shaped.has_lengths.multiplicities in
    let w : ℕ = pointer a b in
    let step : InStep (in_use p) (times_in_use p) = used_in_step w 1 used ps ms (omega arith) same in
    let timed : take (used + 1) (insert_beside w 1 (in_use p) (times_in_use p) ++ drop (used + 1) ms) ≡ insert_beside w 1 (in_use p) (times_in_use p) = inserted_times_take w 1 used ps ms (omega arith) same in
    let listed : take (used + 1) (insert w (in_use p) ++ drop (used + 1) ps) ≡ insert w (in_use p) = inserted_take w used ps (omega arith) in
    let right : pointer_right p w ≡ true = true_pointer_right {p = p} (record {
      source_allocated = subst (λ (n : ℕ). allocated p n ≡ true) (sym (source_pointer a b narrow)) fromAllocated;
      destination_allocated = subst (λ (n : ℕ). allocated p n ≡ true) (sym (destination_pointer a b narrow)) toAllocated;
      no_root = subst (λ (n : ℕ). p.info.roots ≤ n) (sym (destination_pointer a b narrow)) no_root;
      different = λ e. different (sym (source_pointer a b narrow) ∙ e ∙ destination_pointer a b narrow);
    }) in
    but_sound {x = b} (record {
      shaped = shaped_with s.shaped refl refl (length-set p.counts b (count p b + 1)) (inserted_length w used ps (omega arith) room) (inserted_times_length w 1 used ps ms (omega arith) same room) refl refl
          (omega (arith, inserted_length w used ps (omega arith) room))
          s.shaped.time_high;
      flags_low = s.flags_low;
      roots_allocated = s.roots_allocated;
      unallocated = λ x l e.
          empty_from refl (λ m. refl) (λ m. refl)
          (get_or-set_other p.counts b x (count p b + 1) 0 (not_allocated p toAllocated e))
          (λ m. refl)
          (s.unallocated x l e);
      absent_key = λ m x l e. key_zero_from refl refl (s.absent_key m x l e);
      ascends = subst (λ (ws : List ℕ). ascending ws ≡ true) (sym listed) (insert_ascending w (in_use p) s.ascends absent);
      rest_zero =
          subst (λ (ws : List ℕ). all (λ w. eqb w 0) ws ≡ true) (sym (inserted_drop w used ps (omega arith)))
          (all_drop (λ w. eqb w 0) 1 (drop used ps) s.rest_zero);
      times_right =
          subst (λ (ns : List ℕ). all (λ n. multiplicity_right n) ns ≡ true) (sym timed)
          (all_insert_beside (λ n. multiplicity_right n) w 1 step (true_multiplicity_right 1 (omega arith) (omega arith)) s.times_right);
      rest_times_zero =
          subst (λ (ns : List ℕ). all (λ n. eqb n 0) ns ≡ true) (sym (inserted_times_drop w 1 used ps ms (omega arith) same))
          (all_drop (λ n. eqb n 0) 1 (drop used ms) s.rest_times_zero);
      pointers_right =
          subst (λ (ws : List ℕ). all (λ w. pointer_right p w) ws ≡ true) (sym listed)
          (all_insert (λ w. pointer_right p w) w (in_use p) right s.pointers_right);
      counts = λ x l.
          rw (listed, timed)
          (count_moved p.counts a b (count p b + 1) 0 1 narrow in_counts (moved_insert w 1 step) (omega arith) (s.counts b below) x (s.counts x l));
      pointed = λ x other l r e.
          subst (λ (n : ℕ). 1 ≤ n) (sym (get_or-set_other p.counts b x (count p b + 1) 0 other)) (s.pointed x other l r e);
      windows_low = s.windows_low;
      total_low = s.total_low;
    })
    (subst (λ (n : ℕ). 1 ≤ n) (sym (get_or-set_same p.counts b (count p b + 1) 0 in_counts)) (omega arith))

-- ---- a pointer dropped, and its block freed

-- Drop a pointer that is there: sound but for a pointer to its block.
pub drop_pointer_sound : {c : Card} (a b : ℕ) → SoundCard c → allocated c.public b ≡ true → points_to c.public a b ≡ true
    → SoundBut b (change c (drop_pointer a b))
unfolding change change_public change_keys change_contents points_to multiplicity pointer_right allocated
drop_pointer_sound {c} a b s toAllocated there =
    let p : Public = c.public in
    let below : b < p.info.blocks = allocated_below p b toAllocated in
    let narrow : b < 65536 = omega (arith, s.shaped.in_ranges.blocks_high) in
    let in_counts : b < length p.counts = omega (arith, s.shaped.has_lengths.counts) in
    let used : ℕ = p.info.used in
    let ps : List ℕ = p.pointers in
    let ms : List ℕ = p.multiplicities in
    let fit : used ≤ length ps = s.shaped.used_high in
    let same : length ms ≡ length ps = s.shaped.has_lengths.multiplicities in
    let w : ℕ = pointer a b in
    let old : ℕ = beside w (in_use p) (times_in_use p) in
    let step : InStep (in_use p) (times_in_use p) = used_in_step w 0 used ps ms fit same in
    let timed : take (used - 1) (remove_beside w (in_use p) (times_in_use p) ++ (0 ∷ drop used ms)) ≡ remove_beside w (in_use p) (times_in_use p) = removed_times_take w used ps ms fit same there in
    let counted : old ≤ count p b =
    subst (λ (n : ℕ). old ≤ n) (sym (s.is_sound.counts b below)) (total_counted (λ w. eqb (destination w) b) w step there (eq-eqb (destination w) b (destination_pointer a b narrow))) in
    let listed : take (used - 1) (remove w (in_use p) ++ (0 ∷ drop used ps)) ≡ remove w (in_use p) = removed_take w used ps fit there in
    record {
      shaped = shaped_with s.shaped refl refl (length-set p.counts b (count p b - old)) (removed_length w used ps fit there) (removed_times_length w used ps ms fit same there) refl refl
          (omega (arith, removed_length w used ps fit there))
          s.shaped.time_high;
      flags_low = s.is_sound.flags_low;
      roots_allocated = s.is_sound.roots_allocated;
      unallocated = λ x l e.
          empty_from refl (λ m. refl) (λ m. refl)
          (get_or-set_other p.counts b x (count p b - old) 0 (not_allocated p toAllocated e))
          (λ m. refl)
          (s.is_sound.unallocated x l e);
      absent_key = λ m x l e. key_zero_from refl refl (s.is_sound.absent_key m x l e);
      ascends = subst (λ (ws : List ℕ). ascending ws ≡ true) (sym listed) (remove_ascending w (in_use p) s.is_sound.ascends);
      rest_zero =
          subst (λ (ws : List ℕ). all (λ w. eqb w 0) ws ≡ true) (sym (removed_drop w used ps fit there))
          (all_cons (λ w. eqb w 0) 0 (drop used ps) refl s.is_sound.rest_zero);
      times_right =
          subst (λ (ns : List ℕ). all (λ n. multiplicity_right n) ns ≡ true) (sym timed)
          (all_remove_beside (λ n. multiplicity_right n) w step s.is_sound.times_right);
      rest_times_zero =
          subst (λ (ns : List ℕ). all (λ n. eqb n 0) ns ≡ true) (sym (removed_times_drop w used ps ms fit same there))
          (all_cons (λ n. eqb n 0) 0 (drop used ms) refl s.is_sound.rest_times_zero);
      pointers_right =
          subst (λ (ws : List ℕ). all (λ w. pointer_right p w) ws ≡ true) (sym listed)
          (all_remove (λ w. pointer_right p w) w (in_use p) s.is_sound.pointers_right);
      counts = λ x l.
          rw (listed, timed)
          (count_moved p.counts a b (count p b - old) old 0 narrow in_counts (moved_remove w step there) (omega arith) (s.is_sound.counts b below) x (s.is_sound.counts x l));
      pointed = λ x other l r e.
          subst (λ (n : ℕ). 1 ≤ n) (sym (get_or-set_other p.counts b x (count p b - old) 0 other)) (s.is_sound.pointed x l r e);
      windows_low = s.is_sound.windows_low;
      total_low = s.is_sound.total_low;
    }

-- Both windows of a block set to 0.
abbrev pub closed : List ℕ → ℕ → List ℕ
closed windows b = set (set windows (window_at Reading b) 0) (window_at Writing b) 0

pub closed_either : (P : ℕ → Type 0) (windows : List ℕ) (b j : ℕ) → P 0 → P (get_or windows j 0) → P (get_or (closed windows b) j 0)
closed_either P windows b j new old =
    get_d_set_either P (set windows (window_at Reading b) 0) (window_at Writing b) 0 j new
    (get_d_set_either P windows (window_at Reading b) 0 j new old)

pub closed_same : (windows : List ℕ) (b : ℕ) → 2 * b + 1 < length windows → (mode : Mode) → get_or (closed windows b) (window_at mode b) 0 ≡ 0
closed_same windows b fits Reading =
    get_or-set_other (set windows (2 * b) 0) (2 * b + 1) (2 * b) 0 0 (λ e. omega arith) ∙ get_or-set_same windows (2 * b) 0 0 (omega arith)
closed_same windows b fits Writing =
    get_or-set_same (set windows (2 * b) 0) (2 * b + 1) 0 0 (subst (λ (n : ℕ). 2 * b + 1 < n) (sym (length-set windows (2 * b) 0)) fits)

pub closed_other : (windows : List ℕ) (b x : ℕ) (mode : Mode) → (b ≡ x → ⊥) → get_or (closed windows b) (window_at mode x) 0 ≡ get_or windows (window_at mode x) 0
closed_other windows b x mode other =
    get_or-set_other (set windows (window_at Reading b) 0) (window_at Writing b) (window_at mode x) 0 0 (λ e. other (window_at_block Writing mode b x (sym e)))
    ∙ get_or-set_other windows (window_at Reading b) (window_at mode x) 0 0 (λ e. other (window_at_block Reading mode b x (sym e)))

free_pointers : (p : Public) (b : ℕ) (ws : List ℕ)
    → all (λ w. pointer_right p w) ws ≡ true
    → all (λ w. not (eqb (source w) b)) ws ≡ true
    → all (λ w. not (eqb (destination w) b)) ws ≡ true
    → all (λ w. pointer_right (with_flags p (set p.flags b freed_flags)) w) ws ≡ true
free_pointers p b ws right from to =
    let kept : (x : ℕ) → (x ≡ b → ⊥) → allocated p x ≡ true → allocated (with_flags p (set p.flags b freed_flags)) x ≡ true = λ x other a. allocated_other p b freed_flags x other ∙ a in
    all_both (λ w. pointer_right p w) (λ w. not (eqb (source w) b) && not (eqb (destination w) b)) (λ w. pointer_right (with_flags p (set p.flags b freed_flags)) w)
    (λ w e f.
    right_kept p (set p.flags b freed_flags) w e
    (kept (source w) (eqb-false _ _ (not-true _ (and_left _ _ f))))
    (kept (destination w) (eqb-false _ _ (not-true _ (and_right (not (eqb (source w) b)) _ f)))))
    ws
    right
    (all_both (λ w. not (eqb (source w) b)) (λ w. not (eqb (destination w) b)) (λ w. not (eqb (source w) b) && not (eqb (destination w) b))
    (λ w. and_true (not (eqb (source w) b)) (not (eqb (destination w) b)))
    ws
    from
    to)

-- Free a block that is no root, with no pointer to it and none of its own.
pub free_block_except : {c : Card} {X Y : ℕ → Type 0} (b : ℕ) → SoundExcept X c
    → ((x : ℕ) → X x → (x ≡ b) ⊎ Y x)
    → b < c.public.info.blocks
    → c.public.info.roots ≤ b
    → count c.public b ≡ 0
    → all (λ w. not (eqb (source w) b)) (in_use c.public) ≡ true
    → SoundExcept Y (change c (free_block b))
unfolding change change_public change_keys change_contents pointer_right allocated
free_block_except {c} {X} {Y} b s others below no_root uncount unpoint =
    let p : Public = c.public in
    let in_flags : b < length p.flags = omega (arith, s.shaped.has_lengths.flags) in
    let fits : 4 * b + 4 ≤ length c.keys = omega (arith, s.shaped.has_lengths.keys) in
    let in_windows : 2 * b + 1 < length p.windows = omega (arith, s.shaped.has_lengths.windows) in
    let step : InStep (in_use p) (times_in_use p) = used_in_step 0 0 p.info.used p.pointers p.multiplicities s.shaped.used_high s.shaped.has_lengths.multiplicities in
    let d : Card = change c (free_block b) in
    let no_keys : (m : Mode) → KeyZero d m b = λ m. record { high = cleared_high c.keys b fits m; low = cleared_low c.keys b fits m } in
    let keys_kept : (m : Mode) (x : ℕ) → (x ≡ b → ⊥) → KeyZero c m x → KeyZero d m x = λ m x other.
    key_zero_from (uncleared_high c.keys b m x other) (uncleared_low c.keys b m x other) in
    record {
      shaped = shaped_with s.shaped (length-set p.flags b freed_flags) (clear_keys_length c.keys b) refl refl refl
          (length-set (set p.windows (window_at Reading b) 0) (window_at Writing b) 0 ∙ length-set p.windows (window_at Reading b) 0)
          refl
          s.shaped.used_high
          s.shaped.time_high;
      flags_low = λ x l. get_d_set_either (λ (f : ℕ). f ≤ 8) p.flags b freed_flags x (omega arith) (s.flags_low x l);
      roots_allocated = λ x l.
          get_d_set_cases (λ (x f : ℕ). x < p.info.roots → allocated_flag f ≡ true) p.flags b freed_flags x in_flags
          (λ r. absurd (omega arith))
          (λ other. s.roots_allocated x l);
      unallocated = λ x l.
          get_d_set_cases (λ (x f : ℕ). allocated_flag f ≡ false → Empty d x) p.flags b freed_flags x in_flags
          (λ e. record {
            free_or_waiting = ap (λ (f : ℕ). free_flag f || waiting_flag f) (get_or-set_same p.flags b freed_flags 0 in_flags);
            keys_zero = no_keys;
            count_zero = uncount;
            window_zero = closed_same p.windows b in_windows;
          })
          (λ other e.
          let h : Empty c x = s.unallocated x l e in
          record {
            free_or_waiting = ap (λ (f : ℕ). free_flag f || waiting_flag f) (get_or-set_other p.flags b x freed_flags 0 other) ∙ h.free_or_waiting;
            keys_zero = λ m. keys_kept m x other (h.keys_zero m);
            count_zero = h.count_zero;
            window_zero = λ m. closed_either (λ (n : ℕ). n ≡ 0) p.windows b (window_at m x) refl (h.window_zero m);
          });
      absent_key = λ m x l.
          get_d_set_cases (λ (x f : ℕ). key_flag m f ≡ false → KeyZero d m x) p.flags b freed_flags x in_flags
          (λ e. no_keys m)
          (λ other e. keys_kept m x other (s.absent_key m x l e));
      ascends = s.ascends;
      rest_zero = s.rest_zero;
      times_right = s.times_right;
      rest_times_zero = s.rest_times_zero;
      pointers_right = free_pointers p b (in_use p) s.pointers_right unpoint (uncounted (λ w. eqb (destination w) b) step (all_map (λ n. multiplicity_right n) (λ n. leb 1 n) (λ n e. le-leb 1 n (multiplicity_right_low n e)) (times_in_use p) s.times_right) (sym (s.counts b below) ∙ uncount));
      counts = s.counts;
      pointed = λ x none l r.
          get_d_set_cases (λ (x f : ℕ). (Y x → ⊥) → allocated_flag f ≡ true → 1 ≤ count p x) p.flags b freed_flags x in_flags
          (λ o e. absurd_test {t = allocated_flag freed_flags} e refl)
          (λ other o. s.pointed x (λ z. ⊎_elim other o (others x z)) l r)
          none;
      windows_low = λ m x l.
          closed_either (λ (n : ℕ). n ≤ p.info.time + longest_interval) p.windows b (window_at m x) (omega arith) (s.windows_low m x l);
      total_low = s.total_low;
    }

pub free_block_sound : {c : Card} (b : ℕ) → SoundBut b c
    → b < c.public.info.blocks
    → c.public.info.roots ≤ b
    → count c.public b ≡ 0
    → all (λ w. not (eqb (source w) b)) (in_use c.public) ≡ true
    → SoundCard (change c (free_block b))
free_block_sound b s below no_root uncount unpoint =
    except_sound (free_block_except {Y = λ x. ⊥} b s (λ x e. inl e) below no_root uncount unpoint) (λ x l r a. inl (λ z. z))

-- ---- pairs of changes

-- A pointer in use is right.
pub pointer_right_law : {c : Card} (a b : ℕ) → SoundCard c → points_to c.public a b ≡ true → RightPointer c.public (pointer a b)
unfolding points_to
pointer_right_law {c} a b s there =
    pointer_right_true c.public (pointer a b)
    (contains_all (λ w. pointer_right c.public w) (pointer a b) (in_use c.public) there s.is_sound.pointers_right)

-- A block below N has a number in 16 bits.
pub block_narrow : {c : Card} {b : ℕ} → SoundCard c → b < c.public.info.blocks → b < 65536
block_narrow s l = omega (arith, s.shaped.in_ranges.blocks_high)

-- No pointer goes to an unallocated block.
pub no_pointer : {c : Card} (a b : ℕ) → SoundCard c → b < c.public.info.blocks → allocated_flag (flag c.public b) ≡ false → points_to c.public a b ≡ false
no_pointer {c} a b s below free =
    false_unless _
    (λ e.
    absurd_test
    (allocated_flag_law c.public b
    (subst (λ (n : ℕ). allocated c.public n ≡ true) (destination_pointer a b (block_narrow s below)) (pointer_right_law a b s e).destination_allocated))
    free)

-- Take an unallocated block and point to it from an allocated one, where a place is left.
pub take_add_sound : {c : Card} (a b : ℕ) → SoundCard c
    → allocated c.public a ≡ true
    → b < c.public.info.blocks
    → allocated_flag (flag c.public b) ≡ false
    → c.public.info.used < length c.public.pointers
    → SoundCard (change (change c (take_block b)) (add_pointer a b))
unfolding change change_public points_to
take_add_sound {c} a b s fromAllocated below free room =
    let p : Public = c.public in
    add_pointer_sound a b (take_block_sound b s below free)
    (allocated_set p b 1 a refl fromAllocated)
    (flag_allocated (with_flags p (set p.flags b 1)) b below
    (ap allocated_flag (get_or-set_same p.flags b 1 0 (omega (arith, s.shaped.has_lengths.flags)))))
    (⊎_elim
    (λ (l : b < p.info.roots). absurd_test (s.is_sound.roots_allocated b below l) free)
    (λ (l : p.info.roots ≤ b). l)
    (below_or_not b p.info.roots))
    (λ (e : a ≡ b). not_allocated p fromAllocated free (sym e))
    (no_pointer a b s below free)
    room

-- ---- another multiplicity of a pointer that is there

module _ {c : Card} (a b : ℕ) (s : SoundCard c) where
  -- The pointers in use and the multiplicities beside them.
  card_in_step : InStep (in_use c.public) (times_in_use c.public)
  card_in_step = used_in_step 0 0 c.public.info.used c.public.pointers c.public.multiplicities s.shaped.used_high s.shaped.has_lengths.multiplicities

  -- A pointer in use has a multiplicity from 1 to 65,535.
  pub times_right_law : points_to c.public a b ≡ true → multiplicity_right (multiplicity c.public a b) ≡ true
  unfolding multiplicity points_to
  times_right_law there = beside_all (λ n. multiplicity_right n) (pointer a b) card_in_step there s.is_sound.times_right

  -- A block points to another while the multiplicity is at least 1.
  pub points_times : points_to c.public a b ≡ not (eqb (multiplicity c.public a b) 0)
  unfolding multiplicity points_to
  points_times =
      ⊎_elim
      (λ (there : points_to c.public a b ≡ true).
      let low : 1 ≤ multiplicity c.public a b = multiplicity_right_low _ (times_right_law there) in
      there ∙ sym (ap not (ne_eqb (multiplicity c.public a b) 0 (λ (z : multiplicity c.public a b ≡ 0). omega arith))))
      (λ (absent : points_to c.public a b ≡ false).
      absent ∙ sym (ap not (eq-eqb (multiplicity c.public a b) 0 (beside_absent (pointer a b) (in_use c.public) (times_in_use c.public) absent))))
      (not_cases (points_to c.public a b))

  -- No multiplicity is above the highest.
  pub times_high : multiplicity c.public a b ≤ highest_multiplicity
  unfolding multiplicity points_to
  times_high =
      ⊎_elim
      (λ (there : points_to c.public a b ≡ true). multiplicity_right_high _ (times_right_law there))
      (λ (absent : points_to c.public a b ≡ false). omega (arith, beside_absent (pointer a b) (in_use c.public) (times_in_use c.public) absent))
      (not_cases (points_to c.public a b))

module _ {c : Card} (a b : ℕ) (s : SoundCard c) (toAllocated : allocated c.public b ≡ true) (there : points_to c.public a b ≡ true) where
  -- The destination's count is no lower.
  pub times_counted : multiplicity c.public a b ≤ count c.public b
  unfolding multiplicity points_to
  times_counted =
      let below : b < c.public.info.blocks = allocated_below c.public b toAllocated in
      subst (λ (n : ℕ). multiplicity c.public a b ≤ n) (sym (s.is_sound.counts b below))
      (total_counted (λ w. eqb (destination w) b) (pointer a b) (card_in_step a b s) there
      (eq-eqb (destination (pointer a b)) b (destination_pointer a b (block_narrow s below))))

  -- Another multiplicity, and the destination's count with it.
  times_sound : (times counted : ℕ) → 1 ≤ times → times ≤ highest_multiplicity → counted + multiplicity c.public a b ≡ count c.public b + times
      → SoundCard (record { public = with_multiplicity (with_count c.public b counted) a b times; keys = c.keys; contents = c.contents })
  unfolding pointer_right allocated multiplicity points_to
  times_sound times counted low high moves =
      let p : Public = c.public in
      let below : b < p.info.blocks = allocated_below p b toAllocated in
      let in_counts : b < length p.counts = omega (arith, s.shaped.has_lengths.counts) in
      let used : ℕ = p.info.used in
      let ps : List ℕ = p.pointers in
      let ms : List ℕ = p.multiplicities in
      let fit : used ≤ length ps = s.shaped.used_high in
      let same : length ms ≡ length ps = s.shaped.has_lengths.multiplicities in
      let w : ℕ = pointer a b in
      let timed : take used (set_beside w times (in_use p) (times_in_use p) ++ drop used ms) ≡ set_beside w times (in_use p) (times_in_use p) = set_times_take w times used ps ms fit same in
      but_sound {x = b} (record {
        shaped = shaped_with s.shaped refl refl (length-set p.counts b counted) refl (set_times_length w times used ps ms fit same) refl refl fit s.shaped.time_high;
        flags_low = s.is_sound.flags_low;
        roots_allocated = s.is_sound.roots_allocated;
        unallocated = λ x l e.
            empty_from refl (λ m. refl) (λ m. refl)
            (get_or-set_other p.counts b x counted 0 (not_allocated p toAllocated e))
            (λ m. refl)
            (s.is_sound.unallocated x l e);
        absent_key = λ m x l e. key_zero_from refl refl (s.is_sound.absent_key m x l e);
        ascends = s.is_sound.ascends;
        rest_zero = s.is_sound.rest_zero;
        times_right =
            subst (λ (ns : List ℕ). all (λ n. multiplicity_right n) ns ≡ true) (sym timed)
            (all_set_beside (λ n. multiplicity_right n) w times (card_in_step a b s) (true_multiplicity_right times low high) s.is_sound.times_right);
        rest_times_zero =
            subst (λ (ns : List ℕ). all (λ n. eqb n 0) ns ≡ true) (sym (set_times_drop w times used ps ms fit same)) s.is_sound.rest_times_zero;
        pointers_right = s.is_sound.pointers_right;
        counts = λ x l.
            rw timed
            (count_moved p.counts a b counted (multiplicity p a b) times (block_narrow s below) in_counts (moved_set w times (card_in_step a b s) there) moves
            (s.is_sound.counts b below) x (s.is_sound.counts x l));
        pointed = λ x other l r e.
            subst (λ (n : ℕ). 1 ≤ n) (sym (get_or-set_other p.counts b x counted 0 other)) (s.is_sound.pointed x l r e);
        windows_low = s.is_sound.windows_low;
        total_low = s.is_sound.total_low;
      })
      (subst (λ (n : ℕ). 1 ≤ n) (sym (get_or-set_same p.counts b counted 0 in_counts)) (omega (arith, times_counted)))

  -- One more of a pointer whose multiplicity is below 65,535.
  pub raise_sound : (multiplicity c.public a b ≡ highest_multiplicity → ⊥) → SoundCard (change c (raise_pointer a b))
  unfolding change change_public change_keys change_contents
  raise_sound below =
      times_sound (multiplicity c.public a b + 1) (count c.public b + 1) (omega arith)
      (omega (arith, multiplicity_right_high _ (times_right_law a b s there))) (omega arith)

  -- One less of a pointer whose multiplicity is above 1.
  pub lower_sound : (multiplicity c.public a b ≡ 1 → ⊥) → SoundCard (change c (lower_pointer a b))
  unfolding change change_public change_keys change_contents
  lower_sound more =
      times_sound (multiplicity c.public a b - 1) (count c.public b - 1) (omega (arith, multiplicity_right_low _ (times_right_law a b s there)))
      (omega (arith, multiplicity_right_high _ (times_right_law a b s there))) (omega (arith, multiplicity_right_low _ (times_right_law a b s there), times_counted))

module _ {c : Card} (a b : ℕ) (s : SoundCard c) (toAllocated : allocated c.public b ≡ true) (there : points_to c.public a b ≡ true) where
  count_after : count (change c (drop_pointer a b)).public b ≡ count c.public b - multiplicity c.public a b
  unfolding change change_public
  count_after =
      get_or-set_same c.public.counts b (count c.public b - multiplicity c.public a b) 0
      (omega (arith, allocated_below c.public b toAllocated, s.shaped.has_lengths.counts))

  -- Drop a pointer of multiplicity 1 to a block that has another.
  pub drop_one_sound : multiplicity c.public a b ≡ 1 → (count c.public b ≡ 1 → ⊥) → SoundCard (change c (drop_pointer a b))
  drop_one_sound once more =
      but_sound (drop_pointer_sound a b s toAllocated there) (omega (arith, count_after, times_counted a b s toAllocated there))

  -- Drop the last pointer to a block that has none of its own, and free the block.
  pub drop_last_sound : multiplicity c.public a b ≡ 1 → count c.public b ≡ 1 → has_pointers c.public b ≡ false → SoundCard (change (change c (drop_pointer a b)) (free_block b))
  unfolding change change_public points_to has_pointers
  drop_last_sound once last alone =
      let p : Public = c.public in
      let below : b < p.info.blocks = allocated_below p b toAllocated in
      free_block_sound b (drop_pointer_sound a b s toAllocated there) below
      (subst (λ (n : ℕ). p.info.roots ≤ n) (destination_pointer a b (block_narrow s below)) (pointer_right_law a b s there).no_root)
      (omega (arith, count_after))
      (subst (λ (ws : List ℕ). all (λ w. not (eqb (source w) b)) ws ≡ true)
      (sym (removed_take (pointer a b) p.info.used p.pointers s.shaped.used_high there))
      (all_remove (λ w. not (eqb (source w) b)) (pointer a b) (in_use p) (unpointing b (in_use p) alone)))
