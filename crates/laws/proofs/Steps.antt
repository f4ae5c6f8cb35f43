-- Changes of windows, contents, time and keys keep soundness, under the conditions that a call's checks give them.
use Rattle.std.specs.Prelude.{Option, is_some}
use Prim.Native.Nat.{ℕ, ◌+◌, ◌*◌, ◌≤◌, ◌<◌}
use mathlib.Core.Path.{◌≡◌, refl, sym, ap, ◌∙◌, subst}
use mathlib.Core.Logic.{⊎_elim}
use mathlib.Core.Bool.{Bool, true, false, ◌&&◌, ◌||◌}
use mathlib.Core.List.{List}
use native.Mathlib.Omega.{arith}
use lib.Dec.{ltb}
use lib.ListN.{length, set, length-set, length-replicate}
use lib.Seq.{get_or-set_same, get_or-set_other}
use Rattle.card.specs.Lists.{all}
use Rattle.laws.specs.ListsLaws.{absurd_test, false_unless, and_false_right, all_map}
use Rattle.card.specs.Pointers.{source, destination}
use Rattle.card.specs.Contents.{fill, zeros}
use Rattle.laws.specs.ContentsLaws.{fill_length, block_fits}
use Rattle.card.specs.Card.{Public, Card, card, flag, allocated_flag, key_flag, waiting_flag, free_flag, allocated, waiting, window_at, window_end, longest_interval, count, in_use, key_high, key_low}
use Rattle.card.specs.Soundness.{time_limit, most_blocks, pointer_right}
use Rattle.card.specs.SoundCard.{Shaped, KeyZero, Empty, RightPointer, SoundCard}
use Rattle.laws.specs.SoundnessLaws.{pointer_right_true, true_pointer_right, allocated_below, allocated_flag_law, flag_allocated, waiting_below, waiting_flag_law, waiting_unallocated}
use Rattle.card.specs.Plan.{set_window, set_block, set_key, sweep_block, set_time, other_mode, keyed_flags, with_flags, change_public, change_keys, change_contents, change}
use Rattle.card.specs.declared.Mode.{Mode}
use Rattle.laws.specs.ChangesLaws.{get_d_set_either, get_d_set_cases, window_at_block, other_mode_law, mode_or_other, keyed_low, keyed_allocated, keyed_own, keyed_other, absent_high, absent_low, replace_key_length, replaced_high, replaced_low, kept_high, kept_low}

-- ---- shape

-- A card with tables of the same lengths has the same shape, with as many pointers as fit and a time below the limit.
pub shaped_with : {c : Card} {flags keys counts pointers multiplicities windows contents : List ℕ} {used time total : ℕ} → Shaped c
    → length flags ≡ length c.public.flags
    → length keys ≡ length c.keys
    → length counts ≡ length c.public.counts
    → length pointers ≡ length c.public.pointers
    → length multiplicities ≡ length c.public.multiplicities
    → length windows ≡ length c.public.windows
    → length contents ≡ length c.contents
    → used ≤ length pointers
    → time < time_limit
    → Shaped (card (record { blocks = c.public.info.blocks; roots = c.public.info.roots; bytes = c.public.info.bytes; used = used; time = time; total = total }) flags keys counts pointers multiplicities windows contents)
shaped_with {c} {flags} {keys} {counts} {pointers} {multiplicities} {windows} {contents} s f k n p m w d u t = record {
  in_ranges = s.in_ranges;
  time_high = t;
  has_lengths = record {
    flags = f ∙ s.has_lengths.flags;
    keys = k ∙ s.has_lengths.keys;
    counts = n ∙ s.has_lengths.counts;
    places_low = subst (λ (m : ℕ). 1 ≤ m) (sym p) s.has_lengths.places_low;
    places_high = subst (λ (m : ℕ). m ≤ 16384) (sym p) s.has_lengths.places_high;
    multiplicities = m ∙ s.has_lengths.multiplicities ∙ sym p;
    windows = w ∙ s.has_lengths.windows;
    contents = d ∙ s.has_lengths.contents;
  };
  used_high = u;
}

-- A block below N lies within the contents.
pub block_within : (c : Card) (b : ℕ) → length c.contents ≡ c.public.info.blocks * c.public.info.bytes → b < c.public.info.blocks
    → b * c.public.info.bytes + c.public.info.bytes ≤ length c.contents
block_within c b e l = subst (λ (n : ℕ). b * c.public.info.bytes + c.public.info.bytes ≤ n) (sym e) (block_fits c.public.info.bytes l)

-- A block's part filled leaves the contents as long as they were.
pub filled_length : {c : Card} (b : ℕ) (ys : List ℕ) → Shaped c → b < c.public.info.blocks → length ys ≡ c.public.info.bytes
    → length (fill c.public.info.bytes c.contents b ys) ≡ length c.contents
filled_length {c} b ys s l whole = fill_length c.public.info.bytes c.contents b ys (block_within c b s.has_lengths.contents l) whole

-- ---- what a change leaves of a block

pub key_zero_from : {c d : Card} {mode : Mode} {x : ℕ} → key_high d.keys mode x ≡ key_high c.keys mode x → key_low d.keys mode x ≡ key_low c.keys mode x
    → KeyZero c mode x → KeyZero d mode x
key_zero_from e f h = record { high = e ∙ h.high; low = f ∙ h.low }

pub empty_from : {c d : Card} {x : ℕ}
    → flag d.public x ≡ flag c.public x
    → ((mode : Mode) → key_high d.keys mode x ≡ key_high c.keys mode x)
    → ((mode : Mode) → key_low d.keys mode x ≡ key_low c.keys mode x)
    → count d.public x ≡ count c.public x
    → ((mode : Mode) → window_end d.public mode x ≡ window_end c.public mode x)
    → Empty c x → Empty d x
empty_from f high low n w h = record {
  free_or_waiting = subst (λ (n : ℕ). free_flag n || waiting_flag n ≡ true) (sym f) h.free_or_waiting;
  keys_zero = λ m. key_zero_from (high m) (low m) (h.keys_zero m);
  count_zero = n ∙ h.count_zero;
  window_zero = λ m. w m ∙ h.window_zero m;
}

pub unallocated_flag : (p : Public) (b : ℕ) → b < p.info.blocks → allocated p b ≡ false → allocated_flag (flag p b) ≡ false
unallocated_flag p b l e = false_unless _ (λ a. absurd_test (flag_allocated p b l a) e)

-- An unallocated block is not the allocated one.
pub not_allocated : (p : Public) {x b : ℕ} → allocated p b ≡ true → allocated_flag (flag p x) ≡ false → x ≡ b → ⊥
not_allocated p {x} {b} a e q = absurd_test (allocated_flag_law p b a) (subst (λ (n : ℕ). allocated_flag (flag p n) ≡ false) q e)

-- ---- windows, contents and time

-- Set a window of an allocated block, to an end at most T + 86,400.
pub set_window_sound : {c : Card} (mode : Mode) (b end : ℕ) → SoundCard c → allocated c.public b ≡ true → end ≤ c.public.info.time + longest_interval
    → SoundCard (change c (set_window mode b end))
unfolding change change_public change_keys change_contents pointer_right allocated
set_window_sound {c} mode b end s a low = record {
  shaped = shaped_with s.shaped refl refl refl refl refl (length-set c.public.windows (window_at mode b) end) refl s.shaped.used_high s.shaped.time_high;
  is_sound = record {
    flags_low = s.is_sound.flags_low;
    roots_allocated = s.is_sound.roots_allocated;
    unallocated = λ x l e.
        empty_from refl (λ m. refl) (λ m. refl) refl
        (λ m. get_or-set_other c.public.windows (window_at mode b) (window_at m x) end 0 (λ q. not_allocated c.public a e (window_at_block m mode x b q)))
        (s.is_sound.unallocated x l e);
    absent_key = λ m x l e. key_zero_from refl refl (s.is_sound.absent_key m x l e);
    ascends = s.is_sound.ascends;
    rest_zero = s.is_sound.rest_zero;
    times_right = s.is_sound.times_right;
    rest_times_zero = s.is_sound.rest_times_zero;
    pointers_right = s.is_sound.pointers_right;
    counts = s.is_sound.counts;
    pointed = s.is_sound.pointed;
    windows_low = λ m x l.
        get_d_set_either (λ (n : ℕ). n ≤ c.public.info.time + longest_interval) c.public.windows (window_at mode b) end (window_at m x)
        low
        (s.is_sound.windows_low m x l);
    total_low = s.is_sound.total_low;
  };
}

-- Set the contents of a block below N.
pub set_block_sound : {c : Card} (b : ℕ) (ys : List ℕ) → SoundCard c → b < c.public.info.blocks → length ys ≡ c.public.info.bytes
    → SoundCard (change c (set_block b ys))
unfolding change change_public change_keys change_contents
set_block_sound {c} b ys s l whole = record {
  shaped = shaped_with s.shaped refl refl refl refl refl refl (filled_length b ys s.shaped l whole) s.shaped.used_high s.shaped.time_high;
  is_sound = record {
    flags_low = s.is_sound.flags_low;
    roots_allocated = s.is_sound.roots_allocated;
    unallocated = λ x l e. empty_from refl (λ m. refl) (λ m. refl) refl (λ m. refl) (s.is_sound.unallocated x l e);
    absent_key = λ m x l e. key_zero_from refl refl (s.is_sound.absent_key m x l e);
    ascends = s.is_sound.ascends;
    rest_zero = s.is_sound.rest_zero;
    times_right = s.is_sound.times_right;
    rest_times_zero = s.is_sound.rest_times_zero;
    pointers_right = s.is_sound.pointers_right;
    counts = s.is_sound.counts;
    pointed = s.is_sound.pointed;
    windows_low = s.is_sound.windows_low;
    total_low = s.is_sound.total_low;
  };
}

-- Set the time, to a later one below the limit, and the total, to one that can have come about by then.
pub set_time_sound : {c : Card} (time total : ℕ) → SoundCard c → c.public.info.time ≤ time → time < time_limit → total ≤ time * most_blocks
    → SoundCard (change c (set_time time total))
unfolding change change_public change_keys change_contents pointer_right allocated
set_time_sound {c} time total s later low in-time = record {
  shaped = shaped_with s.shaped refl refl refl refl refl refl refl s.shaped.used_high low;
  is_sound = record {
    flags_low = s.is_sound.flags_low;
    roots_allocated = s.is_sound.roots_allocated;
    unallocated = λ x l e. empty_from refl (λ m. refl) (λ m. refl) refl (λ m. refl) (s.is_sound.unallocated x l e);
    absent_key = λ m x l e. key_zero_from refl refl (s.is_sound.absent_key m x l e);
    ascends = s.is_sound.ascends;
    rest_zero = s.is_sound.rest_zero;
    times_right = s.is_sound.times_right;
    rest_times_zero = s.is_sound.rest_times_zero;
    pointers_right = s.is_sound.pointers_right;
    counts = s.is_sound.counts;
    pointed = s.is_sound.pointed;
    windows_low = λ m x l. omega (arith, s.is_sound.windows_low m x l);
    total_low = in-time;
  };
}

-- ---- flags and keys

-- No allocated block ceases to be so where flags are set that say allocated.
pub allocated_set : (p : Public) (b v x : ℕ) → allocated_flag v ≡ true → allocated p x ≡ true → allocated (with_flags p (set p.flags b v)) x ≡ true
allocated_set p b v x odd a =
    flag_allocated (with_flags p (set p.flags b v)) x (allocated_below p x a)
    (get_d_set_either (λ (f : ℕ). allocated_flag f ≡ true) p.flags b v x odd (allocated_flag_law p x a))

-- Where a block's flags are set, another passes a test of its flags or not as before; so it is allocated, waits or is free as before.
pub state_other : (test : ℕ → Bool) (p : Public) (b v x : ℕ) → (x ≡ b → ⊥)
    → ltb x p.info.blocks && test (flag (with_flags p (set p.flags b v)) x) ≡ ltb x p.info.blocks && test (flag p x)
state_other test p b v x other = ap (λ (f : ℕ). ltb x p.info.blocks && test f) (get_or-set_other p.flags b x v 0 other)

pub allocated_other : (p : Public) (b v x : ℕ) → (x ≡ b → ⊥) → allocated (with_flags p (set p.flags b v)) x ≡ allocated p x
unfolding allocated
allocated_other p b v x other = state_other allocated_flag p b v x other

-- No other block becomes allocated where a block loses its flags.
pub unallocated_set : (p : Public) (b x : ℕ) → allocated p x ≡ false → allocated (with_flags p (set p.flags b 0)) x ≡ false
unfolding allocated
unallocated_set p b x e =
    get_d_set_either (λ (f : ℕ). ltb x p.info.blocks && allocated_flag f ≡ false) p.flags b 0 x (and_false_right (ltb x p.info.blocks) _ refl) e

-- A pointer stays right where its ends stay allocated.
pub right_kept : (p : Public) (flags : List ℕ) (w : ℕ) → pointer_right p w ≡ true
    → (allocated p (source w) ≡ true → allocated (with_flags p flags) (source w) ≡ true)
    → (allocated p (destination w) ≡ true → allocated (with_flags p flags) (destination w) ≡ true)
    → pointer_right (with_flags p flags) w ≡ true
right_kept p flags w e from to =
    let r : RightPointer p w = pointer_right_true p w e in
    true_pointer_right {p = with_flags p flags} (record {
      source_allocated = from r.source_allocated;
      destination_allocated = to r.destination_allocated;
      no_root = r.no_root;
      different = r.different;
    })

pub set_flag_pointers : (p : Public) (b v : ℕ) → allocated_flag v ≡ true → (ws : List ℕ) → all (λ w. pointer_right p w) ws ≡ true
    → all (λ w. pointer_right (with_flags p (set p.flags b v)) w) ws ≡ true
set_flag_pointers p b v odd ws h =
    all_map (λ w. pointer_right p w) (λ w. pointer_right (with_flags p (set p.flags b v)) w)
    (λ w e. right_kept p (set p.flags b v) w e (allocated_set p b v (source w) odd) (allocated_set p b v (destination w) odd))
    ws
    h

-- Set the key of an allocated block for a mode: the other key, and the keys of other blocks, are as they were.
pub set_key_sound : {c : Card} (mode : Mode) (b : ℕ) (key : Option (ℕ × ℕ)) → SoundCard c → allocated c.public b ≡ true → SoundCard (change c (set_key mode b key))
unfolding change change_public change_keys change_contents pointer_right allocated
set_key_sound {c} mode b key s a =
    let p : Public = c.public in
    let d : Card = change c (set_key mode b key) in
    let f : ℕ = flag p b in
    let v : ℕ = keyed_flags f mode key in
    let odd : allocated_flag v ≡ true = keyed_allocated f mode key in
    let below : b < p.info.blocks = allocated_below p b a in
    let in_flags : b < length p.flags = omega (arith, s.shaped.has_lengths.flags) in
    let fits : 4 * b + 4 ≤ length c.keys = omega (arith, s.shaped.has_lengths.keys) in
    let keys_kept : (m : Mode) (x : ℕ) → (m ≡ mode → x ≡ b → ⊥) → KeyZero c m x → KeyZero d m x = λ m x apart.
    key_zero_from (kept_high c.keys mode b key m x apart) (kept_low c.keys mode b key m x apart) in
    let own : key_flag mode v ≡ false → KeyZero d mode b = λ e.
    let none : is_some key ≡ false = sym (keyed_own f mode key) ∙ e in
    record {
      high = replaced_high c.keys mode b key fits ∙ absent_high key none;
      low = replaced_low c.keys mode b key fits ∙ absent_low key none;
    } in
    let rest : key_flag (other_mode mode) v ≡ false → KeyZero d (other_mode mode) b = λ e.
    keys_kept (other_mode mode) b (λ q _. other_mode_law mode q) (s.is_sound.absent_key (other_mode mode) b below (sym (keyed_other f mode key) ∙ e)) in
    record {
      shaped = shaped_with s.shaped (length-set p.flags b v) (replace_key_length c.keys mode b key) refl refl refl refl refl s.shaped.used_high s.shaped.time_high;
      is_sound = record {
        flags_low = λ x l. get_d_set_either (λ (f : ℕ). f ≤ 8) p.flags b v x (omega (arith, keyed_low f mode key)) (s.is_sound.flags_low x l);
        roots_allocated = λ x l r. get_d_set_either (λ (f : ℕ). allocated_flag f ≡ true) p.flags b v x odd (s.is_sound.roots_allocated x l r);
        unallocated = λ x l.
            get_d_set_cases (λ (x f : ℕ). allocated_flag f ≡ false → Empty d x) p.flags b v x in_flags
            (λ e. absurd_test odd e)
            (λ other e.
            empty_from (get_or-set_other p.flags b x v 0 other)
            (λ m. kept_high c.keys mode b key m x (λ _ q. other q))
            (λ m. kept_low c.keys mode b key m x (λ _ q. other q))
            refl
            (λ m. refl)
            (s.is_sound.unallocated x l e));
        absent_key = λ m x l.
            get_d_set_cases (λ (x f : ℕ). key_flag m f ≡ false → KeyZero d m x) p.flags b v x in_flags
            (⊎_elim
            (λ (q : m ≡ mode). subst (λ (n : Mode). key_flag n v ≡ false → KeyZero d n b) (sym q) own)
            (λ (q : m ≡ other_mode mode). subst (λ (n : Mode). key_flag n v ≡ false → KeyZero d n b) (sym q) rest)
            (mode_or_other m mode))
            (λ other e. keys_kept m x (λ _ q. other q) (s.is_sound.absent_key m x l e));
        ascends = s.is_sound.ascends;
        rest_zero = s.is_sound.rest_zero;
        times_right = s.is_sound.times_right;
        rest_times_zero = s.is_sound.rest_times_zero;
        pointers_right = set_flag_pointers p b v odd (in_use p) s.is_sound.pointers_right;
        counts = s.is_sound.counts;
        pointed = λ x l.
            get_d_set_cases (λ (x f : ℕ). p.info.roots ≤ x → allocated_flag f ≡ true → 1 ≤ count p x) p.flags b v x in_flags
            (λ r e. s.is_sound.pointed b below r (allocated_flag_law p b a))
            (λ other. s.is_sound.pointed x l);
        windows_low = s.is_sound.windows_low;
        total_low = s.is_sound.total_low;
      };
    }

-- ---- a waiting block swept

-- It has neither keys nor windows, nor pointers to it or of its own, so it can become free.
pub sweep_block_sound : {c : Card} (b : ℕ) → SoundCard c → waiting c.public b ≡ true → SoundCard (change c (sweep_block b))
unfolding change change_public change_keys change_contents pointer_right allocated
sweep_block_sound {c} b s w =
    let p : Public = c.public in
    let d : Card = change c (sweep_block b) in
    let below : b < p.info.blocks = waiting_below p b w in
    let in_flags : b < length p.flags = omega (arith, s.shaped.has_lengths.flags) in
    let idle : allocated_flag (flag p b) ≡ false = ap allocated_flag (waiting_flag_law p b w) in
    let empty : Empty c b = s.is_sound.unallocated b below idle in
    let kept : (x : ℕ) → allocated p x ≡ true → allocated (with_flags p (set p.flags b 0)) x ≡ true = λ x a.
    allocated_other p b 0 x (λ q. absurd_test a (subst (λ (n : ℕ). allocated p n ≡ false) (sym q) (waiting_unallocated p b w))) ∙ a in
    record {
      shaped = shaped_with s.shaped (length-set p.flags b 0) refl refl refl refl refl
          (filled_length b (zeros p.info.bytes) s.shaped below (length-replicate p.info.bytes 0))
          s.shaped.used_high
          s.shaped.time_high;
      is_sound = record {
        flags_low = λ x l. get_d_set_either (λ (f : ℕ). f ≤ 8) p.flags b 0 x (omega arith) (s.is_sound.flags_low x l);
        roots_allocated = λ x l.
            get_d_set_cases (λ (x f : ℕ). x < p.info.roots → allocated_flag f ≡ true) p.flags b 0 x in_flags
            (λ r. absurd_test (s.is_sound.roots_allocated b below r) idle)
            (λ other. s.is_sound.roots_allocated x l);
        unallocated = λ x l.
            get_d_set_cases (λ (x f : ℕ). allocated_flag f ≡ false → Empty d x) p.flags b 0 x in_flags
            (λ e. record {
              free_or_waiting = ap (λ (f : ℕ). free_flag f || waiting_flag f) (get_or-set_same p.flags b 0 0 in_flags);
              keys_zero = λ m. key_zero_from refl refl (empty.keys_zero m);
              count_zero = empty.count_zero;
              window_zero = empty.window_zero;
            })
            (λ other e. empty_from (get_or-set_other p.flags b x 0 0 other) (λ m. refl) (λ m. refl) refl (λ m. refl) (s.is_sound.unallocated x l e));
        absent_key = λ m x l.
            get_d_set_cases (λ (x f : ℕ). key_flag m f ≡ false → KeyZero d m x) p.flags b 0 x in_flags
            (λ e. key_zero_from refl refl (empty.keys_zero m))
            (λ other e. key_zero_from refl refl (s.is_sound.absent_key m x l e));
        ascends = s.is_sound.ascends;
        rest_zero = s.is_sound.rest_zero;
        times_right = s.is_sound.times_right;
        rest_times_zero = s.is_sound.rest_times_zero;
        pointers_right =
            all_map (λ w. pointer_right p w) (λ w. pointer_right (with_flags p (set p.flags b 0)) w)
            (λ w e. right_kept p (set p.flags b 0) w e (kept (source w)) (kept (destination w)))
            (in_use p)
            s.is_sound.pointers_right;
        counts = s.is_sound.counts;
        pointed = λ x l.
            get_d_set_cases (λ (x f : ℕ). p.info.roots ≤ x → allocated_flag f ≡ true → 1 ≤ count p x) p.flags b 0 x in_flags
            (λ r e. absurd_test {t = allocated_flag 0} e refl)
            (λ other. s.is_sound.pointed x l);
        windows_low = s.is_sound.windows_low;
        total_low = s.is_sound.total_low;
      };
    }
