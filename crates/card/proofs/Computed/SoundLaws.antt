-- The two ways between the tests of shape and soundness and the statements of SoundCard.
use Prim.Native.Nat.{ℕ, ◌<◌, ◌≤◌}
use mathlib.Core.Bool.{Bool, true, false, ◌&&◌, ◌||◌, not}
use mathlib.Core.List.{[], ◌∷◌}
use mathlib.Core.Path.{◌≡◌, refl, ap}
use lib.Dec.{eqb}
use borrow.Author.Tests.{eqb-true, eq-eqb, lt-ltb, ltb-true, le-leb, leb-true, ltb-false, not-false, le-ltb}
use Rattle.card.specs.Card.{Public, Card, allocated_flag, key_flag, waiting_flag, free_flag, flag, allocated, is_root, window_end, count, key_high}
use Rattle.card.specs.Soundness.{range_clauses, ranges, length_clauses, lengths, shape_clauses, shape, flags_low, root_allocated, key_zero, unallocated_empty, absent_key_zero, count_right, pointed_to, window_in_time, total_in_time, sound_clauses, sound}
use Rattle.card.specs.SoundCard.{InRanges, HasLengths, Shaped, KeyZero, Empty, Consistent, SoundCard}
use Rattle.card.specs.declared.Mode.{Mode}
use Rattle.card.specs.declared.Mode.TheVariants.{Reading, Writing}
use Rattle.card.proofs.Computed.TestLaws.{and_left, and_right, and_true, or_false, or_else, every_true, true_every, all_below_true, true_all_below, or_false_left, or_false_right}

abbrev pub is_sound : Card → Bool
is_sound c = shape c && sound c

-- A decided choice: where a test fails, one thing holds; so the two joined hold.
or_from : (a b : Bool) → (a ≡ false → b ≡ true) → a || b ≡ true
or_from true b f = refl
or_from false b f = f refl

-- ---- shape

pub ranges_true : (blocks roots bytes : ℕ) → ranges blocks roots bytes ≡ true → InRanges blocks roots bytes
unfolding ranges
ranges_true blocks roots bytes e =
    let h = every_true (range_clauses blocks roots bytes) e in
    record {
      blocks_low = leb-true _ _ h.0;
      blocks_high = leb-true _ _ h.1.0;
      roots_low = leb-true _ _ h.1.1.0;
      roots_high = leb-true _ _ h.1.1.1.0;
      bytes_low = leb-true _ _ h.1.1.1.1.0;
      bytes_high = leb-true _ _ h.1.1.1.1.1.0;
      bytes_divide = eqb-true _ _ h.1.1.1.1.1.1.0;
    }

pub true_ranges : {blocks roots bytes : ℕ} → InRanges blocks roots bytes → ranges blocks roots bytes ≡ true
unfolding ranges
true_ranges h =
    true_every _ (
      le-leb _ _ h.blocks_low,
      (
        le-leb _ _ h.blocks_high,
        (
          le-leb _ _ h.roots_low,
          (
            le-leb _ _ h.roots_high,
            (
              le-leb _ _ h.bytes_low,
              (
                le-leb _ _ h.bytes_high,
                (
                  eq-eqb _ _ h.bytes_divide,
                  tt,
                ),
              ),
            ),
          ),
        ),
      ),
    )

pub lengths_true : (blocks bytes : ℕ) (c : Card) → lengths blocks bytes c ≡ true → HasLengths blocks bytes c
unfolding lengths
lengths_true blocks bytes c e =
    let h = every_true (length_clauses blocks bytes c) e in
    record {
      flags = eqb-true _ _ h.0;
      keys = eqb-true _ _ h.1.0;
      counts = eqb-true _ _ h.1.1.0;
      places_low = leb-true _ _ h.1.1.1.0;
      places_high = leb-true _ _ h.1.1.1.1.0;
      multiplicities = eqb-true _ _ h.1.1.1.1.1.0;
      windows = eqb-true _ _ h.1.1.1.1.1.1.0;
      contents = eqb-true _ _ h.1.1.1.1.1.1.1.0;
    }

pub true_lengths : {blocks bytes : ℕ} {c : Card} → HasLengths blocks bytes c → lengths blocks bytes c ≡ true
unfolding lengths
true_lengths h =
    true_every _ (
      eq-eqb _ _ h.flags,
      (
        eq-eqb _ _ h.keys,
        (
          eq-eqb _ _ h.counts,
          (
            le-leb _ _ h.places_low,
            (
              le-leb _ _ h.places_high,
              (
                eq-eqb _ _ h.multiplicities,
                (
                  eq-eqb _ _ h.windows,
                  (
                    eq-eqb _ _ h.contents,
                    tt,
                  ),
                ),
              ),
            ),
          ),
        ),
      ),
    )

pub shape_true : (c : Card) → shape c ≡ true → Shaped c
unfolding shape
shape_true c e =
    let h = every_true (shape_clauses c) e in
    record {
      in_ranges = ranges_true _ _ _ h.0;
      time_high = ltb-true _ _ h.1.0;
      has_lengths = lengths_true _ _ c h.1.1.0;
      used_high = leb-true _ _ h.1.1.1.0;
    }

pub true_shape : {c : Card} → Shaped c → shape c ≡ true
unfolding shape
true_shape h =
    true_every _ (
      true_ranges h.in_ranges,
      (
        lt-ltb _ _ h.time_high,
        (
          true_lengths h.has_lengths,
          (
            le-leb _ _ h.used_high,
            tt,
          ),
        ),
      ),
    )

-- ---- soundness

pub key_zero_true : (c : Card) (b : ℕ) (mode : Mode) → key_zero c b mode ≡ true → KeyZero c mode b
unfolding key_zero
key_zero_true c b mode e = record { high = eqb-true _ _ (and_left _ _ e); low = eqb-true _ _ (and_right (eqb (key_high c.keys mode b) 0) _ e) }

pub true_key_zero : {c : Card} {mode : Mode} {b : ℕ} → KeyZero c mode b → key_zero c b mode ≡ true
unfolding key_zero
true_key_zero h = and_true _ _ (eq-eqb _ _ h.high) (eq-eqb _ _ h.low)

pub unallocated_empty_true : (c : Card) (b : ℕ) → unallocated_empty c b ≡ true → allocated_flag (flag c.public b) ≡ false → Empty c b
unfolding unallocated_empty
unallocated_empty_true c b e f =
    let p = c.public in
    let h = every_true ((free_flag (flag p b) || waiting_flag (flag p b)) ∷ key_zero c b Reading ∷ key_zero c b Writing ∷ eqb (count p b) 0 ∷ eqb (window_end p Reading b) 0 ∷ eqb (window_end p Writing b) 0 ∷ []) (or_else _ _ e f) in
    record {
      free_or_waiting = h.0;
      keys_zero = elim [ Reading ↦ key_zero_true c b Reading h.1.0 | Writing ↦ key_zero_true c b Writing h.1.1.0 ];
      count_zero = eqb-true _ _ h.1.1.1.0;
      window_zero = elim [ Reading ↦ eqb-true _ _ h.1.1.1.1.0 | Writing ↦ eqb-true _ _ h.1.1.1.1.1.0 ];
    }

pub true_unallocated_empty : (c : Card) (b : ℕ) → (allocated_flag (flag c.public b) ≡ false → Empty c b) → unallocated_empty c b ≡ true
unfolding unallocated_empty
true_unallocated_empty c b f =
    or_from (allocated_flag (flag c.public b)) _
    (λ e.
    true_every _ (
      (f e).free_or_waiting,
      (
        true_key_zero ((f e).keys_zero Reading),
        (
          true_key_zero ((f e).keys_zero Writing),
          (
            eq-eqb _ _ (f e).count_zero,
            (
              eq-eqb _ _ ((f e).window_zero Reading),
              (
                eq-eqb _ _ ((f e).window_zero Writing),
                tt,
              ),
            ),
          ),
        ),
      ),
    ))

-- At each block below N, by the clause at that block.
pub root_allocated_true : (c : Card) (b : ℕ) → root_allocated c b ≡ true → b < c.public.info.roots → allocated_flag (flag c.public b) ≡ true
unfolding root_allocated
root_allocated_true c b e l = or_else _ _ e (ap not (lt-ltb _ _ l))

pub true_root_allocated : (c : Card) (b : ℕ) → (b < c.public.info.roots → allocated_flag (flag c.public b) ≡ true) → root_allocated c b ≡ true
unfolding root_allocated
true_root_allocated c b f = or_from (not (is_root c.public b)) _ (λ e. f (ltb-true _ _ (not-false _ e)))

pub absent_key_zero_true : (c : Card) (b : ℕ) (mode : Mode) → absent_key_zero c b mode ≡ true → key_flag mode (flag c.public b) ≡ false → KeyZero c mode b
unfolding absent_key_zero
absent_key_zero_true c b mode e f = key_zero_true c b mode (or_else _ _ e f)

pub true_absent_key_zero : (c : Card) (b : ℕ) (mode : Mode) → (key_flag mode (flag c.public b) ≡ false → KeyZero c mode b) → absent_key_zero c b mode ≡ true
unfolding absent_key_zero
true_absent_key_zero c b mode f = or_from (key_flag mode (flag c.public b)) _ (λ e. true_key_zero (f e))

pub pointed_to_true : (c : Card) (b : ℕ) → pointed_to c b ≡ true → c.public.info.roots ≤ b → allocated_flag (flag c.public b) ≡ true → 1 ≤ count c.public b
unfolding pointed_to
pointed_to_true c b e l a =
    leb-true _ _
    (or_else (is_root c.public b || not (allocated_flag (flag c.public b))) _ e (or_false _ _ (le-ltb _ _ l) (ap not a)))

pub true_pointed_to : (c : Card) (b : ℕ) → (c.public.info.roots ≤ b → allocated_flag (flag c.public b) ≡ true → 1 ≤ count c.public b) → pointed_to c b ≡ true
unfolding pointed_to
true_pointed_to c b f =
    or_from (is_root c.public b || not (allocated_flag (flag c.public b))) _
    (λ e.
    le-leb _ _
    (f (ltb-false _ _ (or_false_left _ _ e))
    (not-false _ (or_false_right (is_root c.public b) _ e))))

pub sound_true : (c : Card) → sound c ≡ true → Consistent c
unfolding sound flags_low count_right window_in_time total_in_time
sound_true c e =
    let h = every_true (sound_clauses c) e in
    let blocks = c.public.info.blocks in
    record {
      flags_low = λ b l. leb-true _ _ (all_below_true (λ b. flags_low c b) blocks h.0 b l);
      roots_allocated = λ b l. root_allocated_true c b (all_below_true (λ b. root_allocated c b) blocks h.1.0 b l);
      unallocated = λ b l. unallocated_empty_true c b (all_below_true (λ b. unallocated_empty c b) blocks h.1.1.0 b l);
      absent_key = elim [
        | Reading ↦ λ b l. absent_key_zero_true c b Reading (all_below_true (λ b. absent_key_zero c b Reading) blocks h.1.1.1.0 b l)
        | Writing ↦ λ b l. absent_key_zero_true c b Writing (all_below_true (λ b. absent_key_zero c b Writing) blocks h.1.1.1.1.0 b l)
      ];
      ascends = h.1.1.1.1.1.0;
      rest_zero = h.1.1.1.1.1.1.0;
      times_right = h.1.1.1.1.1.1.1.0;
      rest_times_zero = h.1.1.1.1.1.1.1.1.0;
      pointers_right = h.1.1.1.1.1.1.1.1.1.0;
      counts = λ b l. eqb-true _ _ (all_below_true (λ b. count_right c b) blocks h.1.1.1.1.1.1.1.1.1.1.0 b l);
      pointed = λ b l. pointed_to_true c b (all_below_true (λ b. pointed_to c b) blocks h.1.1.1.1.1.1.1.1.1.1.1.0 b l);
      windows_low = elim [
        | Reading ↦ λ b l. leb-true _ _ (all_below_true (λ b. window_in_time c b Reading) blocks h.1.1.1.1.1.1.1.1.1.1.1.1.0 b l)
        | Writing ↦ λ b l. leb-true _ _ (all_below_true (λ b. window_in_time c b Writing) blocks h.1.1.1.1.1.1.1.1.1.1.1.1.1.0 b l)
      ];
      total_low = leb-true _ _ h.1.1.1.1.1.1.1.1.1.1.1.1.1.1.0;
    }

pub true_sound : {c : Card} → Consistent c → sound c ≡ true
unfolding sound flags_low count_right window_in_time total_in_time
true_sound {c} h =
    let blocks = c.public.info.blocks in
    true_every (sound_clauses c) (
      true_all_below _ blocks (λ b l. le-leb _ _ (h.flags_low b l)),
      (
        true_all_below _ blocks (λ b l. true_root_allocated c b (h.roots_allocated b l)),
        (
          true_all_below _ blocks (λ b l. true_unallocated_empty c b (h.unallocated b l)),
          (
            true_all_below _ blocks (λ b l. true_absent_key_zero c b Reading (h.absent_key Reading b l)),
            (
              true_all_below _ blocks (λ b l. true_absent_key_zero c b Writing (h.absent_key Writing b l)),
              (
                h.ascends,
                (
                  h.rest_zero,
                  (
                    h.times_right,
                    (
                      h.rest_times_zero,
                      (
                        h.pointers_right,
                        (
                          true_all_below _ blocks (λ b l. eq-eqb _ _ (h.counts b l)),
                          (
                            true_all_below _ blocks (λ b l. true_pointed_to c b (h.pointed b l)),
                            (
                              true_all_below _ blocks (λ b l. le-leb _ _ (h.windows_low Reading b l)),
                              (
                                true_all_below _ blocks (λ b l. le-leb _ _ (h.windows_low Writing b l)),
                                (le-leb _ _ h.total_low, tt),
                              ),
                            ),
                          ),
                        ),
                      ),
                    ),
                  ),
                ),
              ),
            ),
          ),
        ),
      ),
    )

-- An allocated block is below N.
pub allocated_below : (p : Public) (b : ℕ) → allocated p b ≡ true → b < p.info.blocks
unfolding allocated
allocated_below p b e = ltb-true _ _ (and_left _ _ e)

pub is_sound_true : {c : Card} → is_sound c ≡ true → SoundCard c
is_sound_true {c} h = record { shaped = shape_true c (and_left _ _ h); is_sound = sound_true c (and_right (shape c) _ h) }

pub true_is_sound : {c : Card} → SoundCard c → is_sound c ≡ true
true_is_sound s = and_true _ _ (true_shape s.shaped) (true_sound s.is_sound)
