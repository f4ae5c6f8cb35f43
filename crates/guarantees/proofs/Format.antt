-- FORMAT on tables of the right lengths leaves a sound card, the roots' contents zeros and all other contents as they were.
use Prim.Native.Nat.{ℕ, zero, suc, ◌+◌, ◌-◌, ◌*◌, ◌≤◌, ◌<◌}
use mathlib.Core.Path.{◌≡◌, refl, sym, ap, ◌∙◌, subst}
use mathlib.Core.Logic.{⊎_elim}
use mathlib.Core.Bool.{Bool, true, ◌&&◌, ◌||◌}
use mathlib.Core.List.{List, ◌++◌}
use native.Mathlib.Nat.{mul-le-mul_right}
use native.Mathlib.Omega.{arith}
use lib.Dec.{eqb}
use lib.ListN.{length, drop, get_or, replicate, length-append, length-replicate, get_or-replicate, get_or-append}
use lib.Seq.{get_or-append-add, get_or-take, get_or-drop, ext_get_or}
use Rattle.card.specs.Lists.{all}
use Rattle.laws.specs.ListsLaws.{and_left, and_right, absurd_test, below_or_not}
use Rattle.card.specs.Pointers.{ascending, total}
use Rattle.card.specs.Contents.{overwrite, part, zeros}
use Rattle.laws.specs.ContentsLaws.{block_fits, overwrite_length, overwrite_within, overwrite_behind, part_length, part_same}
use Rattle.card.specs.Card.{Card, allocated_flag, waiting_flag, free_flag, block}
use Rattle.card.specs.Soundness.{ranges, lengths}
use Rattle.card.specs.SoundCard.{InRanges, HasLengths, Shaped, KeyZero, Consistent, SoundCard}
use Rattle.laws.specs.SoundnessLaws.{ranges_true, lengths_true}
use Rattle.card.specs.Calls.{fresh_card, format_result, format}
use Rattle.card.specs.declared.Mode.{Mode}
use Rattle.card.specs.Statements.Sound.{FormatSound}
use Rattle.card.specs.Statements.Unallocated.{FormatUntouched, Formatted}

-- ---- lists of one number

-- The length, at numbers: a numeral alone does not say its type.
repeated : (n a : ℕ) → length (replicate n a) ≡ n
repeated n a = length-replicate n a

-- Beyond its end a list reads as 0 too.
zeros_at : (n i : ℕ) → get_or (zeros n) i 0 ≡ 0
zeros_at zero i = refl
zeros_at (suc n) zero = refl
zeros_at (suc n) (suc i) = zeros_at n i

zeros_all : (n : ℕ) → all (λ w. eqb w 0) (zeros n) ≡ true
unfolding all
zeros_all zero = refl
zeros_all (suc n) = zeros_all n

-- ---- a fresh card's flags

module _ (blocks roots : ℕ) where
  abbrev fresh_flags : List ℕ
  fresh_flags = replicate roots 1 ++ zeros (blocks - roots)

  fresh_flags_root : (b : ℕ) → b < roots → get_or fresh_flags b 0 ≡ 1
  fresh_flags_root b l =
      get_or-append (replicate roots 1) (zeros (blocks - roots)) 0 b (subst (λ (n : ℕ). b < n) (sym (repeated roots 1)) l)
      ∙ get_or-replicate roots b 1 0 l

  fresh_flags_other : (b : ℕ) → roots ≤ b → get_or fresh_flags b 0 ≡ 0
  fresh_flags_other b l =
      let e : length {A = ℕ} (replicate roots 1) + (b - roots) ≡ b = omega (arith, repeated roots 1) in
      ap (λ (n : ℕ). get_or fresh_flags n 0) (sym e)
      ∙ get_or-append-add (replicate roots 1) (zeros (blocks - roots)) (b - roots) 0
      ∙ zeros_at (blocks - roots) (b - roots)

  fresh_flags_length : roots ≤ blocks → length fresh_flags ≡ blocks
  fresh_flags_length h = omega (arith, length-append (replicate roots 1) (zeros (blocks - roots)), repeated roots 1, repeated (blocks - roots) 0)

  -- What holds of 1 at each root, and of 0 at each other block, holds of each block's flags.
  fresh_flags_either : (P : ℕ → Type 0) (b : ℕ) → (b < roots → P 1) → (roots ≤ b → P 0) → P (get_or fresh_flags b 0)
  fresh_flags_either P b f g =
      ⊎_elim
      (λ (l : b < roots). subst P (sym (fresh_flags_root b l)) (f l))
      (λ (l : roots ≤ b). subst P (sym (fresh_flags_other b l)) (g l))
      (below_or_not b roots)

-- ---- the card that FORMAT leaves

module _ (blocks roots bytes : ℕ) (c : Card) (in_ranges : InRanges blocks roots bytes) (has_lengths : HasLengths blocks bytes c) where
  roots_fit : 0 + length (zeros (roots * bytes)) ≤ length c.contents
  roots_fit =
      let fewer : roots ≤ blocks = omega (arith, in_ranges.roots_high, in_ranges.blocks_low) in
      omega (arith, repeated (roots * bytes) 0, mul-le-mul_right bytes fewer, has_lengths.contents)

  -- Each byte of the roots' parts.
  zero_within : (i : ℕ) → i < roots * bytes → get_or (overwrite c.contents 0 (zeros (roots * bytes))) i 0 ≡ 0
  zero_within i h =
      let e : 0 + i ≡ i = omega arith in
      ap (λ (n : ℕ). get_or (overwrite c.contents 0 (zeros (roots * bytes))) n 0) (sym e)
      ∙ overwrite_within c.contents 0 (zeros (roots * bytes)) roots_fit i (subst (λ (n : ℕ). i < n) (sym (repeated (roots * bytes) 0)) h)
      ∙ zeros_at (roots * bytes) i

  fresh_shaped : Shaped (fresh_card blocks roots bytes c)
  fresh_shaped = record {
    in_ranges = in_ranges;
    time_high = omega arith;
    has_lengths = record {
      flags = fresh_flags_length blocks roots (omega (arith, in_ranges.roots_high, in_ranges.blocks_low));
      keys = repeated (4 * blocks) 0;
      counts = repeated blocks 0;
      places_low = subst (λ (n : ℕ). 1 ≤ n) (sym (repeated (length c.public.pointers) 0)) has_lengths.places_low;
      places_high = subst (λ (n : ℕ). n ≤ 16384) (sym (repeated (length c.public.pointers) 0)) has_lengths.places_high;
      multiplicities = repeated (length c.public.multiplicities) 0 ∙ has_lengths.multiplicities ∙ sym (repeated (length c.public.pointers) 0);
      windows = repeated (2 * blocks) 0;
      contents = overwrite_length c.contents 0 (zeros (roots * bytes)) roots_fit ∙ has_lengths.contents;
    };
    used_high = omega arith;
  }

  no_keys : (m : Mode) (b : ℕ) → KeyZero (fresh_card blocks roots bytes c) m b
  no_keys m b = record { high = zeros_at (4 * blocks) _; low = zeros_at (4 * blocks) _ }

  fresh_sound : Consistent (fresh_card blocks roots bytes c)
  unfolding ascending all total
  fresh_sound = record {
    flags_low = λ b l. fresh_flags_either blocks roots (λ (f : ℕ). f ≤ 8) b (λ r. omega arith) (λ r. omega arith);
    roots_allocated = λ b l r. ap allocated_flag (fresh_flags_root blocks roots b r);
    unallocated = λ b l e. record {
      free_or_waiting =
          ⊎_elim
          (λ (r : b < roots). absurd_test (ap allocated_flag (fresh_flags_root blocks roots b r)) e)
          (λ (r : roots ≤ b). ap (λ (f : ℕ). free_flag f || waiting_flag f) (fresh_flags_other blocks roots b r))
          (below_or_not b roots);
      keys_zero = λ m. no_keys m b;
      count_zero = zeros_at blocks b;
      window_zero = λ m. zeros_at (2 * blocks) _;
    };
    absent_key = λ m b l e. no_keys m b;
    ascends = refl;
    rest_zero = zeros_all (length c.public.pointers);
    times_right = refl;
    rest_times_zero = zeros_all (length c.public.multiplicities);
    pointers_right = refl;
    counts = λ b l. zeros_at blocks b;
    pointed = λ b l r e. absurd_test e (ap allocated_flag (fresh_flags_other blocks roots b r));
    windows_low = λ m b l. subst (λ (n : ℕ). n ≤ 0 + 86400) (sym (zeros_at (2 * blocks) _)) (omega arith);
    total_low = omega arith;
  }

  -- A root's part lies within the zeros.
  root_zeros : (b : ℕ) → b < roots → block (fresh_card blocks roots bytes c) b ≡ zeros bytes
  unfolding part
  root_zeros b l =
      let long : length (part bytes (overwrite c.contents 0 (zeros (roots * bytes))) b) ≡ bytes =
      part_length bytes (overwrite c.contents 0 (zeros (roots * bytes))) b
      (omega (arith, overwrite_length c.contents 0 (zeros (roots * bytes)) roots_fit, roots_fit, repeated (roots * bytes) 0, block_fits bytes l)) in
      ext_get_or 0 (part bytes (overwrite c.contents 0 (zeros (roots * bytes))) b) (zeros bytes) (long ∙ sym (repeated bytes 0))
      (λ i h.
      let inside : i < bytes = omega arith in
      get_or-take bytes (drop (b * bytes) (overwrite c.contents 0 (zeros (roots * bytes)))) i 0 inside
      ∙ get_or-drop (b * bytes) (overwrite c.contents 0 (zeros (roots * bytes))) i 0
      ∙ zero_within (b * bytes + i) (omega (arith, block_fits bytes l))
      ∙ sym (zeros_at bytes i))

  -- A block at or above R lies behind them.
  other_kept : (b : ℕ) → roots ≤ b → block (fresh_card blocks roots bytes c) b ≡ part bytes c.contents b
  other_kept b l =
      part_same bytes (overwrite c.contents 0 (zeros (roots * bytes))) c.contents b
      (overwrite_length c.contents 0 (zeros (roots * bytes)) roots_fit)
      (λ i h u.
      overwrite_behind c.contents 0 (zeros (roots * bytes)) roots_fit i
      (omega (arith, repeated (roots * bytes) 0, mul-le-mul_right bytes l)))

-- ---- FORMAT

-- What FORMAT leaves on tables of the right lengths is the fresh card.
format_done : (P : Card → Type 0) (blocks roots bytes : ℕ) (c : Card) → ranges blocks roots bytes && lengths blocks bytes c ≡ true
    → (InRanges blocks roots bytes → HasLengths blocks bytes c → P (fresh_card blocks roots bytes c))
    → P (format blocks roots bytes c).after
unfolding format format_result
format_done P blocks roots bytes c right f =
    subst P (ap (λ (t : Bool). (format_result t blocks roots bytes c).after) (sym right))
    (f (ranges_true blocks roots bytes (and_left _ _ right)) (lengths_true blocks bytes c (and_right (ranges blocks roots bytes) _ right)))

pub format_sound : FormatSound
format_sound blocks roots bytes c right =
    format_done SoundCard blocks roots bytes c right
    (λ r l. record { shaped = fresh_shaped blocks roots bytes c r l; is_sound = fresh_sound blocks roots bytes c r l })

pub format_untouched : FormatUntouched
format_untouched blocks roots bytes c right b =
    format_done (λ (d : Card). Formatted roots bytes c d b) blocks roots bytes c right
    (λ r l. record { root = root_zeros blocks roots bytes c r l b; other = other_kept blocks roots bytes c r l b })
