-- Laws of what a change leaves in a table: one element set, windows and keys replaced, pointers inserted, removed and kept.
use Rattle.std.specs.Prelude.{ℕ, zero, suc, ◌+◌, ◌-◌, ◌*◌, ◌≤◌, ◌<◌, ◌≡◌, refl, ◌⊎◌, Bool, true, false, List, [], ◌∷◌, ◌++◌, length, take, drop, get_or, set, Option, Some, None, is_some}
use Rattle.std.proofs.Common.{sym, ap, ◌∙◌, subst, inl, inr, ⊎_elim, true≢false, arith, length-set, length-append, length-drop, get_or-set_same, get_or-set_other, take_at, drop_at, drop-drop, length-take-le}
use Rattle.std.proofs.lemmas.List.{length-replicate}
use Rattle.std.proofs.Math.Seq.{take-append_seam}
use Rattle.laws.specs.ListsLaws.{same_or_other}
use Rattle.card.specs.Pointers.{contains, insert, remove, insert_beside, remove_beside, set_beside, keep, keep_beside, not_from}
use Rattle.laws.specs.PointersLaws.{insert_length, remove_length}
use Rattle.laws.specs.BesideLaws.{InStep, in_step, step_length, insert_beside_length, remove_beside_length, set_beside_length}
use Rattle.laws.specs.KeepLaws.{keep_in_step, keep_most}
use Rattle.card.specs.Contents.{zeros}
use Rattle.card.specs.Card.{Public, in_use, allocated_flag, key_flag, window_at, key_at, key_high, key_low}
use Rattle.card.specs.Plan.{drop_from, high_word, low_word, other_mode, key_bit, keyed_flags, change_public, replace_key, clear_keys}
use Rattle.card.specs.declared.Mode.{Mode}
use Rattle.card.specs.declared.Mode.TheVariants.{Reading, Writing}
pub use Rattle.card.proofs.Computed.TestLaws.{other_mode_law}

-- ---- one element set

-- What holds of the new element and held of the old one holds of each element.
pub get_d_set_either : (P : ℕ → Type 0) (xs : List ℕ) (i v j : ℕ) → P v → P (get_or xs j 0) → P (get_or (set xs i v) j 0)
get_d_set_either P [] i v j new old = old
get_d_set_either P (x ∷ xs) zero v zero new old = new
get_d_set_either P (x ∷ xs) zero v (suc j) new old = old
get_d_set_either P (x ∷ xs) (suc i) v zero new old = old
get_d_set_either P (x ∷ xs) (suc i) v (suc j) new old = get_d_set_either P xs i v j new old

-- Where the new element is not below the old one, no element is.
pub get_d_set_raised : (xs : List ℕ) (i v j : ℕ) → get_or xs i 0 ≤ v → get_or xs j 0 ≤ get_or (set xs i v) j 0
get_d_set_raised [] i v j h = omega arith
get_d_set_raised (x ∷ xs) zero v zero h = h
get_d_set_raised (x ∷ xs) zero v (suc j) h = omega arith
get_d_set_raised (x ∷ xs) (suc i) v zero h = omega arith
get_d_set_raised (x ∷ xs) (suc i) v (suc j) h = get_d_set_raised xs i v j h

-- An element that is no longer the old one is the new one, at its place.
pub get_d_set_changed : (xs : List ℕ) (i v j : ℕ) → (get_or (set xs i v) j 0 ≡ get_or xs j 0 → ⊥) → (i ≡ j) × (get_or (set xs i v) j 0 ≡ v)
get_d_set_changed [] i v j changed = absurd (changed refl)
get_d_set_changed (x ∷ xs) zero v zero changed = (refl, refl)
get_d_set_changed (x ∷ xs) zero v (suc j) changed = absurd (changed refl)
get_d_set_changed (x ∷ xs) (suc i) v zero changed = absurd (changed refl)
get_d_set_changed (x ∷ xs) (suc i) v (suc j) changed = let r = get_d_set_changed xs i v j changed in (ap suc r.0, r.1)

-- By cases on the place j: what holds of the new element at its place and, where j is another, of the old element at j.
pub get_d_set_cases : (P : ℕ → ℕ → Type 0) (xs : List ℕ) (i v j : ℕ) → i < length xs → P i v → ((j ≡ i → ⊥) → P j (get_or xs j 0)) → P j (get_or (set xs i v) j 0)
get_d_set_cases P xs i v j l new old =
    ⊎_elim
    (λ (q : j ≡ i). subst (λ (n : ℕ). P n (get_or (set xs i v) n 0)) (sym q) (subst (P i) (sym (get_or-set_same xs i v 0 l)) new))
    (λ (other : j ≡ i → ⊥). subst (P j) (sym (get_or-set_other xs i j v 0 other)) (old other))
    (same_or_other j i)

-- ---- windows

-- Each place of the windows' table belongs to one block, for one mode.
pub window_at_block : (m n : Mode) (a b : ℕ) → window_at m a ≡ window_at n b → a ≡ b
window_at_block Reading Reading a b e = omega arith
window_at_block Reading Writing a b e = absurd (omega arith)
window_at_block Writing Reading a b e = absurd (omega arith)
window_at_block Writing Writing a b e = omega arith

pub window_at_mode : (m n : Mode) (a b : ℕ) → window_at m a ≡ window_at n b → m ≡ n
window_at_mode Reading Reading a b e = refl
window_at_mode Reading Writing a b e = absurd (omega arith)
window_at_mode Writing Reading a b e = absurd (omega arith)
window_at_mode Writing Writing a b e = refl

pub window_at_within : (m : Mode) (b n : ℕ) → 2 * b + 2 ≤ n → window_at m b < n
window_at_within Reading b n h = omega arith
window_at_within Writing b n h = omega arith

-- ---- keys

pub mode_or_other : (m mode : Mode) → (m ≡ mode) ⊎ (m ≡ other_mode mode)
mode_or_other Reading Reading = inl refl
mode_or_other Reading Writing = inr refl
mode_or_other Writing Reading = inr refl
mode_or_other Writing Writing = inl refl

-- The flags of an allocated block, by whether it has a key for the mode, and one for the other.
abbrev key_bits : Mode → Bool → Bool → ℕ
key_bits mode own rest = 1 + key_bit mode own + key_bit (other_mode mode) rest

-- By cases: what holds of a block with both keys, with either one, and with none.
bits_cases : (P : Mode → Bool → Bool → Type 0)
    → P Reading false false → P Reading false true → P Reading true false → P Reading true true
    → P Writing false false → P Writing false true → P Writing true false → P Writing true true
    → (mode : Mode) (own rest : Bool) → P mode own rest
bits_cases P a b c d e f g h Reading false false = a
bits_cases P a b c d e f g h Reading false true = b
bits_cases P a b c d e f g h Reading true false = c
bits_cases P a b c d e f g h Reading true true = d
bits_cases P a b c d e f g h Writing false false = e
bits_cases P a b c d e f g h Writing false true = f
bits_cases P a b c d e f g h Writing true false = g
bits_cases P a b c d e f g h Writing true true = h

module _ (f : ℕ) (mode : Mode) (key : Option (ℕ × ℕ)) where
  pub keyed_low : keyed_flags f mode key < 8
  keyed_low =
      bits_cases (λ (m : Mode) (own rest : Bool). key_bits m own rest < 8)
      (omega arith) (omega arith) (omega arith) (omega arith) (omega arith) (omega arith) (omega arith) (omega arith)
      mode (is_some key) (key_flag (other_mode mode) f)

  pub keyed_allocated : allocated_flag (keyed_flags f mode key) ≡ true
  keyed_allocated =
      bits_cases (λ (m : Mode) (own rest : Bool). allocated_flag (key_bits m own rest) ≡ true) refl refl refl refl refl refl refl refl mode (is_some key)
      (key_flag (other_mode mode) f)

  pub keyed_own : key_flag mode (keyed_flags f mode key) ≡ is_some key
  keyed_own =
      bits_cases (λ (m : Mode) (own rest : Bool). key_flag m (key_bits m own rest) ≡ own) refl refl refl refl refl refl refl refl mode (is_some key)
      (key_flag (other_mode mode) f)

  pub keyed_other : key_flag (other_mode mode) (keyed_flags f mode key) ≡ key_flag (other_mode mode) f
  keyed_other =
      bits_cases (λ (m : Mode) (own rest : Bool). key_flag (other_mode m) (key_bits m own rest) ≡ rest) refl refl refl refl refl refl refl refl mode (is_some key)
      (key_flag (other_mode mode) f)

-- The words of an absent key are 0.
pub absent_high : (key : Option (ℕ × ℕ)) → is_some key ≡ false → high_word key ≡ 0
absent_high None e = refl
absent_high (Some (high, low)) e = absurd (true≢false e)

pub absent_low : (key : Option (ℕ × ℕ)) → is_some key ≡ false → low_word key ≡ 0
absent_low None e = refl
absent_low (Some (high, low)) e = absurd (true≢false e)

-- Each place of the keys' table holds one word of one block's key for one mode.
key_at_block : (m n : Mode) (a b : ℕ) → key_at m a ≡ key_at n b → a ≡ b
key_at_block Reading Reading a b e = omega arith
key_at_block Reading Writing a b e = absurd (omega arith)
key_at_block Writing Reading a b e = absurd (omega arith)
key_at_block Writing Writing a b e = omega arith

key_at_mode : (m n : Mode) (a b : ℕ) → key_at m a ≡ key_at n b → m ≡ n
key_at_mode Reading Reading a b e = refl
key_at_mode Reading Writing a b e = absurd (omega arith)
key_at_mode Writing Reading a b e = absurd (omega arith)
key_at_mode Writing Writing a b e = refl

key_at_word : (m n : Mode) (a b : ℕ) → key_at m a ≡ key_at n b + 1 → ⊥
key_at_word Reading Reading a b e = omega arith
key_at_word Reading Writing a b e = omega arith
key_at_word Writing Reading a b e = omega arith
key_at_word Writing Writing a b e = omega arith

key_at_high : (mode : Mode) (b : ℕ) → key_at mode b + 1 < 4 * b + 4
key_at_high Reading b = omega arith
key_at_high Writing b = omega arith

module _ (keys : List ℕ) (mode : Mode) (b : ℕ) (key : Option (ℕ × ℕ)) where
  abbrev high_set : List ℕ
  high_set = set keys (key_at mode b) (high_word key)

  pub replace_key_length : length (replace_key keys mode b key) ≡ length keys
  replace_key_length = length-set high_set (key_at mode b + 1) (low_word key) ∙ length-set keys (key_at mode b) (high_word key)

  pub replaced_high : 4 * b + 4 ≤ length keys → key_high (replace_key keys mode b key) mode b ≡ high_word key
  replaced_high fits =
      get_or-set_other high_set (key_at mode b + 1) (key_at mode b) (low_word key) 0 (key_at_word mode mode b b)
      ∙ get_or-set_same keys (key_at mode b) (high_word key) 0 (omega (arith, key_at_high mode b))

  pub replaced_low : 4 * b + 4 ≤ length keys → key_low (replace_key keys mode b key) mode b ≡ low_word key
  replaced_low fits =
      get_or-set_same high_set (key_at mode b + 1) (low_word key) 0
      (omega (arith, key_at_high mode b, length-set keys (key_at mode b) (high_word key)))

  -- Any other key, of whatever block.
  module _ (m : Mode) (a : ℕ) (apart : m ≡ mode → a ≡ b → ⊥) where
    other_place : key_at m a ≡ key_at mode b → ⊥
    other_place e = apart (key_at_mode m mode a b e) (key_at_block m mode a b e)

    pub kept_high : key_high (replace_key keys mode b key) m a ≡ key_high keys m a
    kept_high =
        get_or-set_other high_set (key_at mode b + 1) (key_at m a) (low_word key) 0 (key_at_word m mode a b)
        ∙ get_or-set_other keys (key_at mode b) (key_at m a) (high_word key) 0 other_place

    pub kept_low : key_low (replace_key keys mode b key) m a ≡ key_low keys m a
    kept_low =
        get_or-set_other high_set (key_at mode b + 1) (key_at m a + 1) (low_word key) 0 (λ e. other_place (omega arith))
        ∙ get_or-set_other keys (key_at mode b) (key_at m a + 1) (high_word key) 0 (λ e. key_at_word mode m b a (sym e))

module _ (keys : List ℕ) (b : ℕ) where
  abbrev read_cleared : List ℕ
  read_cleared = replace_key keys Reading b None

  pub clear_keys_length : length (clear_keys keys b) ≡ length keys
  clear_keys_length = replace_key_length read_cleared Writing b None ∙ replace_key_length keys Reading b None

  module _ (fits : 4 * b + 4 ≤ length keys) where
    still_fits : 4 * b + 4 ≤ length read_cleared
    still_fits = omega (arith, replace_key_length keys Reading b None)

    pub cleared_high : (m : Mode) → key_high (clear_keys keys b) m b ≡ 0
    cleared_high Reading = kept_high read_cleared Writing b None Reading b (λ e _. other_mode_law Writing e) ∙ replaced_high keys Reading b None fits
    cleared_high Writing = replaced_high read_cleared Writing b None still_fits

    pub cleared_low : (m : Mode) → key_low (clear_keys keys b) m b ≡ 0
    cleared_low Reading = kept_low read_cleared Writing b None Reading b (λ e _. other_mode_law Writing e) ∙ replaced_low keys Reading b None fits
    cleared_low Writing = replaced_low read_cleared Writing b None still_fits

  -- The keys of another block.
  module _ (m : Mode) (a : ℕ) (other : a ≡ b → ⊥) where
    pub uncleared_high : key_high (clear_keys keys b) m a ≡ key_high keys m a
    uncleared_high = kept_high read_cleared Writing b None m a (λ _ e. other e) ∙ kept_high keys Reading b None m a (λ _ e. other e)

    pub uncleared_low : key_low (clear_keys keys b) m a ≡ key_low keys m a
    uncleared_low = kept_low read_cleared Writing b None m a (λ _ e. other e) ∙ kept_low keys Reading b None m a (λ _ e. other e)

-- ---- the pointers' table

module _ (w used : ℕ) (ps : List ℕ) (fit : used ≤ length ps) where
  -- A pointer put into the first `used` places, and as many places behind it as before.
  abbrev inserted : List ℕ
  inserted = insert w (take used ps)

  pub inserted_long : length inserted ≡ used + 1
  inserted_long = omega (arith, insert_length w (take used ps), length-take-le used ps fit)

  pub inserted_take : take (used + 1) (inserted ++ drop (used + 1) ps) ≡ inserted
  inserted_take = take_at inserted (drop (used + 1) ps) (used + 1) inserted_long

  pub inserted_drop : drop (used + 1) (inserted ++ drop (used + 1) ps) ≡ drop 1 (drop used ps)
  inserted_drop = drop_at inserted (drop (used + 1) ps) (used + 1) inserted_long ∙ sym (drop-drop 1 used ps)

  pub inserted_length : used < length ps → length (inserted ++ drop (used + 1) ps) ≡ length ps
  inserted_length room = omega (arith, length-append inserted (drop (used + 1) ps), length-drop (used + 1) ps, inserted_long)

module _ (w used : ℕ) (ps : List ℕ) (fit : used ≤ length ps) (there : contains w (take used ps) ≡ true) where
  -- A pointer taken out of the first `used` places, and a 0 behind them.
  abbrev removed : List ℕ
  removed = remove w (take used ps)

  pub removed_long : suc (length removed) ≡ used
  removed_long = remove_length w (take used ps) there ∙ length-take-le used ps fit

  pub removed_take : take (used - 1) (removed ++ (0 ∷ drop used ps)) ≡ removed
  removed_take = take_at removed (0 ∷ drop used ps) (used - 1) (omega (arith, removed_long))

  pub removed_drop : drop (used - 1) (removed ++ (0 ∷ drop used ps)) ≡ 0 ∷ drop used ps
  removed_drop = drop_at removed (0 ∷ drop used ps) (used - 1) (omega (arith, removed_long))

  pub removed_length : length (removed ++ (0 ∷ drop used ps)) ≡ length ps
  removed_length = omega (arith, length-append removed (0 ∷ drop used ps), length-drop used ps, removed_long)

-- ---- the multiplicities' table

module _ (w m used : ℕ) (ps ms : List ℕ) (fit : used ≤ length ps) (same : length ms ≡ length ps) where
  -- The pointers in use and the numbers beside them are in step.
  pub used_in_step : InStep (take used ps) (take used ms)
  used_in_step = in_step (take used ps) (take used ms) (length-take-le used ps fit ∙ sym (length-take-le used ms (omega arith)))

  times_long : length (take used ms) ≡ used
  times_long = length-take-le used ms (omega arith)

  -- A number inserted beside a pointer, and as many places behind it as before.
  abbrev inserted_times : List ℕ
  inserted_times = insert_beside w m (take used ps) (take used ms)

  inserted_times_long : length inserted_times ≡ used + 1
  inserted_times_long = omega (arith, insert_beside_length w m used_in_step, times_long)

  pub inserted_times_take : take (used + 1) (inserted_times ++ drop (used + 1) ms) ≡ inserted_times
  inserted_times_take = take_at inserted_times (drop (used + 1) ms) (used + 1) inserted_times_long

  pub inserted_times_drop : drop (used + 1) (inserted_times ++ drop (used + 1) ms) ≡ drop 1 (drop used ms)
  inserted_times_drop = drop_at inserted_times (drop (used + 1) ms) (used + 1) inserted_times_long ∙ sym (drop-drop 1 used ms)

  pub inserted_times_length : used < length ps → length (inserted_times ++ drop (used + 1) ms) ≡ length ms
  inserted_times_length room = omega (arith, length-append inserted_times (drop (used + 1) ms), length-drop (used + 1) ms, inserted_times_long)

  -- Another number beside a pointer.
  abbrev set_times : List ℕ
  set_times = set_beside w m (take used ps) (take used ms)

  set_times_long : length set_times ≡ used
  set_times_long = set_beside_length w m used_in_step ∙ times_long

  pub set_times_take : take used (set_times ++ drop used ms) ≡ set_times
  set_times_take = take_at set_times (drop used ms) used set_times_long

  pub set_times_drop : drop used (set_times ++ drop used ms) ≡ drop used ms
  set_times_drop = drop_at set_times (drop used ms) used set_times_long

  pub set_times_length : length (set_times ++ drop used ms) ≡ length ms
  set_times_length = omega (arith, length-append set_times (drop used ms), length-drop used ms, set_times_long)

module _ (w used : ℕ) (ps ms : List ℕ) (fit : used ≤ length ps) (same : length ms ≡ length ps) (there : contains w (take used ps) ≡ true) where
  -- The number beside a pointer that goes, and a 0 behind them.
  abbrev removed_times : List ℕ
  removed_times = remove_beside w (take used ps) (take used ms)

  removed_times_long : suc (length removed_times) ≡ used
  removed_times_long = remove_beside_length w (used_in_step w 0 used ps ms fit same) there ∙ times_long w 0 used ps ms fit same

  pub removed_times_take : take (used - 1) (removed_times ++ (0 ∷ drop used ms)) ≡ removed_times
  removed_times_take = take_at removed_times (0 ∷ drop used ms) (used - 1) (omega (arith, removed_times_long))

  pub removed_times_drop : drop (used - 1) (removed_times ++ (0 ∷ drop used ms)) ≡ 0 ∷ drop used ms
  removed_times_drop = drop_at removed_times (0 ∷ drop used ms) (used - 1) (omega (arith, removed_times_long))

  pub removed_times_length : length (removed_times ++ (0 ∷ drop used ms)) ≡ length ms
  removed_times_length = omega (arith, length-append removed_times (0 ∷ drop used ms), length-drop used ms, removed_times_long)

-- ---- the pointers that a test keeps, and the multiplicities beside them

module _ (t : ℕ → Bool) (used : ℕ) (ps ms : List ℕ) (fit : used ≤ length ps) (same : length ms ≡ length ps) where
  -- The numbers beside the pointers that are kept, zeros in place of the others, and the places behind them. Of the pointers themselves, where ms is ps.
  abbrev kept : List ℕ
  kept = keep_beside t (take used ps) (take used ms)

  abbrev left : ℕ
  left = length (keep t (take used ps))

  pub kept_long : length kept ≡ left
  kept_long = sym (step_length (keep_in_step t (used_in_step 0 0 used ps ms fit same)))

  kept_most : left ≤ used
  kept_most = omega (arith, keep_most t (take used ps), length-take-le used ps fit)

  pub kept_take : take left (kept ++ (zeros (used - left) ++ drop used ms)) ≡ kept
  kept_take = take_at kept (zeros (used - left) ++ drop used ms) left kept_long

  pub kept_drop : drop left (kept ++ (zeros (used - left) ++ drop used ms)) ≡ zeros (used - left) ++ drop used ms
  kept_drop = drop_at kept (zeros (used - left) ++ drop used ms) left kept_long

  pub kept_length : length (kept ++ (zeros (used - left) ++ drop used ms)) ≡ length ms
  kept_length =
      omega (
        arith,
        kept_most,
        kept_long,
        length-append kept (zeros (used - left) ++ drop used ms),
        length-append (zeros (used - left)) (drop used ms),
        length-replicate {A = ℕ} (used - left) 0,
        length-drop used ms,
      )

-- The pointers from some blocks go, and the others stay in use.
pub in_use_kept : (p : Public) (bs : List ℕ) → in_use (change_public (drop_from bs) p) ≡ keep (not_from bs) (in_use p)
unfolding change_public
in_use_kept p bs = take-append_seam (keep (not_from bs) (in_use p)) _
