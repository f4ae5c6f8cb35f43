-- A key looked for among those given, one after the other.
use Prim.Native.Nat.{ℕ, zero, suc, ◌+◌, ◌*◌, ◌/◌, ◌≤◌, ◌<◌}
use mathlib.Core.Path.{◌≡◌, refl, sym, ap, ap₂, ◌∙◌, subst}
use mathlib.Core.Bool.{Bool, true, false, ◌&&◌, ◌||◌, not, cond}
use mathlib.Core.List.{List, [], ◌∷◌}
use native.Mathlib.Omega.{arith}
use lib.Dec.{eqb, ltb}
use lib.ListN.{length, drop, get_or, length-drop}
use borrow.Author.Tests.{not-true, not-false, lt-ltb}
use mir.Val.{bool_byte}
use Rattle.laws.specs.ListsLaws.{or_left}
use Rattle.card.specs.Card.{Card, allocated_flag, key_flag, allocated, has_key, window_open, key_high, key_low}
use Rattle.card.specs.Reach.{key_presented, sealed}
use Rattle.card.specs.declared.Mode.{Mode}
use Rattle.card.specs.declared.Mode.TheVariants.{Reading, Writing}
use Rattle.reach.specs.Within.{StandingOf}
use Rattle.report.specs.Report.{given, root_unsealed, some_key, some_window, within_by_itself}

module _ (high low : ℕ) where
  given_at : (words : List ℕ) (at : ℕ) → at + 1 < length words
      → given (drop at words) high low ≡ ((eqb high (get_or words at 0) && eqb low (get_or words (suc at) 0)) || given (drop (suc (suc at)) words) high low)
  unfolding given
  given_at [] at l = absurd (omega arith)
  given_at (x ∷ []) at l = absurd (omega arith)
  given_at (x ∷ (y ∷ xs)) zero l = refl
  given_at (x ∷ (y ∷ xs)) (suc at) l = given_at (y ∷ xs) at (omega arith)

  given_short : (words : List ℕ) → length words ≤ 1 → given words high low ≡ false
  unfolding given
  given_short [] l = refl
  given_short (x ∷ []) l = refl
  given_short (x ∷ (y ∷ xs)) l = absurd (omega arith)

  -- The keys before this one are others.
  pub record Passed (words : List ℕ) (key : ℕ) : Type 0 where
    pub most : key ≤ length words / 2
    pub same : given (drop (2 * key) words) high low ≡ given words high low

  pub passed_none : (words : List ℕ) → Passed words 0
  passed_none words = record { most = omega arith; same = refl }

  module _ {words : List ℕ} {key : ℕ} (h : Passed words key) where
    -- The key with this number has the words.
    abbrev pub is_this : Bool
    is_this = eqb high (get_or words (2 * key) 0) && eqb low (get_or words (2 * key + 1) 0)

    here : key < length words / 2 → given words high low ≡ (is_this || given (drop (2 * (key + 1)) words) high low)
    here l =
        let second : suc (2 * key) ≡ 2 * key + 1 = omega arith in
        let next : suc (suc (2 * key)) ≡ 2 * (key + 1) = omega arith in
        sym h.same
        ∙ given_at words (2 * key) (omega arith)
        ∙ ap₂ (λ (m n : ℕ). (eqb high (get_or words (2 * key) 0) && eqb low (get_or words m 0)) || given (drop n words) high low) second next

    pub passed_found : key < length words / 2 → is_this ≡ true → true ≡ given words high low
    passed_found l e = sym (here l ∙ or_left is_this _ e)

    pub passed_more : key < length words / 2 → is_this ≡ false → Passed words (key + 1)
    passed_more l e = record { most = omega arith; same = sym (here l ∙ rw e) }

    pub passed_whole : length words / 2 ≤ key → false ≡ given words high low
    passed_whole l = sym (sym h.same ∙ given_short (drop (2 * key) words) (rw (length-drop (2 * key) words) (omega (arith, h.most))))

-- ---- the key of a block

module _ (words keys : List ℕ) (flag b : ℕ) where
  -- Whether the block's key for the mode is there and given, on each card with these keys and this flags byte.
  abbrev Answers : Mode → Bool → Type 0
  Answers mode r = (c : Card) → c.keys ≡ keys → get_or c.public.flags b 0 ≡ flag → r ≡ key_presented (given words) c mode b

  pub key_absent : (mode : Mode) {t : Bool} → t ≡ key_flag mode flag → not t ≡ true → Answers mode false
  unfolding key_presented has_key
  key_absent mode {t} h e c k f = rw (f, ← h, not-true t e)

  key_there : (mode : Mode) {t r : Bool} → t ≡ key_flag mode flag → not t ≡ false → r ≡ given words (key_high keys mode b) (key_low keys mode b) → Answers mode r
  unfolding key_presented has_key
  key_there mode {t} h e g c k f = rw (f, ← h, not-false t e, k) g

  pub read_key : {mode : Mode} {t r : Bool} → mode ≡ Reading → t ≡ key_flag mode flag → not t ≡ false → r ≡ given words (get_or keys (4 * b) 0) (get_or keys (4 * b + 1) 0)
      → Answers mode r
  read_key {r = r} m h e g = subst (λ (x : Mode). Answers x r) (sym m) (key_there Reading (h ∙ ap (λ (x : Mode). key_flag x flag) m) e g)

  pub write_key : {mode : Mode} {t r : Bool} → mode ≡ Writing → t ≡ key_flag mode flag → not t ≡ false → r ≡ given words (get_or keys (4 * b + 2) 0) (get_or keys (4 * b + 3) 0)
      → Answers mode r
  write_key {r = r} m h e g =
      let second : 4 * b + 3 ≡ 4 * b + 2 + 1 = omega arith in
      subst (λ (x : Mode). Answers x r) (sym m)
      (key_there Writing (h ∙ ap (λ (x : Mode). key_flag x flag) m) e (g ∙ ap (λ (at : ℕ). given words (get_or keys (4 * b + 2) 0) (get_or keys at 0)) second))

-- ---- a block by itself

-- What is computed of a block is what the rules say of it.
pub looked_at : (words : List ℕ) (c : Card) (b : ℕ) → b < c.public.info.blocks
    → {read write hasRead hasWrite openRead openWrite held : Bool}
    → read ≡ key_presented (given words) c Reading b
    → write ≡ key_presented (given words) c Writing b
    → hasRead ≡ has_key c.public Reading b → hasWrite ≡ has_key c.public Writing b
    → openRead ≡ window_open c.public Reading b → openWrite ≡ window_open c.public Writing b
    → held ≡ allocated_flag (get_or c.public.flags b 0)
    → StandingOf words c b (record {
      shut = bool_byte ((hasRead && hasWrite) && (not read && not write));
      within = held && ((ltb b c.public.info.roots && not ((hasRead && hasWrite) && (not read && not write))) || ((read || write) || (openRead || openWrite)));
    })
unfolding sealed within_by_itself allocated root_unsealed some_key some_window
looked_at words c b l r w hr hw or' ow a = record {
  is_shut = rw (r, w, hr, hw) (byte (sealed (given words) c b));
  is_within = rw (r, w, hr, hw, or', ow, a, lt-ltb b c.public.info.blocks l);
}
  where
    byte : (t : Bool) → bool_byte t ≡ cond t 1 0
    byte true = refl
    byte false = refl
