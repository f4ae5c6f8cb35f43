-- What the functions that change tables leave, as changes of the card, over plain values.
use Prim.Native.Nat.{ℕ, zero, suc, ◌+◌, ◌-◌, ◌*◌, ◌≤◌, ◌<◌}
use mathlib.Core.Path.{◌≡◌, refl, sym, ap, ◌∙◌}
use mathlib.Core.Bool.{true, false}
use mathlib.Core.List.{List, [], ◌∷◌, ◌++◌}
use native.Mathlib.Omega.{arith}
use borrow.Author.Tests.{eq-eqb, ne_eqb}
use lib.Dec.{eqb}
use lib.ListN.{length, take, drop, get_or, set, replicate, length-take, length-drop}
use Rattle.card.specs.Contents.{zeros}
use Rattle.card.specs.Pointers.{pointer, contains, beside}
use Rattle.card.specs.Card.{card, multiplicity, highest_multiplicity}
use Rattle.card.specs.Plan.{free_block, freed_flags, with_used, clear_keys, change_public, change_keys, change_contents, change}
use Rattle.card.specs.declared.Info.{Info}
use Rattle.tables.specs.Places.{PutAt, TakenAt}
use Rattle.tables.specs.Rank.{rank}
use Rattle.tables.specs.InUse.{Paired, Raisable, Lowerable}
use Rattle.tables.specs.PlaceLaws.{place_within, can_put, can_take_away, times_there, times_set, removed, removed_beside, inserted, inserted_beside}
use Rattle.changes.specs.OnTables.{CanMakePointer, CanTakePointer, made_by, taken_by}

-- ---- CREATE and DELETE

module _ (info : Info) (counts pointers multiplicities : List ℕ) (a b : ℕ) {at : ℕ} (place : at ≡ rank (pointer a b) (take info.used pointers)) where
  pub made_again : CanMakePointer pointers multiplicities info.used (pointer a b) → contains (pointer a b) (take info.used pointers) ≡ true
      → (flags keys windows contents : List ℕ)
      → card info flags keys (set counts b (get_or counts b 0 + 1)) pointers (set multiplicities at (get_or multiplicities at 0 + 1)) windows contents
      ≡ change (card info flags keys counts pointers multiplicities windows contents) (made_by pointers info.used a b)
  unfolding change change_public change_keys change_contents multiplicity
  made_again m there flags keys windows contents =
      rw (there, times_there (pointer a b) m.sorted m.paired place there, times_set (pointer a b) m.sorted m.paired place there _)

  pub made_first : {after : Info} {left beside : List ℕ} → CanMakePointer pointers multiplicities info.used (pointer a b)
      → contains (pointer a b) (take info.used pointers) ≡ false → PutAt info.used at (pointer a b) pointers multiplicities left beside
      → after ≡ with_used info (info.used + 1)
      → (flags keys windows contents : List ℕ)
      → card after flags keys (set counts b (get_or counts b 0 + 1)) left beside windows contents
      ≡ change (card info flags keys counts pointers multiplicities windows contents) (made_by pointers info.used a b)
  unfolding change change_public change_keys change_contents
  made_first m absent put h flags keys windows contents =
      rw (absent, put.of_pointers, put.of_multiplicities, h, inserted (pointer a b) m.sorted m.paired place absent, inserted_beside (pointer a b) m.sorted m.paired place absent 1)

  pub taken_one : CanTakePointer pointers multiplicities info.used (pointer a b) → (get_or multiplicities at 0 ≡ 1 → ⊥)
      → (flags keys windows contents : List ℕ)
      → card info flags keys (set counts b (get_or counts b 0 - 1)) pointers (set multiplicities at (get_or multiplicities at 0 - 1)) windows contents
      ≡ change (card info flags keys counts pointers multiplicities windows contents) (taken_by pointers multiplicities info.used a b)
  unfolding change change_public change_keys change_contents multiplicity
  taken_one t several flags keys windows contents =
      let same = times_there (pointer a b) t.sorted t.paired place t.present in
      let test : eqb (beside (pointer a b) (take info.used pointers) (take info.used multiplicities)) 1 ≡ false = rw (← same) (ne_eqb _ _ several) in
      rw (test, times_set (pointer a b) t.sorted t.paired place t.present _) (rw same)

  pub taken_last : {after : Info} {left beside : List ℕ} → CanTakePointer pointers multiplicities info.used (pointer a b) → get_or multiplicities at 0 ≡ 1
      → TakenAt info.used at pointers multiplicities left beside → after ≡ with_used info (info.used - 1)
      → (flags keys windows contents : List ℕ)
      → card after flags keys (set counts b (get_or counts b 0 - 1)) left beside windows contents
      ≡ change (card info flags keys counts pointers multiplicities windows contents) (taken_by pointers multiplicities info.used a b)
  unfolding change change_public change_keys change_contents multiplicity
  taken_last t one taken h flags keys windows contents =
      let same = sym (times_there (pointer a b) t.sorted t.paired place t.present) ∙ one in
      let test : eqb (beside (pointer a b) (take info.used pointers) (take info.used multiplicities)) 1 ≡ true = eq-eqb _ _ same in
      rw (test, taken.of_pointers, taken.of_multiplicities, h, removed (pointer a b) t.sorted t.paired place t.present, removed_beside (pointer a b) t.sorted t.paired place t.present)
      (rw same)

-- ---- what the functions on tables ask

module _ {pointers multiplicities : List ℕ} {used w at : ℕ} (place : at ≡ rank w (take used pointers)) where
  -- Where the pointer stands, its multiplicity is below the highest.
  pub made_there : CanMakePointer pointers multiplicities used w → contains w (take used pointers) ≡ true
      → (at < length multiplicities) × (get_or multiplicities at 0 < highest_multiplicity)
  made_there m there =
      let inside : at < used = place_within w m.sorted place there in
      let times : get_or multiplicities at 0 ≡ beside w (take used pointers) (take used multiplicities) = times_there w m.sorted m.paired place there in
      (omega (arith, m.sorted.within, m.paired.same), omega (arith, m.low))

  pub made_new : CanMakePointer pointers multiplicities used w → contains w (take used pointers) ≡ false → Raisable pointers used 1 at × Paired pointers multiplicities
  made_new m absent = (can_put w m.sorted m.paired place (m.room absent), m.paired)

  module _ (t : CanTakePointer pointers multiplicities used w) where
    pub taken_there : (at < length multiplicities) × (1 ≤ get_or multiplicities at 0)
    taken_there =
        let inside : at < used = place_within w t.sorted place t.present in
        let times : get_or multiplicities at 0 ≡ beside w (take used pointers) (take used multiplicities) = times_there w t.sorted t.paired place t.present in
        (omega (arith, t.sorted.within, t.paired.same), omega (arith, t.least))

    pub taken_away : Lowerable pointers used at × Paired pointers multiplicities
    taken_away = (can_take_away w t.sorted t.paired place t.present, t.paired)

-- ---- freeing

-- Two words in a row, and four, become 0.
two_cleared : (at : ℕ) (xs : List ℕ) → at + 2 ≤ length xs → take at xs ++ (replicate 2 0 ++ drop 2 (drop at xs)) ≡ set (set xs at 0) (suc at) 0
two_cleared at [] l = absurd (omega arith)
two_cleared zero (x ∷ []) l = absurd (omega arith)
two_cleared zero (x ∷ (y ∷ xs)) l = refl
two_cleared (suc at) (x ∷ xs) l = ap (λ (t : List ℕ). x ∷ t) (two_cleared at xs (omega arith))

four_cleared : (at : ℕ) (xs : List ℕ) → at + 4 ≤ length xs
    → take at xs ++ (replicate 4 0 ++ drop 4 (drop at xs)) ≡ set (set (set (set xs at 0) (suc at) 0) (suc (suc at)) 0) (suc (suc (suc at))) 0
four_cleared at [] l = absurd (omega arith)
four_cleared zero (x ∷ []) l = absurd (omega arith)
four_cleared zero (x ∷ (y ∷ [])) l = absurd (omega arith)
four_cleared zero (x ∷ (y ∷ (z ∷ []))) l = absurd (omega arith)
four_cleared zero (x ∷ (y ∷ (z ∷ (w ∷ xs)))) l = refl
four_cleared (suc at) (x ∷ xs) l = ap (λ (t : List ℕ). x ∷ t) (four_cleared at xs (omega arith))

pub keys_cleared : (b : ℕ) (keys : List ℕ) {words : List ℕ} → 4 * b + 4 ≤ length keys
    → (let at = 4 * b in let size = (at + 4) - at in words ≡ zeros (length (take size (drop at keys))) → take at keys ++ (words ++ drop size (drop at keys)) ≡ clear_keys keys b)
keys_cleared b keys l e =
    let size : (4 * b + 4) - 4 * b ≡ 4 = omega arith in
    let long : length (take 4 (drop (4 * b) keys)) ≡ 4 = simp (length-take, length-drop) (omega arith) in
    let second : 4 * b + 1 ≡ suc (4 * b) = omega arith in
    let third : 4 * b + 2 ≡ suc (suc (4 * b)) = omega arith in
    let fourth : 4 * b + 2 + 1 ≡ suc (suc (suc (4 * b))) = omega arith in
    rw (e, size, long, fourth, third, second) (four_cleared (4 * b) keys l)

pub windows_cleared : (b : ℕ) (windows : List ℕ) {words : List ℕ} → 2 * b + 2 ≤ length windows
    → (let at = 2 * b in let size = (at + 2) - at in words ≡ zeros (length (take size (drop at windows))) → take at windows ++ (words ++ drop size (drop at windows)) ≡ set (set windows (2 * b) 0) (2 * b + 1) 0)
windows_cleared b windows l e =
    let size : (2 * b + 2) - 2 * b ≡ 2 = omega arith in
    let long : length (take 2 (drop (2 * b) windows)) ≡ 2 = simp (length-take, length-drop) (omega arith) in
    let second : 2 * b + 1 ≡ suc (2 * b) = omega arith in
    rw (e, size, long, second) (two_cleared (2 * b) windows l)

pub freed : (flags keys windows : List ℕ) (b : ℕ) {left ends : List ℕ} → left ≡ clear_keys keys b → ends ≡ set (set windows (2 * b) 0) (2 * b + 1) 0
    → (info : Info) (counts pointers multiplicities contents : List ℕ)
    → card info (set flags b freed_flags) left counts pointers multiplicities ends contents
    ≡ change (card info flags keys counts pointers multiplicities windows contents) (free_block b)
unfolding change change_public change_keys change_contents
freed flags keys windows b e f info counts pointers multiplicities contents = rw (e, f)
