-- What is found of the marked blocks, and what is left once each is freed, block after block.
use Prim.Native.Nat.{ℕ, ◌+◌, ◌≤◌, ◌<◌}
use mathlib.Core.Path.{◌≡◌, refl, sym, ap, ◌∙◌}
use mathlib.Core.Bool.{Bool, true, false, ◌&&◌}
use mathlib.Core.List.{List, [], ◌∷◌, ◌++◌, append-nil}
use native.Mathlib.Nat.{not-suc-le-zero}
use native.Mathlib.Numerals.{add-one}
use native.Mathlib.Omega.{arith}
use lib.Dec.{eqb}
use lib.ListN.{length, get_or, length-set}
use borrow.Author.Count.{below_more}
use borrow.Author.Tests.{eq-eqb, ne_eqb}
use Rattle.card.specs.Lists.{any, numbers_below}
use Rattle.laws.specs.ListsLaws.{and_left, and_right, and_true, absurd_test, false_unless}
use Rattle.laws.specs.LeastLaws.{Some, any_member, member_any}
use Rattle.laws.specs.NearestLaws.{numbers_hold, hold_numbers}
use Rattle.card.specs.Card.{Card, card, key_flag}
use Rattle.card.specs.Plan.{free_block, freed_flags, change_public, change_keys, change, changes}
use Rattle.laws.specs.ChangesLaws.{clear_keys_length}
use Rattle.card.specs.Calls.{fresh_info, free_each}
use Rattle.card.specs.declared.Info.{Info}
use Rattle.card.specs.declared.Mode.TheVariants.{Writing}
use Rattle.walks.specs.Walk.{mark, marked_below}

-- ---- a write key

module _ (marks flags : List ℕ) where
  abbrev has_mark : ℕ → Bool
  has_mark b = eqb (mark marks b) 1

  abbrev has_write_key : ℕ → Bool
  has_write_key b = key_flag Writing (get_or flags b 0)

  -- No marked block below `at` has a write key.
  pub record Keyless (n at : ℕ) : Type 0 where
    pub most : at ≤ n
    pub none : (b : ℕ) → b < at → has_mark b && has_write_key b ≡ false

  pub keyless_none : (n : ℕ) → Keyless n 0
  keyless_none n = record { most = omega arith; none = λ b l. absurd (not-suc-le-zero l) }

  module _ {n at : ℕ} (l : at < n) {t : Bool} (e : t ≡ has_write_key at) where
    pub keyless_more : Keyless n at → has_mark at && t ≡ false → Keyless n (at + 1)
    keyless_more h f = record {
      most = omega arith;
      none = below_more _ _ h.none (ap (λ (u : Bool). has_mark at && u) (sym e) ∙ f);
    }

    pub some_key_law : has_mark at && t ≡ true → true ≡ any has_write_key (marked_below marks n)
    some_key_law h =
        sym
        (any_member has_write_key (marked_below marks n) at
        (hold_numbers has_mark n at l (and_left (has_mark at) _ h))
        (sym e ∙ and_right (has_mark at) _ h))

  pub no_key : {n at : ℕ} → Keyless n at → n ≤ at → false ≡ any has_write_key (marked_below marks n)
  no_key {n} {at} h l =
      sym
      (false_unless _
      (λ e.
      let m : Some has_write_key (marked_below marks n) = member_any has_write_key (marked_below marks n) e in
      let r : (m.which < n) × (has_mark m.which ≡ true) = numbers_hold has_mark n m.which m.within in
      absurd_test (and_true (has_mark m.which) _ r.1 m.passes) (h.none m.which (omega arith))))

-- ---- each is freed

free_one_more : (c : Card) (bs : List ℕ) (b : ℕ) → changes c (free_each (bs ++ (b ∷ []))) ≡ change (changes c (free_each bs)) (free_block b)
unfolding changes free_each
free_one_more c [] b = refl
free_one_more c (x ∷ bs) b = free_one_more (change c (free_block x)) bs b

module _ (marks flags keys windows : List ℕ) where
  -- The marked blocks below `at` are freed.
  pub record Freeing (n : ℕ) (flags' keys' windows' : List ℕ) (at : ℕ) : Type 0 where
    pub most : at ≤ n
    pub same_flags : length flags' ≡ length flags
    pub same_keys : length keys' ≡ length keys
    pub same_windows : length windows' ≡ length windows
    pub is : (info : Info) (counts pointers multiplicities contents : List ℕ)
        → card info flags' keys' counts pointers multiplicities windows' contents
        ≡ changes (card info flags keys counts pointers multiplicities windows contents) (free_each (marked_below marks at))

  pub freeing_none : (n : ℕ) → Freeing n flags keys windows 0
  unfolding changes free_each numbers_below
  freeing_none n = record {
    most = omega arith;
    same_flags = refl;
    same_keys = refl;
    same_windows = refl;
    is = λ info counts pointers multiplicities contents. refl;
  }

  module _ {n : ℕ} {flags' keys' windows' : List ℕ} {at : ℕ} (h : Freeing n flags' keys' windows' at) (l : at < n) where
    pub freeing_pass : (mark marks at ≡ 1 → ⊥) → Freeing n flags' keys' windows' (at + 1)
    unfolding numbers_below
    freeing_pass e =
        let same : marked_below marks (at + 1) ≡ marked_below marks at = rw (add-one at, ne_eqb (mark marks at) 1 e) (append-nil _) in
        record {
          most = omega arith;
          same_flags = h.same_flags;
          same_keys = h.same_keys;
          same_windows = h.same_windows;
          is = λ info counts pointers multiplicities contents. rw same (h.is info counts pointers multiplicities contents);
        }

    module _ {flags'' keys'' windows'' : List ℕ}
        (f : (info : Info) (counts pointers multiplicities contents : List ℕ)
        → card info flags'' keys'' counts pointers multiplicities windows'' contents
        ≡ change (card info flags' keys' counts pointers multiplicities windows' contents) (free_block at)) where
      -- The lengths of the tables are those of any card.
      freed_alone : card (fresh_info 0 0 0) flags'' keys'' [] [] [] windows'' [] ≡ change (card (fresh_info 0 0 0) flags' keys' [] [] [] windows' []) (free_block at)
      freed_alone = f (fresh_info 0 0 0) [] [] [] []

      pub freeing_more : mark marks at ≡ 1 → Freeing n flags'' keys'' windows'' (at + 1)
      unfolding numbers_below change change_public change_keys
      freeing_more e =
          let more : marked_below marks (at + 1) ≡ marked_below marks at ++ (at ∷ []) = rw (add-one at, eq-eqb (mark marks at) 1 e) in
          record {
            most = omega arith;
            same_flags = ap (λ (c : Card). length c.public.flags) freed_alone ∙ length-set flags' at freed_flags ∙ h.same_flags;
            same_keys = ap (λ (c : Card). length c.keys) freed_alone ∙ clear_keys_length keys' at ∙ h.same_keys;
            same_windows = ap (λ (c : Card). length c.public.windows) freed_alone ∙ simp length-set h.same_windows;
            is = λ info counts pointers multiplicities contents.
                f info counts pointers multiplicities contents
                ∙ ap (λ (c : Card). change c (free_block at)) (h.is info counts pointers multiplicities contents)
                ∙ rw more (sym (free_one_more _ (marked_below marks at) at));
          }

  -- Equal tables are as good.
  pub freeing_same : {n : ℕ} {flags' keys' windows' flags'' keys'' windows'' : List ℕ} {at : ℕ} → Freeing n flags' keys' windows' at
      → (flags'' ≡ flags') × ((keys'' ≡ keys') × (windows'' ≡ windows')) → Freeing n flags'' keys'' windows'' at
  freeing_same h e = rw (e.0, e.1.0, e.1.1) h

  pub freeing_whole : {n : ℕ} {flags' keys' windows' : List ℕ} {at : ℕ} → Freeing n flags' keys' windows' at → n ≤ at
      → (info : Info) (counts pointers multiplicities contents : List ℕ)
      → card info flags' keys' counts pointers multiplicities windows' contents
      ≡ changes (card info flags keys counts pointers multiplicities windows contents) (free_each (marked_below marks n))
  freeing_whole {n} {at = at} h l info counts pointers multiplicities contents =
      let e : n ≡ at = omega (arith, h.most) in
      rw e (h.is info counts pointers multiplicities contents)
