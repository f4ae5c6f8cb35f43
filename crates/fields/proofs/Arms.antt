-- What the arms of the functions for credentials and new keys cite: the bytes from a place of a list.
use Rattle.std.specs.Prelude.{Some, None, Ok, Err}
use Prim.Native.Nat.{ℕ, ◌+◌}
use mathlib.Core.Path.{◌≡◌}
use mathlib.Core.Bool.{Bool, true, false}
use mathlib.Core.List.{List}
use native.Mathlib.Nat.{add-zero}
use lib.ListN.{get_or, drop}
use lib.Seq.{get_or-drop, drop-drop}
use borrow.Author.Tests.{ne_eqb}
use Rattle.card.specs.declared.Credential.TheVariants.{Nothing, Reference, Key as KeyCredential}
use Rattle.fields.specs.Bytes.{number, zeroed}
use Rattle.fields.specs.Fields.{bad_record, credential, new_key}

module _ (xs : List ℕ) (at : ℕ) where
  first : get_or (drop at xs) 0 0 ≡ get_or xs at 0
  first = rw (get_or-drop, add-zero)

  -- ---- a credential, by its first byte

  pub nothing : {z : Bool} → get_or xs at 0 ≡ 0 → z ≡ zeroed 16 (drop (at + 1) xs) → z ≡ true → Ok Nothing ≡ credential (drop at xs)
  unfolding credential
  nothing k z t = rw (first, k, drop-drop 1 at xs, ← z, t)

  pub not_nothing : {z : Bool} → get_or xs at 0 ≡ 0 → z ≡ zeroed 16 (drop (at + 1) xs) → z ≡ false → Err bad_record ≡ credential (drop at xs)
  unfolding credential
  not_nothing k z t = rw (first, k, drop-drop 1 at xs, ← z, t)

  pub reference : {z : Bool} {n : ℕ}
      → get_or xs at 0 ≡ 1 → z ≡ zeroed 14 (drop (at + 3) xs) → z ≡ true → n ≡ number 2 (drop (at + 1) xs)
      → Ok (Reference n) ≡ credential (drop at xs)
  unfolding credential
  reference k z t n = rw (first, k, drop-drop 3 at xs, ← z, t, drop-drop 1 at xs, ← n)

  pub not_reference : {z : Bool} → get_or xs at 0 ≡ 1 → z ≡ zeroed 14 (drop (at + 3) xs) → z ≡ false → Err bad_record ≡ credential (drop at xs)
  unfolding credential
  not_reference k z t = rw (first, k, drop-drop 3 at xs, ← z, t)

  pub key : {high low : ℕ}
      → get_or xs at 0 ≡ 2 → high ≡ number 8 (drop (at + 1) xs) → low ≡ number 8 (drop (at + 9) xs)
      → Ok (KeyCredential high low) ≡ credential (drop at xs)
  unfolding credential
  key k h l = rw (first, k, drop-drop 1 at xs, drop-drop 9 at xs, ← h, ← l)

  pub no_credential : (get_or xs at 0 ≡ 0 → ⊥) → (get_or xs at 0 ≡ 1 → ⊥) → (get_or xs at 0 ≡ 2 → ⊥) → Err bad_record ≡ credential (drop at xs)
  unfolding credential
  no_credential p q r = rw (first, ne_eqb _ 0 p, ne_eqb _ 1 q, ne_eqb _ 2 r)

  -- ---- a new key, by its first byte

  pub absent : {z : Bool} → get_or xs at 0 ≡ 0 → z ≡ zeroed 16 (drop (at + 1) xs) → z ≡ true → Ok None ≡ new_key (drop at xs)
  unfolding new_key
  absent k z t = rw (first, k, drop-drop 1 at xs, ← z, t)

  pub not_absent : {z : Bool} → get_or xs at 0 ≡ 0 → z ≡ zeroed 16 (drop (at + 1) xs) → z ≡ false → Err bad_record ≡ new_key (drop at xs)
  unfolding new_key
  not_absent k z t = rw (first, k, drop-drop 1 at xs, ← z, t)

  pub present : {high low : ℕ}
      → get_or xs at 0 ≡ 1 → high ≡ number 8 (drop (at + 1) xs) → low ≡ number 8 (drop (at + 9) xs)
      → Ok (Some (high, low)) ≡ new_key (drop at xs)
  unfolding new_key
  present k h l = rw (first, k, drop-drop 1 at xs, drop-drop 9 at xs, ← h, ← l)

  pub no_new_key : (get_or xs at 0 ≡ 0 → ⊥) → (get_or xs at 0 ≡ 1 → ⊥) → Err bad_record ≡ new_key (drop at xs)
  unfolding new_key
  no_new_key p q = rw (first, ne_eqb _ 0 p, ne_eqb _ 1 q)
