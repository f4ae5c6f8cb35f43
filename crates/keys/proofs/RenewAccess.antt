-- RENEW's access test: a key opens no block without a key for the mode, so that the one test answers both of its clauses.
use Prim.Native.Nat.{ℕ}
use mathlib.Core.Path.{◌≡◌, refl, sym, ap, ◌∙◌}
use mathlib.Core.Bool.{Bool, true, false, not, ◌||◌, cond}
use borrow.Author.Tests.{not-false}
use Rattle.laws.specs.ListsLaws.{or_right, or_false}
use Rattle.card.specs.Card.{Card, has_key, is_root}
use Rattle.card.specs.Access.{opens, opens_root, opens_pointed}
use Rattle.card.specs.Calls.{mode_of}
use Rattle.card.specs.declared.Mode.{Mode}
use Rattle.card.specs.declared.Credential.TheVariants.{Key}

-- A key opens no block that has no key for the mode.
keyed_if_open : (k r : Bool) (x : Bool) → cond k x (cond r false false) ≡ true → k ≡ true
keyed_if_open true r x e = refl
keyed_if_open false true x e = e
keyed_if_open false false x e = e

key_opens_keyed : (c : Card) (mode : Mode) (b high low : ℕ) → opens c mode b (Key high low) ≡ true → has_key c.public mode b ≡ true
unfolding opens opens_root opens_pointed
key_opens_keyed c mode b high low e = keyed_if_open (has_key c.public mode b) (is_root c.public b) _ e

module _ (c : Card) (number b high low : ℕ) {mode : Mode} (named : mode ≡ mode_of number) {a : Bool} (told : a ≡ opens c mode b (Key high low)) where
  opened_is : a ≡ opens c (mode_of number) b (Key high low)
  opened_is = told ∙ ap (λ (m : Mode). opens c m b (Key high low)) named

  pub unopened_holds : not a ≡ true → not (has_key c.public (mode_of number) b) || not (opens c (mode_of number) b (Key high low)) ≡ true
  unopened_holds e = or_right (not (has_key c.public (mode_of number) b)) (not (opens c (mode_of number) b (Key high low))) (sym (ap not opened_is) ∙ e)

  pub unopened_fails : not a ≡ false → not (has_key c.public (mode_of number) b) || not (opens c (mode_of number) b (Key high low)) ≡ false
  unopened_fails e =
      let shut : not (opens c (mode_of number) b (Key high low)) ≡ false = sym (ap not opened_is) ∙ e in
      let keyed : has_key c.public (mode_of number) b ≡ true = key_opens_keyed c (mode_of number) b high low (not-false _ shut) in
      or_false (not (has_key c.public (mode_of number) b)) (not (opens c (mode_of number) b (Key high low))) (ap not keyed) shut
