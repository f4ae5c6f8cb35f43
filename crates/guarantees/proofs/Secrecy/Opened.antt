-- What a presented credential opens lies in every set that is closed under reach.
use Prim.Native.Nat.{ℕ}
use mathlib.Core.Path.{◌≡◌, refl}
use mathlib.Core.Logic.{⊎_elim}
use mathlib.Core.Bool.{Bool, true, false, ◌&&◌, cond}
use lib.Dec.{eqb}
use borrow.Author.Tests.{eqb-true, eq-eqb}
use Rattle.laws.specs.ListsLaws.{and_left, and_right, and_true, and_false_left, and_false_right, or_cases, absurd_test}
use Rattle.card.specs.Card.{Card, allocated, has_key, is_root, window_open, points_to, key_high, key_low}
use Rattle.card.specs.Access.{key_is, key_opens, opens_keyed, opens_root, opens_pointed, opens}
use Rattle.card.specs.Reach.{shows, key_presented, sealed}
use Rattle.card.specs.declared.Mode.{Mode}
use Rattle.card.specs.declared.Mode.TheVariants.{Reading, Writing}
use Rattle.card.specs.declared.Credential.{Credential}
use Rattle.card.specs.declared.Credential.TheVariants.{Nothing, Reference, Key}
use Rattle.guarantees.proofs.Secrecy.Closed.{Closed}

-- Each key that the credential shows is presented.
abbrev pub AllPresented : (ℕ → ℕ → Bool) → Credential → Type 0
AllPresented K credential = (high low : ℕ) → shows credential high low ≡ true → K high low ≡ true

shows_itself : (high low : ℕ) → shows (Key high low) high low ≡ true
unfolding shows
shows_itself high low = and_true _ _ (eq-eqb high high refl) (eq-eqb low low refl)

-- A block that lacks a key for some mode is not sealed.
pub unsealed : (K : ℕ → ℕ → Bool) (c : Card) (b : ℕ) (mode : Mode) → has_key c.public mode b ≡ false → sealed K c b ≡ false
unfolding sealed
unsealed K c b Reading e = and_false_left (has_key c.public Reading b && has_key c.public Writing b) _ (and_false_left _ _ e)
unsealed K c b Writing e =
    and_false_left (has_key c.public Reading b && has_key c.public Writing b) _ (and_false_right (has_key c.public Reading b) _ e)

module _ (K : ℕ → ℕ → Bool) (G : ℕ → Type 0) (c : Card) (closed : Closed K G c) (b : ℕ) (a : allocated c.public b ≡ true) where
  within_by_key : (mode : Mode) (high low : ℕ) → has_key c.public mode b ≡ true → key_is c.keys mode b high low ≡ true → K high low ≡ true → G b
  unfolding key_is key_presented
  within_by_key mode high low has is k =
      let h : key_high c.keys mode b ≡ high = eqb-true _ _ (and_left _ _ is) in
      let l : key_low c.keys mode b ≡ low = eqb-true _ _ (and_right (eqb (key_high c.keys mode b) high) _ is) in
      closed.key mode b a (and_true _ _ has (rw (h, l) k))

  within_keyed : (mode : Mode) (credential : Credential) → has_key c.public mode b ≡ true → opens_keyed c mode b credential ≡ true → AllPresented K credential → G b
  unfolding opens_keyed key_opens
  within_keyed mode Nothing has o k = absurd_test {t = false} o refl
  within_keyed mode (Reference r) has o k = absurd_test {t = false} o refl
  within_keyed Reading (Key high low) has o k =
      ⊎_elim
      (λ is. within_by_key Reading high low has is (k high low (shows_itself high low)))
      (λ w.
      within_by_key Writing high low (and_left _ _ w) (and_right (has_key c.public Writing b) _ w) (k high low (shows_itself high low)))
      (or_cases (key_is c.keys Reading b high low) _ o)
  within_keyed Writing (Key high low) has o k = within_by_key Writing high low has o (k high low (shows_itself high low))

  within_root : (mode : Mode) (credential : Credential) → has_key c.public mode b ≡ false → is_root c.public b ≡ true → opens_root credential ≡ true → G b
  unfolding opens_root
  within_root mode Nothing no_key root o = closed.root b a root (unsealed K c b mode no_key)
  within_root mode (Reference r) no_key root o = absurd_test {t = false} o refl
  within_root mode (Key high low) no_key root o = absurd_test {t = false} o refl

  within_pointed : (mode : Mode) (credential : Credential) → has_key c.public mode b ≡ false → opens_pointed c.public mode b credential ≡ true → G b
  unfolding opens_pointed
  within_pointed mode Nothing no_key o = absurd_test {t = false} o refl
  within_pointed mode (Reference r) no_key o =
      let there : allocated c.public r ≡ true = and_left _ _ o in
      let rest : points_to c.public r b && window_open c.public mode r ≡ true = and_right (allocated c.public r) _ o in
      closed.pointed r b (closed.window mode r there (and_right (points_to c.public r b) _ rest)) a (and_left _ _ rest) (unsealed K c b mode no_key)
  within_pointed mode (Key high low) no_key o = absurd_test {t = false} o refl

  pub opened_within : (mode : Mode) (credential : Credential) → opens c mode b credential ≡ true → AllPresented K credential → G b
  unfolding opens
  opened_within mode credential o k = by_key (has_key c.public mode b) refl o
    where
      by_root : (t : Bool) → is_root c.public b ≡ t → has_key c.public mode b ≡ false
          → cond t (opens_root credential) (opens_pointed c.public mode b credential) ≡ true → G b
      by_root true e no_key h = within_root mode credential no_key e h
      by_root false e no_key h = within_pointed mode credential no_key h

      by_key : (t : Bool) → has_key c.public mode b ≡ t
          → cond t (opens_keyed c mode b credential) (cond (is_root c.public b) (opens_root credential) (opens_pointed c.public mode b credential)) ≡ true
          → G b
      by_key true e h = within_keyed mode credential e h k
      by_key false e h = by_root (is_root c.public b) refl e h
