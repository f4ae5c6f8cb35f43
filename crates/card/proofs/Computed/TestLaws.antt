-- Laws of tests over lists and numbers: from a test to its statement, and back. They hold whatever the rules are.
use native.Mathlib.Omega.{arith}
use Prim.Native.Nat.{ℕ, zero, suc, ◌<◌}
use mathlib.Core.Bool.{Bool, true, false, ◌&&◌, ◌||◌, true≢false, false≢true}
use mathlib.Core.List.{List, [], ◌∷◌}
use mathlib.Core.Logic.{◌⊎◌, inl, inr, ⊎_elim}
use mathlib.Core.Path.{◌≡◌, refl, ap₂, subst, sym, ◌∙◌}
use lib.Dec.{eqb}
use native.Mathlib.Nat.{not-suc-le-zero, le_of_suc-le-suc, eq-or-lt_of_le}
use borrow.Author.Tests.{eqb-true, eq-eqb, ltb-true}
use Rattle.card.specs.Lists.{every, all, any, all_below}
use Rattle.card.specs.Pointers.{pointer, source, destination, contains}
use Rattle.card.specs.Card.{Public, waiting, free}
use Rattle.card.specs.Plan.{other_mode}
use Rattle.card.specs.declared.Mode.{Mode}
use Rattle.card.specs.declared.Mode.TheVariants.{Reading, Writing}
use Rattle.card.proofs.Computed.Same.{same_list, same_lists}

pub and_left : (a b : Bool) → a && b ≡ true → a ≡ true
and_left true b e = refl
and_left false b e = e

pub and_right : (a b : Bool) → a && b ≡ true → b ≡ true
and_right true b e = e
and_right false b e = absurd (false≢true e)

pub and_true : (a b : Bool) → a ≡ true → b ≡ true → a && b ≡ true
and_true true b p q = q
and_true false b p q = p

pub or_left : (a b : Bool) → a ≡ true → a || b ≡ true
or_left true b e = refl
or_left false b e = absurd (false≢true e)

pub or_right : (a b : Bool) → b ≡ true → a || b ≡ true
or_right true b e = refl
or_right false b e = e

pub or_false : (a b : Bool) → a ≡ false → b ≡ false → a || b ≡ false
or_false true b p q = p
or_false false b p q = q

pub or_cases : (a b : Bool) → a || b ≡ true → (a ≡ true) ⊎ (b ≡ true)
or_cases true b e = inl refl
or_cases false b e = inr e

-- Where the first fails, the second holds.
pub or_else : (a b : Bool) → a || b ≡ true → a ≡ false → b ≡ true
or_else true b e f = absurd (true≢false f)
or_else false b e f = e

pub not_cases : (t : Bool) → (t ≡ true) ⊎ (t ≡ false)
not_cases true = inl refl
not_cases false = inr refl

pub absurd_test {ℓ} : {A : Type ℓ} {t : Bool} → t ≡ true → t ≡ false → A
absurd_test p q = absurd (true≢false (sym p ∙ q))

-- Each test of a list holds, as a product of statements.
abbrev pub Holds : List Bool → Type 0
Holds [] = Unit {0}
Holds (t ∷ ts) = (t ≡ true) × Holds ts

pub every_true : (ts : List Bool) → every ts ≡ true → Holds ts
unfolding every
every_true [] e = tt
every_true (t ∷ ts) e = (and_left t (every ts) e, every_true ts (and_right t (every ts) e))

pub true_every : (ts : List Bool) → Holds ts → every ts ≡ true
unfolding every
true_every [] h = refl
true_every (t ∷ ts) h = and_true t (every ts) h.0 (true_every ts h.1)

pub all_below_true : (p : ℕ → Bool) (n : ℕ) → all_below p n ≡ true → (i : ℕ) → i < n → p i ≡ true
unfolding all_below
all_below_true p zero e i h = absurd (not-suc-le-zero h)
all_below_true p (suc n) e i h =
    ⊎_elim
    (λ (q : i ≡ n). subst (λ (k : ℕ). p k ≡ true) (sym q) (and_left (p n) _ e))
    (λ (l : i < n). all_below_true p n (and_right (p n) _ e) i l)
    (eq-or-lt_of_le (le_of_suc-le-suc h))

pub true_all_below : (p : ℕ → Bool) (n : ℕ) → ((i : ℕ) → i < n → p i ≡ true) → all_below p n ≡ true
unfolding all_below
true_all_below p zero f = refl
true_all_below p (suc n) f = and_true (p n) _ (f n (omega arith)) (true_all_below p n (λ i h. f i (omega arith)))

pub same_list_true : (xs ys : List ℕ) → same_list xs ys ≡ true → xs ≡ ys
unfolding same_list
same_list_true [] [] e = refl
same_list_true [] (y ∷ ys) e = absurd_test {t = false} e refl
same_list_true (x ∷ xs) [] e = absurd_test {t = false} e refl
same_list_true (x ∷ xs) (y ∷ ys) e = ap₂ ◌∷◌ (eqb-true x y (and_left _ _ e)) (same_list_true xs ys (and_right (eqb x y) _ e))

same_list_self : (xs : List ℕ) → same_list xs xs ≡ true
unfolding same_list
same_list_self [] = refl
same_list_self (x ∷ xs) = and_true _ _ (eq-eqb x x refl) (same_list_self xs)

pub true_same_list : {xs ys : List ℕ} → xs ≡ ys → same_list xs ys ≡ true
true_same_list {xs} e = subst (λ (zs : List ℕ). same_list xs zs ≡ true) e (same_list_self xs)

same_lists_self : (xs : List (List ℕ)) → same_lists xs xs ≡ true
unfolding same_lists
same_lists_self [] = refl
same_lists_self (x ∷ xs) = and_true _ _ (same_list_self x) (same_lists_self xs)

pub true_same_lists : {xs ys : List (List ℕ)} → xs ≡ ys → same_lists xs ys ≡ true
true_same_lists {xs} e = subst (λ (zs : List (List ℕ)). same_lists xs zs ≡ true) e (same_lists_self xs)

pub or_false_left : (a b : Bool) → a || b ≡ false → a ≡ false
or_false_left true b e = e
or_false_left false b e = refl

pub or_false_right : (a b : Bool) → a || b ≡ false → b ≡ false
or_false_right true b e = absurd (true≢false e)
or_false_right false b e = e

-- A test that is not true is false.
pub false_unless : (t : Bool) → (t ≡ true → ⊥) → t ≡ false
false_unless true h = absurd (h refl)
false_unless false h = refl

pub all_head : (p : ℕ → Bool) (x : ℕ) (xs : List ℕ) → all p (x ∷ xs) ≡ true → p x ≡ true
unfolding all
all_head p x xs e = and_left (p x) (all p xs) e

pub all_tail : (p : ℕ → Bool) (x : ℕ) (xs : List ℕ) → all p (x ∷ xs) ≡ true → all p xs ≡ true
unfolding all
all_tail p x xs e = and_right (p x) (all p xs) e

pub all_cons : (p : ℕ → Bool) (x : ℕ) (xs : List ℕ) → p x ≡ true → all p xs ≡ true → all p (x ∷ xs) ≡ true
unfolding all
all_cons p x xs h t = and_true (p x) (all p xs) h t

pub source_pointer : (a b : ℕ) → b < 65536 → source (pointer a b) ≡ a
source_pointer a b h = omega arith

pub destination_pointer : (a b : ℕ) → b < 65536 → destination (pointer a b) ≡ b
destination_pointer a b h = omega arith

pub contains_cons : (w x : ℕ) (xs : List ℕ) → contains w (x ∷ xs) ≡ eqb x w || contains w xs
unfolding contains any
contains_cons w x xs = refl

pub contains_all : (p : ℕ → Bool) (w : ℕ) (ws : List ℕ) → contains w ws ≡ true → all p ws ≡ true → p w ≡ true
unfolding contains any
contains_all p w [] e h = absurd_test {t = false} e refl
contains_all p w (x ∷ xs) e h =
    ⊎_elim
    (λ (q : eqb x w ≡ true). subst (λ (k : ℕ). p k ≡ true) (eqb-true x w q) (all_head p x xs h))
    (λ (q : any (λ x. eqb x w) xs ≡ true). contains_all p w xs q (all_tail p x xs h))
    (or_cases (eqb x w) _ e)

-- What holds of each pointer that is there holds of the list.
pub all_contains : (p : ℕ → Bool) (ws : List ℕ) → ((w : ℕ) → contains w ws ≡ true → p w ≡ true) → all p ws ≡ true
unfolding contains any all
all_contains p [] f = refl
all_contains p (x ∷ xs) f = all_cons p x xs (f x (or_left (eqb x x) _ (eq-eqb x x refl))) (all_contains p xs (λ w h. f w (or_right (eqb x w) _ h)))

pub contains_here : (x : ℕ) (xs : List ℕ) → contains x (x ∷ xs) ≡ true
contains_here x xs = contains_cons x x xs ∙ or_left (eqb x x) _ (eq-eqb x x refl)

pub contains_there : (y x : ℕ) (xs : List ℕ) → contains y xs ≡ true → contains y (x ∷ xs) ≡ true
contains_there y x xs h = contains_cons y x xs ∙ or_right (eqb x y) _ h

pub any_member : (q : ℕ → Bool) (xs : List ℕ) (a : ℕ) → contains a xs ≡ true → q a ≡ true → any q xs ≡ true
unfolding contains any
any_member q [] a h e = absurd_test {t = false} h refl
any_member q (x ∷ xs) a h e =
    ⊎_elim
    (λ s. or_left (q x) _ (subst (λ (k : ℕ). q k ≡ true) (sym (eqb-true x a s)) e))
    (λ s. or_right (q x) _ (any_member q xs a s e))
    (or_cases (eqb x a) _ h)

-- A member of which the test holds.
pub record Some (q : ℕ → Bool) (xs : List ℕ) : Type 0 where
  pub which : ℕ
  pub within : contains which xs ≡ true
  pub passes : q which ≡ true

pub member_any : (q : ℕ → Bool) (xs : List ℕ) → any q xs ≡ true → Some q xs
unfolding any
member_any q [] h = absurd_test {t = false} h refl
member_any q (x ∷ xs) h =
    ⊎_elim
    (λ e. record { which = x; within = contains_here x xs; passes = e })
    (λ e.
    let s : Some q xs = member_any q xs e in
    record { which = s.which; within = contains_there s.which x xs s.within; passes = s.passes })
    (or_cases (q x) _ h)

pub other_mode_law : (mode : Mode) → other_mode mode ≡ mode → ⊥
other_mode_law Reading e = absurd (true≢false (cc))
other_mode_law Writing e = absurd (true≢false (cc))

-- A free block is below N and has no flag; a waiting one has flag 8 alone. Neither is allocated.
pub free_below : (p : Public) (b : ℕ) → free p b ≡ true → b < p.info.blocks
unfolding free
free_below p b e = ltb-true _ _ (and_left _ _ e)

pub waiting_below : (p : Public) (b : ℕ) → waiting p b ≡ true → b < p.info.blocks
unfolding waiting
waiting_below p b e = ltb-true _ _ (and_left _ _ e)
