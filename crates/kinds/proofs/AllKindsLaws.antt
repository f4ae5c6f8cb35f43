-- A place of the table of all 256 kinds holds the length that the rules give for the kind.
use Rattle.std.specs.Prelude.{Option, None}
use Prim.Native.Nat.{ℕ, zero, suc, ◌<◌}
use mathlib.Core.Path.{◌≡◌, refl, sym, ap, subst, ◌∙◌}
use mathlib.Core.Bool.{Bool, true, false}
use mathlib.Core.List.{List, [], ◌∷◌, ◌++◌, map}
use lib.Dec.{ltb}
use lib.ListN.{length, get_or, get_or-append, get_or-map}
use lib.Seq.{get_or_at}
use native.Mathlib.Omega.{arith}
use borrow.Author.Tests.{ltb-true, ltb-false}
use borrow.Table.Elements.{length_app}
use Rattle.card.specs.Lists.{numbers_below}
use Rattle.card.specs.declared.Port.{Port}
use Rattle.card.specs.declared.Port.TheVariants.{Host, Service}
use Rattle.kinds.specs.Kinds.{row, names, kind_number, among, kind_of, kind_length, body_length}
use Rattle.kinds.specs.AllKinds.{expected}
use Rattle.kinds.proofs.AllKinds.{all_kinds}

count_all : (n : ℕ) → length (numbers_below (λ kind. true) n) ≡ n
unfolding numbers_below
count_all zero = refl
count_all (suc n) = omega (arith, length_app (numbers_below (λ kind. true) n) (n ∷ []), count_all n)

number_at : (n k : ℕ) → k < n → get_or (numbers_below (λ kind. true) n) k 0 ≡ k
unfolding numbers_below
number_at zero k h = absurd (omega arith)
number_at (suc n) k h = go (ltb k n) refl (number_at n k)
  where
    go : (t : Bool) → ltb k n ≡ t → (k < n → get_or (numbers_below (λ kind. true) n) k 0 ≡ k) → get_or (numbers_below (λ kind. true) n ++ (n ∷ [])) k 0 ≡ k
    go true e before =
        let low : k < n = ltb-true k n e in
        get_or-append (numbers_below (λ kind. true) n) (n ∷ []) 0 k (omega (arith, count_all n)) ∙ before low
    go false e before =
        let last : k ≡ n = omega (arith, ltb-false k n e) in
        rw last (get_or_at (numbers_below (λ kind. true) n) n [] 0 n (count_all n))

no_kind_0 : (wire : Port) → body_length wire 0 ≡ None
unfolding row names kind_number among kind_of kind_length body_length
no_kind_0 Host = refl
no_kind_0 Service = refl

pub expected_at : (wire : Port) (kind : ℕ) → kind < 256 → get_or (expected wire) kind None ≡ body_length wire kind
expected_at wire kind h =
    ap (λ (lengths : List (Option ℕ)). get_or lengths kind None) (sym (all_kinds wire))
    ∙ subst (λ (none : Option ℕ). get_or (map (body_length wire) (numbers_below (λ kind. true) 256)) kind none ≡ body_length wire (get_or (numbers_below (λ kind. true) 256) kind 0)) (no_kind_0 wire) (get_or-map (body_length wire) (numbers_below (λ kind. true) 256) kind 0)
    ∙ ap (body_length wire) (number_at 256 kind h)
