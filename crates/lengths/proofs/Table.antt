-- Laws of the table of kinds: what the arms of a match on it cite, and what the sums of a body's fields come to.
use Rattle.std.specs.Prelude.{Option, Some, None}
use Prim.Native.Nat.{ℕ, ◌-◌, ◌≤◌, ◌<◌}
use mathlib.Core.Path.{◌≡◌, refl, sym, ap, ◌∙◌}
use mathlib.Core.Bool.{Bool, true, false, ◌||◌}
use mathlib.Core.List.{List, [], ◌∷◌}
use lib.Dec.{eqb, leb}
use native.Mathlib.Omega.{arith}
use borrow.Author.Tests.{ne_eqb, lt-ltb, le-ltb}
use Rattle.kinds.specs.Kinds.{row, names, kind_number, length_of, lengths_of, among, kind_of, kind_length, body_length}
use Rattle.kinds.specs.Arithmetic.{number_of, has_credential, part_of, behind_credential, without_credential, operands_at, lengths_at}
use Rattle.kinds.proofs.ArithmeticLaws.{kind_lengths}
use Rattle.kinds.specs.declared.Name.{Name}
use Rattle.kinds.specs.declared.Lengths.{Lengths}
use Rattle.card.specs.declared.Port.{Port}
use Rattle.card.specs.declared.Port.TheVariants.{Host, Service}

-- To compute by the table, a proof unfolds this one name.
unfoldable pub table_rules : Unit {0}
unfolding row names kind_number length_of among kind_of
table_rules = tt

pub at_kind : (wire : Port) {k n : ℕ} → k ≡ n → kind_of wire n ≡ kind_of wire k
at_kind wire e = ap (kind_of wire) (sym e)

-- By the port that was found.
pub at_wire : (k : ℕ) {wire port : Port} {r : Option (Port × Name)} → wire ≡ port → r ≡ kind_of port k → r ≡ kind_of wire k
at_wire k e h = h ∙ ap (λ (p : Port). kind_of p k) (sym e)

-- The number is none of the list, the last first.
abbrev pub Apart : ℕ → List ℕ → Type 0
Apart k [] = Unit {0}
Apart k (n ∷ ns) = Apart k ns × (k ≡ n → ⊥)

pub unknown_host : (k : ℕ) → Apart k (14 ∷ 13 ∷ 12 ∷ 11 ∷ 10 ∷ 9 ∷ 8 ∷ 7 ∷ 6 ∷ 5 ∷ 4 ∷ 3 ∷ 2 ∷ 1 ∷ []) → None ≡ kind_of Host k
unfolding table_rules
unknown_host k h =
    rw (
      ne_eqb k 1 h.0.0.0.0.0.0.0.0.0.0.0.0.0.1,
      ne_eqb k 2 h.0.0.0.0.0.0.0.0.0.0.0.0.1,
      ne_eqb k 3 h.0.0.0.0.0.0.0.0.0.0.0.1,
      ne_eqb k 4 h.0.0.0.0.0.0.0.0.0.0.1,
      ne_eqb k 5 h.0.0.0.0.0.0.0.0.0.1,
      ne_eqb k 6 h.0.0.0.0.0.0.0.0.1,
      ne_eqb k 7 h.0.0.0.0.0.0.0.1,
      ne_eqb k 8 h.0.0.0.0.0.0.1,
      ne_eqb k 9 h.0.0.0.0.0.1,
      ne_eqb k 10 h.0.0.0.0.1,
      ne_eqb k 11 h.0.0.0.1,
      ne_eqb k 12 h.0.0.1,
      ne_eqb k 13 h.0.1,
      ne_eqb k 14 h.1,
    )

-- Below 128 a kind is the same at both ports.
pub same_below : (k : ℕ) {r : Option (Port × Name)} → k < 128 → r ≡ kind_of Host k → r ≡ kind_of Service k
unfolding table_rules
same_below k l e =
    e
    ∙ rw (
      ne_eqb k 129 (λ (e : k ≡ 129). omega arith),
      ne_eqb k 130 (λ (e : k ≡ 130). omega arith),
      ne_eqb k 131 (λ (e : k ≡ 131). omega arith),
      ne_eqb k 132 (λ (e : k ≡ 132). omega arith),
      ne_eqb k 133 (λ (e : k ≡ 133). omega arith),
      ne_eqb k 134 (λ (e : k ≡ 134). omega arith),
      ne_eqb k 140 (λ (e : k ≡ 140). omega arith),
      ne_eqb k 141 (λ (e : k ≡ 141). omega arith),
      ne_eqb k 142 (λ (e : k ≡ 142). omega arith),
    )

pub unknown_service : (k : ℕ) → 128 ≤ k → Apart k (142 ∷ 141 ∷ 140 ∷ 134 ∷ 133 ∷ 132 ∷ 131 ∷ 130 ∷ 129 ∷ []) → None ≡ kind_of Service k
unfolding table_rules
unknown_service k l h =
    rw (
      ne_eqb k 1 (λ (e : k ≡ 1). omega arith),
      ne_eqb k 2 (λ (e : k ≡ 2). omega arith),
      ne_eqb k 3 (λ (e : k ≡ 3). omega arith),
      ne_eqb k 4 (λ (e : k ≡ 4). omega arith),
      ne_eqb k 5 (λ (e : k ≡ 5). omega arith),
      ne_eqb k 6 (λ (e : k ≡ 6). omega arith),
      ne_eqb k 7 (λ (e : k ≡ 7). omega arith),
      ne_eqb k 8 (λ (e : k ≡ 8). omega arith),
      ne_eqb k 9 (λ (e : k ≡ 9). omega arith),
      ne_eqb k 10 (λ (e : k ≡ 10). omega arith),
      ne_eqb k 11 (λ (e : k ≡ 11). omega arith),
      ne_eqb k 12 (λ (e : k ≡ 12). omega arith),
      ne_eqb k 13 (λ (e : k ≡ 13). omega arith),
      ne_eqb k 14 (λ (e : k ≡ 14). omega arith),
      ne_eqb k 129 h.0.0.0.0.0.0.0.0.1,
      ne_eqb k 130 h.0.0.0.0.0.0.0.1,
      ne_eqb k 131 h.0.0.0.0.0.0.1,
      ne_eqb k 132 h.0.0.0.0.0.1,
      ne_eqb k 133 h.0.0.0.0.1,
      ne_eqb k 134 h.0.0.0.1,
      ne_eqb k 140 h.0.0.1,
      ne_eqb k 141 h.0.1,
      ne_eqb k 142 h.1,
    )

-- ---- the length of a kind's body

pub number_below : (k : ℕ) → k < 128 → k ≡ number_of k
unfolding number_of
number_below k l = rw (lt-ltb k 128 l)

pub number_above : (k : ℕ) → 128 ≤ k → k - 128 ≡ number_of k
unfolding number_of
number_above k l = rw (le-ltb k 128 l)

-- What a part adds is at most its size.
pub part_most : (has : Bool) (size : ℕ) {r : ℕ} → r ≡ part_of has size → r ≤ size
unfolding part_of
part_most true size e = omega arith
part_most false size e = omega arith

pub behind_most : (call : ℕ) {r : ℕ} → r ≡ behind_credential call → r ≤ 45
unfolding behind_credential
behind_most call e =
    omega (
      arith,
      part_most (leb call 2) 4 refl,
      part_most (eqb call 3 || eqb call 12) 3 refl,
      part_most (eqb call 4) 19 refl,
      part_most (eqb call 5 || eqb call 14) 2 refl,
      part_most (eqb call 6 || eqb call 13) 17 refl,
    )

pub without_most : (call : ℕ) {r : ℕ} → r ≡ without_credential call → r ≤ 33
unfolding without_credential
without_most call e = omega (arith, part_most (eqb call 7) 23 refl, part_most (eqb call 8) 2 refl, part_most (eqb call 10) 8 refl)

pub operands_most : (call : ℕ) {r : ℕ} → r ≡ operands_at call → r ≤ 97
unfolding operands_at
operands_most call e = omega (arith, part_most (has_credential call) 19 refl, behind_most call refl, without_most call refl)

pub known_length : (wire : Port) (k : ℕ) {l : Lengths} {known : Port × Name}
    → Some known ≡ kind_of wire k → l ≡ lengths_at k → Some l.body ≡ body_length wire k
unfolding body_length kind_length lengths_of
known_length wire k {known = known} e h = rw (← e, kind_lengths wire k {port = known.0} {name = known.1} e h)

pub unknown_length : (wire : Port) (k : ℕ) → None ≡ kind_of wire k → None ≡ body_length wire k
unfolding body_length kind_length
unknown_length wire k e = ap kind_length e
