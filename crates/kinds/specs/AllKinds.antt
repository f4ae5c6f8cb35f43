-- The length of the body, or none, for all 256 kinds at each port, as document 01, 2026-01, 2026-02 and 2026-07 give it: one table, which the lengths of
-- the rules and those that are worked out from the kind both equal. That they do is computed in proofs/AllKinds.antt.
use Rattle.std.specs.Prelude.{ℕ, ◌≡◌, true, List, [], ◌∷◌, ◌++◌, map, replicate, Option, Some, None}
use Rattle.card.specs.Lists.{numbers_below}
use Rattle.kinds.specs.Kinds.{kind_of, body_length}
use Rattle.card.specs.declared.Port.{Port}
use Rattle.card.specs.declared.Port.TheVariants.{Host, Service}
use Rattle.kinds.specs.Arithmetic.{lengths_at}
use Rattle.kinds.specs.declared.Name.{Name}

-- The length for each kind from 128 on, which the service port alone takes.
abbrev pub expected_above : Port → List (Option ℕ)
expected_above Host = replicate 128 None
expected_above Service =
    None
    ∷ (map Some (23 ∷ 535 ∷ 22 ∷ 38 ∷ 21 ∷ 36 ∷ [])
    ++ (replicate 5 None ++ (Some 22 ∷ Some 36 ∷ Some 21 ∷ replicate 113 None)))

-- And for each kind from 0 on.
abbrev pub expected : Port → List (Option ℕ)
expected wire =
    None
    ∷ (map Some (23 ∷ 535 ∷ 22 ∷ 38 ∷ 21 ∷ 36 ∷ 23 ∷ 2 ∷ 0 ∷ 8 ∷ 0 ∷ 22 ∷ 36 ∷ 21 ∷ [])
    ++ (replicate 113 None ++ expected_above wire))

-- The lengths by the rules are those of the table.
abbrev pub AllKinds : Type 0
AllKinds = (wire : Port) → map (body_length wire) (numbers_below (λ kind. true) 256) ≡ expected wire

-- The length that is worked out from a kind, where there is such a kind at the port.
abbrev pub where_known : Option (Port × Name) → ℕ → Option ℕ
where_known (Some known) length = Some length
where_known None length = None

abbrev pub worked_out : Port → ℕ → Option ℕ
worked_out wire kind = where_known (kind_of wire kind) (lengths_at kind).body

-- And so are those that are worked out.
abbrev pub LengthsWorkedOut : Type 0
LengthsWorkedOut = (wire : Port) → map (worked_out wire) (numbers_below (λ kind. true) 256) ≡ expected wire
