-- The checks that ALLOC and ALLOC_CONTIG share: those of ALLOC before the last, which looks at the places for pointers.
use Rattle.std.specs.Prelude.{ℕ, Bool, ◌&&◌, ◌||◌, not, List, eqb, ltb, take}
use Rattle.card.specs.Card.{Card}
use Rattle.card.specs.Access.{admits}
use Rattle.card.specs.Plan.{Check}
use Rattle.card.specs.Calls.{no_hint, alloc_plan}
use Rattle.card.specs.declared.Port.{Port}
use Rattle.card.specs.declared.Mode.TheVariants.{Writing}
use Rattle.card.specs.declared.AllocOperands.{AllocOperands}

-- Refusal 4 of both, by N, the hint, the count and the number of places.
abbrev pub bad_operands : ℕ → ℕ → ℕ → ℕ → Bool
bad_operands blocks hint count places = eqb count 0 || ltb 64 count || (not (ltb hint blocks) && not (eqb hint no_hint)) || ltb places count

-- The checks of the refusals 4, 3, 6, 5 and 10, where `places` is the length of out.
unfoldable pub shared_checks : Port → Card → AllocOperands → ℕ → List Check
shared_checks port c o places = take 5 (alloc_plan port c.public (admits port c Writing o.reference o.credential) o places).checks
