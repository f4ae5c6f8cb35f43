-- The checks that DELETE and DELETE_TREE have in common, on a card.
use Rattle.std.specs.Prelude.{List}
use Rattle.card.specs.Card.{Card}
use Rattle.card.specs.Access.{admits}
use Rattle.card.specs.Plan.{Check}
use Rattle.card.specs.Calls.{removal_checks}
use Rattle.card.specs.declared.Port.{Port}
use Rattle.card.specs.declared.Mode.TheVariants.{Writing}
use Rattle.card.specs.declared.DeleteOperands.{DeleteOperands}

abbrev pub removal : Port → Card → DeleteOperands → List Check
removal port c o = removal_checks port c.public (admits port c Writing o.source o.credential) o
