-- `tables::holds` meets its contract: the search finds the pointer exactly where it is in use.
use mathlib.Core.Path.{◌∙◌}
use Rattle.tables.proofs.Search.{found_there}
use Rattle.tables.proofs.holds.Goals as goal

pub returns : goal.returns
returns c = c.is_ok.ensures.value ∙ found_there _ _ c.requires.ascends _ c.binary_search.ensures.position
