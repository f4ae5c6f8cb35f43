-- `tables::points_from` meets its contract: the pointer at the rank decides.
use lib.Dec.{eqb}
use Rattle.card.specs.Pointers.{source}
use Rattle.tables.specs.RankLaws.{points_rank}
use Rattle.tables.proofs.Search.{look_found, look_missed}
use Rattle.tables.proofs.points_from.Goals as goal

pub returns-then-at-used : goal.returns-then-at-used
returns-then-at-used c = look_found c.requires (λ x. eqb (source x) c.args.block) (search points_rank) c.place-at.ensures c.if-at-used.true

pub returns-else-at-used : goal.returns-else-at-used
returns-else-at-used c = look_missed c.requires (λ x. eqb (source x) c.args.block) (search points_rank) c.place-at.ensures c.if-at-used.false
