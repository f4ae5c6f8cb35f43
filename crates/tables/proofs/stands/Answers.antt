-- `tables::stands` meets its contract: the pointer at the rank decides.
use lib.Dec.{eqb}
use Rattle.tables.specs.RankLaws.{contains_rank}
use Rattle.tables.proofs.Search.{look_found, look_missed}
use Rattle.tables.proofs.stands.Goals as goal

pub returns-then-at-used : goal.returns-then-at-used
returns-then-at-used c = look_found c.requires.sorted (λ x. eqb x c.args.wanted) (search contains_rank) c.requires.at_value c.if-at-used.true

pub returns-else-at-used : goal.returns-else-at-used
returns-else-at-used c = look_missed c.requires.sorted (λ x. eqb x c.args.wanted) (search contains_rank) c.requires.at_value c.if-at-used.false
