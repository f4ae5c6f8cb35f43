-- `tables::place` meets its contract: what parts the pointers below the wanted one from the others is its rank.
use lib.Dec.{ltb}
use Rattle.std.proofs.Common.{rules}
use Rattle.std.proofs.lemmas.List.Sorted.{IsPartitionPoint-from_clause}
use Rattle.tables.proofs.Search.{parted, parts_at_rank}
use Rattle.tables.proofs.place.Goals as goal

pub returns : goal.returns
returns c =
    let w = c.args.wanted in
    parts_at_rank w _ c.requires.ascends _ c.partition_point.ensures.bound
    (IsPartitionPoint-from_clause (λ y. ltb y w) _ _ c.partition_point.ensures.partitioned (parted w _ c.requires.ascends) (λ a r f' k. search rules))
