-- `tables::merge` meets its contract: what is left to do are the first `old` pointers in use and the added ones below `new`.
use Rattle.tables.proofs.Merging.{BothMerging}
use Rattle.tables.proofs.merge.Given as goal

abbrev pub invariant-loop-new : goal.invariant-loop-new
invariant-loop-new l = BothMerging l.initial.pointers l.initial.multiplicities l.pointers l.multiplicities l.used l.added l.count l.old l.new
