-- `batch::put_first_pairs` meets its contract.
use mathlib.Core.Path.{sym, ap}
use lib.ListN.{length, take}
use mathlib.Core.Path.{sym}
use native.Mathlib.Omega.{arith}
use lib.ListN.{take}
use lib.Seq.{length-take-le, take_all}
use Rattle.batch.proofs.AnswerBytesLaws.{pairs_length, pairs_all}
use Rattle.batch.proofs.put_first_pairs.Goals as goal

pub slice_bounds-put_pairs-end : goal.slice_bounds-put_pairs-end
slice_bounds-put_pairs-end c = sym (length-take-le c.args.count c.args.values.now (omega arith))

pub put_pairs-requires : goal.put_pairs-requires
put_pairs-requires c = omega (arith, pairs_length (take c.args.count c.args.values.now), c.requires)

pub put_pairs-requires-else-count-values : goal.put_pairs-requires-else-count-values
put_pairs-requires-else-count-values c = omega (arith, pairs_length (take c.args.count c.args.values.now), ap length (take_all c.args.count c.args.values.now c.if-count-values.false), c.requires)

pub returns-else-count-values : goal.returns-else-count-values
returns-else-count-values c = search pairs_all
