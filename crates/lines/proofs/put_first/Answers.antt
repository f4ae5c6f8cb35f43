-- `lines::put_first` meets its contract.
use mathlib.Core.Path.{sym}
use Prim.Native.Nat.{◌≤◌}
use native.Mathlib.Omega.{arith}
use lib.ListN.{length, length-take}
use lib.Seq.{length-take-le, take_all}
use Rattle.lines.proofs.put_first.Goals as goal

pub slice_bounds-put_blocks-end : goal.slice_bounds-put_blocks-end
slice_bounds-put_blocks-end c = sym (length-take-le c.args.count c.args.values.now (omega arith))

pub put_blocks-requires : goal.put_blocks-requires
put_blocks-requires c = omega (arith, length-take c.args.count c.args.values.now)

pub returns-else-count-values : goal.returns-else-count-values
returns-else-count-values c = let whole : length c.args.values.now ≤ c.args.count = omega arith in
    rw (take_all c.args.count c.args.values.now whole) c.put_blocks-else-count-values.ensures
