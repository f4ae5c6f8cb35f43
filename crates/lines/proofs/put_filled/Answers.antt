-- `lines::put_filled` meets its contract.
use mathlib.Core.Path.{sym}
use native.Mathlib.Omega.{arith}
use lib.ListN.{length-take}
use lib.Seq.{length-take-le}
use Rattle.lines.specs.Lines.{spaced}
use Rattle.lines.specs.WrittenLaws.{written_none}
use Rattle.lines.proofs.put_filled.Goals as goal

pub slice_bounds-put_bytes-end : goal.slice_bounds-put_bytes-end
slice_bounds-put_bytes-end c = search (sym, length-take-le)

pub put_bytes-requires : goal.put_bytes-requires
put_bytes-requires c = omega (arith, length-take 8 c.args.out.now)

pub returns-in-Neither : goal.returns-in-Neither
unfolding spaced
returns-in-Neither c = rw c.in-Neither.is (written_none _ _)

pub returns-in-Bytes : goal.returns-in-Bytes
returns-in-Bytes c = rw c.in-Bytes.is c.put_bytes.ensures

pub returns-in-Blocks : goal.returns-in-Blocks
returns-in-Blocks c = rw c.in-Blocks.is c.put_first.ensures
