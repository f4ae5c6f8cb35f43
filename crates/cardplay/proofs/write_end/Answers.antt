use mathlib.Core.Path.{sym}
use lib.Seq.{length-take-le}
use Rattle.cardplay.proofs.InputBufferLaws.{written_within}
use Rattle.cardplay.proofs.write_end.Goals as goal

pub slice_bounds-output-end : goal.slice_bounds-output-end
slice_bounds-output-end g c = (written_within c.put_end-last.ensures).1

pub slice_bounds-write_all-end : goal.slice_bounds-write_all-end
slice_bounds-write_all-end g c = sym (length-take-le _ _ (written_within c.put_end-last.ensures).1)
