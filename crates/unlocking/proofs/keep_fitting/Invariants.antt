-- `unlocking::keep_fitting` leaves those shut that lead on or whose write key fits.
use lib.ListN.{take}
use Rattle.unlocking.proofs.Keeping.{Keeping}
use Rattle.unlocking.proofs.keep_fitting.Given as goal

abbrev pub invariant-loop-block : goal.invariant-loop-block
invariant-loop-block l = Keeping l.flags l.keys l.reached.marks (take l.reached.count l.reached.queue) l.initial.shut l.shut l.block l.kept
