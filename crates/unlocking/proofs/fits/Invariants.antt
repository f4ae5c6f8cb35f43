-- `unlocking::fits` looks at one queued block after the other.
use Rattle.unlocking.proofs.Fitting.{Passed}
use Rattle.unlocking.proofs.fits.Given as goal

abbrev pub invariant-loop-at : goal.invariant-loop-at
invariant-loop-at l = Passed l.flags l.keys l.reached.queue l.reached.count l.high l.low l.at
