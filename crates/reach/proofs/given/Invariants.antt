-- `reach::given` looks at one key after the other.
use Rattle.reach.proofs.Giving.{Passed}
use Rattle.reach.proofs.given.Given as goal

abbrev pub invariant-loop-key : goal.invariant-loop-key
invariant-loop-key l = Passed l.high l.low l.words l.key
