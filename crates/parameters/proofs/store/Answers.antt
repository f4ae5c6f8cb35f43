-- `parameters::store` meets its contract.
use Rattle.parameters.specs.NumbersLaws.{still_fifth, still_sixth, stored}
use Rattle.parameters.proofs.store.Goals as goal

pub bounds-numbers-4 : goal.bounds-numbers-4
bounds-numbers-4 c = still_fifth c.args.numbers.now _ _ _ _ c.requires

pub bounds-numbers-5 : goal.bounds-numbers-5
bounds-numbers-5 c = still_sixth c.args.numbers.now _ _ _ _ c.requires _

pub returns : goal.returns
returns c = stored c.args.numbers.now c.args.info c.requires
