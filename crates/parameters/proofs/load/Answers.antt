-- `parameters::load` meets its contract.
use Rattle.parameters.specs.NumbersLaws.{loaded}
use Rattle.parameters.proofs.load.Goals as goal

pub returns : goal.returns
returns c = search loaded
