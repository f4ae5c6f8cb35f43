-- `linking::multiplicity` is the number of the definition.
use Rattle.card.specs.Card.{multiplicity}
use Rattle.linking.proofs.multiplicity.Goals as goal

pub returns : goal.returns
unfolding multiplicity
returns c = c.times.ensures
