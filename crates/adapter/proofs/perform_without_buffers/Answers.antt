-- `adapter::perform_without_buffers` meets its contract.
use Rattle.adapter.specs.EffectsLaws.{no_out, no_places}
use Rattle.adapter.proofs.perform_without_buffers.Goals as goal

pub returns : goal.returns
returns c = no_places (no_out c.perform.ensures c.perform.auto.out) c.perform.auto.places
