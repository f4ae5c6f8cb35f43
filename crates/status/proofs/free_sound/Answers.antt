-- `status::free_sound` is FREE on an audited card.
use Rattle.status.proofs.Ticked.{free_done}
use Rattle.status.proofs.free_sound.Goals as goal

pub returns : goal.returns
returns c = λ port. search free_done
