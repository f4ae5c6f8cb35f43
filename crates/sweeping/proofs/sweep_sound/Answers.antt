-- `sweeping::sweep_sound` is SWEEP on an audited card.
use Rattle.sweeping.proofs.Swept.{sweep_done}
use Rattle.sweeping.proofs.sweep_sound.Goals as goal

pub returns-clause-performs : goal.returns-clause-performs
returns-clause-performs c = λ port. sweep_done c.requires port c.args.o c.sweep_lowest-swept.ensures
