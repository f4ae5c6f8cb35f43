-- `unlocking::queue_leading` walks against the pointers from the chosen block.
use Rattle.unlocking.proofs.Queueing.{chosen_waits, chosen_spread}
use Rattle.unlocking.proofs.queue_leading.Goals as goal

pub walk-requires : goal.walk-requires
walk-requires c = record { walkable = c.requires.walkable; walking = chosen_waits c.requires.none_reached.none_marked c.requires.chosen_bound (rw c.requires.none_reached.none_queued at c.enter.ensures) c.requires.none_reached.has_queue }

pub returns : goal.returns
returns c = chosen_spread c.requires.none_reached.none_marked c.requires.chosen_bound (rw c.requires.none_reached.none_queued at c.enter.ensures) c.walk.ensures
