-- `reach::look_at` meets its contract.
use mathlib.Core.Path.{refl}
use Rattle.card.specs.Card.{has_key, window_open}
use Rattle.card.specs.Lent.{shared_card}
use Rattle.reach.proofs.Giving.{looked_at}
use Rattle.reach.proofs.look_at.Goals as goal

pub returns : goal.returns
unfolding has_key window_open
returns c = looked_at c.args.words.now (shared_card c.args.card) c.args.block c.requires.block_lt_blocks
    (c.key_given-read.ensures _ refl refl) (c.key_given-write.ensures _ refl refl)
    c.has_key.ensures c.has_key-2.ensures c.window_open.ensures c.window_open-2.ensures c.allocated.ensures
