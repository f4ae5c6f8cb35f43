-- `audit::block_sound` is the clauses of one block.
use Rattle.card.specs.Lent.{shared_card}
use Rattle.audit.proofs.BlockTests.{sound_block}
use Rattle.audit.proofs.block_sound.Goals as goal

pub returns : goal.returns
returns c = search (sound_block (shared_card c.args.card))
