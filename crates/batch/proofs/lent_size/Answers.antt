-- `batch::lent_size` meets its contract.
use Rattle.batch.proofs.AnswerBytesLaws.{lent_neither, lent_blocks, lent_whole, lent_none}
use Rattle.batch.proofs.lent_size.Goals as goal

pub returns-in-Neither : goal.returns-in-Neither
returns-in-Neither c = search lent_neither

pub returns-then-info-le65536 : goal.returns-then-info-le65536
returns-then-info-le65536 c = search lent_whole

pub returns-else-info-le65536 : goal.returns-else-info-le65536
returns-else-info-le65536 c = search lent_none

pub returns-in-Blocks : goal.returns-in-Blocks
returns-in-Blocks c = search lent_blocks
