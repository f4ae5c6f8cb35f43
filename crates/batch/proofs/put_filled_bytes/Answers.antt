-- `batch::put_filled_bytes` meets its contract.
use Rattle.lines.specs.WrittenLaws.{written_none}
use Rattle.batch.proofs.AnswerBytesLaws.{written_same}
use Rattle.batch.proofs.put_filled_bytes.Goals as goal

pub put_first_pairs-requires : goal.put_first_pairs-requires
put_first_pairs-requires c = rw c.in-Blocks.is at c.requires.fact_2

pub returns-in-Neither : goal.returns-in-Neither
returns-in-Neither c = rw c.in-Neither.is (written_none _ _)

pub returns-in-Bytes : goal.returns-in-Bytes
returns-in-Bytes c = rw c.in-Bytes.is (written_same c.args.to.now c.args.at c.args.size c.requires.fact_1)

pub returns-in-Blocks : goal.returns-in-Blocks
returns-in-Blocks c = rw c.in-Blocks.is c.put_first_pairs.ensures
