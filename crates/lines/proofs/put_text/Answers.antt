-- `lines::put_text` meets its contract.
use Rattle.lines.proofs.WrittenPart.{written_text}
use Rattle.lines.proofs.put_text.Goals as goal

pub returns : goal.returns
returns c = written_text c.args.to.now c.args.at c.copy_from_slice.ensures.after
