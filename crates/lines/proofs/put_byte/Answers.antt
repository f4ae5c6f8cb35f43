-- `lines::put_byte` meets its contract.
use Rattle.lines.specs.WrittenLaws.{written_one}
use Rattle.lines.proofs.put_byte.Goals as goal

pub returns : goal.returns
returns c = written_one c.args.to.now c.args.at c.args.byte c.requires
