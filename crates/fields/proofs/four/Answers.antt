-- `fields::four` meets its contract: the number of four bytes, the first the highest.
use Rattle.std.proofs.Common.{◌∙◌}
use Rattle.fields.specs.BytesLaws.{number_four}
use Rattle.fields.proofs.four.Goals as goal

pub returns : goal.returns
returns c = c.from_be_bytes.ensures ∙ number_four c.args.bytes.now c.args.at
