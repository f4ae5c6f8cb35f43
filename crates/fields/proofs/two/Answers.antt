-- `fields::two` meets its contract: the number of two bytes, the first the highest.
use Rattle.std.proofs.Common.{◌∙◌}
use Rattle.fields.specs.BytesLaws.{number_two}
use Rattle.fields.proofs.two.Goals as goal

pub returns : goal.returns
returns c = c.from_be_bytes.ensures ∙ number_two c.args.bytes.now c.args.at
