-- `fields::eight` meets its contract: the number of eight bytes, the first the highest.
use Rattle.std.proofs.Common.{◌∙◌}
use Rattle.fields.specs.BytesLaws.{number_eight}
use Rattle.fields.proofs.eight.Goals as goal

pub returns : goal.returns
returns c = c.from_be_bytes.ensures ∙ number_eight c.args.bytes.now c.args.at
