-- `parameters::decode_at` meets its contract.
use Rattle.records.proofs.Parsing.{parsed_bad_law}
use Rattle.parameters.specs.NumbersLaws.{decodes_nowhere, decodes_at}
use Rattle.parameters.proofs.decode_at.Goals as goal

pub returns-in-Some : goal.returns-in-Some
returns-in-Some c = search decodes_at

pub returns-in-None : goal.returns-in-None
returns-in-None c = search (parsed_bad_law, decodes_nowhere)
