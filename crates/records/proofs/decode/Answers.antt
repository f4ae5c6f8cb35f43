-- `records::decode` meets its contract: another kind, a body cut short, or the call.
use Rattle.decoding.proofs.DecodeLaws.{cut_short, other_kind}
use Rattle.records.proofs.Parsing.{lengths_known, body_is, body_room, parsed_bad_law, parsed_call}
use Rattle.records.proofs.decode.Goals as goal

pub returns-in_default : goal.returns-in_default
returns-in_default c = search (parsed_bad_law, other_kind)

pub returns-then-body-lengths : goal.returns-then-body-lengths
returns-then-body-lengths c = search (parsed_bad_law, cut_short, body_is, lengths_known)

pub decode_call-requires : goal.decode_call-requires
decode_call-requires c = search (body_room, lengths_known)

pub returns : goal.returns
returns c = search (parsed_call, lengths_known)
