-- `records::decode_renew` meets its contract.
use mathlib.Core.Path.{refl}
use Rattle.decoding.specs.Decode.{call_of, renew_operands}
use Rattle.decoding.proofs.DecodeLaws.{renew}
use Rattle.records.proofs.decode_renew.Goals as goal

pub returns : goal.returns
unfolding call_of renew_operands
returns c = λ port. renew port _ refl c.two.ensures c.eight.ensures c.eight-2.ensures c.four.ensures
