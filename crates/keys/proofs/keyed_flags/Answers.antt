-- `keys::keyed_flags` is the flags byte of the definition.
use native.Mathlib.Omega.{arith}
use Rattle.keys.proofs.Keys.{bit_low, keyed}
use Rattle.keys.proofs.keyed_flags.Goals as goal

pub overflow_add-result : goal.overflow_add-result
overflow_add-result c = omega (arith, bit_low c.args.mode c.is_some.result)

pub overflow_add-result-2 : goal.overflow_add-result-2
overflow_add-result-2 c = omega (arith, bit_low c.args.mode c.is_some.result, bit_low c.other_mode-other.result c.has_key.result)

pub returns : goal.returns
returns c = search keyed
