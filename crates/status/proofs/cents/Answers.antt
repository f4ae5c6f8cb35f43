-- `status::cents` is the cents of a total at a price.
use borrow.Author.Rules.{rules}
use native.Mathlib.Omega.{arith}
use Rattle.status.proofs.Rounding.{parts_fit, rounded_cents}
use Rattle.status.proofs.cents.Goals as goal

pub overflow_mul-total : goal.overflow_mul-total
overflow_mul-total c = omega (arith, parts_fit c.requires.fact_1 c.requires.fact_2)

pub rounded-requires : goal.rounded-requires
rounded-requires c = search (parts_fit, rules)

pub returns : goal.returns
returns c = search rounded_cents
