-- `status::tick_sound` is TICK on an audited card.
use native.Mathlib.Omega.{arith}
use Rattle.status.proofs.Ticked.{tick_late, total_fits, tick_done}
use Rattle.status.proofs.tick_sound.Goals as goal

pub returns-then-card-o-clause-performs : goal.returns-then-card-o-clause-performs
returns-then-card-o-clause-performs c = λ port. search tick_late

pub overflow_mul-total : goal.overflow_mul-total
overflow_mul-total c = omega (arith, total_fits _ _ c.requires c.if-card-o.false (rw c.shared.ensures.flags at c.count_rented-rented.ensures))

pub overflow_add-total : goal.overflow_add-total
overflow_add-total c = omega (arith, total_fits _ _ c.requires c.if-card-o.false (rw c.shared.ensures.flags at c.count_rented-rented.ensures))

pub returns-clause-performs : goal.returns-clause-performs
returns-clause-performs c = λ port. tick_done _ c.args.o c.requires c.if-card-o.false (rw c.shared.ensures.flags at c.count_rented-rented.ensures) port c.with_time-card.ensures
