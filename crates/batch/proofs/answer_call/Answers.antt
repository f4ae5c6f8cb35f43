-- `batch::answer_call` meets its contract.
use native.Mathlib.Omega.{arith}
use Rattle.batch.proofs.Answered.{part_within, answer_room_law, answered}
use Rattle.batch.proofs.answer_call.Goals as goal

pub overflow_add-end : goal.overflow_add-end
overflow_add-end c = omega (arith, part_within c.args.card.now.info.bytes c.args.call c.args.at c.lent_size-size.ensures c.requires.has_room)

pub slice_bounds-perform_judged-end : goal.slice_bounds-perform_judged-end
slice_bounds-perform_judged-end c = search part_within

pub put_answer_bytes-requires : goal.put_answer_bytes-requires
put_answer_bytes-requires c = let all = answer_room_law c.args.port _ c.args.call c.args.payload.now c.args.to.now c.args.at c.lent_size-size.ensures c.requires.has_room c.perform_judged-answer.ensures.performs c.perform_judged-answer.auto.out c.perform_judged-answer.auto.places in record { fact_1 = all.0; fact_2 = all.1 }

pub returns-clause-writes : goal.returns-clause-writes
returns-clause-writes c = answered c.args.port _ c.args.call c.args.payload.now c.args.to.now c.args.at c.lent_size-size.ensures c.requires.has_room c.perform_judged-answer.ensures.performs c.perform_judged-answer.auto.out c.perform_judged-answer.auto.places c.put_answer_bytes.ensures
