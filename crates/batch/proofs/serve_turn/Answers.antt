-- `batch::serve_turn` meets its contract.
use native.Mathlib.Omega.{arith}
use Rattle.input.proofs.FoundLaws.{whole_within}
use Rattle.batch.proofs.TurnServed.{nothing_served, full_served, whole_served}
use Rattle.batch.proofs.serve_turn.Goals as goal

pub returns-then-to-at-clause-turns : goal.returns-then-to-at-clause-turns
returns-then-to-at-clause-turns c = search full_served

pub slice_bounds-payload-count : goal.slice_bounds-payload-count
slice_bounds-payload-count c = (whole_within c.args.wire c.args.input.now c.args.from c.find.ensures c.in-Ok.is).0

pub slice_bounds-payload-start : goal.slice_bounds-payload-start
slice_bounds-payload-start c = (whole_within c.args.wire c.args.input.now c.args.from c.find.ensures c.in-Ok.is).0

pub slice_bounds-payload-end : goal.slice_bounds-payload-end
slice_bounds-payload-end c = (whole_within c.args.wire c.args.input.now c.args.from c.find.ensures c.in-Ok.is).1

pub answer_call-behind-requires : goal.answer_call-behind-requires
answer_call-behind-requires c = record { judged = c.requires.judged; has_room = omega (arith, c.if-to-at.false, c.room_of-room.ensures, c.requires.in_output) }

pub returns-in-Err-clause-turns : goal.returns-in-Err-clause-turns
returns-in-Err-clause-turns c = search nothing_served

pub returns-else-to-at-clause-turns : goal.returns-else-to-at-clause-turns
returns-else-to-at-clause-turns c = whole_served c.args.wire _ c.args.input.now c.args.from c.requires.in_input c.args.to.now c.args.at c.find.ensures c.in-Ok.is c.room_of-room.ensures c.if-to-at.false c.answer_call-behind.ensures.writes
