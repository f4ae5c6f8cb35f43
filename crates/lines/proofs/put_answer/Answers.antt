-- `lines::put_answer` meets its contract.
use Prim.Native.Nat.{◌+◌, ◌≤◌}
use native.Mathlib.Omega.{arith}
use mathlib.Core.Path.{◌≡◌, ap, ◌∙◌}
use lib.ListN.{length}
use Rattle.std.specs.Prelude.{Ok}
use Rattle.card.specs.Answers.{Done, Value}
use Rattle.lines.proofs.AnswersWritten.{room_spaced, answered_refused, answered_done, answered_value}
use Rattle.lines.proofs.put_answer.Goals as goal

pub put_filled-requires : goal.put_filled-requires
put_filled-requires c = let fits : c.args.at + 21 + 1344 ≤ length c.args.to.now = omega arith in
    record { fact_1 = c.requires.fact_1; fact_2 = room_spaced 0 1344 c.put_spaced-next.ensures fits }

pub put_spaced-last-requires : goal.put_spaced-last-requires
put_spaced-last-requires c = let fits : c.args.at + 21 + 21 ≤ length c.args.to.now = omega arith in
    room_spaced 0 21 c.put_spaced-next-in-Ok-Some.ensures fits

pub put_filled-requires-in-Ok-Some : goal.put_filled-requires-in-Ok-Some
put_filled-requires-in-Ok-Some c = let fits : c.args.at + 21 + 1365 ≤ length c.args.to.now = omega (arith, c.requires.fact_2) in
    let more : c.put_spaced-next-in-Ok-Some.result + 21 + 1344 ≤ length c.put_spaced-next-in-Ok-Some.new.to = omega (arith, room_spaced 0 1365 c.put_spaced-next-in-Ok-Some.ensures fits) in
    record { fact_1 = c.requires.fact_1; fact_2 = room_spaced _ 1344 c.put_spaced-last.ensures more }

pub returns-in-Err : goal.returns-in-Err
returns-in-Err c = search answered_refused

pub returns-in-Ok-None : goal.returns-in-Ok-None
returns-in-Ok-None c = let done : c.args.answer ≡ Done = c.in-Ok-None.is ∙ ap Ok (rw c.in-Ok-None.is at c.in-Ok-None.field-0-is) in
    search answered_done

pub returns-in-Ok-Some : goal.returns-in-Ok-Some
returns-in-Ok-Some c = let told : c.args.answer ≡ Value c.in-Ok-Some.v = c.in-Ok-Some.is ∙ ap Ok (rw c.in-Ok-Some.is at c.in-Ok-Some.field-0-is) in
    search answered_value
