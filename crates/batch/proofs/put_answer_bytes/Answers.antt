-- `batch::put_answer_bytes` meets its contract.
use mathlib.Core.Path.{◌≡◌, ap, ◌∙◌}
use Rattle.std.specs.Prelude.{Ok}
use Rattle.card.specs.Answers.{Done, Value}
use Rattle.batch.proofs.AnswerBytesLaws.{answer_bytes_refused, done_room, answer_bytes_done, value_room, answer_bytes_value}
use Rattle.batch.proofs.put_answer_bytes.Goals as goal

pub put_filled_bytes-requires : goal.put_filled_bytes-requires
put_filled_bytes-requires c = let done : c.args.answer ≡ Done = c.in-Ok-None.is ∙ ap Ok (rw c.in-Ok-None.is at c.in-Ok-None.field-0-is) in let all = done_room c.args.call c.args.size c.args.places.now c.args.answer c.args.to.now c.args.at c.put_big_endian-next.ensures c.requires.fact_1 c.requires.fact_2 done c.filled_by.ensures in record { fact_1 = all.0; fact_2 = all.1 }

pub put_big_endian-requires-in-Ok-Some : goal.put_big_endian-requires-in-Ok-Some
put_big_endian-requires-in-Ok-Some c = let told : c.args.answer ≡ Value c.in-Ok-Some.v = c.in-Ok-Some.is ∙ ap Ok (rw c.in-Ok-Some.is at c.in-Ok-Some.field-0-is) in
    search value_room

pub returns-in-Err : goal.returns-in-Err
returns-in-Err c = search answer_bytes_refused

pub returns-in-Ok-None : goal.returns-in-Ok-None
returns-in-Ok-None c = let done : c.args.answer ≡ Done = c.in-Ok-None.is ∙ ap Ok (rw c.in-Ok-None.is at c.in-Ok-None.field-0-is) in
    search answer_bytes_done

pub returns-in-Ok-Some : goal.returns-in-Ok-Some
returns-in-Ok-Some c = let told : c.args.answer ≡ Value c.in-Ok-Some.v = c.in-Ok-Some.is ∙ ap Ok (rw c.in-Ok-Some.is at c.in-Ok-Some.field-0-is) in
    search answer_bytes_value
