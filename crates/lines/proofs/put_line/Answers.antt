-- `lines::put_line` meets its contract.
use Prim.Native.Nat.{◌+◌, ◌≤◌}
use native.Mathlib.Omega.{arith}
use lib.ListN.{length}
use Rattle.lines.specs.LinesLaws.{decimal_length}
use Rattle.lines.proofs.AnswersWritten.{room_behind, room_spaced, room_last, line_written}
use Rattle.lines.proofs.put_line.Goals as goal

pub put_number-next-requires : goal.put_number-next-requires
put_number-next-requires c = omega (arith, decimal_length c.args.ordinal, c.requires.fact_2)

pub put_spaced-behind-requires : goal.put_spaced-behind-requires
put_spaced-behind-requires c = let fits : c.args.at + 20 + 2028 ≤ length c.args.to.now = omega (arith, c.requires.fact_2) in
    omega (arith, room_behind 20 2028 c.put_number-next.ensures (decimal_length c.args.ordinal) fits)

pub put_answer-last-requires : goal.put_answer-last-requires
put_answer-last-requires c = let fits : c.args.at + 20 + 2028 ≤ length c.args.to.now = omega (arith, c.requires.fact_2) in
    let more : c.put_number-next.result + 21 + 2007 ≤ length c.put_number-next.new.to = omega (arith, room_behind 20 2028 c.put_number-next.ensures (decimal_length c.args.ordinal) fits) in
    record { fact_1 = c.requires.fact_1; fact_2 = omega (arith, room_spaced _ 2007 c.put_spaced-behind.ensures more) }

pub put_byte-requires : goal.put_byte-requires
put_byte-requires c = let fits : c.args.at + 20 + 2028 ≤ length c.args.to.now = omega (arith, c.requires.fact_2) in
    let more : c.put_number-next.result + 21 + 2007 ≤ length c.put_number-next.new.to = omega (arith, room_behind 20 2028 c.put_number-next.ensures (decimal_length c.args.ordinal) fits) in
    let last : c.put_spaced-behind.result + 1386 + 1 ≤ length c.put_spaced-behind.new.to = omega (arith, room_spaced _ 2007 c.put_spaced-behind.ensures more) in
    room_last c.args.ordinal c.args.kind c.args.call c.args.answer c.args.out.now c.args.places.now c.requires.fact_1 c.put_answer-last.ensures last

pub returns : goal.returns
returns c = search line_written
