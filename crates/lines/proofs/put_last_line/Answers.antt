-- `lines::put_last_line` meets its contract.
use Prim.Native.Nat.{◌+◌, ◌≤◌}
use native.Mathlib.Omega.{arith}
use lib.ListN.{length}
use Rattle.lines.proofs.AnswersWritten.{room_behind, room_spaced, last_line_written}
use Rattle.lines.proofs.put_last_line.Goals as goal

pub put_spaced-last-requires : goal.put_spaced-last-requires
put_spaced-last-requires c = let fits : c.args.at + 3 + 2045 ≤ length c.args.to.now = omega (arith, c.requires) in
    let more : c.put_text-next.result + 21 + 2024 ≤ length c.put_text-next.new.to = omega (arith, room_behind 3 2045 c.put_text-next.ensures (omega arith) fits) in
    omega (arith, room_spaced _ 2024 c.put_spaced-behind.ensures more)

pub put_byte-requires : goal.put_byte-requires
put_byte-requires c = let fits : c.args.at + 3 + 2045 ≤ length c.args.to.now = omega (arith, c.requires) in
    let more : c.put_text-next.result + 21 + 2024 ≤ length c.put_text-next.new.to = omega (arith, room_behind 3 2045 c.put_text-next.ensures (omega arith) fits) in
    let last : c.put_spaced-behind.result + 21 + 2003 ≤ length c.put_spaced-behind.new.to = omega (arith, room_spaced _ 2024 c.put_spaced-behind.ensures more) in
    omega (arith, room_spaced _ 2003 c.put_spaced-last.ensures last)

pub returns : goal.returns
returns c = search last_line_written
