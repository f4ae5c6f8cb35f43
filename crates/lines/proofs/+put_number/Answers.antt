use native.Mathlib.Omega.{arith}
use Rattle.lines.proofs.WrittenPart.{written_small, written_large, room_front, room_one}
use Rattle.lines.proofs.+put_number.Goals as goal

pub put_byte-requires : goal.put_byte-requires
put_byte-requires t c = search room_one

pub returns-then-n-lt10 : goal.returns-then-n-lt10
returns-then-n-lt10 t c = search written_small

pub returns-else-n-lt10 : goal.returns-else-n-lt10
returns-else-n-lt10 t c = search written_large

pub put_number-next-requires : goal.put_number-next-requires
put_number-next-requires t c = (omega (arith, c.decreases, c.if-n-lt10.false), omega (arith, room_front c.args.n c.args.at _ c.if-n-lt10.false c.ranges.n.fits c.requires))

pub put_byte-requires-else-n-lt10 : goal.put_byte-requires-else-n-lt10
put_byte-requires-else-n-lt10 t c =
    omega (arith, room_front c.args.n c.args.at _ c.if-n-lt10.false c.ranges.n.fits c.requires, c.put_number-next.ensures.ends, c.put_number-next.auto.to)
