use native.Mathlib.Omega.{arith}
use Rattle.batch.proofs.AnswerBytesLaws.{big_endian_none, big_endian_room, big_endian_more}
use Rattle.batch.proofs.+put_big_endian.Goals as goal

pub overflow_sub-width : goal.overflow_sub-width
overflow_sub-width t c = omega (arith, c.if-width-eq0.false)

pub put_big_endian-next-requires : goal.put_big_endian-next-requires
put_big_endian-next-requires t c = (omega (arith, c.decreases, c.if-width-eq0.false), omega (arith, c.requires, c.if-width-eq0.false))

pub put_byte-requires : goal.put_byte-requires
put_byte-requires t c = search big_endian_room

pub returns-then-width-eq0 : goal.returns-then-width-eq0
returns-then-width-eq0 t c = search big_endian_none

pub returns-else-width-eq0 : goal.returns-else-width-eq0
returns-else-width-eq0 t c = search big_endian_more
