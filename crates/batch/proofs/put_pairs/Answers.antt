use native.Mathlib.Omega.{arith}
use mathlib.Core.Path.{refl}
use lib.ListN.{length, take}
use Rattle.lines.proofs.WrittenPart.{part_none}
use Rattle.serving.specs.Serve.{pairs}
use Rattle.batch.proofs.AnswerBytesLaws.{pairing_more, pairing_done}
use Rattle.batch.proofs.put_pairs.Goals as goal

pub loop-block-init : goal.loop-block-init
unfolding pairs
loop-block-init c = part_none 2 (length c.args.values.now) (λ k. pairs (take k c.args.values.now)) _ _ refl c.requires

pub put_big_endian-next-requires : goal.put_big_endian-next-requires
put_big_endian-next-requires c = omega (arith, c.loop-block.invariant.room)

pub loop-block-preserved : goal.loop-block-preserved
loop-block-preserved c = search pairing_more

pub shape_of-to : goal.shape_of-to
shape_of-to c = c.loop-block.invariant.kept

pub returns : goal.returns
returns c = search pairing_done
