-- `interface::negvask_serve` meets its contract.
use Rattle.adapter.specs.EffectsLaws.{of_record}
use Rattle.interface.proofs.negvask_serve.Goals as goal

pub shape_of-info : goal.shape_of-info
shape_of-info c = c.perform.auto.info

pub shape_of-flags : goal.shape_of-flags
shape_of-flags c = c.perform.auto.flags

pub shape_of-keys : goal.shape_of-keys
shape_of-keys c = c.perform.auto.keys

pub shape_of-counts : goal.shape_of-counts
shape_of-counts c = c.perform.auto.counts

pub shape_of-pointers : goal.shape_of-pointers
shape_of-pointers c = c.perform.auto.pointers

pub shape_of-multiplicities : goal.shape_of-multiplicities
shape_of-multiplicities c = c.perform.auto.multiplicities

pub shape_of-windows : goal.shape_of-windows
shape_of-windows c = c.perform.auto.windows

pub shape_of-contents : goal.shape_of-contents
shape_of-contents c = c.perform.auto.contents

pub shape_of-out : goal.shape_of-out
shape_of-out c = c.perform.auto.out

pub shape_of-places : goal.shape_of-places
shape_of-places c = c.perform.auto.places

pub returns : goal.returns
returns c = of_record c.args.body.now c.args.out.now c.args.places.now c.args.value.now c.args.info.now _ c.decode_at-parsed.ensures c.perform.ensures
