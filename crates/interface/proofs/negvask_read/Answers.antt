-- `interface::negvask_read` meets its contract.
use Rattle.adapter.specs.EffectsLaws.{no_places}
use Rattle.interface.proofs.negvask_read.Goals as goal

pub shape_of-info : goal.shape_of-info
shape_of-info c = c.perform.auto.info

pub shape_of-flags : goal.shape_of-flags
shape_of-flags c = c.perform.auto.flags

pub shape_of-keys : goal.shape_of-keys
shape_of-keys c = c.perform.auto.keys

pub shape_of-counts : goal.shape_of-counts
shape_of-counts c = c.perform.auto.counts

pub shape_of-pointers : goal.shape_of-pointers
shape_of-pointers c = c.perform.auto.pointers

pub shape_of-multiplicities : goal.shape_of-multiplicities
shape_of-multiplicities c = c.perform.auto.multiplicities

pub shape_of-windows : goal.shape_of-windows
shape_of-windows c = c.perform.auto.windows

pub shape_of-contents : goal.shape_of-contents
shape_of-contents c = c.perform.auto.contents

pub shape_of-out : goal.shape_of-out
shape_of-out c = c.perform.auto.out

pub returns : goal.returns
returns c = rw (← c.read_at-decoding.ensures) (no_places c.perform.ensures c.perform.auto.places).does
