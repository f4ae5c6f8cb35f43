-- `interface::negvask_alloc_contig` meets its contract.
use Rattle.adapter.specs.EffectsLaws.{no_out}
use Rattle.interface.proofs.negvask_alloc_contig.Goals as goal

pub shape_of-info : goal.shape_of-info
shape_of-info c = c.perform.auto.info

pub shape_of-flags : goal.shape_of-flags
shape_of-flags c = c.perform.auto.flags

pub shape_of-keys : goal.shape_of-keys
shape_of-keys c = c.perform.auto.keys

pub shape_of-counts : goal.shape_of-counts
shape_of-counts c = c.perform.auto.counts

pub shape_of-pointers : goal.shape_of-pointers
shape_of-pointers c = c.perform.auto.pointers

pub shape_of-multiplicities : goal.shape_of-multiplicities
shape_of-multiplicities c = c.perform.auto.multiplicities

pub shape_of-windows : goal.shape_of-windows
shape_of-windows c = c.perform.auto.windows

pub shape_of-contents : goal.shape_of-contents
shape_of-contents c = c.perform.auto.contents

pub shape_of-places : goal.shape_of-places
shape_of-places c = c.perform.auto.places

pub returns : goal.returns
returns c = rw (← c.alloc_contig_at-decoding.ensures) (no_out c.perform.ensures c.perform.auto.out).does
