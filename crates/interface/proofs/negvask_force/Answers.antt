-- `interface::negvask_force` meets its contract.
use Rattle.interface.proofs.negvask_force.Goals as goal

pub shape_of-info : goal.shape_of-info
shape_of-info c = c.perform_without_buffers.auto.info

pub shape_of-flags : goal.shape_of-flags
shape_of-flags c = c.perform_without_buffers.auto.flags

pub shape_of-keys : goal.shape_of-keys
shape_of-keys c = c.perform_without_buffers.auto.keys

pub shape_of-counts : goal.shape_of-counts
shape_of-counts c = c.perform_without_buffers.auto.counts

pub shape_of-pointers : goal.shape_of-pointers
shape_of-pointers c = c.perform_without_buffers.auto.pointers

pub shape_of-multiplicities : goal.shape_of-multiplicities
shape_of-multiplicities c = c.perform_without_buffers.auto.multiplicities

pub shape_of-windows : goal.shape_of-windows
shape_of-windows c = c.perform_without_buffers.auto.windows

pub shape_of-contents : goal.shape_of-contents
shape_of-contents c = c.perform_without_buffers.auto.contents

pub returns : goal.returns
returns c = rw (← c.force_call-decoding.ensures) c.perform_without_buffers.ensures.does
