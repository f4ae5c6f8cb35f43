use mathlib.Core.Path.{refl}
use native.Mathlib.Omega.{arith}
use Rattle.allocation.proofs.Collecting.{collected_start, can_take, addable, collected_taken, mergeable, collected_whole}
use Rattle.tables.specs.InUseLaws.{sound_paired}
use Rattle.allocation.proofs.take_all.Goals as goal

pub loop-taken-init : goal.loop-taken-init
loop-taken-init c = record { collected = search collected_start; spares = record { same = (refl, refl, refl, refl, refl, refl, refl); info = refl; keys = refl; pointers = refl; multiplicities = refl; windows = refl } }

pub take-requires : goal.take-requires
take-requires c = can_take c.loop-taken.invariant.collected c.loop-taken-test.true

pub insert-requires : goal.insert-requires
insert-requires c = search addable

pub loop-taken-preserved : goal.loop-taken-preserved
loop-taken-preserved c = let s = c.loop-taken.invariant.spares in
    record { collected = search collected_taken; spares = record { same = s.same; info = s.info; keys = s.keys; pointers = s.pointers; multiplicities = s.multiplicities; windows = s.windows } }

pub merge-requires : goal.merge-requires
merge-requires c = let s = c.loop-taken.invariant.spares in
    record {
      mergeable = rw s.pointers (mergeable c.loop-taken.invariant.collected (omega arith));
      paired = rw (s.pointers, s.multiplicities) (sound_paired c.requires.sound);
    }

pub returns-clause-takes : goal.returns-clause-takes
returns-clause-takes c = let s = c.loop-taken.invariant.spares in
    rw (s.keys, s.windows) (collected_whole c.loop-taken.invariant.collected (omega arith) (rw s.info at c.with_used-card.ensures) (rw (s.pointers, s.multiplicities) at c.merge.ensures))
