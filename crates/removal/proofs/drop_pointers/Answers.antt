-- `removal::drop_pointers` drops the pointer, and each that starts at a marked block.
use native.Mathlib.Omega.{arith}
use Rattle.removal.proofs.Dropped.{fewer, dropped}
use Rattle.removal.proofs.drop_pointers.Goals as goal

pub blank-requires : goal.blank-requires
blank-requires c = let a = c.args in let k = a.card.now in
    let few = fewer k.info k.counts.now k.pointers.now k.multiplicities.now a.marks.now a.source a.destination c.requires in record { from_le_to = omega (arith, c.close_up-kept.ensures.is_kept, few); to_in_bounds = omega (arith, c.requires.sorted.within); to_in_bounds_2 = omega (arith, c.requires.sorted.within, c.requires.countable.paired.same) }

pub returns-clause-drops : goal.returns-clause-drops
returns-clause-drops c = let a = c.args in let k = a.card.now in
    dropped k.info k.counts.now k.pointers.now k.multiplicities.now a.marks.now a.source a.destination c.requires c.close_up-kept.ensures c.blank.ensures c.with_used-card.ensures _ _ _ _
