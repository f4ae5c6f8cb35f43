-- `tables::insert` meets its contract: the pointers from the place on are raised by one, and the new one is put there.
use native.Mathlib.Omega.{arith}
use Rattle.tables.proofs.Shift.{can_raise_one, raised_length, inserted}
use Rattle.tables.proofs.insert.Goals as goal

pub raise-requires : goal.raise-requires
raise-requires c = search can_raise_one

pub offset_bounds-list-at : goal.offset_bounds-list-at
offset_bounds-list-at c = omega (arith, (can_raise_one c.requires c.place-at.ensures).place)

pub bounds-list-at : goal.bounds-list-at
bounds-list-at c = let can = can_raise_one c.requires c.place-at.ensures in
    omega (arith, can.place, can.room, raised_length can)

pub returns : goal.returns
returns c = search inserted
