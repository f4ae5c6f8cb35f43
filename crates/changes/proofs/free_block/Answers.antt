-- `changes::free_block` is the change of the card that frees a block.
use mathlib.Core.Path.{◌≡◌}
use Prim.Native.Nat.{◌+◌, ◌-◌, ◌*◌}
use lib.ListN.{length, take, drop}
use Rattle.std.proofs.Common.{rules}
use Rattle.card.specs.Contents.{zeros}
use Rattle.changes.proofs.Changes.{keys_cleared, windows_cleared, freed}
use Rattle.changes.proofs.free_block.Goals as goal

pub returns : goal.returns
returns c =
    let b = c.args.block in
    let keys : c.fill.new.self ≡ zeros (length (take (4 * b + 4 - 4 * b) (drop (4 * b) c.args.keys.now))) = search rules in
    let windows : c.fill-2.new.self ≡ zeros (length (take (2 * b + 2 - 2 * b) (drop (2 * b) c.args.windows.now))) = search rules in
    freed _ _ _ b (keys_cleared b _ c.requires.block_in_bounds_2 keys) (windows_cleared b _ c.requires.block_in_bounds_3 windows)
