use mathlib.Core.Path.{◌≡◌}
use Prim.Native.Nat.{◌+◌, ◌-◌}
use lib.ListN.{take, drop, get_or}
use Rattle.std.proofs.Common.{rules}
use Rattle.std.specs.Prelude.{IsTrue, ◌↔◌, EachIndex}
use Rattle.fields.proofs.Filler.{filler_zeroed}
use Rattle.fields.proofs.zeroed.Goals as goal

pub returns : goal.returns
returns c =
    let part = take (c.args.at + c.args.count - c.args.at) (drop c.args.at c.args.bytes.now) in
    let told : IsTrue c.all.result ↔ EachIndex part (λ k. get_or part k 0 ≡ 0) = search rules in
    filler_zeroed c.args.at c.args.count c.args.bytes.now c.requires told
