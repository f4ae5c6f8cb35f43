-- `format::format` is FORMAT.
use Prim.Native.Nat.{◌-◌, ◌*◌}
use native.Mathlib.Omega.{arith}
use mathlib.Core.Path.{◌≡◌, ap, ◌∙◌}
use lib.ListN.{length, take}
use lib.Seq.{length-take-le}
use Rattle.format.proofs.Formatting.{front_cleared, shown, format_refused, roots_within, size_low, size_within, format_done}
use Rattle.std.proofs.Common.{rules}
use Rattle.card.specs.Contents.{zeros}
use Rattle.card.specs.Lent.{lent_card}
use Rattle.card.specs.Soundness.{shape}
use Rattle.format.proofs.format.Goals as goal

pub returns-then-not-shaped-clause-performs : goal.returns-then-not-shaped-clause-performs
returns-then-not-shaped-clause-performs c =
    format_refused _ _ _ _ c.fresh-fresh.ensures (c.shaped.ensures ∙ ap shape (shown _ c.shared.ensures)) c.if-not-shaped.true

pub mark_roots-requires : goal.mark_roots-requires
mark_roots-requires c = roots_within (lent_card c.args.card.now) c.fresh-fresh.ensures (c.shaped.ensures ∙ ap shape (shown _ c.shared.ensures)) c.if-not-shaped.false

pub overflow_mul-size : goal.overflow_mul-size
overflow_mul-size c = omega (arith, size_low (lent_card c.args.card.now) c.fresh-fresh.ensures (c.shaped.ensures ∙ ap shape (shown _ c.shared.ensures)) c.if-not-shaped.false)

pub slice_bounds-fill-end-6 : goal.slice_bounds-fill-end-6
slice_bounds-fill-end-6 c =
    let within = size_within (lent_card c.args.card.now) c.fresh-fresh.ensures (c.shaped.ensures ∙ ap shape (shown _ c.shared.ensures)) c.if-not-shaped.false in
    omega (arith, length-take-le _ _ within)

pub returns-clause-performs : goal.returns-clause-performs
returns-clause-performs c =
    let a = c.args.card.now in
    let told = c.shaped.ensures ∙ ap shape (shown _ c.shared.ensures) in
    let keys : c.fill.new.self ≡ zeros (length a.keys.now) = search rules in
    let counts : c.fill-2.new.self ≡ zeros (length a.counts.now) = search rules in
    let pointers : c.fill-3.new.self ≡ zeros (length a.pointers.now) = search rules in
    let multiplicities : c.fill-4.new.self ≡ zeros (length a.multiplicities.now) = search rules in
    let windows : c.fill-5.new.self ≡ zeros (length a.windows.now) = search rules in
    let front : c.fill-6.new.self ≡ zeros (length (take (c.args.roots * c.args.bytes - 0) a.contents.now)) = search rules in
    let contents = front_cleared a.contents.now (c.args.roots * c.args.bytes) front (size_within (lent_card c.args.card.now) c.fresh-fresh.ensures told c.if-not-shaped.false) in
    format_done _ _ _ _ c.fresh-fresh.ensures told c.if-not-shaped.false c.mark_roots.ensures keys counts pointers multiplicities windows contents
