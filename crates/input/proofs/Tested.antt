-- Each test of a theorem is passed by the right rules.
use Prim.Native.Nat.{ℕ}
use mathlib.Core.Path.{◌≡◌}
use mathlib.Core.Bool.{true}
use mathlib.Core.List.{List}
use Rattle.card.specs.Card.{Card}
use Rattle.input.specs.Play.{Play}
use Rattle.input.specs.Performed.{Manner, PerformedBy}
use Rattle.input.proofs.Rows.{performed_test, performed_tests}

pub performed_tested : {m : Manner} {c : Card} {xs : List ℕ} {room : ℕ} {p : Play} → PerformedBy m 0 c xs room p
    → performed_test m.wire (m.size c.public.info.bytes) c xs p ≡ true
performed_tested q = performed_tests q
