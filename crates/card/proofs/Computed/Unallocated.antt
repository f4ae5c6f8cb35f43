-- `untouched` and `freed_waits` as tests, which follow from them.
use Prim.Native.Nat.{ℕ}
use mathlib.Core.Bool.{Bool, true, ◌&&◌, ◌||◌, not}
use mathlib.Core.Logic.{◌⊎◌, ⊎_elim}
use mathlib.Core.Path.{◌≡◌, ap}
use lib.Dec.{eqb}
use borrow.Author.Tests.{eq-eqb, not-true}
use Rattle.card.specs.Contents.{zeros}
use Rattle.card.specs.Card.{Card, flag, allocated, waiting, free, block}
use Rattle.card.specs.Session.{is_sweep, Sent, performed}
use Rattle.card.specs.Statements.Unallocated.{LeftAlone, Allotted, Swept, Untouched, FreedWaits}
use Rattle.card.proofs.Computed.Same.{same_list}
use Rattle.card.proofs.Computed.TestLaws.{and_left, and_right, and_true, or_left, or_right, true_same_list}
use Rattle.card.proofs.Computed.Row.{implies, true_implies, Row}

abbrev pub untouched_test : Card → Sent → ℕ → Bool
untouched_test c s b =
    let d = (performed c s).after in
    let zeroed = same_list (block d b) (zeros c.public.info.bytes) in
    implies (not (allocated c.public b))
    ((not (allocated d.public b) && (eqb (flag d.public b) (flag c.public b) && same_list (block d b) (block c b)))
    || ((free c.public b && (allocated d.public b && zeroed)) || (is_sweep s.request.call && (waiting c.public b && (free d.public b && zeroed)))))

pub untouched_tests : Untouched → (c : Card) (s : Sent) (b : ℕ) → untouched_test c s b ≡ true
untouched_tests statement c s b =
    true_implies (not (allocated c.public b)) _
    (λ h.
    let d : Card = (performed c s).after in
    ⊎_elim
    (λ (l : LeftAlone c d b). or_left _ _ (and_true _ _ (ap not l.not_allocated) (and_true _ _ (eq-eqb _ _ l.same_flags) (true_same_list l.same))))
    (λ (touched : Allotted c d b ⊎ Swept s.request.call c d b).
    or_right (not (allocated d.public b) && (eqb (flag d.public b) (flag c.public b) && same_list (block d b) (block c b))) _
    (⊎_elim
    (λ (z : Allotted c d b). or_left _ _ (and_true _ _ z.was_free (and_true _ _ z.is_allocated (true_same_list z.holds_zeros))))
    (λ (z : Swept s.request.call c d b).
    or_right (free c.public b && (allocated d.public b && same_list (block d b) (zeros c.public.info.bytes))) _
    (and_true _ _ z.by_sweep (and_true _ _ z.was_waiting (and_true _ _ z.is_free (true_same_list z.holds_zeros)))))
    touched))
    (statement s.port c s.request b (not-true _ h)))

abbrev pub untouched_row : Card → Sent → ℕ → Row Untouched
untouched_row c s b = record { test = untouched_test c s b; follows = λ statement. untouched_tests statement c s b }

abbrev pub freed_waits_test : Card → Sent → ℕ → Bool
freed_waits_test c s b =
    let d = (performed c s).after in
    implies (allocated c.public b && not (allocated d.public b)) (waiting d.public b && same_list (block d b) (block c b))

pub freed_waits_tests : FreedWaits → (c : Card) (s : Sent) (b : ℕ) → freed_waits_test c s b ≡ true
freed_waits_tests freed_waits c s b =
    true_implies (allocated c.public b && not (allocated (performed c s).after.public b)) _
    (λ h.
    let w = freed_waits s.port c s.request b (and_left _ _ h) (not-true _ (and_right (allocated c.public b) _ h)) in
    and_true _ _ w.waits (true_same_list w.same))

abbrev pub freed_waits_row : (c : Card) (s : Sent) (b : ℕ) → Row FreedWaits
freed_waits_row c s b = record { test = freed_waits_test c s b; follows = λ statement. freed_waits_tests statement c s b }
