-- `window_set_by`, `window_later`, `interval_zero_kept` and `windows_kept` as tests, which follow from them.
use Prim.Native.Nat.{ℕ, ◌+◌, max}
use mathlib.Core.Bool.{Bool, true, false, ◌&&◌, ◌||◌, not}
use mathlib.Core.Logic.{⊎_elim}
use mathlib.Core.Path.{◌≡◌, refl, ap}
use lib.Dec.{eqb, ltb}
use native.Mathlib.Omega.{arith}
use borrow.Author.Tests.{eqb-true, eq-eqb, ltb-true, eqb-false, not-true}
use Rattle.card.specs.Card.{Public, Card, allocated, window_end}
use Rattle.card.specs.Calls.{is_done}
use Rattle.card.specs.Session.{port_of, Sent, performed}
use Rattle.card.specs.Statements.Windows.{SetsWindow, SetBy, WindowSetBy, WindowLater, IntervalZeroKept, Shortens, by_force, by_key_read, by_key_write, by_freeing, WindowsKept}
use Rattle.card.specs.declared.Port.{Port}
use Rattle.card.specs.declared.Port.TheVariants.{Host, Service}
use Rattle.card.specs.declared.Mode.{Mode}
use Rattle.card.specs.declared.Call.{Call}
use Rattle.card.specs.declared.Call.TheVariants.{Delete, Renew, Force, Free, Tick, Sweep, Read, Write, Alloc, AllocContig, Create, DeleteTree, KeyRead, KeyWrite, Audit, Rent}
use Rattle.card.proofs.Computed.Same.{same_list}
use Rattle.card.proofs.Computed.TestLaws.{and_left, and_right, and_true, or_left, or_right, absurd_test, true_same_list}
use Rattle.card.proofs.Computed.Row.{implies, true_implies, Row}

abbrev pub is_host : Port → Bool
is_host Host = true
is_host Service = false

-- A window that is left with another end, and not 0, was set by a done call that is judged as a host's.
abbrev pub window_set_by_test : Card → Sent → Mode → ℕ → Bool
window_set_by_test c s m b =
    let r = performed c s in
    eqb (window_end r.after.public m b) (window_end c.public m b)
    || (eqb (window_end r.after.public m b) 0 || (is_host (port_of s.port s.request.call) && is_done r.answer))

-- Done for a host by an interval that is not 0, it leaves the later end.
abbrev pub window_later_test : (c : Card) (s : Sent) {m : Mode} {b interval : ℕ} → SetsWindow s.request.call m b interval → Bool
window_later_test c s {m} {b} {interval} sets =
    let r = performed c s in
    implies (is_host (port_of s.port s.request.call) && (not (eqb interval 0) && is_done r.answer))
    (eqb (window_end r.after.public m b) (max (window_end c.public m b) (c.public.info.time + interval)))

-- By an interval of 0, it leaves all windows.
abbrev pub interval_zero_kept_test : (c : Card) (s : Sent) {m : Mode} {b interval : ℕ} → SetsWindow s.request.call m b interval → Bool
interval_zero_kept_test c s {m} {b} {interval} sets = implies (eqb interval 0) (same_list (performed c s).after.public.windows c.public.windows)

-- FORCE or a key change of the block.
abbrev pub closes_block : Call → ℕ → Bool
closes_block (Read o) b = false
closes_block (Write o) b = false
closes_block (Alloc o) b = false
closes_block (AllocContig o) b = false
closes_block (Create o) b = false
closes_block (Delete o) b = false
closes_block (DeleteTree o) b = false
closes_block (KeyRead o) b = eqb o.block b
closes_block (KeyWrite o) b = eqb o.block b
closes_block (Renew o) b = false
closes_block (Force o) b = eqb o.block b
closes_block Free b = false
closes_block (Tick o) b = false
closes_block Audit b = false
closes_block (Rent o) b = false
closes_block (Sweep o) b = false

abbrev pub ends_sooner : Card → Card → Mode → ℕ → Bool
ends_sooner c d m b = ltb (window_end d.public m b) (window_end c.public m b)

abbrev pub windows_kept_test : Card → Sent → Mode → ℕ → Bool
windows_kept_test c s m b =
    let d = (performed c s).after in
    implies (ends_sooner c d m b) (closes_block s.request.call b || (allocated c.public b && not (allocated d.public b)))

pub window_set_by_tests : WindowSetBy → (c : Card) (s : Sent) (m : Mode) (b : ℕ) → window_set_by_test c s m b ≡ true
window_set_by_tests window_set_by c s m b =
    go (eqb (window_end (performed c s).after.public m b) (window_end c.public m b)) (eqb (window_end (performed c s).after.public m b) 0) refl refl
  where
    go : (same zeroed : Bool) → eqb (window_end (performed c s).after.public m b) (window_end c.public m b) ≡ same
        → eqb (window_end (performed c s).after.public m b) 0 ≡ zeroed
        → same || (zeroed || (is_host (port_of s.port s.request.call) && is_done (performed c s).answer)) ≡ true
    go true zeroed e f = refl
    go false true e f = refl
    go false false e f =
        let set : SetBy s.port c s.request.call (performed c s) m b = window_set_by s.port c s.request m b (eqb-false _ _ e) (eqb-false _ _ f) in
        and_true _ _ (ap is_host set.at_host) (ap is_done set.answer)

is_host_true : (port : Port) → is_host port ≡ true → port ≡ Host
is_host_true Host e = refl
is_host_true Service e = absurd_test e refl

pub window_later_tests : WindowLater → (c : Card) (s : Sent) (m : Mode) (b interval : ℕ) (sets : SetsWindow s.request.call m b interval) → window_later_test c s sets ≡ true
window_later_tests window_later c s m b interval sets =
    true_implies (is_host (port_of s.port s.request.call) && (not (eqb interval 0) && is_done (performed c s).answer)) _
    (λ h.
    let rest : not (eqb interval 0) && is_done (performed c s).answer ≡ true = and_right (is_host (port_of s.port s.request.call)) _ h in
    eq-eqb _ _
    (window_later s.port c s.request m b interval sets
    (is_host_true _ (and_left _ _ h))
    (eqb-false interval 0 (not-true _ (and_left _ _ rest)))
    (and_right (not (eqb interval 0)) _ rest)))

pub interval_zero_kept_tests : IntervalZeroKept → (c : Card) (s : Sent) (m : Mode) (b interval : ℕ) (sets : SetsWindow s.request.call m b interval) → interval_zero_kept_test c s sets ≡ true
interval_zero_kept_tests interval_zero_kept c s m b interval sets =
    true_implies (eqb interval 0) _ (λ z. true_same_list (interval_zero_kept s.port c s.request m b interval sets (eqb-true interval 0 z)))

shortens_closes : {p q : Public} {b : ℕ} {call : Call} → Shortens p q b call → closes_block call b || (allocated p b && not (allocated q b)) ≡ true
shortens_closes (by_force o e) = or_left _ _ (eq-eqb _ _ e)
shortens_closes (by_key_read o e) = or_left _ _ (eq-eqb _ _ e)
shortens_closes (by_key_write o e) = or_left _ _ (eq-eqb _ _ e)
shortens_closes {b = b} (by_freeing {call = call} held free) = or_right (closes_block call b) _ (and_true _ _ held (ap not free))

pub windows_kept_tests : WindowsKept → (c : Card) (s : Sent) (m : Mode) (b : ℕ) → windows_kept_test c s m b ≡ true
windows_kept_tests windows_kept c s m b =
    true_implies (ends_sooner c (performed c s).after m b) _
    (λ sooner.
    let below = ltb-true (window_end (performed c s).after.public m b) (window_end c.public m b) sooner in
    ⊎_elim (λ kept. absurd (omega (arith, kept, below))) shortens_closes (windows_kept s.port c s.request m b))

abbrev pub window_set_by_row : (c : Card) (s : Sent) (m : Mode) (b : ℕ) → Row WindowSetBy
window_set_by_row c s m b = record { test = window_set_by_test c s m b; follows = λ statement. window_set_by_tests statement c s m b }

abbrev pub window_later_row : (c : Card) (s : Sent) {m : Mode} {b interval : ℕ} → SetsWindow s.request.call m b interval → Row WindowLater
window_later_row c s {m} {b} {interval} sets = record { test = window_later_test c s sets; follows = λ statement. window_later_tests statement c s m b interval sets }

abbrev pub interval_zero_kept_row : (c : Card) (s : Sent) {m : Mode} {b interval : ℕ} → SetsWindow s.request.call m b interval → Row IntervalZeroKept
interval_zero_kept_row c s {m} {b} {interval} sets = record { test = interval_zero_kept_test c s sets; follows = λ statement. interval_zero_kept_tests statement c s m b interval sets }

abbrev pub windows_kept_row : (c : Card) (s : Sent) (m : Mode) (b : ℕ) → Row WindowsKept
windows_kept_row c s m b = record { test = windows_kept_test c s m b; follows = λ statement. windows_kept_tests statement c s m b }
