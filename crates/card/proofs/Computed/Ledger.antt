-- `made_and_taken`, `ledger` and `counts_ledger` as tests, which follow from them.
use Prim.Native.Nat.{ℕ, ◌+◌}
use mathlib.Core.Bool.{Bool, true, ◌&&◌}
use mathlib.Core.List.{List}
use mathlib.Core.Path.{◌≡◌}
use lib.Dec.{eqb, ltb}
use borrow.Author.Tests.{eq-eqb, ltb-true}
use Rattle.card.specs.Lists.{sum_below}
use Rattle.card.specs.Card.{Card, count, multiplicity}
use Rattle.card.specs.Session.{Sent, reply, performed, after_all}
use Rattle.card.specs.Ledger.{made, taken, made_in_all, taken_in_all}
use Rattle.card.specs.Statements.Ledger.{MadeAndTaken, Ledger, CountsLedger}
use Rattle.card.proofs.Computed.TestLaws.{and_left, and_right}
use Rattle.card.proofs.Computed.Row.{implies, true_implies, Row}
use Rattle.card.proofs.Computed.SoundLaws.{is_sound, is_sound_true}

abbrev pub made_and_taken_test : Card → Sent → ℕ → ℕ → Bool
made_and_taken_test c s a b =
    let r = performed c s in
    let call = s.request.call in
    implies (ltb b 65536)
    (eqb (multiplicity r.after.public a b + taken c call (reply r) a b) (multiplicity c.public a b + made call (reply r) a b))

abbrev pub ledger_test : Card → List Sent → ℕ → ℕ → Bool
ledger_test c ss a b =
    implies (ltb b 65536) (eqb (multiplicity (after_all c ss).public a b + taken_in_all c ss a b) (multiplicity c.public a b + made_in_all c ss a b))

abbrev pub counts_ledger_test : Card → List Sent → ℕ → Bool
counts_ledger_test c ss b =
    let n = c.public.info.blocks in
    implies (is_sound c && ltb b n)
    (eqb (count (after_all c ss).public b + sum_below (λ a. taken_in_all c ss a b) n) (count c.public b + sum_below (λ a. made_in_all c ss a b) n))

pub made_and_taken_tests : MadeAndTaken → (c : Card) (s : Sent) (a b : ℕ) → made_and_taken_test c s a b ≡ true
made_and_taken_tests made_and_taken c s a b = true_implies (ltb b 65536) _ (λ h. eq-eqb _ _ (made_and_taken s.port c s.request a b (ltb-true _ _ h)))

abbrev pub made_and_taken_row : (c : Card) (s : Sent) (a b : ℕ) → Row MadeAndTaken
made_and_taken_row c s a b = record { test = made_and_taken_test c s a b; follows = λ statement. made_and_taken_tests statement c s a b }

pub ledger_tests : Ledger → (c : Card) (ss : List Sent) (a b : ℕ) → ledger_test c ss a b ≡ true
ledger_tests ledger c ss a b = true_implies (ltb b 65536) _ (λ h. eq-eqb _ _ (ledger c ss a b (ltb-true _ _ h)))

abbrev pub ledger_row : (c : Card) (ss : List Sent) (a b : ℕ) → Row Ledger
ledger_row c ss a b = record { test = ledger_test c ss a b; follows = λ statement. ledger_tests statement c ss a b }

pub counts_ledger_tests : CountsLedger → (c : Card) (ss : List Sent) (b : ℕ) → counts_ledger_test c ss b ≡ true
counts_ledger_tests counts_ledger c ss b =
    true_implies (is_sound c && ltb b c.public.info.blocks) _
    (λ h. eq-eqb _ _ (counts_ledger c ss (is_sound_true (and_left _ _ h)) b (ltb-true _ _ (and_right (is_sound c) _ h))))

abbrev pub counts_ledger_row : (c : Card) (ss : List Sent) (b : ℕ) → Row CountsLedger
counts_ledger_row c ss b = record { test = counts_ledger_test c ss b; follows = λ statement. counts_ledger_tests statement c ss b }
