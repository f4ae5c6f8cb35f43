-- Laws of what the checks of a call find.
use Rattle.std.specs.Prelude.{ℕ, ◌≡◌, refl, List, Option, None, Some, Ok, Err}
use Rattle.std.proofs.Common.{sym, ap, ◌∙◌, arith}
use Rattle.card.specs.Card.{Card}
use Rattle.card.specs.Plan.{Check, first, FirstHolds, NoneHolds}
use Rattle.laws.specs.PlanLaws.{holds_first, none_first, first_holds, first_none}
use Rattle.card.specs.Session.{Request}
use Rattle.card.specs.declared.Port.{Port}
use Rattle.card.specs.declared.Refusal.{Refusal}
use Rattle.checks.specs.Checked.{Checked, by_refusal, checked, Refuses, Passes}

by_refusal_none : (o : Option Refusal) → by_refusal o ≡ Ok tt → o ≡ None
unfolding by_refusal
by_refusal_none None e = refl
by_refusal_none (Some r) e = let z : ◌≡◌ {A = ℕ} 0 1 = cc in absurd (omega arith)

by_refusal_some : (o : Option Refusal) (r : Refusal) → by_refusal o ≡ Err r → o ≡ Some r
unfolding by_refusal
by_refusal_some None r e = let z : ◌≡◌ {A = ℕ} 0 1 = cc in absurd (omega arith)
by_refusal_some (Some s) r e = cc

-- ---- of any checks

pub checks_refused : {checks : List Check} {r : Refusal} → FirstHolds checks r → Err r ≡ by_refusal (first checks)
unfolding by_refusal
checks_refused h = sym (ap by_refusal (holds_first h))

pub checks_passed : (checks : List Check) → NoneHolds checks → Ok tt ≡ by_refusal (first checks)
unfolding by_refusal
checks_passed checks h = sym (ap by_refusal (none_first checks h))

module _ (checks : List Check) {v : Checked} (e : v ≡ by_refusal (first checks)) where
  pub refused_checks : {r : Refusal} → v ≡ Err r → FirstHolds checks r
  refused_checks {r} f = first_holds checks r (by_refusal_some (first checks) r (sym e ∙ f))

  pub passed_checks : v ≡ Ok tt → NoneHolds checks
  passed_checks f = first_none checks (by_refusal_none (first checks) (sym e ∙ f))

-- ---- of a call

module _ (port : Port) (c : Card) (q : Request) where
  pub check_refused : {r : Refusal} → Refuses port c q r → Err r ≡ checked port c q
  unfolding checked
  check_refused h = checks_refused h

  pub check_passed : Passes port c q → Ok tt ≡ checked port c q
  unfolding checked
  check_passed h = checks_passed _ h

  module _ {v : Checked} (e : v ≡ checked port c q) where
    pub refused_check : {r : Refusal} → v ≡ Err r → Refuses port c q r
    unfolding checked
    refused_check f = refused_checks _ e f

    pub passed_check : v ≡ Ok tt → Passes port c q
    unfolding checked
    passed_check f = passed_checks _ e f
