-- `refusal_unchanged`, `refused_iff` and `ports_alike` as tests, which follow from them.
use Rattle.std.specs.Prelude.{Some, None, Ok, Err}
use Prim.Native.Nat.{ℕ}
use mathlib.Core.Bool.{Bool, true, false, not, cond}
use mathlib.Core.List.{List, [], ◌∷◌}
use mathlib.Core.Logic.{◌⊎◌, inl, inr, ⊎_elim}
use mathlib.Core.Path.{◌≡◌, refl, sym, ap, ◌∙◌}
use lib.Dec.{eqb}
use borrow.Author.Tests.{eq-eqb}
use Rattle.card.specs.Card.{Card}
use Rattle.card.specs.Plan.{Check, ◌⇒◌, FirstHolds, here, later, NoneHolds, Buffers, Result}
use Rattle.card.specs.Calls.{refusal_number, answer_number, is_done, answer_values}
use Rattle.card.specs.Session.{EitherPort, refusals, perform, Sent, performed}
use Rattle.card.specs.Statements.Refusals.{Unchanged, RefusalUnchanged, RefusedBy, RefusedByFirst, RefusedIff, PortsAlike}
use Rattle.card.specs.declared.Port.{Port}
use Rattle.card.specs.declared.Port.TheVariants.{Host, Service}
use Rattle.card.specs.declared.Refusal.{Refusal}
use Rattle.card.specs.Answers.{Answer}
use Rattle.card.specs.declared.Call.{Call}
use Rattle.card.proofs.Computed.Same.{same_lists, card_numbers}
use Rattle.card.proofs.Computed.TestLaws.{or_left, or_right, absurd_test, true_same_lists}
use Rattle.card.proofs.Computed.Row.{implies, Row}

-- ---- refusal_unchanged

abbrev pub left_by : Card → List ℕ → List ℕ → List (List ℕ)
left_by c out places = out ∷ places ∷ card_numbers c

abbrev pub refusal_unchanged_test : Card → Sent → Bool
refusal_unchanged_test c s =
    let r = performed c s in
    let lent = s.request.lent in
    implies (not (is_done r.answer)) (same_lists (left_by r.after r.out r.places) (left_by c lent.out lent.places))

unchanged_left : {c : Card} {lent : Buffers} {r : Result} → Unchanged c lent r
    → same_lists (left_by r.after r.out r.places) (left_by c lent.out lent.places) ≡ true
unchanged_left u = true_same_lists (λ k. left_by (u.after k) (u.out k) (u.places k))

pub refusal_unchanged_tests : RefusalUnchanged → (c : Card) (s : Sent) → refusal_unchanged_test c s ≡ true
refusal_unchanged_tests statement c s = go (performed c s).answer refl
  where
    go : (a : Answer) → (performed c s).answer ≡ a → refusal_unchanged_test c s ≡ true
    go (Err r) e = or_right (not (not (is_done (performed c s).answer))) _ (unchanged_left (statement s.port c s.request r e))
    go (Ok None) e = or_left _ _ (ap (λ (a : Answer). not (not (is_done a))) e)
    go (Ok (Some v)) e = or_left _ _ (ap (λ (a : Answer). not (not (is_done a))) e)

abbrev pub refusal_unchanged_row : Card → Sent → Row RefusalUnchanged
refusal_unchanged_row c s = record { test = refusal_unchanged_test c s; follows = λ statement. refusal_unchanged_tests statement c s }

-- ---- refused_iff

-- The number of the first condition that holds, or 0. It is worked out apart from the rules' own `first`.
unfoldable pub first_number : List Check → ℕ
first_number [] = 0
first_number ((test ⇒ r) ∷ checks) = cond test (refusal_number r) (first_number checks)

abbrev pub refused_iff_test : Card → Sent → Bool
refused_iff_test c s = eqb (answer_number (performed c s).answer) (first_number (refusals s.port c s.request))

-- The first condition that holds, with its number; or that none does.
record FirstIs (checks : List Check) : Type 0 where
  pub refusal : Refusal
  pub holds : FirstHolds checks refusal
  pub number : first_number checks ≡ refusal_number refusal

record NoneIs (checks : List Check) : Type 0 where
  pub none : NoneHolds checks
  pub number : first_number checks ≡ 0

first_or_none : (checks : List Check) → FirstIs checks ⊎ NoneIs checks
unfolding first_number
first_or_none [] = inr (record { none = tt; number = refl })
first_or_none ((true ⇒ r) ∷ checks) = inl (record { refusal = r; holds = here refl; number = refl })
first_or_none ((false ⇒ r) ∷ checks) =
    ⊎_elim
    (λ (f : FirstIs checks). inl (record { refusal = f.refusal; holds = later refl f.holds; number = f.number }))
    (λ (n : NoneIs checks). inr (record { none = (refl, n.none); number = n.number }))
    (first_or_none checks)

done_number : (a : Answer) → is_done a ≡ true → answer_number a ≡ 0
done_number (Err r) e = absurd_test e refl
done_number (Ok None) e = refl
done_number (Ok (Some v)) e = refl

-- What a list of checks answers is the number of the first that holds.
pub refused_by_tests : {checks : List Check} {a : Answer} → RefusedBy checks a → eqb (answer_number a) (first_number checks) ≡ true
refused_by_tests {checks} {a} by =
    ⊎_elim
    (λ (f : FirstIs checks). eq-eqb _ _ (ap answer_number ((by.refused_iff f.refusal).1 f.holds) ∙ sym f.number))
    (λ (n : NoneIs checks). eq-eqb _ _ (done_number a (by.done_iff.1 n.none) ∙ sym n.number))
    (first_or_none checks)

pub refused_iff_tests : RefusedIff → (c : Card) (s : Sent) → refused_iff_test c s ≡ true
refused_iff_tests statement c s =
    let by : RefusedByFirst s.port c s.request = statement s.port c s.request in
    refused_by_tests (record { refused_iff = by.refused_iff; done_iff = by.done_iff })

abbrev pub refused_iff_row : Card → Sent → Row RefusedIff
refused_iff_row c s = record { test = refused_iff_test c s; follows = λ statement. refused_iff_tests statement c s }

-- ---- ports_alike

-- What a call answers and leaves at a port.
abbrev pub answered_at : Port → Card → Call → Buffers → List (List ℕ)
answered_at port c call lent =
    let r = perform port c (record { call = call; lent = lent }) in
    (answer_number r.answer ∷ answer_values r.answer) ∷ left_by r.after r.out r.places

abbrev pub ports_alike_test : Card → Call → Buffers → Bool
ports_alike_test c call lent = same_lists (answered_at Host c call lent) (answered_at Service c call lent)

pub ports_alike_tests : PortsAlike → (call : Call) → EitherPort call → (c : Card) (lent : Buffers) → ports_alike_test c call lent ≡ true
ports_alike_tests ports_alike call either c lent =
    true_same_lists
    (ap (λ (r : Result). (answer_number r.answer ∷ answer_values r.answer) ∷ left_by r.after r.out r.places) (ports_alike call either Host Service c lent))

abbrev pub ports_alike_row : {call : Call} → EitherPort call → (c : Card) (lent : Buffers) → Row PortsAlike
ports_alike_row {call} either c lent = record { test = ports_alike_test c call lent; follows = λ statement. ports_alike_tests statement call either c lent }
