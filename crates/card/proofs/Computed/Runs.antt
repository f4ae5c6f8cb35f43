-- `run_found`, `run_adjoins` and `run_nearest` as tests, which follow from them.
use Rattle.std.specs.Prelude.{Some, None, Ok, Err}
use native.Mathlib.Omega.{arith}
use Prim.Native.Nat.{ℕ, ◌-◌, ◌+◌, ◌≤◌}
use mathlib.Core.Bool.{Bool, true, ◌&&◌, not}
use mathlib.Core.List.{List, [], ◌∷◌}
use mathlib.Core.Path.{◌≡◌, refl, subst, ap}
use lib.Dec.{eqb, ltb, leb}
use lib.ListN.{length, take, get_or}
use borrow.Author.Tests.{eqb-true, eq-eqb, lt-ltb, ltb-true, le-leb, leb-true, eqb-false, not-true}
use Rattle.card.specs.Lists.{all_below}
use Rattle.card.specs.Card.{Card, flag, free, free_blocks}
use Rattle.card.specs.Plan.{Check, ◌⇒◌, NoneHolds, Buffers, Result}
use Rattle.card.specs.Calls.{refusal_number, answer_number, is_done, no_hint, distance}
use Rattle.card.specs.Session.{refusals, perform}
use Rattle.card.specs.Statements.Runs.{contig, Run, RunFound, RunAdjoins, RunNearest}
use Rattle.card.specs.declared.Port.{Port}
use Rattle.card.specs.declared.Refusal.{Refusal}
use Rattle.card.specs.declared.Refusal.TheVariants.{Misshapen, Unsound, NotAllocated, BadOperand, NotOpened, IsRoot, CannotPoint, NoPointer, HasPointers, TooFewBlocks, TooFewPlaces, TimeEnds, BadRecord, NoRun, HasWriteKey, PriceTooHigh}
use Rattle.card.specs.Answers.{Answer}
use Rattle.card.specs.Answers.{Refused}
use Rattle.card.specs.declared.AllocOperands.{AllocOperands}
use Rattle.card.proofs.Computed.TestLaws.{and_left, and_right, and_true, absurd_test, all_below_true, true_all_below, false_unless, free_below}
use Rattle.card.proofs.Computed.Row.{implies, true_implies, Row}

-- No condition of the list holds.
unfoldable pub none_hold : List Check → Bool
none_hold [] = true
none_hold ((test ⇒ r) ∷ checks) = not test && none_hold checks

-- So many blocks from `first` on are below N and have no flag. It is worked out apart from the rules' own runs.
abbrev pub adjoining : Card → ℕ → ℕ → Bool
adjoining c count first = all_below (λ i. ltb (first + i) c.public.info.blocks && eqb (flag c.public (first + i)) 0) count

none_hold_true : (checks : List Check) → none_hold checks ≡ true → NoneHolds checks
unfolding none_hold
none_hold_true [] h = tt
none_hold_true ((test ⇒ r) ∷ checks) h = (not-true _ (and_left _ _ h), none_hold_true checks (and_right (not test) _ h))

true_none_hold : (checks : List Check) → NoneHolds checks → none_hold checks ≡ true
unfolding none_hold
true_none_hold [] h = refl
true_none_hold ((test ⇒ r) ∷ checks) h = and_true _ _ (ap not h.0) (true_none_hold checks h.1)

adjoining_run : (c : Card) (count first : ℕ) → adjoining c count first ≡ true → Run c.public count first
unfolding free
adjoining_run c count first h b l u =
    let same : first + (b - first) ≡ b = omega arith in
    subst (λ (n : ℕ). free c.public n ≡ true) same
    (all_below_true (λ i. ltb (first + i) c.public.info.blocks && eqb (flag c.public (first + i)) 0) count h (b - first) (omega arith))

run_adjoining : (c : Card) (count first : ℕ) → Run c.public count first → adjoining c count first ≡ true
unfolding free
run_adjoining c count first h =
    true_all_below (λ i. ltb (first + i) c.public.info.blocks && eqb (flag c.public (first + i)) 0) count (λ i l. h (first + i) (omega arith) (omega arith))

refusal_14 : (r : Refusal) → refusal_number r ≡ 14 → r ≡ NoRun
refusal_14 Misshapen e = absurd (omega (arith, e))
refusal_14 Unsound e = absurd (omega (arith, e))
refusal_14 NotAllocated e = absurd (omega (arith, e))
refusal_14 BadOperand e = absurd (omega (arith, e))
refusal_14 NotOpened e = absurd (omega (arith, e))
refusal_14 IsRoot e = absurd (omega (arith, e))
refusal_14 CannotPoint e = absurd (omega (arith, e))
refusal_14 NoPointer e = absurd (omega (arith, e))
refusal_14 HasPointers e = absurd (omega (arith, e))
refusal_14 TooFewBlocks e = absurd (omega (arith, e))
refusal_14 TooFewPlaces e = absurd (omega (arith, e))
refusal_14 TimeEnds e = absurd (omega (arith, e))
refusal_14 BadRecord e = absurd (omega (arith, e))
refusal_14 NoRun e = refl
refusal_14 HasWriteKey e = absurd (omega (arith, e))
refusal_14 PriceTooHigh e = absurd (omega (arith, e))

answer_14 : (a : Answer) → answer_number a ≡ 14 → a ≡ Refused NoRun
answer_14 (Err r) e = ap Refused (refusal_14 r e)
answer_14 (Ok None) e = absurd (omega (arith, e))
answer_14 (Ok (Some v)) e = absurd (omega (arith, e))

module _ (port : Port) (c : Card) (o : AllocOperands) (lent : Buffers) where
  abbrev pub made : Result
  made = perform port c (contig o lent)

  abbrev pub no_run_test : Bool
  no_run_test =
      none_hold (take 6 (refusals port c (contig o lent)))
      && (leb o.count (length (free_blocks c.public)) && all_below (λ first. not (adjoining c o.count first)) c.public.info.blocks)

  abbrev pub run_found_test : Bool
  run_found_test = implies (eqb (answer_number made.answer) 14) no_run_test && implies (leb 1 o.count && no_run_test) (eqb (answer_number made.answer) 14)

  -- The numbers given, from the first of them.
  abbrev pub given : ℕ → ℕ
  given i = get_or made.places i 0

  abbrev pub run_adjoins_test : Bool
  run_adjoins_test = implies (is_done made.answer) (adjoining c o.count (given 0) && all_below (λ i. eqb (given i) (given 0 + i)) o.count)

  abbrev pub nearer_test : ℕ → Bool
  nearer_test other =
      implies (not (eqb o.hint no_hint))
      (leb (distance o.hint (given 0)) (distance o.hint other) && implies (ltb other (given 0)) (ltb (distance o.hint (given 0)) (distance o.hint other)))
      && implies (eqb o.hint no_hint) (leb (given 0) other)

  abbrev pub run_nearest_test : ℕ → Bool
  run_nearest_test other = implies (is_done made.answer && adjoining c o.count other) (nearer_test other)

module _ (run_found : RunFound) (port : Port) (c : Card) (o : AllocOperands) (lent : Buffers) where
  none_adjoins : (made port c o lent).answer ≡ Refused NoRun → no_run_test port c o lent ≡ true
  none_adjoins e =
      let f = (run_found port c o lent).refused_iff.0 e in
      and_true _ _ (true_none_hold _ f.0)
      (and_true _ _ (le-leb _ _ f.1.0)
      (true_all_below (λ first. not (adjoining c o.count first)) _
      (λ first l. ap not (false_unless _ (λ a. f.1.1 first (adjoining_run c o.count first a))))))

  adjoins_none : 1 ≤ o.count → no_run_test port c o lent ≡ true → (made port c o lent).answer ≡ Refused NoRun
  adjoins_none some h =
      let early : NoneHolds (take 6 (refusals port c (contig o lent))) = none_hold_true _ (and_left _ _ h) in
      let rest : leb o.count (length (free_blocks c.public)) && all_below (λ first. not (adjoining c o.count first)) c.public.info.blocks ≡ true =
      and_right (none_hold (take 6 (refusals port c (contig o lent)))) _ h in
      (run_found port c o lent).refused_iff.1 (
        early,
        (
          leb-true _ _ (and_left _ _ rest),
          λ first run.
              absurd_test (run_adjoining c o.count first run)
              (not-true _
              (all_below_true (λ first. not (adjoining c o.count first)) c.public.info.blocks
              (and_right (leb o.count (length (free_blocks c.public))) _ rest)
              first
              (free_below c.public first (run first (omega arith) (omega (arith, some)))))),
        ),
      )

pub run_found_tests : RunFound → (port : Port) (c : Card) (o : AllocOperands) (lent : Buffers) → run_found_test port c o lent ≡ true
run_found_tests run_found port c o lent =
    let a = (perform port c (contig o lent)).answer in
    and_true _ _
    (true_implies (eqb (answer_number a) 14) _ (λ h. none_adjoins run_found port c o lent (answer_14 a (eqb-true _ _ h))))
    (true_implies (leb 1 o.count && no_run_test port c o lent) _ (λ h. eq-eqb _ _ (ap answer_number (adjoins_none run_found port c o lent (leb-true _ _ (and_left _ _ h)) (and_right (leb 1 o.count) _ h)))))

pub run_adjoins_tests : RunAdjoins → (port : Port) (c : Card) (o : AllocOperands) (lent : Buffers) → run_adjoins_test port c o lent ≡ true
run_adjoins_tests run_adjoins port c o lent =
    true_implies (is_done (perform port c (contig o lent)).answer) _
    (λ d.
    let r = run_adjoins port c o lent d in
    and_true _ _ (run_adjoining c o.count _ r.were_free) (true_all_below (λ i. eqb (given port c o lent i) (given port c o lent 0 + i)) _ (λ i l. eq-eqb _ _ (r.adjoin i l))))

pub run_nearest_tests : RunNearest → (port : Port) (c : Card) (o : AllocOperands) (lent : Buffers) (other : ℕ) → run_nearest_test port c o lent other ≡ true
run_nearest_tests run_nearest port c o lent other =
    true_implies (is_done (perform port c (contig o lent)).answer && adjoining c o.count other) _
    (λ h.
    let r = run_nearest port c o lent (and_left _ _ h) other (adjoining_run c o.count other (and_right (is_done (perform port c (contig o lent)).answer) _ h)) in
    and_true _ _
    (true_implies (not (eqb o.hint no_hint)) _
    (λ n.
    let near = r.hinted (eqb-false _ _ (not-true _ n)) in
    and_true _ _ (le-leb _ _ near.0) (true_implies (ltb other (given port c o lent 0)) _ (λ l. lt-ltb _ _ (near.1 (ltb-true _ _ l))))))
    (true_implies (eqb o.hint no_hint) _ (λ e. le-leb _ _ (r.unhinted (eqb-true _ _ e)))))

abbrev pub run_found_row : (port : Port) (c : Card) (o : AllocOperands) (lent : Buffers) → Row RunFound
run_found_row port c o lent = record { test = run_found_test port c o lent; follows = λ statement. run_found_tests statement port c o lent }

abbrev pub run_adjoins_row : (port : Port) (c : Card) (o : AllocOperands) (lent : Buffers) → Row RunAdjoins
run_adjoins_row port c o lent = record { test = run_adjoins_test port c o lent; follows = λ statement. run_adjoins_tests statement port c o lent }

abbrev pub run_nearest_row : (port : Port) (c : Card) (o : AllocOperands) (lent : Buffers) (other : ℕ) → Row RunNearest
run_nearest_row port c o lent other = record { test = run_nearest_test port c o lent other; follows = λ statement. run_nearest_tests statement port c o lent other }
