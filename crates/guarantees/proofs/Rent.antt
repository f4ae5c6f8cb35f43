-- 2026-08, rent: the total grows by what the TICKs of a list add and by nothing else; RENT asks for the nearest number of cents, and changes nothing.
use Prim.Native.Nat.{ℕ, ◌+◌, ◌*◌, ◌/◌, ◌%◌, ◌≤◌, ◌<◌}
use mathlib.Core.Path.{◌≡◌, refl, sym, ap, ◌∙◌}
use mathlib.Core.Bool.{Bool, true, false, cond}
use mathlib.Core.List.{List, [], ◌∷◌}
use native.Mathlib.Omega.{arith}
use lib.Dec.{eqb, ltb}
use borrow.Author.Tests.{ltb-true, ltb-false}
use Rattle.laws.specs.ListsLaws.{absurd_test}
use Rattle.card.specs.Card.{Public, Card, count, multiplicity, points_to}
use Rattle.card.specs.Rent.{rent_for, half_rounded, rounded, cents}
use Rattle.card.specs.Plan.{Change, set_window, set_block, set_key, take_block, free_block, sweep_block, add_pointer, raise_pointer, lower_pointer, drop_pointer, drop_from, set_time, change_public, change, changes, Buffers, Result, out_after, places_after, settle}
use Rattle.card.specs.Calls.{is_done, window_after, opens_window, take_all, free_each, read_plan, write_plan, alloc_plan, alloc_contig_plan, create_plan, delete_plan, delete_tree_plan, key_plan, renew_plan, force_plan, free_plan, tick_plan, audit_plan, rent_plan, sweep_each, sweep_plan}
use Rattle.card.specs.Session.{Sent, plan, perform, performed, after_all, traits}
use Rattle.card.specs.RentAdded.{added, added_in_all}
use Rattle.card.specs.declared.Port.{Port}
use Rattle.card.specs.declared.Port.TheVariants.{Host, Service}
use Rattle.card.specs.declared.Mode.{Mode}
use Rattle.card.specs.Answers.{Value}
use Rattle.card.specs.declared.Call.{Call}
use Rattle.card.specs.declared.Call.TheVariants.{Read, Write, Alloc, AllocContig, Create, Delete, DeleteTree, KeyRead, KeyWrite, Renew, Force, Free, Tick, Audit, Rent, Sweep}
use Rattle.laws.proofs.Judged.{judge_cases}
use Rattle.card.specs.Statements.Refusals.{Unchanged}
use Rattle.guarantees.proofs.Unchanged.{plan_done}
use Rattle.card.specs.Statements.Rent.{Nearest, RentNearest, RentSummed, RentUnchanged}

-- ---- the total

-- A change that is not of the time.
abbrev Timeless : Change → Type 0
Timeless (set_window mode b end) = Unit {0}
Timeless (set_block b ys) = Unit {0}
Timeless (set_key mode b key) = Unit {0}
Timeless (take_block b) = Unit {0}
Timeless (free_block b) = Unit {0}
Timeless (sweep_block b) = Unit {0}
Timeless (add_pointer a b) = Unit {0}
Timeless (raise_pointer a b) = Unit {0}
Timeless (lower_pointer a b) = Unit {0}
Timeless (drop_pointer a b) = Unit {0}
Timeless (drop_from bs) = Unit {0}
Timeless (set_time t total) = ⊥

timeless_kept : (p : Public) (step : Change) → Timeless step → (change_public step p).info.total ≡ p.info.total
unfolding change_public
timeless_kept p (set_window mode b end) h = refl
timeless_kept p (set_block b ys) h = refl
timeless_kept p (set_key mode b key) h = refl
timeless_kept p (take_block b) h = refl
timeless_kept p (free_block b) h = refl
timeless_kept p (sweep_block b) h = refl
timeless_kept p (add_pointer a b) h = refl
timeless_kept p (raise_pointer a b) h = refl
timeless_kept p (lower_pointer a b) h = refl
timeless_kept p (drop_pointer a b) h = refl
timeless_kept p (drop_from bs) h = refl
timeless_kept p (set_time t total) h = absurd h

abbrev TimelessAll : List Change → Type 0
TimelessAll [] = Unit {0}
TimelessAll (step ∷ steps) = Timeless step × TimelessAll steps

timeless_all : (c : Card) (steps : List Change) → TimelessAll steps → (changes c steps).public.info.total ≡ c.public.info.total
unfolding changes change
timeless_all c [] h = refl
timeless_all c (step ∷ steps) h = timeless_all (change c step) steps h.1 ∙ timeless_kept c.public step h.0

opens_timeless : (port : Port) (p : Public) (mode : Mode) (b interval : ℕ) → TimelessAll (opens_window port p mode b interval)
unfolding opens_window
opens_timeless Host p mode b interval = go (eqb interval 0) (window_after p mode b interval)
  where
    go : (t : Bool) (end : ℕ) → TimelessAll (cond t [] (set_window mode b end ∷ []))
    go true end = tt
    go false end = (tt, tt)
opens_timeless Service p mode b interval = tt

takes_timeless : (reference : ℕ) (bs : List ℕ) → TimelessAll (take_all reference bs)
unfolding take_all
takes_timeless reference [] = tt
takes_timeless reference (b ∷ bs) = (tt, (tt, takes_timeless reference bs))

frees_timeless : (bs : List ℕ) → TimelessAll (free_each bs)
unfolding free_each
frees_timeless [] = tt
frees_timeless (b ∷ bs) = (tt, frees_timeless bs)

sweeps_timeless : (bs : List ℕ) → TimelessAll (sweep_each bs)
unfolding sweep_each
sweeps_timeless [] = tt
sweeps_timeless (b ∷ bs) = (tt, sweeps_timeless bs)

-- CREATE makes one of two changes, DELETE one of two others, and another where it frees.
create_timeless : (a b : ℕ) (there : Bool) → TimelessAll (cond there (raise_pointer a b) (add_pointer a b) ∷ [])
create_timeless a b true = (tt, tt)
create_timeless a b false = (tt, tt)

delete_timeless : (a b : ℕ) (once last : Bool) → TimelessAll (cond once (drop_pointer a b) (lower_pointer a b) ∷ cond last (free_block b ∷ []) [])
delete_timeless a b true true = (tt, (tt, tt))
delete_timeless a b true false = (tt, tt)
delete_timeless a b false true = (tt, (tt, tt))
delete_timeless a b false false = (tt, tt)

module _ (port : Port) (c : Card) (lent : Buffers) where
  -- From card c to another the total grew by the rent for so many seconds.
  abbrev Grew : Card → ℕ → Type 0
  Grew d seconds = d.public.info.total ≡ c.public.info.total + rent_for c.public seconds

  none_grew : (steps : List Change) → TimelessAll steps → Grew (changes c steps) 0
  unfolding rent_for
  none_grew steps h = omega (arith, timeless_all c steps h)

  call_grew : (call : Call) → Grew (changes c (plan port c call lent).steps) (traits call).seconds
  unfolding plan traits read_plan write_plan alloc_plan alloc_contig_plan create_plan delete_plan delete_tree_plan key_plan renew_plan force_plan free_plan tick_plan audit_plan rent_plan sweep_plan changes change change_public
  call_grew (Read o) = none_grew (plan port c (Read o) lent).steps (opens_timeless port c.public _ o.block o.interval)
  call_grew (Write o) = none_grew (plan port c (Write o) lent).steps (tt, opens_timeless port c.public _ o.block o.interval)
  call_grew (Alloc o) = none_grew (plan port c (Alloc o) lent).steps (takes_timeless o.reference _)
  call_grew (AllocContig o) = none_grew (plan port c (AllocContig o) lent).steps (takes_timeless o.reference _)
  call_grew (Create o) = none_grew (plan port c (Create o) lent).steps (create_timeless o.source o.destination (points_to c.public o.source o.destination))
  call_grew (Delete o) = none_grew (plan port c (Delete o) lent).steps
      (delete_timeless o.source o.destination (eqb (multiplicity c.public o.source o.destination) 1) (eqb (count c.public o.destination) 1))
  call_grew (DeleteTree o) = none_grew (plan port c (DeleteTree o) lent).steps (tt, (tt, frees_timeless _))
  call_grew (KeyRead o) = none_grew (plan port c (KeyRead o) lent).steps (tt, (tt, (tt, tt)))
  call_grew (KeyWrite o) = none_grew (plan port c (KeyWrite o) lent).steps (tt, (tt, (tt, tt)))
  call_grew (Renew o) = none_grew (plan port c (Renew o) lent).steps (tt, tt)
  call_grew (Force o) = none_grew (plan port c (Force o) lent).steps (tt, (tt, tt))
  call_grew Free = none_grew [] tt
  call_grew (Tick o) = refl
  call_grew Audit = none_grew [] tt
  call_grew (Rent o) = none_grew [] tt
  call_grew (Sweep o) = none_grew (plan port c (Sweep o) lent).steps (sweeps_timeless _)

-- One call, on any card and at either port.
call_added : (c : Card) (s : Sent) → (performed c s).after.public.info.total ≡ c.public.info.total + added c s
unfolding added perform settle
call_added c s =
    judge_cases
    (λ (result : Result). result.after.public.info.total ≡ c.public.info.total + cond (is_done result.answer) (rent_for c.public (traits s.request.call).seconds) 0)
    c s.request.lent (plan s.port c s.request.call s.request.lent)
    (λ r. omega arith)
    (λ sound h. rw (plan_done s.port c s.request.call s.request.lent) (call_grew s.port c s.request.lent s.request.call))

pub rent_summed : RentSummed
unfolding after_all added_in_all
rent_summed c [] = omega arith
rent_summed c (s ∷ ss) = omega (arith, call_added c s, rent_summed (performed c s).after ss)

-- ---- RENT

pub rent_unchanged : RentUnchanged
unfolding perform settle plan rent_plan changes out_after places_after
rent_unchanged port c o lent =
    judge_cases (λ (result : Result). Unchanged c lent result) c lent (rent_plan c.public o)
    (λ r. record { after = refl; out = refl; places = refl })
    (λ s h. record { after = refl; out = refl; places = refl })

cents_nearest : (parts : ℕ) → Nearest parts 86400000 (rounded parts 86400000)
unfolding rounded half_rounded
cents_nearest parts = go (ltb (2 * (parts % 86400000)) 86400000) refl (eqb (2 * (parts % 86400000)) 86400000) refl
  where
    go : (low : Bool) → ltb (2 * (parts % 86400000)) 86400000 ≡ low → (half : Bool) → eqb (2 * (parts % 86400000)) 86400000 ≡ half
        → Nearest parts 86400000 (cond low (parts / 86400000) (cond half (parts / 86400000 + 1) (parts / 86400000 + 1)))
    go true e half f = let low : 2 * (parts % 86400000) < 86400000 = ltb-true _ _ e in record { near = λ other. omega arith; upper = λ other same. omega arith }
    go false e true f = let high : 86400000 ≤ 2 * (parts % 86400000) = ltb-false _ _ e in record { near = λ other. omega arith; upper = λ other same. omega arith }
    go false e false f = let high : 86400000 ≤ 2 * (parts % 86400000) = ltb-false _ _ e in record { near = λ other. omega arith; upper = λ other same. omega arith }

pub rent_nearest : RentNearest
unfolding perform settle plan rent_plan cents
rent_nearest port c o lent v =
    judge_cases (λ (result : Result). result.answer ≡ Value v → Nearest (c.public.info.total * o.price) 86400000 v) c lent (rent_plan c.public o)
    (λ r e. absurd_test {t = is_done (Value v)} refl (sym (ap is_done e)))
    (λ s h e. let same : cents c.public.info.total o.price ≡ v = cc in rw (← same) (cents_nearest (c.public.info.total * o.price)))
