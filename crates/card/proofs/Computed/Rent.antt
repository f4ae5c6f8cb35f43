-- `rent_summed`, `rent_unchanged`, `rent_nearest` and `rent_alike` as tests, which follow from them.
use Rattle.std.specs.Prelude.{Some, None, Ok, Err}
use Prim.Native.Nat.{ℕ, ◌+◌, ◌*◌}
use mathlib.Core.Bool.{Bool, true, ◌&&◌}
use mathlib.Core.List.{List, [], ◌∷◌}
use mathlib.Core.Path.{◌≡◌, refl, ap}
use lib.Dec.{eqb, leb}
use borrow.Author.Tests.{eqb-true, eq-eqb, le-leb}
use Rattle.card.specs.Card.{Card}
use Rattle.card.specs.Calls.{answer_number, answer_values, distance}
use Rattle.card.specs.Session.{Request, perform, Sent, after_all, host_session}
use Rattle.card.specs.RentAdded.{added_in_all}
use Rattle.card.specs.Reach.{presented}
use Rattle.card.specs.Trials.{lending}
use Rattle.card.specs.Statements.Rent.{RentSummed, renting, asked, RentUnchanged, RentNearest, RentAlike}
use Rattle.card.specs.declared.Port.TheVariants.{Host}
use Rattle.card.specs.Answers.{Answer}
use Rattle.card.specs.declared.RentOperands.{RentOperands}
use Rattle.card.proofs.Computed.Same.{same_list, same_lists, card_numbers}
use Rattle.card.proofs.Computed.TestLaws.{and_true, true_same_list, true_same_lists}
use Rattle.card.proofs.Computed.Row.{implies, true_implies, Row}
use Rattle.card.proofs.Computed.Secrecy.{with_contents, comparable, both_sound, equal_else}

abbrev pub rent_summed_test : Card → List Sent → Bool
rent_summed_test c ss = eqb (after_all c ss).public.info.total (c.public.info.total + added_in_all c ss)

abbrev pub rent_unchanged_test : Card → RentOperands → Bool
rent_unchanged_test c o = same_lists (card_numbers (perform Host c (renting o (lending []))).after) (card_numbers c)

-- No other number is nearer than the one that is answered, and of two as near it is the upper one.
abbrev pub nearest_of : ℕ → ℕ → Answer → Bool
nearest_of parts other (Err r) = true
nearest_of parts other (Ok None) = true
nearest_of parts other (Ok (Some v)) =
    let far = distance (v * 86400000) parts in
    let away = distance (other * 86400000) parts in
    leb far away && implies (eqb away far) (leb other v)

abbrev pub rent_nearest_test : Card → RentOperands → ℕ → Bool
rent_nearest_test c o other = nearest_of (c.public.info.total * o.price) other (asked Host c o (lending []))

pub rent_summed_tests : RentSummed → (c : Card) (ss : List Sent) → rent_summed_test c ss ≡ true
rent_summed_tests rent_summed c ss = eq-eqb _ _ (rent_summed c ss)

abbrev pub rent_summed_row : (c : Card) (ss : List Sent) → Row RentSummed
rent_summed_row c ss = record { test = rent_summed_test c ss; follows = λ statement. rent_summed_tests statement c ss }

pub rent_unchanged_tests : RentUnchanged → (c : Card) (o : RentOperands) → rent_unchanged_test c o ≡ true
rent_unchanged_tests rent_unchanged c o = true_same_lists (ap card_numbers (rent_unchanged Host c o (lending [])).after)

abbrev pub rent_unchanged_row : (c : Card) (o : RentOperands) → Row RentUnchanged
rent_unchanged_row c o = record { test = rent_unchanged_test c o; follows = λ statement. rent_unchanged_tests statement c o }

pub rent_nearest_tests : RentNearest → (c : Card) (o : RentOperands) (other : ℕ) → rent_nearest_test c o other ≡ true
rent_nearest_tests rent_nearest c o other = go (asked Host c o (lending [])) refl
  where
    go : (a : Answer) → asked Host c o (lending []) ≡ a → nearest_of (c.public.info.total * o.price) other a ≡ true
    go (Err r) e = refl
    go (Ok None) e = refl
    go (Ok (Some v)) e =
        let n = rent_nearest Host c o (lending []) v e in
        and_true _ _ (le-leb _ _ (n.near other)) (true_implies _ _ (λ h. le-leb _ _ (n.upper other (eqb-true _ _ h))))

abbrev pub rent_nearest_row : (c : Card) (o : RentOperands) (other : ℕ) → Row RentNearest
rent_nearest_row c o other = record { test = rent_nearest_test c o other; follows = λ statement. rent_nearest_tests statement c o other }

-- ---- rent_alike

-- On two such cards: equal totals after the session, and RENT answers the same.
module _ (c : Card) (contents : List ℕ) (named : ℕ → Bool) (session : List Request) (o : RentOperands) where
  abbrev pub left_behind : Card → Card
  left_behind d = after_all d (host_session session)

  abbrev pub numbers_asked : Card → List ℕ
  numbers_asked d = answer_number (asked Host d o (lending [])) ∷ answer_values (asked Host d o (lending []))

  abbrev pub rent_alike_test : Bool
  rent_alike_test =
      implies (comparable (presented session) c contents named)
      (eqb (left_behind c).public.info.total (left_behind (with_contents c contents)).public.info.total
      && same_list (numbers_asked (left_behind c)) (numbers_asked (left_behind (with_contents c contents))))

pub rent_alike_tests : RentAlike → (c : Card) (contents : List ℕ) (named : ℕ → Bool) (session : List Request) (o : RentOperands) → rent_alike_test c contents named session o ≡ true
rent_alike_tests rent_alike c contents named session o =
    true_implies (comparable (presented session) c contents named) _
    (λ h.
    let s = both_sound (presented session) c contents named h in
    let alike = rent_alike session c (with_contents c contents) s.0 s.1 (equal_else (presented session) c contents named h) in
    and_true _ _ (eq-eqb _ _ alike.totals) (true_same_list (ap (λ (a : Answer). answer_number a ∷ answer_values a) (alike.cents Host o (lending [])))))

abbrev pub rent_alike_row : (c : Card) (contents : List ℕ) (named : ℕ → Bool) (session : List Request) (o : RentOperands) → Row RentAlike
rent_alike_row c contents named session o = record { test = rent_alike_test c contents named session o; follows = λ statement. rent_alike_tests statement c contents named session o }
