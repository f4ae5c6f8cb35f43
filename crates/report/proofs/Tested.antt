-- Each test of a theorem is passed by the right rules.
use Prim.Native.Nat.{ℕ}
use mathlib.Core.Path.{◌≡◌}
use mathlib.Core.Bool.{Bool, true, ◌&&◌}
use mathlib.Core.List.{List, ◌∷◌}
use lib.Dec.{ltb}
use borrow.Author.Tests.{lt-ltb, ltb-true}
use Rattle.card.specs.Pointers.{ascending, contains}
use Rattle.card.specs.Card.{Card, key_high, key_low}
use Rattle.card.specs.Reach.{sealed}
use Rattle.card.specs.declared.Mode.{Mode}
use Rattle.card.specs.declared.Mode.TheVariants.{Writing}
use Rattle.card.proofs.Computed.Row.{implies, true_implies}
use Rattle.laws.specs.ListsLaws.{and_left, and_right, and_true}
use Rattle.report.specs.Report.{given, within_reach, unlocking}
use Rattle.report.specs.Statements.{Lists, Unlocks, Asked}
use Rattle.report.proofs.Listed.{reach_listed, unlocking_listed, hidden_unlisted}
use Rattle.report.proofs.Reported.{report_unchanged, report_refused, unknown_chosen}
use Rattle.report.proofs.Tests.{reach_listed_test, reach_listed_tests, hidden_unlisted_test, hidden_unlisted_tests, report_unchanged_test, report_unchanged_tests, report_refused_test, report_refused_tests, unknown_chosen_test, unknown_chosen_tests}

pub reach_listed_tested : (words : List ℕ) (c : Card) (named : ℕ → Bool) (mode : Mode) (a b : ℕ) → reach_listed_test words c named mode a b ≡ true
reach_listed_tested words c named mode a b = reach_listed_tests reach_listed words c named mode a b

-- ---- unlocking_listed

-- The test of the rows, with the list of what is within reach in place of the named blocks and of a way.
module _ (words : List ℕ) (c : Card) (chosen s : ℕ) where
  -- The keys with the write key of the block.
  abbrev with_key : List ℕ
  with_key = key_high c.keys Writing s ∷ (key_low c.keys Writing s ∷ words)

  abbrev is_unlocking : Bool
  is_unlocking = ltb s c.public.info.blocks && (sealed (given words) c s && contains chosen (within_reach (given with_key) c))

  abbrev pub unlocking_listed_test : Bool
  unlocking_listed_test =
      let list = unlocking words c chosen in
      ascending list && (implies (contains s list) is_unlocking && implies is_unlocking (contains s list))

  unlocks_tested : Unlocks words c chosen s → is_unlocking ≡ true
  unlocks_tested u = and_true _ _ (lt-ltb _ _ u.is_block) (and_true _ _ u.is_sealed ((reach_listed with_key c).listed chosen u.brings))

  tested_unlocks : is_unlocking ≡ true → Unlocks words c chosen s
  tested_unlocks h =
      let r : sealed (given words) c s && contains chosen (within_reach (given with_key) c) ≡ true = and_right (ltb s c.public.info.blocks) _ h in
      record {
        is_block = ltb-true _ _ (and_left _ _ h);
        is_sealed = and_left _ _ r;
        brings = (reach_listed with_key c).only chosen (and_right (sealed (given words) c s) _ r);
      }

pub unlocking_listed_tested : (words : List ℕ) (c : Card) (chosen s : ℕ) → unlocking_listed_test words c chosen s ≡ true
unlocking_listed_tested words c chosen s =
    let l : Lists (Unlocks words c chosen) (unlocking words c chosen) = unlocking_listed words c chosen in
    and_true _ _ l.ascends
    (and_true _ _
    (true_implies (contains s (unlocking words c chosen)) _ (λ h. unlocks_tested words c chosen s (l.only s h)))
    (true_implies (is_unlocking words c chosen s) _ (λ h. l.listed s (tested_unlocks words c chosen s h))))

-- ---- the others

pub hidden_unlisted_tested : (words : List ℕ) (c : Card) (named : ℕ → Bool) (mode : Mode) (b : ℕ) → hidden_unlisted_test words c named mode b ≡ true
hidden_unlisted_tested words c named mode b = hidden_unlisted_tests hidden_unlisted words c named mode b

pub report_unchanged_tested : (asked : Asked) (words places : List ℕ) (c : Card) → report_unchanged_test asked words places c ≡ true
report_unchanged_tested asked words places c = report_unchanged_tests report_unchanged asked words places c

pub report_refused_tested : (asked : Asked) (words places : List ℕ) (c : Card) → report_refused_test asked words places c ≡ true
report_refused_tested asked words places c = report_refused_tests report_refused asked words places c

pub unknown_chosen_tested : (words places : List ℕ) (chosen : ℕ) (c : Card) → unknown_chosen_test words places chosen c ≡ true
unknown_chosen_tested words places chosen c = unknown_chosen_tests unknown_chosen words places chosen c
