-- The two lists hold exactly the blocks that the request speaks of, and the allocated blocks that the first leaves out are hidden.
use Prim.Native.Nat.{ℕ, ◌<◌}
use mathlib.Core.Path.{◌≡◌, refl, sym, subst}
use mathlib.Core.Logic.{⊎_elim}
use mathlib.Core.Bool.{Bool, true, false, ◌&&◌}
use mathlib.Core.List.{List, [], ◌∷◌}
use lib.Dec.{eqb}
use borrow.Author.Tests.{eq-eqb, eqb-true}
use Rattle.laws.specs.ListsLaws.{and_left, and_right, and_true, or_left, or_right, or_cases, absurd_test, false_unless, same_test}
use Rattle.laws.specs.NearestLaws.{numbers_hold, hold_numbers}
use Rattle.card.specs.Reach.{presented, sealed, Reach}
use Rattle.report.specs.Report.{given, with_write_key, unlocks, unlocking}
use Rattle.report.proofs.ReportLaws.{within_ascends, listed_reached, reached_listed, unlocking_ascends}
use Rattle.report.specs.Statements.{ReachListed, UnlockingListed, Among, here, later, HiddenUnlisted}

pub reach_listed : ReachListed
reach_listed words c = record {
  ascends = within_ascends (given words) c;
  listed = λ b r. reached_listed (given words) c r;
  only = λ b h. listed_reached (given words) c b h;
}

pub unlocking_listed : UnlockingListed
unfolding unlocking unlocks with_write_key
unlocking_listed words c chosen = record {
  ascends = unlocking_ascends words c chosen;
  listed = λ s u.
      hold_numbers (unlocks words c chosen) c.public.info.blocks s u.is_block
      (and_true (sealed (given words) c s) _ u.is_sealed (reached_listed (given (with_write_key words c s)) c u.brings));
  only = λ s h.
      let r : (s < c.public.info.blocks) × (unlocks words c chosen s ≡ true) = numbers_hold (unlocks words c chosen) _ s h in
      record {
        is_block = r.0;
        is_sealed = and_left (sealed (given words) c s) _ r.1;
        brings = listed_reached (given (with_write_key words c s)) c chosen (and_right (sealed (given words) c s) _ r.1);
      };
}

-- ---- the same keys given and presented

given_among : (words : List ℕ) (high low : ℕ) → given words high low ≡ true → Among words high low
unfolding given
given_among [] high low e = absurd_test {t = false} e refl
given_among (h ∷ []) high low e = absurd_test {t = false} e refl
given_among (h ∷ (l ∷ words)) high low e =
    ⊎_elim
    (λ k. rw (eqb-true high h (and_left (eqb high h) _ k), eqb-true low l (and_right (eqb high h) _ k)) here)
    (λ k. later (given_among words high low k))
    (or_cases (eqb high h && eqb low l) _ e)

among_given : {words : List ℕ} {high low : ℕ} → Among words high low → given words high low ≡ true
unfolding given
among_given (here {high = high} {low = low}) =
    or_left (eqb high high && eqb low low) _ (and_true (eqb high high) _ (eq-eqb high high refl) (eq-eqb low low refl))
among_given (later {h = h} {l = l} {high = high} {low = low} a) = or_right (eqb high h && eqb low l) _ (among_given a)

pub hidden_unlisted : HiddenUnlisted
hidden_unlisted words session keys c b =
    let each : (high low : ℕ) → given words high low ≡ presented session high low =
    λ high low. same_test _ _ (λ e. (keys high low).1 (given_among words high low e)) (λ e. among_given ((keys high low).0 e)) in
    let same : given words ≡ presented session = λ i high low. each high low i in (
      λ h. (
        h.is_allocated,
        false_unless _ (λ e. h.out_of_reach (subst (λ (K : ℕ → ℕ → Bool). Reach K c b) same (listed_reached (given words) c b e))),
      ),
      λ u. record {
        is_allocated = u.0;
        out_of_reach = λ r. absurd_test (reached_listed (given words) c (subst (λ (K : ℕ → ℕ → Bool). Reach K c b) (sym same) r)) u.1;
      },
    )
