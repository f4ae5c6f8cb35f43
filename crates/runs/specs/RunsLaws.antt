-- Laws of the runs in a table of flags: on a card of the right shape they are the rule's, and so is the nearest.
use Rattle.std.specs.Prelude.{None, Some, ℕ, suc, ◌≡◌, refl, false, List, [], ◌∷◌, eqb, length}
use Rattle.std.proofs.Common.{ap, ◌∙◌, arith, ne_eqb}
use Rattle.card.specs.Lists.{numbers_below, numbers_from}
use Rattle.laws.specs.ListsLaws.{numbers_below_same}
use Rattle.card.specs.Card.{Public, free}
use Rattle.card.specs.Calls.{nearest, is_run, run_starts, nearest_run}
use Rattle.runs.specs.Runs.{run_in, starts_in, nearest_of}

-- ---- the rule's runs

run_in_law : (p : Public) → length p.flags ≡ p.info.blocks → (count first : ℕ) → run_in p.flags count first ≡ is_run p count first
unfolding run_in is_run free
run_in_law p e count first = rw e

pub starts_in_law : (p : Public) → length p.flags ≡ p.info.blocks → (count : ℕ) → starts_in p.flags count ≡ run_starts p count
unfolding starts_in run_starts
starts_in_law p e count =
    ap (numbers_below (run_in p.flags count)) e
    ∙ numbers_below_same (run_in p.flags count) (is_run p count) p.info.blocks (λ b l. run_in_law p e count b)

-- ---- the nearest of them

pub nearest_absent : (want : ℕ) (starts : List ℕ) → nearest_of want starts ≡ None → length starts ≡ 0
unfolding nearest_of
nearest_absent want [] e = refl
nearest_absent want (x ∷ xs) e = let z : ◌≡◌ {A = ℕ} 0 1 = cc in absurd (omega arith)

pub nearest_from : (want count : ℕ) (starts : List ℕ) {first : ℕ} → nearest_of want starts ≡ Some first
    → (nearest_run want count starts ≡ numbers_from first count) × (eqb (length starts) 0 ≡ false)
unfolding nearest_of nearest_run
nearest_from want count [] e = let z : ◌≡◌ {A = ℕ} 0 1 = cc in absurd (omega arith)
nearest_from want count (x ∷ xs) {first} e = let same : nearest want x xs ≡ first = cc in (ap (λ (n : ℕ). numbers_from n count) same, ne_eqb _ 0 (λ (f : suc (length xs) ≡ 0). absurd (omega arith)))
