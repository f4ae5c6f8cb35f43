-- The runs of ALLOC_CONTIG: the first blocks of them, the nearest, and its blocks, which can be taken.
use Prim.Native.Nat.{ℕ, zero, suc, ◌+◌, ◌-◌, ◌≤◌, ◌<◌}
use Rattle.std.specs.Prelude.{◌≡◌, Bool, false, not, eqb, get_or}
use Rattle.std.proofs.Math.Path.{refl, subst}
use Rattle.std.proofs.Common.{sym, ap, ◌∙◌, not-suc-le-zero, le_of_suc-le-suc, ne_eqb}
use Rattle.std.proofs.Math.Bool.{true}
use mathlib.Core.List.{List, [], ◌∷◌}
use native.Mathlib.Omega.{arith}
use Rattle.std.proofs.Math.ListN.{length}
use Rattle.card.specs.Lists.{all, any, numbers_from}
use Rattle.laws.specs.ListsLaws.{absurd_test, all_cons, all_below_true, true_all_below}
use Rattle.card.specs.Pointers.{ascending, contains}
use Rattle.card.specs.Card.{Public, free}
use Rattle.card.specs.Calls.{distance, nearest, is_run, run_starts, nearest_run}
use Rattle.laws.specs.NearestLaws.{contains_here, numbers_hold, hold_numbers, numbers_ascend, nearest_is}
use Rattle.laws.specs.Takeable.{Distinct, none, more, Takeable}
use Rattle.laws.specs.PicksLaws.{nearest_there}

-- ---- numbers in a row

pub numbers_from_length : (first n : ℕ) → length (numbers_from first n) ≡ n
unfolding numbers_from
numbers_from_length first zero = refl
numbers_from_length first (suc n) = ap suc (numbers_from_length (suc first) n)

pub numbers_from_at : (first n i : ℕ) → i < n → get_or (numbers_from first n) i 0 ≡ first + i
unfolding numbers_from
numbers_from_at first zero i l = absurd (not-suc-le-zero l)
numbers_from_at first (suc n) zero l = omega arith
numbers_from_at first (suc n) (suc i) l = let next : suc first + i ≡ first + suc i = omega arith in numbers_from_at (suc first) n i (le_of_suc-le-suc l) ∙ next

pub numbers_from_all : (q : ℕ → Bool) (first n : ℕ) → ((b : ℕ) → first ≤ b → b < first + n → q b ≡ true) → all q (numbers_from first n) ≡ true
unfolding numbers_from all
numbers_from_all q first zero h = refl
numbers_from_all q first (suc n) h =
    all_cons q first (numbers_from (suc first) n) (h first (omega arith) (omega arith)) (numbers_from_all q (suc first) n (λ b l u. h b (omega arith) (omega arith)))

pub numbers_from_distinct : (first n : ℕ) → Distinct (numbers_from first n)
unfolding numbers_from
numbers_from_distinct first zero = none
numbers_from_distinct first (suc n) =
    more
    (numbers_from_all (λ y. not (eqb y first)) (suc first) n (λ b l u. ap not (ne_eqb b first (λ (e : b ≡ first). omega arith))))
    (numbers_from_distinct (suc first) n)

-- ---- runs

module _ (p : Public) (count : ℕ) where
  -- Each block of a run is free.
  pub run_blocks : {first : ℕ} → is_run p count first ≡ true → (b : ℕ) → first ≤ b → b < first + count → free p b ≡ true
  unfolding is_run
  run_blocks {first} h b l u =
      let same : first + (b - first) ≡ b = omega arith in
      subst (λ (n : ℕ). free p n ≡ true) same (all_below_true (λ i. free p (first + i)) count h (b - first) (omega arith))

  pub blocks_run : {first : ℕ} → ((b : ℕ) → first ≤ b → b < first + count → free p b ≡ true) → is_run p count first ≡ true
  unfolding is_run
  blocks_run {first} h = true_all_below (λ i. free p (first + i)) count (λ i l. h (first + i) (omega arith) (omega arith))

  -- The first blocks are counted 0 where there is no run, and only there.
  pub no_start : length (run_starts p count) ≡ 0 → {first : ℕ} → first < p.info.blocks → is_run p count first ≡ true → ⊥
  unfolding run_starts contains any
  no_start e {first} l h = go (run_starts p count) e (hold_numbers (is_run p count) p.info.blocks first l h)
    where
      go : (starts : List ℕ) → length starts ≡ 0 → contains first starts ≡ true → ⊥
      go [] e i = absurd_test {t = false} i refl
      go (x ∷ xs) e i = absurd (omega (arith, e))

  start_run : (first : ℕ) → contains first (run_starts p count) ≡ true → is_run p count first ≡ true
  unfolding run_starts
  start_run first i = (numbers_hold (is_run p count) p.info.blocks first i).1

  pub start_none : ((first : ℕ) → is_run p count first ≡ true → ⊥) → length (run_starts p count) ≡ 0
  start_none never = go (run_starts p count) (λ first i. never first (start_run first i))
    where
      go : (starts : List ℕ) → ((first : ℕ) → contains first starts ≡ true → ⊥) → length starts ≡ 0
      go [] h = refl
      go (x ∷ xs) h = absurd (h x (contains_here x xs))

  -- The blocks of the nearest run: where it starts, and that no other run starts nearer, nor as near and lower.
  pub record NearestIs (want : ℕ) (numbers : List ℕ) : Type 0 where
    pub first : ℕ
    pub run : is_run p count first ≡ true
    pub ascend : numbers ≡ numbers_from first count
    pub nearest : (y : ℕ) → y < p.info.blocks → is_run p count y ≡ true → (distance want first ≤ distance want y) × (y < first → distance want first < distance want y)

  pub nearest_run_law : (want : ℕ) → (length (run_starts p count) ≡ 0 → ⊥) → NearestIs want (nearest_run want count (run_starts p count))
  unfolding run_starts nearest_run
  nearest_run_law want some = go (run_starts p count) refl
    where
      go : (starts : List ℕ) → run_starts p count ≡ starts → NearestIs want (nearest_run want count starts)
      go [] e = absurd (some (ap (λ (xs : List ℕ). length xs) e))
      go (x ∷ xs) e = record {
        first = nearest want x xs;
        run = start_run (nearest want x xs) (subst (λ (ys : List ℕ). contains (nearest want x xs) ys ≡ true) (sym e) (nearest_there want x xs));
        ascend = refl;
        nearest = λ y l h.
            nearest_is want x xs (subst (λ (ys : List ℕ). ascending ys ≡ true) e (numbers_ascend (is_run p count) p.info.blocks))
            y (subst (λ (ys : List ℕ). contains y ys ≡ true) e (hold_numbers (is_run p count) p.info.blocks y l h));
      }

  -- Its blocks can be taken; without a run there are none.
  pub run_takeable : (want : ℕ) → Takeable p (nearest_run want count (run_starts p count))
  unfolding nearest_run all
  run_takeable want = go (run_starts p count) refl
    where
      go : (starts : List ℕ) → run_starts p count ≡ starts → Takeable p (nearest_run want count starts)
      go [] e = record { free = refl; distinct = none }
      go (x ∷ xs) e =
          let first : ℕ = nearest want x xs in
          let run : is_run p count first ≡ true = start_run first (subst (λ (ys : List ℕ). contains first ys ≡ true) (sym e) (nearest_there want x xs)) in
          record {
            free = numbers_from_all (free p) first count (run_blocks run);
            distinct = numbers_from_distinct first count;
          }

  pub run_length : (want : ℕ) → (length (run_starts p count) ≡ 0 → ⊥) → length (nearest_run want count (run_starts p count)) ≡ count
  run_length want some = let r = nearest_run_law want some in ap (λ (xs : List ℕ). length xs) r.ascend ∙ numbers_from_length r.first count
