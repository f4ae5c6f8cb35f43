-- The least set is closed under its test, and within each set that is.
use Prim.Native.Nat.{ℕ, zero, suc, ◌≤◌, ◌<◌}
use Rattle.std.specs.Prelude.{◌≡◌, ◌⊎◌, Bool, true, false}
use Rattle.std.proofs.Math.Path.{refl}
use Rattle.std.proofs.Common.{sym, ◌∙◌, inl, inr, arith}
use Rattle.std.proofs.Math.Logic.{⊎_elim}
use mathlib.Core.List.{List, []}
use Rattle.std.proofs.Math.ListN.{length}
use Rattle.card.specs.Lists.{any, numbers_below}
use Rattle.laws.specs.ListsLaws.{absurd_test, same_test, below_or_not, numbers_below_same}
use Rattle.card.specs.Pointers.{ascending, contains}
use Rattle.laws.specs.NearestLaws.{numbers_hold, hold_numbers, numbers_ascend}
use Rattle.laws.specs.NumbersLaws.{numbers_most, numbers_back}
use Rattle.card.specs.Least.{rounds, least}
pub use Rattle.card.proofs.Computed.TestLaws.{Some, any_member, member_any}

-- ---- some member passes

-- Each member of one list is one of the other.
abbrev pub Within : List ℕ → List ℕ → Type 0
Within xs ys = (a : ℕ) → contains a xs ≡ true → contains a ys ≡ true

pub any_within : (q : ℕ → Bool) (xs ys : List ℕ) → Within xs ys → any q xs ≡ true → any q ys ≡ true
any_within q xs ys w h = let m : Some q xs = member_any q xs h in any_member q ys m.which (w m.which m.within) m.passes

-- ---- the least set

-- More members let no number out.
abbrev pub Monotone : (List ℕ → ℕ → Bool) → Type 0
Monotone test = (xs ys : List ℕ) (b : ℕ) → Within xs ys → test xs b ≡ true → test ys b ≡ true

module _ (test : List ℕ → ℕ → Bool) (n : ℕ) where
  -- A set that has each number which the test lets in beside members of the set.
  abbrev pub Closed : (ℕ → Type 0) → Type 0
  Closed G = (members : List ℕ) (b : ℕ) → ((a : ℕ) → contains a members ≡ true → G a) → b < n → test members b ≡ true → G b

  -- ---- within each closed set

  rounds_in : (G : ℕ → Type 0) → Closed G → (k b : ℕ) → contains b (rounds test n k) ≡ true → G b
  unfolding rounds contains any
  rounds_in G closed zero b h = absurd_test {t = false} h refl
  rounds_in G closed (suc k) b h =
      let r : (b < n) × (test (rounds test n k) b ≡ true) = numbers_hold (test (rounds test n k)) n b h in
      closed (rounds test n k) b (rounds_in G closed k) r.0 r.1

  pub least_in : (G : ℕ → Type 0) → Closed G → (b : ℕ) → contains b (least test n) ≡ true → G b
  unfolding least
  least_in G closed b h = rounds_in G closed n b h

  -- ---- closed

  module _ (mono : Monotone test) where
    grows : (k : ℕ) → Within (rounds test n k) (rounds test n (suc k))
    unfolding rounds contains any
    grows zero a h = absurd_test {t = false} h refl
    grows (suc k) a h =
        let r : (a < n) × (test (rounds test n k) a ≡ true) = numbers_hold (test (rounds test n k)) n a h in
        hold_numbers (test (rounds test n (suc k))) n a r.0 (mono _ _ a (grows k) r.1)

    -- No round after this one brings a number.
    Full : ℕ → Type 0
    Full k = Within (rounds test n (suc k)) (rounds test n k)

    full_more : (k : ℕ) → Full k → Full (suc k)
    unfolding rounds Full
    full_more k f a h =
        let r : (a < n) × (test (rounds test n (suc k)) a ≡ true) = numbers_hold (test (rounds test n (suc k))) n a h in
        hold_numbers (test (rounds test n k)) n a r.0 (mono _ _ a f r.1)

    -- A round that brings no number more is not wanted.
    full_same : (k : ℕ) → length (rounds test n (suc k)) ≤ length (rounds test n k) → Full k
    unfolding rounds Full
    full_same zero h a e =
        let r : (a < n) × (test [] a ≡ true) = numbers_hold (test []) n a e in
        absurd_test (numbers_back (λ i. false) (test []) n (λ i l t. absurd_test t refl) (omega arith) a r.0 r.1) refl
    full_same (suc k) h a e =
        let r : (a < n) × (test (rounds test n (suc k)) a ≡ true) = numbers_hold (test (rounds test n (suc k))) n a e in
        hold_numbers (test (rounds test n k)) n a r.0
        (numbers_back (test (rounds test n k)) (test (rounds test n (suc k))) n (λ i l t. mono _ _ i (grows k) t) h a r.0 r.1)

    -- After k rounds nothing is left to let in, or there are k members.
    full_or_many : (k : ℕ) → Full k ⊎ (k ≤ length (rounds test n k))
    full_or_many zero = inr (omega arith)
    full_or_many (suc k) =
        ⊎_elim
        (λ (f : Full k). inl (full_more k f))
        (λ (m : k ≤ length (rounds test n k)).
        ⊎_elim
        (λ (l : length (rounds test n k) < length (rounds test n (suc k))). inr (omega arith))
        (λ (l : length (rounds test n (suc k)) ≤ length (rounds test n k)). inl (full_more k (full_same k l)))
        (below_or_not (length (rounds test n k)) (length (rounds test n (suc k)))))
        (full_or_many k)

    -- As many members as there are numbers are all of them.
    full_all : (k : ℕ) → n ≤ length (rounds test n k) → Full k
    unfolding rounds Full
    full_all zero h a e = absurd (omega (arith, (numbers_hold (test []) n a e).0))
    full_all (suc k) h a e =
        let l : a < n = (numbers_hold (test (rounds test n (suc k))) n a e).0 in
        hold_numbers (test (rounds test n k)) n a l
        (numbers_back (test (rounds test n k)) (λ i. true) n (λ i l t. refl) (omega (arith, numbers_most (λ i. true) n)) a l refl)

    pub least_closed : (b : ℕ) → b < n → test (least test n) b ≡ true → contains b (least test n) ≡ true
    unfolding least rounds Full
    least_closed b l e =
        ⊎_elim (λ (f : Full n). f b) (λ (m : n ≤ length (rounds test n n)). full_all n m b) (full_or_many n)
        (hold_numbers (test (rounds test n n)) n b l e)

-- ---- the list of the least set

-- A list of numbers below n that a test picks is the list of its own members.
numbers_own : (q : ℕ → Bool) (n : ℕ) → numbers_below q n ≡ numbers_below (λ b. contains b (numbers_below q n)) n
numbers_own q n =
    numbers_below_same q (λ b. contains b (numbers_below q n)) n
    (λ i l. same_test _ _ (λ e. hold_numbers q n i l e) (λ e. (numbers_hold q n i e).1))

least_numbers : (test : List ℕ → ℕ → Bool) (n : ℕ) → least test n ≡ numbers_below (λ b. contains b (least test n)) n
unfolding least rounds numbers_below
least_numbers test zero = refl
least_numbers test (suc k) = numbers_own (test (rounds test (suc k) k)) (suc k)

-- The numbers of a test that tells the members are the list itself.
pub least_own : (test : List ℕ → ℕ → Bool) (n : ℕ) (q : ℕ → Bool)
    → ((b : ℕ) → b < n → q b ≡ contains b (least test n)) → numbers_below q n ≡ least test n
least_own test n q f = numbers_below_same q (λ b. contains b (least test n)) n f ∙ sym (least_numbers test n)

pub least_ascends : (test : List ℕ → ℕ → Bool) (n : ℕ) → ascending (least test n) ≡ true
least_ascends test n = rw (least_numbers test n) (numbers_ascend (λ b. contains b (least test n)) n)

pub least_most : (test : List ℕ → ℕ → Bool) (n : ℕ) → length (least test n) ≤ n
least_most test n = rw (least_numbers test n) (numbers_most (λ b. contains b (least test n)) n)
