-- The marked blocks put into the first places, one after the other.
use Prim.Native.Nat.{ℕ, zero, suc, ◌+◌, ◌≤◌, ◌<◌}
use mathlib.Core.Path.{◌≡◌, refl, sym, ap, ◌∙◌}
use mathlib.Core.Logic.{◌⊎◌, ⊎_elim}
use mathlib.Core.Bool.{Bool}
use mathlib.Core.List.{List, [], ◌∷◌, ◌++◌, append-nil}
use native.Mathlib.Nat.{le_of_suc-le-suc, not-suc-le-zero}
use native.Mathlib.Numerals.{add-one}
use native.Mathlib.Omega.{arith}
use lib.Dec.{eqb}
use lib.ListN.{length, drop, set, length-set, length-append}
use borrow.Author.Tests.{eq-eqb, ne_eqb}
use Rattle.laws.specs.ListsLaws.{below_or_not}
use Rattle.card.specs.Lists.{numbers_below}
use Rattle.card.specs.Contents.{overwrite}
use Rattle.laws.specs.NumbersLaws.{numbers_more}
use Rattle.walks.specs.Walk.{mark, marked_below}

-- ---- places

put_end : (ys xs : List ℕ) (y : ℕ) → length ys < length xs
    → set (ys ++ drop (length ys) xs) (length ys) y ≡ (ys ++ (y ∷ [])) ++ drop (length (ys ++ (y ∷ []))) xs
put_end [] [] y l = absurd (not-suc-le-zero l)
put_end [] (x ∷ xs) y l = refl
put_end (z ∷ ys) [] y l = absurd (not-suc-le-zero l)
put_end (z ∷ ys) (x ∷ xs) y l = ap (λ (ns : List ℕ). z ∷ ns) (put_end ys xs y (le_of_suc-le-suc l))

-- ---- one block more

module _ (marks : List ℕ) (b : ℕ) where
  below_in : mark marks b ≡ 1 → marked_below marks (b + 1) ≡ marked_below marks b ++ (b ∷ [])
  unfolding numbers_below
  below_in e = rw (add-one b) (rw (eq-eqb (mark marks b) 1 e))

  below_out : (mark marks b ≡ 1 → ⊥) → marked_below marks (b + 1) ≡ marked_below marks b
  unfolding numbers_below
  below_out e = rw (add-one b) (rw (ne_eqb (mark marks b) 1 e) (append-nil _))

-- The more blocks, the more may be marked.
numbers_grow : (q : ℕ → Bool) (m n : ℕ) → m ≤ n → length (numbers_below q m) ≤ length (numbers_below q n)
numbers_grow q m zero l = let e : m ≡ 0 = omega arith in rw e (omega arith)
numbers_grow q m (suc n) l =
    ⊎_elim
    (λ (k : m < suc n). omega (arith, numbers_grow q m n (omega arith), numbers_more q n))
    (λ (k : suc n ≤ m). let e : m ≡ suc n = omega arith in rw e (omega arith))
    (below_or_not m (suc n))

-- The places so far: the marked blocks before this one.
pub record Listed (marks places₀ places : List ℕ) (n b listed : ℕ) : Type 0 where
  pub most : b ≤ n
  pub few : n ≤ 4096
  pub fits : length (marked_below marks n) ≤ length places₀
  pub counted : listed ≡ length (marked_below marks b)
  pub whole : places ≡ marked_below marks b ++ drop (length (marked_below marks b)) places₀
  pub same_places : length places ≡ length places₀

pub listed_none : (marks places₀ : List ℕ) (n : ℕ) → n ≤ 4096 → length (marked_below marks n) ≤ length places₀ → Listed marks places₀ places₀ n 0 0
unfolding numbers_below
listed_none marks places₀ n few fits = record { most = omega arith; few = few; fits = fits; counted = refl; whole = refl; same_places = refl }

module _ {marks places₀ places : List ℕ} {n b listed : ℕ} (h : Listed marks places₀ places n b listed) (l : b < n) where
  more : mark marks b ≡ 1 → length (marked_below marks (b + 1)) ≡ listed + 1
  more e = ap length (below_in marks b e) ∙ length-append (marked_below marks b) (b ∷ []) ∙ ap (λ (k : ℕ). k + 1) (sym h.counted)

  pub listed_room : mark marks b ≡ 1 → listed < length places
  listed_room e = omega (arith, more e, numbers_grow (λ x. eqb (mark marks x) 1) (b + 1) n (omega arith), h.fits, h.same_places)

  listed_in : mark marks b ≡ 1 → Listed marks places₀ (set places listed b) n (b + 1) (listed + 1)
  listed_in e = record {
    most = omega arith;
    few = h.few;
    fits = h.fits;
    counted = sym (more e);
    whole =
        rw (h.whole, h.counted, below_in marks b e)
        (put_end (marked_below marks b) places₀ b (omega (arith, listed_room e, h.counted, h.same_places)));
    same_places = length-set places listed b ∙ h.same_places;
  }

  listed_out : (mark marks b ≡ 1 → ⊥) → Listed marks places₀ places n (b + 1) listed
  listed_out e = record {
    most = omega arith;
    few = h.few;
    fits = h.fits;
    counted = h.counted ∙ ap length (sym (below_out marks b e));
    whole = rw (below_out marks b e) h.whole;
    same_places = h.same_places;
  }

  pub listed_more : {places' : List ℕ} {listed' : ℕ}
      → ((mark marks b ≡ 1) × ((places' ≡ set places listed b) × (listed' ≡ listed + 1))) ⊎ ((mark marks b ≡ 1 → ⊥) × ((places' ≡ places) × (listed' ≡ listed)))
      → Listed marks places₀ places' n (b + 1) listed'
  listed_more = ⊎_elim (λ w. rw (w.1.0, w.1.1) (listed_in w.0)) (λ w. rw (w.1.0, w.1.1) (listed_out w.0))

pub listed_whole : {marks places₀ places : List ℕ} {n b listed : ℕ} → Listed marks places₀ places n b listed → n ≤ b → places ≡ overwrite places₀ 0 (marked_below marks n)
unfolding overwrite
listed_whole {marks} {places₀} {n = n} {b = b} h l =
    let e : b ≡ n = omega (arith, h.most) in
    let all : length (marked_below marks n) ≡ 0 + length (marked_below marks n) = omega arith in
    h.whole
    ∙ ap (λ (k : ℕ). marked_below marks k ++ drop (length (marked_below marks k)) places₀) e
    ∙ ap (λ (k : ℕ). marked_below marks n ++ drop k places₀) all
