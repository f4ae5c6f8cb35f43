-- The walk that meets each run at its last block, over plain values.
use Prim.Native.Nat.{ℕ, zero, suc, ◌+◌, ◌-◌, ◌≤◌, ◌<◌}
use mathlib.Core.Path.{◌≡◌, refl, sym, ap, ◌∙◌, subst}
use mathlib.Core.Logic.{⊎_elim}
use mathlib.Core.Bool.{Bool, true, false, ◌&&◌, cond}
use mathlib.Core.List.{List, [], ◌∷◌, ◌++◌, append-nil}
use native.Mathlib.Omega.{arith}
use lib.Dec.{ltb}
use lib.ListN.{length, get_or}
use borrow.Author.Tests.{lt-ltb, le-ltb}
use Rattle.std.specs.Prelude.{Option, None, Some}
use Rattle.card.specs.Lists.{numbers_below}
use Rattle.laws.specs.ListsLaws.{and_true, and_false_left, and_false_right, absurd_test, false_unless, all_below_true, true_all_below, same_or_other}
use Rattle.card.specs.Card.{free_flag}
use Rattle.card.specs.Calls.{distance, nearest}
use Rattle.runs.specs.Runs.{run_in, starts_in, nearest_of, nearer_of, since_after}

-- ---- the nearest, one more

nearest_last : (want best : ℕ) (xs : List ℕ) (s : ℕ)
    → nearest want best (xs ++ (s ∷ [])) ≡ cond (ltb (distance want s) (distance want (nearest want best xs))) s (nearest want best xs)
unfolding nearest
nearest_last want best [] s = refl
nearest_last want best (x ∷ xs) s = nearest_last want (cond (ltb (distance want x) (distance want best)) x best) xs s

nearest_more : (want : ℕ) (xs : List ℕ) (s : ℕ) → nearest_of want (xs ++ (s ∷ [])) ≡ nearer_of want (nearest_of want xs) s
unfolding nearest_of nearer_of nearest
nearest_more want [] s = refl
nearest_more want (x ∷ xs) s = go (ltb (distance want s) (distance want (nearest want x xs))) (nearest_last want x xs s)
  where
    go : (t : Bool) → nearest want x (xs ++ (s ∷ [])) ≡ cond t s (nearest want x xs) → Some (nearest want x (xs ++ (s ∷ []))) ≡ cond t (Some s) (Some (nearest want x xs))
    go true e = ap Some e
    go false e = ap Some e

module _ (want start : ℕ) {best : Option ℕ} where
  pub nearer_none : best ≡ None → Some start ≡ nearer_of want best start
  unfolding nearer_of
  nearer_none e = rw e

  module _ (first : ℕ) {d k : ℕ} (e : best ≡ Some first) (toStart : d ≡ distance want start) (toFirst : k ≡ distance want first) where
    pub nearer_taken : d < k → Some start ≡ nearer_of want best start
    unfolding nearer_of
    nearer_taken l = rw (e, lt-ltb (distance want start) (distance want first) (omega arith))

    pub nearer_kept : k ≤ d → Some first ≡ nearer_of want best start
    unfolding nearer_of
    nearer_kept l = rw (e, le-ltb (distance want start) (distance want first) (omega arith))

-- ---- the first blocks of runs

-- Where the test fails of every further number, there are no more.
no_more : (p : ℕ → Bool) (m n : ℕ) → m ≤ n → ((b : ℕ) → m ≤ b → b < n → p b ≡ false) → numbers_below p n ≡ numbers_below p m
unfolding numbers_below
no_more p m zero l h = let none : m ≡ 0 = omega arith in rw none
no_more p m (suc n) l h =
    ⊎_elim
    (λ (e : m ≡ suc n). rw e)
    (λ (f : m ≡ suc n → ⊥).
    rw (h n (omega arith) (omega arith)) (append-nil (numbers_below p n) ∙ no_more p m n (omega arith) (λ b k u. h b k (omega arith))))
    (same_or_other m (suc n))

module _ (flags : List ℕ) (count : ℕ) where
  is_run : (first : ℕ) → ((b : ℕ) → first ≤ b → b < first + count → (b < length flags) × (free_flag (get_or flags b 0) ≡ true)) → run_in flags count first ≡ true
  unfolding run_in
  is_run first h = true_all_below _ count (λ i l. let t = h (first + i) (omega arith) (omega arith) in and_true _ _ (lt-ltb _ _ t.0) t.1)

  -- A block that is not free, or past the last, is in no run.
  no_run : (first b : ℕ) → first ≤ b → b < first + count → ltb b (length flags) && free_flag (get_or flags b 0) ≡ false → run_in flags count first ≡ false
  unfolding run_in
  no_run first b l u f =
      let same : first + (b - first) ≡ b = omega arith in
      false_unless _
      (λ h.
      absurd_test
      (subst (λ (n : ℕ). ltb n (length flags) && free_flag (get_or flags n 0) ≡ true) same
      (all_below_true (λ i. ltb (first + i) (length flags) && free_flag (get_or flags (first + i) 0)) count h (b - first) (omega arith)))
      f)

-- ---- the walk

-- Before `block`: the blocks from `since` on are free and the one before them is not, and of the runs that end before the block the nearest is known.
pub record Met (flags : List ℕ) (want count : ℕ) (best : Option ℕ) (since block : ℕ) : Type 0 where
  pub most : block ≤ length flags
  pub inside : since ≤ block
  pub free : (b : ℕ) → since ≤ b → b < block → free_flag (get_or flags b 0) ≡ true
  pub not_free : (b : ℕ) → b + 1 ≡ since → free_flag (get_or flags b 0) ≡ false
  pub known : best ≡ nearest_of want (numbers_below (run_in flags count) (block + 1 - count))

pub met_start : (flags : List ℕ) (want : ℕ) {count : ℕ} → 1 ≤ count → Met flags want count None 0 0
unfolding nearest_of numbers_below
met_start flags want {count} some =
    let none : 0 + 1 - count ≡ 0 = omega arith in
    record {
      most = omega arith;
      inside = omega arith;
      free = λ b l u. absurd (omega arith);
      not_free = λ b e. absurd (omega arith);
      known = rw none;
    }

module _ (since block flag : ℕ) {t : Bool} (told : t ≡ free_flag flag) where
  pub since_passed : t ≡ false → block + 1 ≡ since_after since block flag
  unfolding since_after
  since_passed e = rw (← told, e)

  pub since_stays : t ≡ true → since ≡ since_after since block flag
  unfolding since_after
  since_stays e = rw (← told, e)

-- One block further, with where the free blocks before it then start.
record Further (flags : List ℕ) (since block : ℕ) : Type 0 where
  pub inside : since ≤ block
  pub free : (b : ℕ) → since ≤ b → b < block → free_flag (get_or flags b 0) ≡ true
  pub not_free : (b : ℕ) → b + 1 ≡ since → free_flag (get_or flags b 0) ≡ false

further : (flags : List ℕ) (since block : ℕ) → since ≤ block → ((b : ℕ) → since ≤ b → b < block → free_flag (get_or flags b 0) ≡ true)
    → ((b : ℕ) → b + 1 ≡ since → free_flag (get_or flags b 0) ≡ false) → Further flags (since_after since block (get_or flags block 0)) (block + 1)
unfolding since_after
further flags since block l free not_free = go (free_flag (get_or flags block 0)) refl
  where
    go : (t : Bool) → free_flag (get_or flags block 0) ≡ t → Further flags (cond t since (block + 1)) (block + 1)
    go true e = record {
      inside = omega arith;
      free = λ b k u. ⊎_elim (λ (f : b ≡ block). rw f e) (λ (f : b ≡ block → ⊥). free b k (omega arith)) (same_or_other b block);
      not_free = not_free;
    }
    go false e = record {
      inside = omega arith;
      free = λ b k u. absurd (omega arith);
      not_free = λ b f. let same : b ≡ block = omega arith in rw same e;
    }

module _ {flags : List ℕ} {want count : ℕ} {best : Option ℕ} {since block : ℕ} (m : Met flags want count best since block) (some : 1 ≤ count) (l : block < length flags)
    {next : ℕ} (e : next ≡ since_after since block (get_or flags block 0)) where
  after : Further flags next (block + 1)
  after = subst (λ (n : ℕ). Further flags n (block + 1)) (sym e) (further flags since block m.inside m.free m.not_free)

  pub met_inside : next ≤ block + 1
  met_inside = after.inside

  -- A run ends with the block.
  pub met_run : count ≤ (block + 1) - next → {found : Option ℕ} → found ≡ nearer_of want best ((block + 1) - count) → Met flags want count found next (block + 1)
  unfolding numbers_below
  met_run enough {found} f =
      let start : ℕ = (block + 1) - count in
      let one : (block + 1) + 1 - count ≡ suc ((block + 1) - count) = omega (arith, after.inside) in
      let run : run_in flags count ((block + 1) - count) ≡ true =
      is_run flags count ((block + 1) - count) (λ b k u. (omega (arith, after.inside), after.free b (omega (arith, after.inside)) (omega (arith, after.inside)))) in
      record {
        most = omega arith;
        inside = after.inside;
        free = after.free;
        not_free = after.not_free;
        known =
            f
            ∙ ap (λ (n : Option ℕ). nearer_of want n ((block + 1) - count)) m.known
            ∙ sym (nearest_more want (numbers_below (run_in flags count) (block + 1 - count)) ((block + 1) - count))
            ∙ rw (one, run);
      }

  -- None does.
  pub met_none : (block + 1) - next < count → {found : Option ℕ} → found ≡ best → Met flags want count found next (block + 1)
  unfolding numbers_below
  met_none few f = record {
    most = omega arith;
    inside = after.inside;
    free = after.free;
    not_free = after.not_free;
    known = f ∙ m.known ∙ ap (nearest_of want) (sym same);
  }
    where
      same : numbers_below (run_in flags count) (block + 1 + 1 - count) ≡ numbers_below (run_in flags count) (block + 1 - count)
      same =
          no_more (run_in flags count) (block + 1 - count) (block + 1 + 1 - count) (omega arith)
          (λ b k u.
          no_run flags count b (next - 1) (omega (arith, after.inside)) (omega (arith, after.inside))
          (and_false_right (ltb (next - 1) (length flags)) _ (after.not_free (next - 1) (omega (arith, after.inside)))))

-- The whole table is walked: no run starts so high that it would end past the last block.
pub met_whole : {flags : List ℕ} {want count : ℕ} {best : Option ℕ} {since block : ℕ} → Met flags want count best since block → 1 ≤ count → length flags ≤ block
    → best ≡ nearest_of want (starts_in flags count)
unfolding starts_in
met_whole {flags} {want} {count} {best} {since} {block} m some l =
    m.known
    ∙ ap (nearest_of want)
    (sym
    (no_more (run_in flags count) (block + 1 - count) (length flags) (omega (arith, m.most))
    (λ b k u.
    no_run flags count b (b + count - 1) (omega arith) (omega arith)
    (and_false_left _ (free_flag (get_or flags (b + count - 1) 0)) (le-ltb (b + count - 1) (length flags) (omega (arith, m.most)))))))
