-- ALLOC's picks: free blocks, all different, and as many as asked for where enough are free.
use Rattle.std.specs.Prelude.{ℕ, zero, suc, ◌≤◌, ◌<◌, ◌≡◌, refl, Bool, true, false, not, cond, List, [], ◌∷◌, ◌++◌, eqb, ltb, length}
use Rattle.std.proofs.Common.{ap, subst, ⊎_elim, append-nil, not-suc-le-zero, arith, lt-ltb, ltb-true, eq-eqb, ne_eqb, eqb-true}
use Rattle.card.specs.Lists.{all, any, numbers_below}
use Rattle.laws.specs.ListsLaws.{or_left, or_right, or_cases, all_cons, all_head, all_tail, all_append, all_map}
use Rattle.card.specs.Pointers.{contains, remove, remove_beside}
use Rattle.laws.specs.PointersLaws.{all_remove, remove_length}
use Rattle.card.specs.Card.{Public, free, free_blocks}
use Rattle.laws.specs.Takeable.{Without, Distinct, none, more, Takeable}
use Rattle.card.specs.Calls.{distance, nearest, picks}

-- ---- lists of different numbers

pub distinct_head : {x : ℕ} {xs : List ℕ} → Distinct (x ∷ xs) → Without x xs
distinct_head (more w d) = w

pub distinct_tail : {x : ℕ} {xs : List ℕ} → Distinct (x ∷ xs) → Distinct xs
distinct_tail (more w d) = d

remove_distinct : (w : ℕ) {xs : List ℕ} → Distinct xs → Distinct (remove w xs)
unfolding remove remove_beside
remove_distinct w none = none
remove_distinct w (more {x = x} {xs = xs} h d) = go (eqb x w) (remove_distinct w d)
  where
    go : (t : Bool) → Distinct (remove w xs) → Distinct (cond t xs (x ∷ remove w xs))
    go true i = d
    go false i = more (all_remove (λ y. not (eqb y x)) w xs h) i

-- What is removed from a list of different numbers is no more in it.
remove_without : (w : ℕ) {xs : List ℕ} → Distinct xs → Without w (remove w xs)
unfolding remove remove_beside all
remove_without w none = refl
remove_without w (more {x = x} {xs = xs} h d) = go (eqb x w) refl (remove_without w d)
  where
    go : (t : Bool) → eqb x w ≡ t → Without w (remove w xs) → Without w (cond t xs (x ∷ remove w xs))
    go true e i = subst (λ (n : ℕ). Without n xs) (eqb-true x w e) h
    go false e i = all_cons (λ y. not (eqb y w)) x (remove w xs) (ap not e) i

distinct_end : (n : ℕ) {xs : List ℕ} → Distinct xs → all (λ x. ltb x n) xs ≡ true → Distinct (xs ++ (n ∷ []))
unfolding all
distinct_end n none h = more refl none
distinct_end n (more {x = x} {xs = xs} w d) h =
    let below : x < n = ltb-true x n (all_head (λ x. ltb x n) x xs h) in
    more
    (all_append (λ y. not (eqb y x)) xs (n ∷ []) w (all_cons (λ y. not (eqb y x)) n [] (ap not (ne_eqb n x (λ (e : n ≡ x). omega arith))) refl))
    (distinct_end n d (all_tail (λ x. ltb x n) x xs h))

-- ---- the numbers below a bound

numbers_below_below : (p : ℕ → Bool) (n : ℕ) → all (λ x. ltb x n) (numbers_below p n) ≡ true
unfolding numbers_below all
numbers_below_below p zero = refl
numbers_below_below p (suc n) =
    all_append (λ x. ltb x (suc n)) (numbers_below p n) (cond (p n) (n ∷ []) [])
    (all_map (λ x. ltb x n) (λ x. ltb x (suc n)) (λ x e. lt-ltb x (suc n) (omega (arith, ltb-true x n e))) (numbers_below p n) (numbers_below_below p n))
    (go (p n))
  where
    go : (t : Bool) → all (λ x. ltb x (suc n)) (cond t (n ∷ []) []) ≡ true
    go true = all_cons (λ x. ltb x (suc n)) n [] (lt-ltb n (suc n) (omega arith)) refl
    go false = refl

pub numbers_below_all : (p : ℕ → Bool) (n : ℕ) → all p (numbers_below p n) ≡ true
unfolding numbers_below all
numbers_below_all p zero = refl
numbers_below_all p (suc n) = all_append p (numbers_below p n) (cond (p n) (n ∷ []) []) (numbers_below_all p n) (go (p n) refl)
  where
    go : (t : Bool) → p n ≡ t → all p (cond t (n ∷ []) []) ≡ true
    go true e = all_cons p n [] e refl
    go false e = refl

pub numbers_below_distinct : (p : ℕ → Bool) (n : ℕ) → Distinct (numbers_below p n)
unfolding numbers_below
numbers_below_distinct p zero = none
numbers_below_distinct p (suc n) = go (p n) (numbers_below_distinct p n)
  where
    go : (t : Bool) → Distinct (numbers_below p n) → Distinct (numbers_below p n ++ cond t (n ∷ []) [])
    go true d = distinct_end n d (numbers_below_below p n)
    go false d = rw append-nil d

-- ---- picks

nearest_all : (q : ℕ → Bool) (want best : ℕ) (xs : List ℕ) → q best ≡ true → all q xs ≡ true → q (nearest want best xs) ≡ true
unfolding nearest
nearest_all q want best [] e h = e
nearest_all q want best (x ∷ xs) e h =
    nearest_all q want (cond (ltb (distance want x) (distance want best)) x best) xs (go (ltb (distance want x) (distance want best))) (all_tail q x xs h)
  where
    go : (t : Bool) → q (cond t x best) ≡ true
    go true = all_head q x xs h
    go false = e

pub nearest_there : (want best : ℕ) (xs : List ℕ) → contains (nearest want best xs) (best ∷ xs) ≡ true
unfolding nearest contains any
nearest_there want best [] = or_left (eqb best best) false (eq-eqb best best refl)
nearest_there want best (x ∷ xs) = go (ltb (distance want x) (distance want best)) (nearest_there want (cond (ltb (distance want x) (distance want best)) x best) xs)
  where
    go : (t : Bool) → contains (nearest want (cond t x best) xs) (cond t x best ∷ xs) ≡ true
        → contains (nearest want (cond t x best) xs) (best ∷ (x ∷ xs)) ≡ true
    go true h = or_right (eqb best (nearest want x xs)) _ h
    go false h =
        ⊎_elim
        (λ e. or_left (eqb best (nearest want best xs)) _ e)
        (λ e. or_right (eqb best (nearest want best xs)) _ (or_right (eqb x (nearest want best xs)) _ e))
        (or_cases (eqb best (nearest want best xs)) _ h)

-- What holds of each free block holds of each pick.
pub picks_all : (q : ℕ → Bool) (want n : ℕ) (free : List ℕ) → all q free ≡ true → all q (picks want n free) ≡ true
unfolding picks all
picks_all q want zero free h = refl
picks_all q want (suc n) [] h = refl
picks_all q want (suc n) (x ∷ xs) h =
    let best : ℕ = nearest want x xs in
    all_cons q best (picks want n (remove best (x ∷ xs))) (nearest_all q want x xs (all_head q x xs h) (all_tail q x xs h))
    (picks_all q want n (remove best (x ∷ xs)) (all_remove q best (x ∷ xs) h))

pub picks_distinct : (want n : ℕ) (free : List ℕ) → Distinct free → Distinct (picks want n free)
unfolding picks
picks_distinct want zero free d = none
picks_distinct want (suc n) [] d = none
picks_distinct want (suc n) (x ∷ xs) d =
    let best : ℕ = nearest want x xs in
    more
    (picks_all (λ y. not (eqb y best)) want n (remove best (x ∷ xs)) (remove_without best d))
    (picks_distinct want n (remove best (x ∷ xs)) (remove_distinct best d))

-- As many as asked for, where enough are free.
pub picks_length : (want n : ℕ) (free : List ℕ) → n ≤ length free → length (picks want n free) ≡ n
unfolding picks
picks_length want zero free h = refl
picks_length want (suc n) [] h = absurd (not-suc-le-zero h)
picks_length want (suc n) (x ∷ xs) h =
    let best : ℕ = nearest want x xs in
    ap suc (picks_length want n (remove best (x ∷ xs)) (omega (arith, remove_length best (x ∷ xs) (nearest_there want x xs))))

pub picks_takeable : (p : Public) (want n : ℕ) → Takeable p (picks want n (free_blocks p))
unfolding free_blocks
picks_takeable p want n = record {
  free = picks_all (free p) want n (free_blocks p) (numbers_below_all (free p) p.info.blocks);
  distinct = picks_distinct want n (free_blocks p) (numbers_below_distinct (free p) p.info.blocks);
}
