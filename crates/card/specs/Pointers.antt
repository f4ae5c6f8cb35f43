-- Pointers as numbers, source × 65,536 + destination, and sorted lists of them.
use Rattle.std.specs.Prelude.{ℕ, ◌+◌, ◌*◌, ◌/◌, ◌%◌, Bool, true, ◌&&◌, not, cond, List, [], ◌∷◌, eqb, ltb}
use Rattle.card.specs.Lists.{any}

abbrev pub pointer : ℕ → ℕ → ℕ
pointer source destination = source * 65536 + destination

abbrev pub source : ℕ → ℕ
source w = w / 65536

abbrev pub destination : ℕ → ℕ
destination w = w % 65536

-- Document 01, "strictly ascending".
unfoldable pub ascending : List ℕ → Bool
ascending [] = true
ascending (x ∷ []) = true
ascending (x ∷ (y ∷ ys)) = ltb x y && ascending (y ∷ ys)

unfoldable pub contains : ℕ → List ℕ → Bool
contains w ws = any (λ x. eqb x w) ws

-- Some pointer of the list starts at the block: document 01, "has pointers of its own".
unfoldable pub points_from : ℕ → List ℕ → Bool
points_from b ws = any (λ x. eqb (source x) b) ws

-- ---- numbers beside the pointers of a list, place by place: 2026-05, "in a table beside it"

-- The number beside a pointer, 0 where the pointer is not there.
unfoldable pub beside : ℕ → List ℕ → List ℕ → ℕ
beside w [] ns = 0
beside w (x ∷ xs) [] = 0
beside w (x ∷ xs) (n ∷ ns) = cond (eqb x w) n (beside w xs ns)

-- The numbers beside the pointers that pass a test, added up.
unfoldable pub total : (ℕ → Bool) → List ℕ → List ℕ → ℕ
total test [] ns = 0
total test (x ∷ xs) [] = 0
total test (x ∷ xs) (n ∷ ns) = cond (test x) n 0 + total test xs ns

-- 2026-05, "the sum of multiplicities", of the pointers to a block.
abbrev pub pointers_to : ℕ → List ℕ → List ℕ → ℕ
pointers_to b ws ns = total (λ w. eqb (destination w) b) ws ns

-- Another number beside a pointer that is there.
unfoldable pub set_beside : ℕ → ℕ → List ℕ → List ℕ → List ℕ
set_beside w m [] ns = []
set_beside w m (x ∷ xs) [] = []
set_beside w m (x ∷ xs) (n ∷ ns) = cond (eqb x w) (m ∷ ns) (n ∷ set_beside w m xs ns)

-- ---- insertion and removal: the pointers and the numbers beside them move together

-- A number put in where w has its place among ascending pointers.
unfoldable pub insert_beside : ℕ → ℕ → List ℕ → List ℕ → List ℕ
insert_beside w m [] ns = m ∷ []
insert_beside w m (x ∷ xs) [] = m ∷ []
insert_beside w m (x ∷ xs) (n ∷ ns) = cond (ltb w x) (m ∷ (n ∷ ns)) (n ∷ insert_beside w m xs ns)

-- The number where w stands goes, if w is there.
unfoldable pub remove_beside : ℕ → List ℕ → List ℕ → List ℕ
remove_beside w [] ns = []
remove_beside w (x ∷ xs) [] = []
remove_beside w (x ∷ xs) (n ∷ ns) = cond (eqb x w) ns (n ∷ remove_beside w xs ns)

-- The same of the pointers themselves: w is put into its place, and goes from it.
unfoldable pub insert : ℕ → List ℕ → List ℕ
insert w ws = insert_beside w w ws ws

unfoldable pub remove : ℕ → List ℕ → List ℕ
remove w ws = remove_beside w ws ws

-- ---- 2026-07: the pointers that pass a test stay, and the numbers beside them

unfoldable pub keep_beside : (ℕ → Bool) → List ℕ → List ℕ → List ℕ
keep_beside test [] ns = []
keep_beside test (x ∷ xs) [] = []
keep_beside test (x ∷ xs) (n ∷ ns) = cond (test x) (n ∷ keep_beside test xs ns) (keep_beside test xs ns)

unfoldable pub keep : (ℕ → Bool) → List ℕ → List ℕ
keep test ws = keep_beside test ws ws

-- A pointer that starts at none of the blocks.
unfoldable pub not_from : List ℕ → ℕ → Bool
not_from bs w = not (contains (source w) bs)
