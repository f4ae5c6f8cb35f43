-- A block's part of the contents, read and overwritten.
use Rattle.std.specs.Prelude.{ℕ, ◌+◌, ◌*◌, List, ◌++◌, length, take, drop, replicate}

-- The list with `ys` in place of as many elements from `at` on.
unfoldable pub overwrite : List ℕ → ℕ → List ℕ → List ℕ
overwrite xs at ys = take at xs ++ (ys ++ drop (at + length ys) xs)

-- Document 01, "that block's part of the contents": the part from b × B to b × B + B.
unfoldable pub part : ℕ → List ℕ → ℕ → List ℕ
part bytes contents b = take bytes (drop (b * bytes) contents)

unfoldable pub fill : ℕ → List ℕ → ℕ → List ℕ → List ℕ
fill bytes contents b ys = overwrite contents (b * bytes) ys

abbrev pub zeros : ℕ → List ℕ
zeros n = replicate n 0
