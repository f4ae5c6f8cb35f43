-- Lines of text: numbers in decimal with single spaces between.
use Rattle.std.specs.Prelude.{ℕ, zero, suc, ◌+◌, ◌/◌, ◌%◌, cond, List, [], ◌∷◌, ◌++◌, ltb}
use Rattle.card.specs.Session.{Reply, reported}
use Rattle.card.specs.declared.Call.{Call}

abbrev pub space : ℕ
space = 32

abbrev pub newline : ℕ
newline = 10

-- The digit of a number below 10.
abbrev pub digit : ℕ → ℕ
digit n = 48 + n

-- A number's decimal digits, of which there are at most so many.
unfoldable pub decimal_within : ℕ → ℕ → List ℕ
decimal_within zero n = []
decimal_within (suc k) n = cond (ltb n 10) (digit n ∷ []) (decimal_within k (n / 10) ++ (digit (n % 10) ∷ []))

-- A 64-bit number in decimal: at most 20 digits.
unfoldable pub decimal : ℕ → List ℕ
decimal n = decimal_within 20 n

-- Each number of the list behind a space.
unfoldable pub spaced : List ℕ → List ℕ
spaced [] = []
spaced (n ∷ ns) = space ∷ (decimal n ++ spaced ns)

-- Document 01, "A line, single spaces between and a newline after: ordinal, kind, answer (0 done), results if done".
unfoldable pub line : ℕ → ℕ → Call → Reply → List ℕ
line ordinal kind call r = decimal ordinal ++ (spaced (kind ∷ reported call r) ++ (newline ∷ []))

-- No line is longer than this.
abbrev pub line_room : ℕ
line_room = 2048

-- Document 01, "Last line: `end`, records before the end or the 13, then 0 or 13."
unfoldable pub last_line : ℕ → ℕ → List ℕ
last_line records number = (101 ∷ 110 ∷ 100 ∷ []) ++ (spaced (records ∷ number ∷ []) ++ (newline ∷ []))
