-- The buffer of the input, whose first bytes are filled.
use Rattle.std.specs.Prelude.{ℕ, ◌≤◌, ◌≡◌, List, length, take}

-- No record is longer.
abbrev pub record_room : ℕ
record_room = 536

-- The filled part is kept and may have grown. What a system call has read no contract says.
pub record GrownIs (before : List ℕ) (filled : ℕ) (after : List ℕ) (end : ℕ) : Type 0 where
  pub keeps : take filled after ≡ take filled before
  pub further : filled ≤ end
  pub within : end ≤ length after
