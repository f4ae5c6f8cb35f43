-- What the checks of ALLOC_CONTIG find.
use Rattle.std.specs.Prelude.{ℕ, Option, None, Some, Result, Ok, Err}
use Rattle.checks.specs.Checked.{Checked}
use Rattle.card.specs.declared.Refusal.{Refusal}
use Rattle.card.specs.declared.Refusal.TheVariants.{NoRun}

-- The refusal, or the first block of the run.
abbrev pub RunChecked : Type 0
RunChecked = Result ℕ Refusal

-- The call's refusal, or the first block of the nearest run; where there is no run, the checks do not pass.
unfoldable pub run_checked : Checked → Option ℕ → RunChecked
run_checked (Err why) run = Err why
run_checked (Ok tt) None = Err NoRun
run_checked (Ok tt) (Some first) = Ok first
