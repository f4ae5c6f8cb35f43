-- Each test of a theorem is passed by the right rules.
use Prim.Native.Nat.{ℕ}
use mathlib.Core.Path.{◌≡◌}
use mathlib.Core.Bool.{Bool, true}
use mathlib.Core.List.{List}
use Rattle.sequences.specs.Sequence.{Memory, Step, Returned, Called}
use Rattle.sequences.proofs.CallsSafe.{calls_safe}
use Rattle.sequences.proofs.CallsSecret.{calls_secret}
use Rattle.sequences.proofs.Rows.{calls_safe_test, calls_safe_tests, with_bytes, calls_secret_test, calls_secret_tests}

pub calls_safe_tested : {m n : Memory} {steps : List Step} {rs : List Returned} → Called m steps rs n → calls_safe_test m steps rs n ≡ true
calls_safe_tested {m} {n} {steps} {rs} runs = calls_safe_tests calls_safe m n steps rs runs

pub calls_secret_tested : {m m' n' : Memory} (contents : List ℕ) (named : ℕ → Bool) {steps : List Step} {rs ss : List Returned} → Called m steps rs m' → Called (with_bytes m contents) steps ss n' → calls_secret_test m contents named steps rs ss ≡ true
calls_secret_tested contents named runs runsOther = calls_secret_tests contents named runs runsOther calls_secret
