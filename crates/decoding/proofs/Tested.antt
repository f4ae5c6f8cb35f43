-- Each test of a theorem is passed by the right rules.
use Prim.Native.Nat.{ℕ, ◌<◌}
use mathlib.Core.Path.{◌≡◌}
use mathlib.Core.Bool.{true}
use mathlib.Core.List.{List}
use Rattle.card.specs.declared.Port.{Port}
use Rattle.decoding.proofs.KindsDecoded.{kinds_decoded}
use Rattle.decoding.proofs.Uncarried.{rent_uncarried, sweep_uncarried}
use Rattle.decoding.proofs.Rows.{kinds_decoded_test, kinds_decoded_tests, rent_uncarried_test, rent_uncarried_tests, sweep_uncarried_test, sweep_uncarried_tests}

pub kinds_decoded_tested : (wire : Port) (kind : ℕ) → kind < 256 → (xs : List ℕ) → kinds_decoded_test wire kind xs ≡ true
kinds_decoded_tested wire kind h xs = kinds_decoded_tests kinds_decoded wire kind xs

pub rent_uncarried_tested : (wire : Port) (xs : List ℕ) → rent_uncarried_test wire xs ≡ true
rent_uncarried_tested wire xs = rent_uncarried_tests rent_uncarried wire xs

pub sweep_uncarried_tested : (wire : Port) (xs : List ℕ) → sweep_uncarried_test wire xs ≡ true
sweep_uncarried_tested wire xs = sweep_uncarried_tests sweep_uncarried wire xs
