-- Each test of a theorem is passed by the right rules.
use Prim.Native.Nat.{ℕ}
use mathlib.Core.Path.{◌≡◌}
use mathlib.Core.Bool.{Bool, true}
use mathlib.Core.List.{List}
use Rattle.card.specs.Card.{Card}
use Rattle.card.specs.declared.Port.{Port}
use Rattle.input.proofs.Rows.{play_safe_test, play_safe_tests}
use Rattle.input.proofs.Tested.{performed_tested}
use Rattle.serving.proofs.PlaySafe.{play_safe}
use Rattle.serving.proofs.BytesSafe.{bytes_safe}
use Rattle.serving.proofs.BytesSecret.{room_by_record, keys_counted, bytes_secret}
use Rattle.serving.proofs.Rows.{bytes_safe_test, bytes_secret_test, bytes_secret_tests, room_by_record_test, room_by_record_tests, keys_counted_test, keys_counted_tests}

pub play_safe_tested : (c : Card) (xs : List ℕ) (room : ℕ) → play_safe_test c xs room ≡ true
play_safe_tested c xs room = play_safe_tests play_safe c xs room

pub bytes_safe_tested : (wire : Port) (c : Card) (xs : List ℕ) (room : ℕ) → bytes_safe_test wire c xs room ≡ true
bytes_safe_tested wire c xs room = performed_tested (bytes_safe wire c xs room)

pub bytes_secret_tested : (c : Card) (contents : List ℕ) (named : ℕ → Bool) (xs : List ℕ) (room : ℕ) → bytes_secret_test c contents named xs room ≡ true
bytes_secret_tested c contents named xs room = bytes_secret_tests bytes_secret c contents named xs room

pub room_by_record_tested : (wire : Port) (room : ℕ) (c d : Card) (xs : List ℕ) → room_by_record_test wire room c d xs ≡ true
room_by_record_tested wire room c d xs = room_by_record_tests room_by_record wire room c d xs

pub keys_counted_tested : (c : Card) (xs : List ℕ) (high low : ℕ) → keys_counted_test c xs high low ≡ true
keys_counted_tested c xs high low = keys_counted_tests keys_counted c xs high low
