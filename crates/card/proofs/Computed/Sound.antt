-- `done_sound`, `counts_right`, `pointers_ascending` and `format_sound` as tests, which follow from them.
use Prim.Native.Nat.{ℕ}
use mathlib.Core.Bool.{Bool, true, ◌&&◌}
use mathlib.Core.Path.{◌≡◌}
use lib.Dec.{eqb}
use lib.ListN.{drop}
use borrow.Author.Tests.{eq-eqb}
use Rattle.card.specs.Lists.{all, all_below}
use Rattle.card.specs.Pointers.{ascending, pointers_to}
use Rattle.card.specs.Card.{Card, count, in_use, times_in_use}
use Rattle.card.specs.Soundness.{ranges, lengths}
use Rattle.card.specs.Calls.{format}
use Rattle.card.specs.Session.{Sent, performed}
use Rattle.card.specs.Statements.Sound.{DoneSound, CountsRight, PointersAscending, FormatSound}
use Rattle.card.proofs.Computed.TestLaws.{and_true, true_all_below}
use Rattle.card.proofs.Computed.Row.{implies, true_implies, Row}
use Rattle.card.proofs.Computed.SoundLaws.{is_sound, is_sound_true, true_is_sound}

abbrev pub done_sound_test : Card → Sent → Bool
done_sound_test c s = implies (is_sound c) (is_sound (performed c s).after)

abbrev pub counts_right_test : Card → Sent → Bool
counts_right_test c s =
    let p = (performed c s).after.public in
    implies (is_sound c) (all_below (λ b. eqb (count p b) (pointers_to b (in_use p) (times_in_use p))) p.info.blocks)

abbrev pub pointers_ascending_test : Card → Sent → Bool
pointers_ascending_test c s =
    let p = (performed c s).after.public in
    implies (is_sound c) (ascending (in_use p) && all (λ w. eqb w 0) (drop p.info.used p.pointers))

abbrev pub format_sound_test : ℕ → ℕ → ℕ → Card → Bool
format_sound_test blocks roots bytes c = implies (ranges blocks roots bytes && lengths blocks bytes c) (is_sound (format blocks roots bytes c).after)

pub done_sound_tests : DoneSound → (c : Card) (s : Sent) → done_sound_test c s ≡ true
done_sound_tests statement c s = true_implies (is_sound c) _ (λ h. true_is_sound (statement s.port c s.request (is_sound_true h)))

abbrev pub done_sound_row : Card → Sent → Row DoneSound
done_sound_row c s = record { test = done_sound_test c s; follows = λ statement. done_sound_tests statement c s }

pub counts_right_tests : CountsRight → (c : Card) (s : Sent) → counts_right_test c s ≡ true
counts_right_tests counts_right c s =
    true_implies (is_sound c) _ (λ h. true_all_below _ _ (λ b l. eq-eqb _ _ (counts_right s.port c s.request (is_sound_true h) b l)))

abbrev pub counts_right_row : (c : Card) (s : Sent) → Row CountsRight
counts_right_row c s = record { test = counts_right_test c s; follows = λ statement. counts_right_tests statement c s }

pub pointers_ascending_tests : PointersAscending → (c : Card) (s : Sent) → pointers_ascending_test c s ≡ true
pointers_ascending_tests pointers_ascending c s =
    true_implies (is_sound c) _
    (λ h. let r = pointers_ascending s.port c s.request (is_sound_true h) in and_true _ _ r.ascends r.rest_zero)

abbrev pub pointers_ascending_row : (c : Card) (s : Sent) → Row PointersAscending
pointers_ascending_row c s = record { test = pointers_ascending_test c s; follows = λ statement. pointers_ascending_tests statement c s }

pub format_sound_tests : FormatSound → (blocks roots bytes : ℕ) (c : Card) → format_sound_test blocks roots bytes c ≡ true
format_sound_tests format_sound blocks roots bytes c = true_implies (ranges blocks roots bytes && lengths blocks bytes c) _ (λ h. true_is_sound (format_sound blocks roots bytes c h))

abbrev pub format_sound_row : (blocks roots bytes : ℕ) (c : Card) → Row FormatSound
format_sound_row blocks roots bytes c = record { test = format_sound_test blocks roots bytes c; follows = λ statement. format_sound_tests statement blocks roots bytes c }
