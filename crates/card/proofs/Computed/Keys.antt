-- `one_key_unsealed`, `other_key_kept`, `own_key_set`, `both_windows_closed` and `write_access_needed` as tests, which follow from them.
use Rattle.std.specs.Prelude.{Option, is_some}
use Prim.Native.Nat.{ℕ}
use mathlib.Core.Bool.{Bool, true, false, ◌&&◌, not}
use mathlib.Core.List.{List, [], ◌∷◌}
use mathlib.Core.Path.{◌≡◌, ap}
use lib.Dec.{eqb}
use borrow.Author.Tests.{eq-eqb, not-true}
use Rattle.card.specs.Card.{Card, allocated, has_key, window_end, window_open, points_to, key_high, key_low}
use Rattle.card.specs.Plan.{high_word, low_word, other_mode, key_bit, Buffers, Result}
use Rattle.card.specs.Calls.{is_done}
use Rattle.card.specs.Session.{perform}
use Rattle.card.specs.Reach.{sealed}
use Rattle.card.specs.Statements.Keys.{setting, OneKeyUnsealed, OtherKeyKept, OwnKeySet, BothWindowsClosed, WriteAccess, by_write_key, by_reference, WriteAccessNeeded}
use Rattle.card.specs.declared.Port.{Port}
use Rattle.card.specs.declared.Port.TheVariants.{Host}
use Rattle.card.specs.declared.Mode.{Mode}
use Rattle.card.specs.declared.Mode.TheVariants.{Reading, Writing}
use Rattle.card.specs.declared.Credential.{Credential}
use Rattle.card.specs.declared.Credential.TheVariants.{Nothing, Reference, Key}
use Rattle.card.specs.declared.KeyOperands.{KeyOperands}
use Rattle.card.proofs.Computed.Same.{same_list}
use Rattle.card.proofs.Computed.TestLaws.{and_left, and_right, and_true, true_same_list, other_mode_law}
use Rattle.card.proofs.Computed.Row.{implies, true_implies, Row}

abbrev pub one_key_unsealed_test : (ℕ → ℕ → Bool) → Card → Mode → ℕ → Bool
one_key_unsealed_test K c mode b = implies (has_key c.public mode b && not (has_key c.public (other_mode mode) b)) (not (sealed K c b))

-- A block's key for the mode: its flag and its words.
abbrev pub key_numbers : Card → Mode → ℕ → List ℕ
key_numbers c m b = key_bit m (has_key c.public m b) ∷ key_high c.keys m b ∷ key_low c.keys m b ∷ []

abbrev pub new_key_numbers : Mode → Option (ℕ × ℕ) → List ℕ
new_key_numbers m key = key_bit m (is_some key) ∷ high_word key ∷ low_word key ∷ []

-- It is worked out apart from the rules' own access test.
abbrev pub has_write_access : Card → ℕ → Credential → Bool
has_write_access c b Nothing = false
has_write_access c b (Reference r) =
    not (has_key c.public Writing b) && (allocated c.public r && (points_to c.public r b && window_open c.public Writing r))
has_write_access c b (Key high low) = has_key c.public Writing b && (eqb (key_high c.keys Writing b) high && eqb (key_low c.keys Writing b) low)

module _ (port : Port) (c : Card) (mode : Mode) (o : KeyOperands) (lent : Buffers) where
  abbrev pub key_set : Result
  key_set = perform port c (setting mode o lent)

  -- The other key of the block that is named.
  abbrev pub other_key_kept_test : Bool
  other_key_kept_test = same_list (key_numbers key_set.after (other_mode mode) o.block) (key_numbers c (other_mode mode) o.block)

  abbrev pub own_key_set_test : Bool
  own_key_set_test = implies (is_done key_set.answer) (same_list (key_numbers key_set.after mode o.block) (new_key_numbers mode o.key))

  abbrev pub both_windows_closed_test : Bool
  both_windows_closed_test =
      implies (is_done key_set.answer)
      (eqb (window_end key_set.after.public Reading o.block) 0 && eqb (window_end key_set.after.public Writing o.block) 0)

abbrev pub write_access_needed_test : Card → Mode → KeyOperands → Buffers → Bool
write_access_needed_test c mode o lent = implies (is_done (perform Host c (setting mode o lent)).answer) (has_write_access c o.block o.credential)

pub one_key_unsealed_tests : OneKeyUnsealed → (K : ℕ → ℕ → Bool) (c : Card) (mode : Mode) (b : ℕ) → one_key_unsealed_test K c mode b ≡ true
one_key_unsealed_tests one_key_unsealed K c mode b =
    true_implies (has_key c.public mode b && not (has_key c.public (other_mode mode) b)) _
    (λ h. ap not (one_key_unsealed K c mode b (and_left _ _ h) (not-true _ (and_right (has_key c.public mode b) _ h))))

true_has_write_access : (c : Card) (b : ℕ) {credential : Credential} → WriteAccess c b credential → has_write_access c b credential ≡ true
true_has_write_access c b (by_write_key k h l) = and_true _ _ k (and_true _ _ (eq-eqb _ _ h) (eq-eqb _ _ l))
true_has_write_access c b (by_reference k a p w) = and_true _ _ (ap not k) (and_true _ _ a (and_true _ _ p w))

pub other_key_kept_tests : OtherKeyKept → (port : Port) (c : Card) (mode : Mode) (o : KeyOperands) (lent : Buffers) → other_key_kept_test port c mode o lent ≡ true
other_key_kept_tests other_key_kept port c mode o lent =
    let k = other_key_kept port c mode o lent (other_mode mode) o.block (λ e _. other_mode_law mode e) in
    true_same_list (λ i. key_bit (other_mode mode) (k.there i) ∷ k.high i ∷ k.low i ∷ [])

pub own_key_set_tests : OwnKeySet → (port : Port) (c : Card) (mode : Mode) (o : KeyOperands) (lent : Buffers) → own_key_set_test port c mode o lent ≡ true
own_key_set_tests own_key_set port c mode o lent =
    true_implies (is_done (key_set port c mode o lent).answer) _
    (λ d. let k = own_key_set port c mode o lent d in true_same_list (λ i. key_bit mode (k.there i) ∷ k.high i ∷ k.low i ∷ []))

pub both_windows_closed_tests : BothWindowsClosed → (port : Port) (c : Card) (mode : Mode) (o : KeyOperands) (lent : Buffers) → both_windows_closed_test port c mode o lent ≡ true
both_windows_closed_tests both_windows_closed port c mode o lent =
    true_implies (is_done (key_set port c mode o lent).answer) _
    (λ d. let w = both_windows_closed port c mode o lent d in and_true _ _ (eq-eqb _ _ (w Reading)) (eq-eqb _ _ (w Writing)))

pub write_access_needed_tests : WriteAccessNeeded → (c : Card) (mode : Mode) (o : KeyOperands) (lent : Buffers) → write_access_needed_test c mode o lent ≡ true
write_access_needed_tests write_access_needed c mode o lent =
    true_implies (is_done (perform Host c (setting mode o lent)).answer) _ (λ d. true_has_write_access c o.block (write_access_needed c mode o lent d))

abbrev pub one_key_unsealed_row : (K : ℕ → ℕ → Bool) (c : Card) (mode : Mode) (b : ℕ) → Row OneKeyUnsealed
one_key_unsealed_row K c mode b = record { test = one_key_unsealed_test K c mode b; follows = λ statement. one_key_unsealed_tests statement K c mode b }

abbrev pub other_key_kept_row : (port : Port) (c : Card) (mode : Mode) (o : KeyOperands) (lent : Buffers) → Row OtherKeyKept
other_key_kept_row port c mode o lent = record { test = other_key_kept_test port c mode o lent; follows = λ statement. other_key_kept_tests statement port c mode o lent }

abbrev pub own_key_set_row : (port : Port) (c : Card) (mode : Mode) (o : KeyOperands) (lent : Buffers) → Row OwnKeySet
own_key_set_row port c mode o lent = record { test = own_key_set_test port c mode o lent; follows = λ statement. own_key_set_tests statement port c mode o lent }

abbrev pub both_windows_closed_row : (port : Port) (c : Card) (mode : Mode) (o : KeyOperands) (lent : Buffers) → Row BothWindowsClosed
both_windows_closed_row port c mode o lent = record { test = both_windows_closed_test port c mode o lent; follows = λ statement. both_windows_closed_tests statement port c mode o lent }

abbrev pub write_access_needed_row : (c : Card) (mode : Mode) (o : KeyOperands) (lent : Buffers) → Row WriteAccessNeeded
write_access_needed_row c mode o lent = record { test = write_access_needed_test c mode o lent; follows = λ statement. write_access_needed_tests statement c mode o lent }
