-- `secrecy` and `same_hidden` as tests, which follow from them.
use Prim.Native.Nat.{ℕ, ◌<◌}
use mathlib.Core.Bool.{Bool, true, false, ◌&&◌, ◌||◌, not}
use mathlib.Core.List.{List, [], ◌∷◌}
use mathlib.Core.Logic.{inl, inr, ⊎_elim}
use mathlib.Core.Path.{◌≡◌, refl, ap}
use borrow.Author.Tests.{not-true}
use Rattle.card.specs.Lists.{every, all_below}
use Rattle.card.specs.Card.{Card, allocated, free, is_root, block}
use Rattle.card.specs.SoundCard.{SoundCard}
use Rattle.card.specs.Session.{Request, Sent, replies, after_all, host_session}
use Rattle.card.specs.Reach.{presented, last_taken, key_presented, sealed, Reach, unsealed_root, by_key, Hidden}
use Rattle.card.specs.Statements.Secrecy.{EqualBut, SameHidden, HiddenOrUnallocated, Secret, Secrecy}
use Rattle.card.specs.declared.Mode.{Mode}
use Rattle.card.proofs.Computed.Same.{same_list, same_lists, reply_numbers}
use Rattle.card.proofs.Computed.TestLaws.{and_left, and_right, and_true, or_cases, or_else, not_cases, absurd_test, every_true, all_below_true, true_all_below, same_list_true, true_same_list, true_same_lists}
use Rattle.card.proofs.Computed.Row.{implies, true_implies, Row}
use Rattle.card.proofs.Computed.SoundLaws.{is_sound, is_sound_true}
use Rattle.card.proofs.Computed.Bounds.{bounds, reach_inside}

-- A card with other contents.
abbrev pub with_contents : Card → List ℕ → Card
with_contents c contents = record { public = c.public; keys = c.keys; contents = contents }

-- ---- same_hidden

-- Within reach by itself: by a presented key, or as an unsealed root.
abbrev pub by_itself : (ℕ → ℕ → Bool) → Card → Mode → ℕ → Bool
by_itself K c mode b = allocated c.public b && (key_presented K c mode b || (is_root c.public b && not (sealed K c b)))

-- Where the named blocks bound what is within reach on the other card, a block that is within reach by itself on this one is named.
abbrev pub same_hidden_test : (ℕ → ℕ → Bool) → Card → List ℕ → (ℕ → Bool) → Mode → ℕ → Bool
same_hidden_test K c contents named mode b = implies (bounds K (with_contents c contents) named && by_itself K c mode b) (named b)

by_itself_reach : (K : ℕ → ℕ → Bool) (c : Card) (mode : Mode) (b : ℕ) → by_itself K c mode b ≡ true → Reach K c b
by_itself_reach K c mode b h =
    let a : allocated c.public b ≡ true = and_left _ _ h in
    ⊎_elim
    (λ (k : key_presented K c mode b ≡ true). by_key mode a k)
    (λ (r : is_root c.public b && not (sealed K c b) ≡ true). unsealed_root a (and_left _ _ r) (not-true _ (and_right (is_root c.public b) _ r)))
    (or_cases (key_presented K c mode b) _ (and_right (allocated c.public b) _ h))

equal_contents : (c : Card) (contents : List ℕ) → EqualBut (λ b. Unit {0}) c (with_contents c contents)
equal_contents c contents = record { same_public = refl; same_keys = refl; same_contents = λ b l differ. absurd (differ tt) }

pub same_hidden_tests : SameHidden → (K : ℕ → ℕ → Bool) (c : Card) (contents : List ℕ) (named : ℕ → Bool) (mode : Mode) (b : ℕ) → same_hidden_test K c contents named mode b ≡ true
same_hidden_tests same_hidden K c contents named mode b =
    true_implies (bounds K (with_contents c contents) named && by_itself K c mode b) _
    (λ h.
    reach_inside K (with_contents c contents) named (and_left _ _ h)
    ((same_hidden K (λ b. Unit {0}) c (with_contents c contents) (equal_contents c contents) b).0.0
    (by_itself_reach K c mode b (and_right (bounds K (with_contents c contents) named) _ h))))

abbrev pub same_hidden_row : (K : ℕ → ℕ → Bool) (c : Card) (contents : List ℕ) (named : ℕ → Bool) (mode : Mode) (b : ℕ) → Row SameHidden
same_hidden_row K c contents named mode b = record { test = same_hidden_test K c contents named mode b; follows = λ statement. same_hidden_tests statement K c contents named mode b }

-- ---- secrecy

-- Two sound cards that are equal but for contents, and have equal contents in the named blocks, which bound what is within reach of the keys.
module _ (K : ℕ → ℕ → Bool) (c : Card) (contents : List ℕ) (named : ℕ → Bool) where
  abbrev pub other : Card
  other = with_contents c contents

  abbrev pub same_named : ℕ → Bool
  same_named b = implies (named b) (same_list (block c b) (block other b))

  abbrev pub tests : List Bool
  tests = is_sound c ∷ is_sound other ∷ bounds K c named ∷ all_below same_named c.public.info.blocks ∷ []

  abbrev pub comparable : Bool
  comparable = every tests

-- On two such cards: equal answers, and every allocated block that is not named keeps its contents unless its last pointer was taken.
module _ (c : Card) (contents : List ℕ) (named : ℕ → Bool) (session : List Request) where
  abbrev pub calls : List Sent
  calls = host_session session

  abbrev pub keeps : ℕ → Bool
  keeps b = implies (allocated c.public b && not (named b)) (last_taken c calls b || same_list (block (after_all c calls) b) (block c b))

  -- Equal on both at the end: a block that was allotted, and one that was swept.
  abbrev pub ends : ℕ → Bool
  ends b =
      let d = after_all c calls in
      implies ((not (allocated c.public b) && allocated d.public b) || (not (free c.public b) && free d.public b))
      (same_list (block d b) (block (after_all (with_contents c contents) calls) b))

  abbrev pub secrecy_test : Bool
  secrecy_test =
      implies (comparable (presented session) c contents named)
      (same_lists (reply_numbers (replies c calls)) (reply_numbers (replies (with_contents c contents) calls))
      && (all_below keeps c.public.info.blocks && all_below ends (after_all c calls).public.info.blocks))

module _ (K : ℕ → ℕ → Bool) (c : Card) (contents : List ℕ) (named : ℕ → Bool) (h : comparable K c contents named ≡ true) where
  pub both_sound : SoundCard c × SoundCard (with_contents c contents)
  both_sound = (is_sound_true (every_true (tests K c contents named) h).0, is_sound_true (every_true (tests K c contents named) h).1.0)

  -- A block that is not named is hidden, if it is allocated.
  pub hidden_else : (b : ℕ) → allocated c.public b ≡ true → named b ≡ false → Hidden K c b
  hidden_else b a f = record { is_allocated = a; out_of_reach = λ g. absurd_test (reach_inside K c named (every_true (tests K c contents named) h).1.1.0 g) f }

  named_else : (b : ℕ) → (HiddenOrUnallocated K c b → ⊥) → named b ≡ true
  named_else b n =
      ⊎_elim (λ e. e)
      (λ (f : named b ≡ false). absurd (n (⊎_elim (λ a. inl (hidden_else b a f)) (λ free. inr free) (not_cases (allocated c.public b)))))
      (not_cases (named b))

  pub equal_else : EqualBut (HiddenOrUnallocated K c) c (with_contents c contents)
  equal_else = record {
    same_public = refl;
    same_keys = refl;
    same_contents = λ b l n.
        same_list_true _ _
        (or_else (not (named b)) _ (all_below_true (same_named K c contents named) _ (every_true (tests K c contents named) h).1.1.1.0 b l) (ap not (named_else b n)));
  }

module _ (statement : Secrecy) (c : Card) (contents : List ℕ) (named : ℕ → Bool) (session : List Request) where
  abbrev sent : List Sent
  sent = calls c contents named session

  module _ (h : comparable (presented session) c contents named ≡ true) where
    secret : Secret (presented session) sent c (with_contents c contents)
    secret =
        let s = both_sound (presented session) c contents named h in
        statement session c (with_contents c contents) s.0 s.1 (equal_else (presented session) c contents named h)

    kept_all : (b : ℕ) → keeps c contents named session b ≡ true
    kept_all b =
        true_implies (allocated c.public b && not (named b)) _
        (λ g. kept_or_taken (last_taken c sent b) refl
        (hidden_else (presented session) c contents named h b (and_left _ _ g) (not-true _ (and_right (allocated c.public b) _ g))))
      where
        kept_or_taken : (t : Bool) → last_taken c sent b ≡ t → Hidden (presented session) c b → t || same_list (block (after_all c sent) b) (block c b) ≡ true
        kept_or_taken true e k = refl
        kept_or_taken false e k = true_same_list (secret.kept b k e)

    ended : (b : ℕ) → b < (after_all c sent).public.info.blocks → ends c contents named session b ≡ true
    ended b l =
        true_implies ((not (allocated c.public b) && allocated (after_all c sent).public b) || (not (free c.public b) && free (after_all c sent).public b)) _
        (λ e.
        true_same_list
        (secret.cards.same_contents b l
        (λ differs.
        ⊎_elim
        (λ taken.
        let was : allocated c.public b ≡ false = not-true _ (and_left _ _ taken) in
        let is : allocated (after_all c sent).public b ≡ true = and_right (not (allocated c.public b)) _ taken in
        ⊎_elim (λ (hidden : Hidden (presented session) c b). absurd_test hidden.is_allocated was) (λ u. absurd_test is u.1) differs.0)
        (λ swept. absurd_test (differs.1 (and_right (not (free c.public b)) _ swept)) (not-true _ (and_left _ _ swept)))
        (or_cases (not (allocated c.public b) && allocated (after_all c sent).public b) _ e))))

  pub secrecy_tests : secrecy_test c contents named session ≡ true
  secrecy_tests =
      true_implies (comparable (presented session) c contents named) _
      (λ h.
      and_true _ _ (true_same_lists (ap reply_numbers (secret h).answers))
      (and_true _ _ (true_all_below (keeps c contents named session) _ (λ b l. kept_all h b))
      (true_all_below (ends c contents named session) _ (λ b l. ended h b l))))

abbrev pub secrecy_row : Card → List ℕ → (ℕ → Bool) → List Request → Row Secrecy
secrecy_row c contents named session =
    record { test = secrecy_test c contents named session; follows = λ statement. secrecy_tests statement c contents named session }
