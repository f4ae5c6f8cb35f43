-- The theorem on secrecy is not empty: two sound cards that differ in hidden blocks and in a waiting one, and a session with done calls that frees one
-- of the hidden ones and sweeps it.
use Rattle.std.specs.Prelude.{Some}
use Prim.Native.Nat.{ℕ}
use mathlib.Core.Path.{◌≡◌, refl, sym, ap, subst}
use mathlib.Core.Logic.{inl, inr}
use mathlib.Core.Bool.{Bool, true, false, ◌||◌, not}
use mathlib.Core.List.{List, [], ◌∷◌}
use native.Mathlib.Omega.{arith}
use lib.Dec.{eqb, leb}
use lib.ListN.{get_or, replicate}
use borrow.Author.Tests.{not-true, eqb-true}
use Rattle.card.specs.Lists.{every, all_below}
use Rattle.laws.specs.ListsLaws.{or_else, or_false, false_unless, absurd_test, every_true, all_below_true}
use Rattle.card.specs.Contents.{fill}
use Rattle.card.specs.Card.{Card, allocated, waiting, free, block}
use Rattle.card.specs.Soundness.{shape, sound}
use Rattle.card.specs.SoundCard.{SoundCard}
use Rattle.laws.specs.SoundnessLaws.{shape_true, sound_true, waiting_unallocated}
use Rattle.card.specs.Session.{Request, Sent, after_all, reports, host_session, traits}
use Rattle.card.specs.Reach.{shows, presents, some_shows, presented, key_presented, sealed, Reach, Hidden, takes_last, is_one, last_taken}
use Rattle.card.specs.Trials.{rules, player_card, alloc, delete, key, lending}
use Rattle.card.specs.declared.Port.TheVariants.{Service}
use Rattle.card.specs.declared.Mode.TheVariants.{Reading, Writing}
use Rattle.card.specs.declared.Credential.TheVariants.{Nothing, Reference, Key as KeyCredential}
use Rattle.card.specs.declared.Call.TheVariants.{Read, Write, Delete, Free, Sweep}
use Rattle.card.specs.Statements.Secrecy.{EqualBut, HiddenOrUnallocated}
use Rattle.card.proofs.Computed.Bounds.{bounds, reach_inside}
use Rattle.card.proofs.Computed.Same.{same_list}
use Rattle.card.proofs.Computed.TestLaws.{same_list_true}
use Rattle.card.proofs.Computed.Rows.{hosted}

-- ---- two cards

-- Block 1 has keys that the session presents. It points to blocks 2 and 3, which have other keys: they are sealed. Block 4 waits.
abbrev sealed_blocks : List Sent
sealed_blocks =
    alloc Service 0 65535 1
    ∷ alloc Service 1 65535 2
    ∷ key Service Reading 1 Nothing (Some (1, 2))
    ∷ key Service Writing 1 Nothing (Some (3, 4))
    ∷ key Service Reading 2 Nothing (Some (5, 6))
    ∷ key Service Writing 2 Nothing (Some (7, 8))
    ∷ key Service Reading 3 Nothing (Some (5, 6))
    ∷ key Service Writing 3 Nothing (Some (7, 8))
    ∷ alloc Service 0 65535 1
    ∷ delete Service 0 4
    ∷ []

unfoldable pub prepared : Card
prepared = after_all player_card sealed_blocks

-- That card with one byte all over blocks 2, 3 and 4.
abbrev pub card_with : ℕ → Card
card_with byte = record {
  public = prepared.public;
  keys = prepared.keys;
  contents = fill 512 (fill 512 (fill 512 prepared.contents 2 (replicate 512 byte)) 3 (replicate 512 byte)) 4 (replicate 512 byte);
}

-- ---- a session

-- Block 1 is read and written by its keys, block 3 is asked for in vain, a DELETE frees block 2, and a SWEEP of one block takes it.
unfoldable pub session : List Request
session =
    hosted (Read (record { block = 1; credential = KeyCredential 1 2; interval = 10 }))
    ∷ record { call = Write (record { block = 1; credential = KeyCredential 3 4; interval = 10 }); lent = lending (replicate 512 9) }
    ∷ hosted (Read (record { block = 3; credential = Reference 1; interval = 0 }))
    ∷ hosted (Delete (record { source = 1; credential = KeyCredential 3 4; destination = 2 }))
    ∷ hosted (Read (record { block = 1; credential = KeyCredential 1 2; interval = 0 }))
    ∷ hosted (Sweep (record { most = 1 }))
    ∷ hosted Free
    ∷ []

-- ---- what is computed of them

-- The blocks that are within reach at most: the root and block 1.
abbrev is_open : ℕ → Bool
is_open b = leb b 1

module _ (byte : ℕ) where
  abbrev computed : List Bool
  computed =
      shape (card_with byte)
      ∷ sound (card_with byte)
      ∷ bounds (presented session) (card_with byte) is_open
      ∷ allocated (card_with byte).public 2
      ∷ allocated (card_with byte).public 3
      ∷ last_taken (card_with byte) (host_session session) 2
      ∷ not (last_taken (card_with byte) (host_session session) 3)
      ∷ []

-- Each block but 2, 3 and 4 has the same contents on both.
agreeing : Bool
agreeing =
    all_below (λ b. eqb b 2 || eqb b 3 || eqb b 4 || same_list (block (card_with 5) b) (block (card_with 6) b)) 16

computed_5 : every (computed 5) ≡ true
unfolding rules player_card prepared session after_all presented presents some_shows shows key_presented sealed bounds takes_last is_one last_taken traits
computed_5 = refl

computed_6 : every (computed 6) ≡ true
unfolding rules player_card prepared session after_all presented presents some_shows shows key_presented sealed bounds takes_last is_one last_taken traits
computed_6 = refl

agreeing_true : agreeing ≡ true
unfolding rules player_card prepared session after_all agreeing same_list
agreeing_true = refl

-- ---- the example

-- What the session reports, on the one card; by the theorem on the other too.
pub reported : reports (card_with 5) (host_session session)
    ≡ (0 ∷ replicate 8 0) ∷ (0 ∷ []) ∷ (5 ∷ []) ∷ (0 ∷ 1 ∷ []) ∷ (0 ∷ replicate 8 9) ∷ (0 ∷ 1 ∷ []) ∷ (0 ∷ 12 ∷ []) ∷ []
unfolding rules player_card prepared session after_all
reported = refl

-- The contents of block 3 differ, and those of block 4, which waits.
pub contents_differ : block (card_with 5) 3 ≡ block (card_with 6) 3 → ⊥
unfolding rules player_card prepared after_all
contents_differ e = let z : ◌≡◌ {A = ℕ} 5 6 = ap (λ (xs : List ℕ). get_or xs 0 0) e in absurd (omega arith)

pub waiting_differ : (waiting (card_with 5).public 4 ≡ true) × (block (card_with 5) 4 ≡ block (card_with 6) 4 → ⊥)
unfolding rules player_card prepared after_all
waiting_differ = (refl, λ e. let z : ◌≡◌ {A = ℕ} 5 6 = ap (λ (xs : List ℕ). get_or xs 0 0) e in absurd (omega arith))

-- Block 2, which differed, is free at the end and holds zeros on both cards.
abbrev pub ended : ℕ → Card
ended byte = after_all (card_with byte) (host_session session)

pub swept_alike : (free (ended 5).public 2 ≡ true) × ((block (ended 5) 2 ≡ replicate 512 0) × (block (ended 6) 2 ≡ replicate 512 0))
unfolding rules player_card prepared session after_all
swept_alike = (refl, (refl, refl))

module _ (byte : ℕ) (h : every (computed byte) ≡ true) where
  is_sound_law : SoundCard (card_with byte)
  is_sound_law = record { shaped = shape_true _ (every_true (computed byte) h).0; is_sound = sound_true _ (every_true (computed byte) h).1.0 }

  out_of_reach_law : (b : ℕ) → is_open b ≡ false → Reach (presented session) (card_with byte) b → ⊥
  out_of_reach_law b e g = absurd_test (reach_inside (presented session) (card_with byte) is_open (every_true (computed byte) h).1.1.0 g) e

  hidden_2 : Hidden (presented session) (card_with byte) 2
  hidden_2 = record { is_allocated = (every_true (computed byte) h).1.1.1.0; out_of_reach = out_of_reach_law 2 refl }

  hidden_3 : Hidden (presented session) (card_with byte) 3
  hidden_3 = record { is_allocated = (every_true (computed byte) h).1.1.1.1.0; out_of_reach = out_of_reach_law 3 refl }

-- Two sound cards with the hidden blocks 2 and 3 and the waiting block 4, equal but for these.
pub sound_cards : SoundCard (card_with 5) × SoundCard (card_with 6)
sound_cards = (is_sound_law 5 computed_5, is_sound_law 6 computed_6)

pub hidden_blocks : Hidden (presented session) (card_with 5) 2 × Hidden (presented session) (card_with 5) 3
hidden_blocks = (hidden_2 5 computed_5, hidden_3 5 computed_5)

pub equal_but : EqualBut (HiddenOrUnallocated (presented session) (card_with 5)) (card_with 5) (card_with 6)
unfolding rules player_card prepared after_all agreeing
equal_but = record {
  same_public = refl;
  same_keys = refl;
  same_contents = λ b l n.
      let test = all_below_true (λ b. eqb b 2 || eqb b 3 || eqb b 4 || same_list (block (card_with 5) b) (block (card_with 6) b)) 16 agreeing_true b l in
      let not_2 : eqb b 2 ≡ false = false_unless _ (λ e. n (inl (subst (Hidden (presented session) (card_with 5)) (sym (eqb-true b 2 e)) (hidden_2 5 computed_5)))) in
      let not_3 : eqb b 3 ≡ false = false_unless _ (λ e. n (inl (subst (Hidden (presented session) (card_with 5)) (sym (eqb-true b 3 e)) (hidden_3 5 computed_5)))) in
      let not_4 : eqb b 4 ≡ false =
      false_unless _ (λ e. n (inr (subst (λ (k : ℕ). allocated (card_with 5).public k ≡ false) (sym (eqb-true b 4 e)) (waiting_unallocated (card_with 5).public 4 waiting_differ.0)))) in
      same_list_true (block (card_with 5) b) (block (card_with 6) b) (or_else (eqb b 2 || eqb b 3 || eqb b 4) _ test (or_false _ _ (or_false _ _ not_2 not_3) not_4));
}

-- The session takes block 2's last pointer away and leaves block 3's.
pub last_taken_law : (last_taken (card_with 5) (host_session session) 2 ≡ true) × (last_taken (card_with 5) (host_session session) 3 ≡ false)
last_taken_law = ((every_true (computed 5) computed_5).1.1.1.1.1.0, not-true _ (every_true (computed 5) computed_5).1.1.1.1.1.1.0)
