-- The theorem on bytes at the host port is not empty: the two cards of the example of sessions, which differ in hidden blocks and in a waiting
-- one, and bytes that hold done calls, refused ones, and a DELETE that frees one of the hidden blocks. No record carries SWEEP, so it waits.
use Prim.Native.Nat.{ℕ, ◌<◌}
use mathlib.Core.Path.{◌≡◌, refl, sym, ap₂, ◌∙◌}
use mathlib.Core.Logic.{inl, inr, ⊎_elim}
use mathlib.Core.Bool.{Bool, true, false, ◌&&◌, not, beq}
use mathlib.Core.List.{List, [], ◌∷◌, ◌++◌}
use lib.ListN.{replicate}
use Rattle.card.specs.Lists.{every, all_below}
use Rattle.laws.specs.ListsLaws.{absurd_test, every_true, all_below_true}
use Rattle.card.specs.Contents.{zeros}
use Rattle.card.specs.Card.{Card, waiting, has_key, block}
use Rattle.card.specs.SoundCard.{SoundCard}
use Rattle.laws.specs.SoundnessLaws.{allocated_below}
use Rattle.card.specs.Session.{after_all}
use Rattle.card.specs.Reach.{shows, some_shows, presents, presented, key_presented, sealed, Reach, unsealed_root, by_key, open_window, pointed, Hidden, takes_last, is_one, last_taken}
use Rattle.card.specs.Trials.{rules, player_card}
use Rattle.card.specs.Statements.Secrecy.{EqualBut, HiddenOrUnallocated}
use Rattle.guarantees.proofs.Secrecy.Example.{prepared, card_with, session, sound_cards, hidden_blocks, equal_but, contents_differ, waiting_differ}
use Rattle.card.specs.declared.Mode.{Mode}
use Rattle.card.specs.declared.Mode.TheVariants.{Reading, Writing}
use Rattle.card.specs.declared.Port.TheVariants.{Host}
use Rattle.fields.specs.Bytes.{number, bytes, zeroed}
use Rattle.fields.specs.Fields.{credential}
use Rattle.kinds.specs.Kinds.{row, data_length, names, kind_number, length_of, operands_length, among, kind_of}
use Rattle.decoding.specs.Decode.{with_credential, decode_call, decode_known, decode_body, name_of, data_of, next_of, decode, renew_operands, call_of}
use Rattle.input.specs.Play.{go_on}
use Rattle.input.specs.Arrivals.{arrivals_of, arrivals_within, arrivals}
use Rattle.input.specs.declared.Stop.TheVariants.{Ended}
use Rattle.serving.specs.Serve.{pairs, answer_bytes, lent_size, answer_room, served, serve_turn_of, serve_turn, serve_within, serve}
use Rattle.serving.specs.Held.{requests_in, keys_in, made_in}
use Rattle.serving.specs.Statements.{SecretBatch}
use Rattle.serving.proofs.BytesSecret.{told, bytes_secret}

-- To compute what bytes hold on these cards, a proof unfolds this one name.
unfoldable holding : Unit {0}
unfolding rules player_card prepared after_all number bytes zeroed row data_length names kind_number length_of operands_length among kind_of credential call_of with_credential renew_operands decode_call decode_known decode_body name_of data_of next_of decode lent_size
holding = tt

-- And this one beside it, for what a batch makes of them.
unfoldable answering : Unit {0}
unfolding go_on pairs answer_bytes answer_room served serve_turn_of serve_turn serve_within serve
answering = tt

-- And this one for the list of its records.
unfoldable listing : Unit {0}
unfolding arrivals_of arrivals_within arrivals requests_in
listing = tt

-- ---- records in bytes

-- The 16 bytes of a key of two small words.
abbrev key_bytes : ℕ → ℕ → List ℕ
key_bytes high low = zeros 7 ++ (high ∷ (zeros 7 ++ (low ∷ [])))

abbrev pub by_key_bytes : ℕ → ℕ → List ℕ
by_key_bytes high low = 2 ∷ key_bytes high low

abbrev by_reference_bytes : ℕ → List ℕ
by_reference_bytes b = 1 ∷ 0 ∷ b ∷ zeros 14

abbrev interval_bytes : ℕ → List ℕ
interval_bytes interval = zeros 3 ++ (interval ∷ [])

abbrev pub read_bytes : ℕ → List ℕ → ℕ → List ℕ
read_bytes b by interval = 1 ∷ 0 ∷ b ∷ (by ++ interval_bytes interval)

abbrev write_bytes : ℕ → List ℕ → ℕ → List ℕ → List ℕ
write_bytes b by interval payload = 2 ∷ 0 ∷ b ∷ (by ++ (interval_bytes interval ++ payload))

abbrev delete_bytes : ℕ → List ℕ → ℕ → List ℕ
delete_bytes a by b = 5 ∷ 0 ∷ a ∷ (by ++ (0 ∷ b ∷ []))

-- For reading.
abbrev renew_bytes : ℕ → List ℕ → ℕ → List ℕ
renew_bytes b key interval = 7 ∷ 0 ∷ 0 ∷ b ∷ (key ++ interval_bytes interval)

-- ---- the bytes

-- Block 1 is read and written by its keys, block 3 is asked for in vain, by reference and with a key that no block has, a DELETE frees block 2, and
-- block 1 is read again.
unfoldable pub input : List ℕ
input =
    read_bytes 1 (by_key_bytes 1 2) 10
    ++ (write_bytes 1 (by_key_bytes 3 4) 10 (replicate 512 9)
    ++ (read_bytes 3 (by_reference_bytes 1) 0
    ++ (renew_bytes 3 (key_bytes 9 9) 10
    ++ (delete_bytes 1 (by_key_bytes 3 4) 2
    ++ (read_bytes 1 (by_key_bytes 1 2) 0
    ++ (9 ∷ []))))))

abbrev pub room : ℕ
room = 2000

-- What is answered: a block of zeros; done; refused 5 twice; a block freed; the bytes written; 11 blocks free, since blocks 2 and 4
-- wait.
abbrev pub answered : List ℕ
answered = 0 ∷ (zeros 512 ++ (0 ∷ 5 ∷ 5 ∷ 0 ∷ (zeros 7 ++ (1 ∷ 0 ∷ (replicate 512 9 ++ (0 ∷ (zeros 7 ++ (11 ∷ []))))))))

-- What a batch tells of the bytes on the one card: all of them are served, and this is answered. By the theorem it is so on the other card too.
pub served_all : told (serve Host (card_with 5) input room) ≡ record { stop = Ended; output = answered; records = 7; left = [] }
unfolding holding answering input
served_all = refl

-- ---- keys that no block has

-- Where two sets of keys open the same blocks, the same blocks are within reach.
module _ (K L : ℕ → ℕ → Bool) (c : Card) (same : (mode : Mode) (b : ℕ) → b < c.public.info.blocks → key_presented K c mode b ≡ key_presented L c mode b) where
  same_sealed : (b : ℕ) → b < c.public.info.blocks → sealed K c b ≡ sealed L c b
  unfolding sealed
  same_sealed b l = ap₂ (λ (x y : Bool). (has_key c.public Reading b && has_key c.public Writing b) && (not x && not y)) (same Reading b l) (same Writing b l)

  same_reach : {b : ℕ} → Reach K c b → Reach L c b
  same_reach (unsealed_root {b = b} a r s) = unsealed_root a r (sym (same_sealed b (allocated_below c.public b a)) ∙ s)
  same_reach (by_key {b = b} mode a k) = by_key mode a (sym (same mode b (allocated_below c.public b a)) ∙ k)
  same_reach (open_window mode a o) = open_window mode a o
  same_reach (pointed {b = b} g a p s) = pointed (same_reach g) a p (sym (same_sealed b (allocated_below c.public b a)) ∙ s)

  hidden_alike : {b : ℕ} → Hidden L c b → Hidden K c b
  hidden_alike h = record { is_allocated = h.is_allocated; out_of_reach = λ g. h.out_of_reach (same_reach g) }

beq_true : (a b : Bool) → beq a b ≡ true → a ≡ b
beq_true true true e = refl
beq_true true false e = absurd_test {t = false} e refl
beq_true false true e = absurd_test {t = false} e refl
beq_true false false e = refl

-- The keys that the bytes present.
abbrev pub keys : ℕ → ℕ → Bool
keys = keys_in (card_with 5) input

-- They open the same blocks as those that the session presents.
abbrev opens_alike : Mode → ℕ → Bool
opens_alike mode b = beq (key_presented keys (card_with 5) mode b) (key_presented (presented session) (card_with 5) mode b)

all_alike : every (all_below (opens_alike Reading) 16 ∷ all_below (opens_alike Writing) 16 ∷ []) ≡ true
unfolding holding listing keys_in session presented presents some_shows shows key_presented input
all_alike = refl

alike : (mode : Mode) (b : ℕ) → b < 16 → key_presented keys (card_with 5) mode b ≡ key_presented (presented session) (card_with 5) mode b
alike Reading b l = beq_true _ _ (all_below_true (opens_alike Reading) 16 (every_true _ all_alike).0 b l)
alike Writing b l = beq_true _ _ (all_below_true (opens_alike Writing) 16 (every_true _ all_alike).1.0 b l)

hidden_still : {b : ℕ} → Hidden (presented session) (card_with 5) b → Hidden keys (card_with 5) b
unfolding holding
hidden_still h = hidden_alike keys (presented session) (card_with 5) alike h

-- ---- the example

-- The key of the refused RENEW counts.
pub refused_counts : keys 9 9 ≡ true
unfolding holding listing keys_in presented presents some_shows shows input
refused_counts = refl

-- The two cards are sound.
pub both_sound : SoundCard (card_with 5) × SoundCard (card_with 6)
both_sound = sound_cards

-- Blocks 2 and 3 are hidden, judged with the keys that the bytes present.
pub both_hidden : Hidden keys (card_with 5) 2 × Hidden keys (card_with 5) 3
both_hidden = (hidden_still hidden_blocks.0, hidden_still hidden_blocks.1)

-- The cards are equal but for hidden blocks and a waiting one.
pub equal_but_hidden : EqualBut (HiddenOrUnallocated keys (card_with 5)) (card_with 5) (card_with 6)
equal_but_hidden = record {
  same_public = equal_but.same_public;
  same_keys = equal_but.same_keys;
  same_contents = λ b l n. equal_but.same_contents b l (λ h. n (⊎_elim (λ hidden. inl (hidden_still hidden)) (λ unallocated. inr unallocated) h));
}

-- The contents of block 3 differ, and those of block 4, which waits.
pub still_differ : block (card_with 5) 3 ≡ block (card_with 6) 3 → ⊥
still_differ = contents_differ

pub waiting_still_differ : (waiting (card_with 5).public 4 ≡ true) × (block (card_with 5) 4 ≡ block (card_with 6) 4 → ⊥)
waiting_still_differ = waiting_differ

-- The bytes take block 2's last pointer away and leave block 3's.
pub freed : (last_taken (card_with 5) (made_in (card_with 5) input room) 2 ≡ true) × (last_taken (card_with 5) (made_in (card_with 5) input room) 3 ≡ false)
unfolding holding answering listing made_in takes_last is_one last_taken input
freed = (refl, refl)

-- The theorem applied to them.
pub example : SecretBatch (card_with 5) (card_with 6) input room
example = bytes_secret input room (card_with 5) (card_with 6) both_sound.0 both_sound.1 equal_but_hidden
