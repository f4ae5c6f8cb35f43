-- Batches, and what the rule makes of them: rows of one table, shown by one proof that is computed.
use Rattle.std.specs.Prelude.{ℕ, ◌≡◌, refl, List, [], ◌∷◌, ◌++◌, map, length}
use Rattle.card.specs.Contents.{zeros}
use Rattle.card.specs.Card.{Card}
use Rattle.card.specs.Trials.{rules, blank_card, player_card}
use Rattle.card.specs.declared.Port.{Port}
use Rattle.card.specs.declared.Port.TheVariants.{Host, Service}
use Rattle.fields.specs.Bytes.{number, bytes, zeroed}
use Rattle.kinds.specs.Kinds.{row, data_length, names, kind_number, length_of, operands_length, among, kind_of, kind_length, body_length}
use Rattle.fields.specs.Fields.{credential, new_key}
use Rattle.decoding.specs.Decode.{with_credential, decode_call, decode_known, decode_body, name_of, data_of, next_of, decode, call_of, create_operands, key_operands}
use Rattle.input.specs.Play.{Play, go_on, is_short, fault}
use Rattle.input.specs.declared.Stop.{Stop}
use Rattle.input.specs.declared.Stop.TheVariants.{Ended, Short, Refused, Full}
use Rattle.serving.specs.Serve.{pairs, answer_bytes, lent_size, answer_room, served, serve_turn_of, serve_turn, serve_within, serve}

-- ---- records in bytes

abbrev no_credential : List ℕ
no_credential = zeros 17

-- ALLOC at root 0 at the service port, no hint, count 2.
abbrev alloc_bytes : List ℕ
alloc_bytes = 131 ∷ 0 ∷ 0 ∷ (no_credential ++ (255 ∷ 255 ∷ 2 ∷ []))

-- ALLOC_CONTIG with the same operands.
abbrev alloc_contig_bytes : List ℕ
alloc_contig_bytes = 140 ∷ 0 ∷ 0 ∷ (no_credential ++ (255 ∷ 255 ∷ 2 ∷ []))

-- KEY_READ and KEY_WRITE of block 1 at the service port, with a new key.
abbrev new_key_bytes : List ℕ
new_key_bytes = 1 ∷ (zeros 15 ++ (7 ∷ []))

abbrev key_read_bytes : List ℕ
key_read_bytes = 134 ∷ 0 ∷ 1 ∷ (no_credential ++ new_key_bytes)

abbrev key_write_bytes : List ℕ
key_write_bytes = 141 ∷ 0 ∷ 1 ∷ (no_credential ++ new_key_bytes)

-- A host's READ by nothing, interval 0.
abbrev read_bytes : ℕ → List ℕ
read_bytes b = 1 ∷ 0 ∷ b ∷ (no_credential ++ zeros 4)

-- DELETE of the pointer from root 0 at the service port.
abbrev delete_bytes : ℕ → List ℕ
delete_bytes b = 133 ∷ 0 ∷ 0 ∷ (no_credential ++ (0 ∷ b ∷ []))

abbrev free_bytes : List ℕ
free_bytes = 9 ∷ []

abbrev tick_bytes : ℕ → List ℕ
tick_bytes n = 10 ∷ (zeros 7 ++ (n ∷ []))

abbrev audit_bytes : List ℕ
audit_bytes = 11 ∷ []

-- ---- the batches

-- What is told of a batch: why it stopped, the answers, the records served, and how many bytes of the input are left.
pub record BatchTold : Type 0 where
  pub stop : Stop
  pub answers : List ℕ
  pub records : ℕ
  pub left : ℕ

abbrev told_by : Play → BatchTold
told_by p = record { stop = p.stop; answers = p.output; records = p.records; left = length p.left }

-- A card, the port at which an input arrives, the input and the room for its answers, and what is told of it.
pub record BatchSample : Type 0 where
  pub start : Card
  pub wire : Port
  pub input : List ℕ
  pub room : ℕ
  pub gives : BatchTold

abbrev batch_sample : Card → Port → List ℕ → ℕ → Stop → List ℕ → ℕ → ℕ → BatchSample
batch_sample start wire input room stop answers records left = record { start = start; wire = wire; input = input; room = room; gives = record { stop = stop; answers = answers; records = records; left = left } }

unfoldable pub batches : List BatchSample
batches =
    batch_sample player_card Service [] 0 Ended [] 0 0
    -- blocks 1 and 2, refusal 5, 13 blocks free, the bytes of block 0, the time 10, block 2 freed, and no result
    ∷ batch_sample player_card Service (alloc_bytes ++ (read_bytes 1 ++ (free_bytes ++ (read_bytes 0 ++ (tick_bytes 10 ++ (delete_bytes 2 ++ audit_bytes)))))) 1000 Ended
    (0 ∷ 0 ∷ 1 ∷ 0 ∷ 2 ∷ 5 ∷ 0 ∷ (zeros 7 ++ (13 ∷ 0 ∷ (zeros 512 ++ (0 ∷ (zeros 7 ++ (10 ∷ 0 ∷ (zeros 7 ++ (1 ∷ 0 ∷ []))))))))) 7 0
    -- READ wants 513 bytes of room, whatever it answers; with one less the record is left
    ∷ batch_sample player_card Service (free_bytes ++ read_bytes 1) 522 Ended (0 ∷ (zeros 7 ++ (15 ∷ 3 ∷ []))) 2 0
    ∷ batch_sample player_card Service (free_bytes ++ read_bytes 1) 521 Full (0 ∷ (zeros 7 ++ (15 ∷ []))) 1 24
    -- ALLOC_CONTIG wants 129 bytes of room
    ∷ batch_sample player_card Service (alloc_contig_bytes ++ free_bytes) 138 Ended (0 ∷ 0 ∷ 1 ∷ 0 ∷ 2 ∷ 0 ∷ (zeros 7 ++ (13 ∷ []))) 2 0
    ∷ batch_sample player_card Service alloc_contig_bytes 128 Full [] 0 23
    -- KEY_READ and KEY_WRITE want one byte of room
    ∷ batch_sample player_card Service (alloc_bytes ++ (key_read_bytes ++ (key_write_bytes ++ audit_bytes))) 129 Ended (0 ∷ 0 ∷ 1 ∷ 0 ∷ 2 ∷ 0 ∷ 0 ∷ 0 ∷ []) 4 0
    -- a second new key is no part of KEY_READ: here its 17 bytes are a READ cut short
    ∷ batch_sample player_card Service (alloc_bytes ++ (key_read_bytes ++ new_key_bytes)) 129 Short (0 ∷ 0 ∷ 1 ∷ 0 ∷ 2 ∷ 0 ∷ []) 2 17
    -- a body cut short, and another kind
    ∷ batch_sample player_card Service (audit_bytes ++ (10 ∷ 0 ∷ [])) 100 Short (0 ∷ []) 1 2
    ∷ batch_sample player_card Service (audit_bytes ++ (15 ∷ 0 ∷ [])) 100 Refused (0 ∷ []) 1 2
    -- at the host port the service port's kinds do not exist, whole or cut short, and what came before is served
    ∷ batch_sample player_card Host (free_bytes ++ alloc_bytes) 1000 Refused (0 ∷ (zeros 7 ++ (15 ∷ []))) 1 23
    ∷ batch_sample player_card Host (audit_bytes ++ (131 ∷ 0 ∷ [])) 100 Refused (0 ∷ []) 1 2
    -- before FORMAT the card is unsound, and every call is refused 2
    ∷ batch_sample blank_card Service (free_bytes ++ (read_bytes 0 ++ tick_bytes 10)) 600 Ended (2 ∷ 2 ∷ 2 ∷ []) 3 0
    ∷ []

abbrev told_of : BatchSample → BatchTold
told_of s = told_by (serve s.wire s.start s.input s.room)

pub batches_hold : map told_of batches ≡ map (λ s. s.gives) batches
unfolding rules player_card number bytes zeroed row data_length names kind_number length_of operands_length among kind_of kind_length body_length credential new_key with_credential create_operands call_of key_operands decode_call decode_known decode_body name_of data_of next_of decode go_on is_short fault pairs answer_bytes lent_size answer_room served serve_turn_of serve_turn serve_within serve batches
batches_hold = refl
