-- Records in bytes, and what the rules decode them to: rows of one table, shown by one proof that is computed.
use Rattle.std.specs.Prelude.{ℕ, ◌≡◌, refl, List, [], ◌∷◌, ◌++◌, map, replicate, Some, None}
use Rattle.card.specs.declared.Port.TheVariants.{Host, Service}
use Rattle.card.specs.declared.Credential.TheVariants.{Nothing, Reference, Key as KeyCredential}
use Rattle.card.specs.declared.Call.TheVariants.{Read, Alloc, AllocContig, Create, DeleteTree, KeyRead, KeyWrite, Renew, Free, Tick}
use Rattle.fields.specs.Bytes.{number, zeroed}
use Rattle.kinds.specs.Kinds.{row, data_length, names, kind_number, length_of, operands_length, among, kind_of}
use Rattle.fields.specs.Fields.{credential, new_key}
use Rattle.decoding.specs.Decode.{call_of, decode_call, decode_known, decode_body, name_of, data_of, Next, ended, refused, sent, next_of, decode, with_credential, create_operands, key_operands, renew_operands}

infix 20 ◌gives◌
-- An input, and what it starts with.
pub data Sample : Type 0 where
  ◌gives◌ : List ℕ → Next → Sample

abbrev pub input : Sample → List ℕ
input (xs gives next) = xs

abbrev pub next : Sample → Next
next (xs gives n) = n

-- Sixteen bytes: zeros, the number 5 and 14 zeros, and a key of the words 1 and 2.
abbrev zeros16 : List ℕ
zeros16 = replicate 16 0

abbrev five : List ℕ
five = 0 ∷ 5 ∷ replicate 14 0

abbrev key_bytes : List ℕ
key_bytes = replicate 7 0 ++ (1 ∷ (replicate 7 0 ++ (2 ∷ [])))

unfoldable pub sample_table : List Sample
sample_table =
    ([] gives ended)
    -- another kind: 0, 15, and FREE at the service port
    ∷ (0 ∷ [] gives refused)
    ∷ (15 ∷ replicate 60 0 gives refused)
    ∷ (137 ∷ [] gives refused)
    ∷ (9 ∷ 7 ∷ [] gives sent Host Free [] (7 ∷ []))
    -- READ 258 by reference 5, interval 16,909,060; the same one byte short, with filler, and with a wrong first byte
    ∷ (1 ∷ 1 ∷ 2 ∷ 1 ∷ (five ++ (1 ∷ 2 ∷ 3 ∷ 4 ∷ 9 ∷ [])) gives sent Host (Read (record { block = 258; credential = Reference 5; interval = 16909060 })) [] (9 ∷ []))
    ∷ (1 ∷ 1 ∷ 2 ∷ 1 ∷ (five ++ (1 ∷ 2 ∷ 3 ∷ [])) gives refused)
    ∷ (1 ∷ 1 ∷ 2 ∷ 1 ∷ 0 ∷ 5 ∷ (replicate 13 0 ++ (1 ∷ 1 ∷ 2 ∷ 3 ∷ 4 ∷ [])) gives refused)
    ∷ (1 ∷ 1 ∷ 2 ∷ 3 ∷ (five ++ (1 ∷ 2 ∷ 3 ∷ 4 ∷ [])) gives refused)
    -- ALLOC at 0 by nothing, no hint, count 2
    ∷ (131 ∷ 0 ∷ 0 ∷ 0 ∷ (zeros16 ++ (255 ∷ 255 ∷ 2 ∷ [])) gives sent Service (Alloc (record { reference = 0; credential = Nothing; hint = 65535; count = 2 })) [] [])
    -- ALLOC_CONTIG at 3 by a key, hint 258, count 64, and the same one byte short; and at 0 by nothing, no hint, count 2
    ∷ (12 ∷ 0 ∷ 3 ∷ 2 ∷ (key_bytes ++ (1 ∷ 2 ∷ 64 ∷ 9 ∷ [])) gives sent Host (AllocContig (record { reference = 3; credential = KeyCredential 1 2; hint = 258; count = 64 })) [] (9 ∷ []))
    ∷ (12 ∷ 0 ∷ 3 ∷ 2 ∷ (key_bytes ++ (1 ∷ 2 ∷ [])) gives refused)
    ∷ (140 ∷ 0 ∷ 0 ∷ 0 ∷ (zeros16 ++ (255 ∷ 255 ∷ 2 ∷ [])) gives sent Service (AllocContig (record { reference = 0; credential = Nothing; hint = 65535; count = 2 })) [] [])
    -- CREATE 3 to 4 by a key and a reference
    ∷ (4 ∷ 0 ∷ 3 ∷ 2 ∷ (key_bytes ++ (0 ∷ 4 ∷ 1 ∷ five)) gives sent Host (Create (record { source = 3; credential = KeyCredential 1 2; destination = 4; second = Reference 5 })) [] [])
    -- DELETE_TREE from 258 to 3 by a key, and the same one byte short; and from 0 to 4 by nothing
    ∷ (14 ∷ 1 ∷ 2 ∷ 2 ∷ (key_bytes ++ (0 ∷ 3 ∷ 9 ∷ [])) gives sent Host (DeleteTree (record { source = 258; credential = KeyCredential 1 2; destination = 3 })) [] (9 ∷ []))
    ∷ (14 ∷ 1 ∷ 2 ∷ 2 ∷ (key_bytes ++ (0 ∷ [])) gives refused)
    ∷ (142 ∷ 0 ∷ 0 ∷ 0 ∷ (zeros16 ++ (0 ∷ 4 ∷ [])) gives sent Service (DeleteTree (record { source = 0; credential = Nothing; destination = 4 })) [] [])
    -- KEY_READ of 1 by nothing, and KEY_WRITE of 258 by a key and by nothing, each with a new key or none
    ∷ (134 ∷ 0 ∷ 1 ∷ 0 ∷ (zeros16 ++ (1 ∷ key_bytes)) gives sent Service (KeyRead (record { block = 1; credential = Nothing; key = Some (1, 2) })) [] [])
    ∷ (13 ∷ 1 ∷ 2 ∷ 2 ∷ (key_bytes ++ (0 ∷ (zeros16 ++ (9 ∷ [])))) gives sent Host (KeyWrite (record { block = 258; credential = KeyCredential 1 2; key = None })) [] (9 ∷ []))
    ∷ (141 ∷ 1 ∷ 2 ∷ 0 ∷ (zeros16 ++ (1 ∷ key_bytes)) gives sent Service (KeyWrite (record { block = 258; credential = Nothing; key = Some (1, 2) })) [] [])
    -- a new key with a wrong first byte, an absent one with filler, and one cut short
    ∷ (6 ∷ 0 ∷ 1 ∷ 0 ∷ (zeros16 ++ (2 ∷ key_bytes)) gives refused)
    ∷ (13 ∷ 0 ∷ 1 ∷ 0 ∷ (zeros16 ++ (0 ∷ key_bytes)) gives refused)
    ∷ (6 ∷ 0 ∷ 1 ∷ 0 ∷ (zeros16 ++ zeros16) gives refused)
    -- of two new keys the first alone is KEY_READ's: the 17 bytes of the second are those of the next record
    ∷ (6 ∷ 0 ∷ 1 ∷ 0 ∷ (zeros16 ++ (0 ∷ (zeros16 ++ (1 ∷ key_bytes)))) gives sent Host (KeyRead (record { block = 1; credential = Nothing; key = None })) [] (1 ∷ key_bytes))
    -- RENEW of 7's write window for 10 seconds; TICK 10
    ∷ (7 ∷ 1 ∷ 0 ∷ 7 ∷ (key_bytes ++ (0 ∷ 0 ∷ 0 ∷ 10 ∷ [])) gives sent Host (Renew (record { mode = 1; block = 7; high = 1; low = 2; interval = 10 })) [] [])
    ∷ (10 ∷ 0 ∷ 0 ∷ 0 ∷ 0 ∷ 0 ∷ 0 ∷ 0 ∷ 10 ∷ [] gives sent Host (Tick (record { seconds = 10 })) [] [])
    ∷ []

-- At the service port each input starts with just what is expected.
pub samples : map (λ s. decode Service (input s)) sample_table ≡ map next sample_table
unfolding sample_table number zeroed row data_length names kind_number length_of operands_length among kind_of credential new_key call_of with_credential create_operands key_operands renew_operands decode_call decode_known decode_body name_of data_of next_of decode
samples = refl

-- At the host port a host's records do too, and the service port's are refused.
abbrev taken : Next → Next
taken ended = ended
taken refused = refused
taken (sent Host call payload rest) = sent Host call payload rest
taken (sent Service call payload rest) = refused

pub samples_of_a_host : map (λ s. decode Host (input s)) sample_table ≡ map (λ s. taken (next s)) sample_table
unfolding sample_table number zeroed row data_length names kind_number length_of operands_length among kind_of credential new_key call_of with_credential create_operands key_operands renew_operands decode_call decode_known decode_body name_of data_of next_of decode
samples_of_a_host = refl
