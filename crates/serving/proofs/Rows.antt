-- For each theorem on bytes a test that follows from it, and a row for each mistake in the rules of a batch that a must-fail edit makes: true by the
-- theorem, and false with the mistake.
use Prim.Native.Nat.{ℕ}
use mathlib.Core.Path.{◌≡◌, refl, ap, ap₂}
use mathlib.Core.Logic.{⊎_elim}
use mathlib.Core.Bool.{Bool, true, false}
use mathlib.Core.List.{List, [], ◌∷◌, ◌++◌, zip_with}
use lib.Dec.{eqb}
use borrow.Author.Tests.{eqb-true, eq-eqb}
use Rattle.laws.specs.ListsLaws.{or_cases, absurd_test}
use Rattle.card.specs.Contents.{zeros}
use Rattle.card.specs.Card.{Card}
use Rattle.card.specs.Session.{Request, after_all}
use Rattle.card.specs.Reach.{presents, presented}
use Rattle.card.specs.Trials.{blank_card, player_card, tick}
use Rattle.card.proofs.Computed.Same.{same_list}
use Rattle.card.proofs.Computed.TestLaws.{true_same_list}
use Rattle.card.proofs.Computed.Row.{implies, true_implies, Row, refutes, nothing}
use Rattle.card.proofs.Computed.Secrecy.{with_contents, comparable, both_sound, equal_else}
use Rattle.card.proofs.Computed.Rows.{computing, below, nested, at_most_one}
use Rattle.card.specs.declared.Port.{Port}
use Rattle.card.specs.declared.Port.TheVariants.{Host}
use Rattle.fields.specs.Bytes.{number, bytes, zeroed}
use Rattle.fields.specs.Fields.{credential}
use Rattle.kinds.specs.Kinds.{row, data_length, names, kind_number, length_of, operands_length, among, kind_of, kind_length, body_length}
use Rattle.decoding.specs.Decode.{with_credential, decode_call, decode_known, decode_body, name_of, data_of, next_of, decode, call_of}
use Rattle.input.specs.Play.{is_short, fault, go_on}
use Rattle.input.specs.Arrivals.{arrivals_of, arrivals_within, arrivals}
use Rattle.input.proofs.Rows.{turn_order, performed_test, performed_tests, tick_bytes}
use Rattle.serving.specs.Serve.{pairs, answer_bytes, lent_size, answer_room, served, serve_turn_of, serve_turn, serve_within, serve}
use Rattle.serving.specs.Held.{requests_in, keys_in}
use Rattle.serving.proofs.BytesExample.{read_bytes, by_key_bytes}
use Rattle.serving.specs.Statements.{BytesSafe, SecretBatch, BytesSecret, RoomByRecord, KeysCounted}

-- ---- bytes_safe

abbrev pub bytes_safe_test : Port → Card → List ℕ → ℕ → Bool
bytes_safe_test wire c xs room = performed_test wire (lent_size c.public.info.bytes) c xs (serve wire c xs room)

abbrev bytes_safe_row : Port → Card → List ℕ → ℕ → Row BytesSafe
bytes_safe_row wire c xs room = record { test = bytes_safe_test wire c xs room; follows = λ statement. performed_tests (statement wire c xs room) }

-- ---- bytes_secret

-- On two cards that the keys of the bytes cannot tell apart: the same answers, and as many records.
abbrev pub bytes_secret_test : Card → List ℕ → (ℕ → Bool) → List ℕ → ℕ → Bool
bytes_secret_test c contents named xs room =
    let p = serve Host c xs room in
    let q = serve Host (with_contents c contents) xs room in
    implies (comparable (keys_in c xs) c contents named) (same_list (p.records ∷ p.output) (q.records ∷ q.output))

pub bytes_secret_tests : BytesSecret → (c : Card) (contents : List ℕ) (named : ℕ → Bool) (xs : List ℕ) (room : ℕ) → bytes_secret_test c contents named xs room ≡ true
bytes_secret_tests statement c contents named xs room =
    true_implies (comparable (keys_in c xs) c contents named) _
    (λ h.
    let s = both_sound (keys_in c xs) c contents named h in
    let r : SecretBatch c (with_contents c contents) xs room = statement xs room c (with_contents c contents) s.0 s.1 (equal_else (keys_in c xs) c contents named h) in
    true_same_list (ap₂ ◌∷◌ r.records r.answers))

abbrev bytes_secret_row : Card → List ℕ → (ℕ → Bool) → List ℕ → ℕ → Row BytesSecret
bytes_secret_row c contents named xs room =
    record { test = bytes_secret_test c contents named xs room; follows = λ statement. bytes_secret_tests statement c contents named xs room }

-- ---- room_by_record and keys_counted

abbrev pub room_by_record_test : Port → ℕ → Card → Card → List ℕ → Bool
room_by_record_test wire room c d xs =
    implies (eqb c.public.info.bytes d.public.info.bytes) (eqb (turn_order (serve_turn wire room c xs).stop) (turn_order (serve_turn wire room d xs).stop))

pub room_by_record_tests : RoomByRecord → (wire : Port) (room : ℕ) (c d : Card) (xs : List ℕ) → room_by_record_test wire room c d xs ≡ true
room_by_record_tests statement wire room c d xs =
    true_implies (eqb c.public.info.bytes d.public.info.bytes) _
    (λ h. eq-eqb _ _ (ap turn_order (statement wire room c d (eqb-true _ _ h) xs)))

abbrev room_by_record_row : Port → ℕ → Card → Card → List ℕ → Row RoomByRecord
room_by_record_row wire room c d xs = record { test = room_by_record_test wire room c d xs; follows = λ statement. room_by_record_tests statement wire room c d xs }

abbrev pub keys_counted_test : Card → List ℕ → ℕ → ℕ → Bool
keys_counted_test c xs high low = implies (presented (requests_in c.public.info.bytes xs) high low) (keys_in c xs high low)

-- A key that a list of requests presents is presented by one of them.
record Presenter (qs : List Request) (high low : ℕ) : Type 0 where
  pub before : List Request
  pub request : Request
  pub behind : List Request
  pub among : qs ≡ before ++ (request ∷ behind)
  pub presents : presents request.call high low ≡ true

presenter : (qs : List Request) (high low : ℕ) → presented qs high low ≡ true → Presenter qs high low
unfolding presented
presenter [] high low h = absurd_test {t = false} h refl
presenter (q ∷ qs) high low h =
    ⊎_elim
    (λ (here : presents q.call high low ≡ true). record { before = []; request = q; behind = qs; among = refl; presents = here })
    (λ (later : presented qs high low ≡ true).
    let p = presenter qs high low later in
    record { before = q ∷ p.before; request = p.request; behind = p.behind; among = ap (λ (rs : List Request). q ∷ rs) p.among; presents = p.presents })
    (or_cases (presents q.call high low) _ h)

pub keys_counted_tests : KeysCounted → (c : Card) (xs : List ℕ) (high low : ℕ) → keys_counted_test c xs high low ≡ true
keys_counted_tests statement c xs high low =
    true_implies (presented (requests_in c.public.info.bytes xs) high low) _
    (λ h.
    let p = presenter (requests_in c.public.info.bytes xs) high low h in
    statement c xs p.before p.request p.behind p.among high low p.presents)

abbrev keys_counted_row : Card → List ℕ → ℕ → ℕ → Row KeysCounted
keys_counted_row c xs high low = record { test = keys_counted_test c xs high low; follows = λ statement. keys_counted_tests statement c xs high low }

-- ---- rows

-- To compute a row, its proof unfolds this one name. A wrong rule makes use of `zip_with`.
unfoldable pub batching : Unit {0}
unfolding zip_with computing number bytes zeroed credential row data_length names kind_number length_of operands_length among kind_of kind_length body_length call_of with_credential decode_call decode_known decode_body name_of data_of next_of decode is_short fault go_on arrivals_of arrivals_within arrivals pairs answer_bytes lent_size answer_room served serve_turn_of serve_turn serve_within serve requests_in keys_in
batching = tt

abbrev by_nothing : List ℕ
by_nothing = zeros 17

-- Kind 129: READ at the service port, interval 0.
abbrev pub service_read_bytes : ℕ → List ℕ
service_read_bytes b = 129 ∷ 0 ∷ b ∷ (by_nothing ++ zeros 4)

abbrev batch_keeps_the_first_card : Row BytesSafe
batch_keeps_the_first_card = bytes_safe_row Host player_card (tick_bytes 5 ++ tick_bytes 7) 100

-- A READ at the service port would show a sealed block.
abbrev service_record_performed : Row BytesSafe
service_record_performed = bytes_safe_row Host nested (service_read_bytes 2) 600

abbrev service_record_answered : Row BytesSecret
service_record_answered = bytes_secret_row nested (below 6) at_most_one (service_read_bytes 2) 600

abbrev room_depends_on_a_sealed_byte : Row BytesSecret
room_depends_on_a_sealed_byte = bytes_secret_row nested (below 6) at_most_one (read_bytes 0 by_nothing 0) 518

abbrev room_depends_on_the_answer : Row RoomByRecord
room_depends_on_the_answer = room_by_record_row Host 1 player_card blank_card (read_bytes 0 by_nothing 0)

abbrev room_depends_on_the_clock : Row RoomByRecord
room_depends_on_the_clock = room_by_record_row Host 100 player_card (after_all player_card (tick 600 ∷ [])) (read_bytes 0 by_nothing 0)

abbrev key_of_the_first_record_not_counted : Row KeysCounted
key_of_the_first_record_not_counted = keys_counted_row player_card (read_bytes 0 (by_key_bytes 5 6) 0) 5 6

-- Block 1 is not allocated.
abbrev key_of_a_refused_record_not_counted : Row KeysCounted
key_of_a_refused_record_not_counted = keys_counted_row player_card (read_bytes 1 (by_key_bytes 5 6) 0) 5 6

-- ---- the row of an edit

-- An edit puts here the statement that its mistake makes false, and the row that shows it.
pub refuted : ⊥ → ⊥
unfolding batching
refuted = refutes nothing refl

-- And the row here, as what it is by its theorem: with the mistake this is refused.
pub held : true ≡ true
unfolding batching
held = refl
