-- Demand 3 from the bytes: what a host is answered to any bytes, and what they leave, depends on no hidden block, on no waiting one and on no free one.
use Prim.Native.Nat.{ℕ, zero, suc, ◌+◌, ◌-◌}
use mathlib.Core.Path.{◌≡◌, refl, sym, ap, ap₂, ◌∙◌, subst}
use mathlib.Core.Bool.{Bool, true, false, cond, true≢false}
use mathlib.Core.List.{List, [], ◌∷◌, ◌++◌, map, append-nil}
use lib.Dec.{ltb}
use lib.ListN.{length, take, get_or}
use Rattle.laws.specs.ListsLaws.{or_left, or_right}
use Rattle.card.specs.Contents.{zeros}
use Rattle.card.specs.Card.{Public, Card, block}
use Rattle.card.specs.Plan.{Result}
use Rattle.card.specs.SoundCard.{SoundCard}
use Rattle.card.specs.Session.{Request, Sent, Reply, request, perform, reply, performed, replies, after_all, sent_by_host, host_session}
use Rattle.laws.specs.SessionLaws.{perform_bytes}
use Rattle.card.specs.Reach.{presents, presented, last_taken, HasKeys}
use Rattle.card.specs.Statements.Secrecy.{EqualBut, HiddenOrUnallocated, StillDiffers, Secret}
use Rattle.guarantees.proofs.Secrecy.Acts.{Act, ActsSecret, made_by, answers_by, held_by, acts_secret}
use Rattle.card.specs.declared.Port.{Port}
use Rattle.card.specs.declared.Port.TheVariants.{Host}
use Rattle.card.specs.declared.Call.{Call}
use Rattle.decoding.specs.Decode.{Next, ended, refused, sent, decode}
use Rattle.input.specs.Play.{halted, Turn, Play, go_on, output_before}
use Rattle.input.specs.Arrivals.{Arrivals, arrivals, request_with, sent_with}
use Rattle.input.proofs.ArrivalsLaws.{arrivals_sent, host_arrivals}
use Rattle.input.specs.declared.Stop.{Stop}
use Rattle.input.specs.declared.Stop.TheVariants.{Full}
use Rattle.serving.specs.Serve.{answer_bytes, lent_size, lent_places, answer_room, served, answering, serve_turn_of, serve_turn, serve_within, serve}
use Rattle.serving.specs.Held.{requests_in, keys_in, made_in}
use Rattle.serving.specs.Statements.{SecretBatch, BytesSecret, RoomByRecord, KeysCounted}
use Rattle.serving.proofs.BytesSafe.{left_by_calls}

-- ---- what it is judged by

pub room_by_record : RoomByRecord
unfolding serve_turn serve_turn_of
room_by_record wire room c d same xs = by_next (decode wire xs)
  where
    by_room : (full : Bool) (port : Port) (call : Call) (payload rest : List ℕ)
        → (cond full (halted Full c xs) (answering port c call payload rest)).stop ≡ (cond full (halted Full d xs) (answering port d call payload rest)).stop
    by_room true port call payload rest = refl
    by_room false port call payload rest = refl

    by_next : (n : Next) → (serve_turn_of wire room c xs n).stop ≡ (serve_turn_of wire room d xs n).stop
    by_next ended = refl
    by_next refused = refl
    by_next (sent port call payload rest) =
        by_room (ltb room (answer_room c.public.info.bytes call)) port call payload rest
        ∙ ap (λ (n : ℕ). (cond (ltb room (answer_room n call)) (halted Full d xs) (answering port d call payload rest)).stop) same

presented_among : (before : List Request) (q : Request) (behind : List Request) (high low : ℕ) → presents q.call high low ≡ true → presented (before ++ (q ∷ behind)) high low ≡ true
unfolding presented
presented_among [] q behind high low h = or_left _ _ h
presented_among (p ∷ before) q behind high low h = or_right (presents p.call high low) _ (presented_among before q behind high low h)

pub keys_counted : KeysCounted
unfolding keys_in
keys_counted c xs before q behind e high low h = ap (λ (qs : List Request). presented qs high low) e ∙ presented_among before q behind high low h

-- ---- what a batch tells

-- All that a batch tells of itself beside the card that it leaves.
pub record Told : Type 0 where
  pub stop : Stop
  pub output : List ℕ
  pub records : ℕ
  pub left : List ℕ

abbrev pub told : Play → Told
told p = record { stop = p.stop; output = p.output; records = p.records; left = p.left }

module _ (wire : Port) (bytes : ℕ) where
  -- The calls of the bytes, as a batch makes them on a card with blocks of so many bytes.
  abbrev calls_in : List ℕ → List Sent
  calls_in xs = map (sent_with (lent_size bytes)) (arrivals wire xs).records

  module _ (c d : Card) (sc : c.public.info.bytes ≡ bytes) (sd : d.public.info.bytes ≡ bytes) (k records : ℕ) (xs : List ℕ) (room : ℕ)
      (later : (c d : Card) → c.public.info.bytes ≡ bytes → d.public.info.bytes ≡ bytes → (records : ℕ) (ys : List ℕ) (room : ℕ) → replies c (calls_in ys) ≡ replies d (calls_in ys)
      → told (serve_within wire k records c ys room) ≡ told (serve_within wire k records d ys room)) where
    abbrev Alike : Turn → Turn → Type 0
    Alike t u = told (go_on t.stop t records (serve_within wire k) room) ≡ told (go_on u.stop u records (serve_within wire k) room)

    -- The record is performed on both: the answers are equal, and so is what is told of the rest.
    module _ (port : Port) (call : Call) (payload rest : List ℕ) (e : decode wire xs ≡ sent port call payload rest) (h : replies c (calls_in xs) ≡ replies d (calls_in xs)) where
      abbrev first : Sent
      first = sent_with (lent_size bytes) (record { kind = get_or xs 0 0; port = port; call = call; payload = payload })

      parts : {r s : Reply} {rs ss : List Reply} → ◌≡◌ {A = List Reply} (r ∷ rs) (s ∷ ss) → (r ≡ s) × (rs ≡ ss)
      parts q = (cc, cc)

      both_reply : (reply (performed c first) ≡ reply (performed d first)) × (replies (performed c first).after (calls_in rest) ≡ replies (performed d first).after (calls_in rest))
      unfolding replies
      both_reply =
          let held : calls_in xs ≡ first ∷ calls_in rest = ap (λ (a : Arrivals). map (sent_with (lent_size bytes)) a.records) (arrivals_sent wire xs e) in
          parts (ap (replies c) (sym held) ∙ h ∙ ap (replies d) held)

      served_is : (x : Card) → x.public.info.bytes ≡ bytes → served port x call payload ≡ performed x first
      unfolding served
      served_is x sx = ap (λ (n : ℕ). perform port x (request call payload (zeros (lent_size n call)) (zeros lent_places))) sx

      same_answer : answer_bytes call (reply (served port c call payload)) ≡ answer_bytes call (reply (served port d call payload))
      same_answer = ap (λ (r : Result). answer_bytes call (reply r)) (served_is c sc) ∙ ap (answer_bytes call) both_reply.0 ∙ sym (ap (λ (r : Result). answer_bytes call (reply r)) (served_is d sd))

      same_rest : replies (served port c call payload).after (calls_in rest) ≡ replies (served port d call payload).after (calls_in rest)
      same_rest = ap (λ (r : Result). replies r.after (calls_in rest)) (served_is c sc) ∙ both_reply.1 ∙ sym (ap (λ (r : Result). replies r.after (calls_in rest)) (served_is d sd))

      same_bytes : (x : Card) → x.public.info.bytes ≡ bytes → (served port x call payload).after.public.info.bytes ≡ bytes
      unfolding served
      same_bytes x sx = perform_bytes port x _ ∙ sx

      performed_same : Alike (answering port c call payload rest) (answering port d call payload rest)
      unfolding go_on
      performed_same =
          let output : List ℕ = answer_bytes call (reply (served port c call payload)) in
          ap (λ (t : Told). record { stop = t.stop; output = output ++ t.output; records = t.records; left = t.left })
          (later (served port c call payload).after (served port d call payload).after (same_bytes c sc) (same_bytes d sd) (records + 1) rest (room - length output) same_rest)
          ∙ ap (λ (o : List ℕ). told (output_before o (serve_within wire k (records + 1) (served port d call payload).after rest (room - length o)))) same_answer

      -- Whether there is room depends on the record and the bytes of a block alone.
      room_same : (full other : Bool) → full ≡ other → Alike (cond full (halted Full c xs) (answering port c call payload rest)) (cond other (halted Full d xs) (answering port d call payload rest))
      unfolding go_on
      room_same true true q = refl
      room_same true false q = absurd (true≢false q)
      room_same false true q = absurd (true≢false (sym q))
      room_same false false q = performed_same

    turn_same : (n : Next) → decode wire xs ≡ n → replies c (calls_in xs) ≡ replies d (calls_in xs) → Alike (serve_turn_of wire room c xs n) (serve_turn_of wire room d xs n)
    unfolding serve_turn_of go_on
    turn_same ended e h = refl
    turn_same refused e h = refl
    turn_same (sent port call payload rest) e h =
        room_same port call payload rest e h _ _ (ap (λ (n : ℕ). ltb room (answer_room n call)) (sc ∙ sym sd))

  -- What a batch tells is told by the replies to the calls that its bytes hold.
  within_told : (k : ℕ) (c d : Card) → c.public.info.bytes ≡ bytes → d.public.info.bytes ≡ bytes → (records : ℕ) (xs : List ℕ) (room : ℕ) → replies c (calls_in xs) ≡ replies d (calls_in xs)
      → told (serve_within wire k records c xs room) ≡ told (serve_within wire k records d xs room)
  unfolding serve_within serve_turn
  within_told zero c d sc sd records xs room h = refl
  within_told (suc k) c d sc sd records xs room h = turn_same c d sc sd k records xs room (within_told k) (decode wire xs) refl h

  pub told_by_replies : (c d : Card) → c.public.info.bytes ≡ bytes → d.public.info.bytes ≡ bytes → (xs : List ℕ) (room : ℕ) → replies c (calls_in xs) ≡ replies d (calls_in xs)
      → told (serve wire c xs room) ≡ told (serve wire d xs room)
  unfolding serve
  told_by_replies c d sc sd xs room h = within_told (suc (length xs)) c d sc sd 0 xs room h

-- ---- a batch at the host port

-- A batch as an act of a host: it holds the requests of its bytes.
unfoldable pub batch_act : (bytes : ℕ) (xs : List ℕ) (room : ℕ) → Act bytes Told
unfolding requests_in
batch_act bytes xs room = record {
  held = requests_in bytes xs;
  answer = λ c. told (serve Host c xs room);
  made = λ c. (serve Host c xs room).records;
  told = λ c d sc sd h.
      let same = told_by_replies Host bytes c d sc sd xs room (ap (replies c) (host_arrivals (lent_size bytes) xs) ∙ h ∙ sym (ap (replies d) (host_arrivals (lent_size bytes) xs))) in
      (same, ap (λ (t : Told). t.records) same);
}

-- ---- the calls that a batch made

pub take_hosts : (n : ℕ) (qs : List Request) → take n (host_session qs) ≡ host_session (take n qs)
take_hosts zero qs = refl
take_hosts (suc n) [] = refl
take_hosts (suc n) (q ∷ qs) = ap (λ (ss : List Sent). sent_by_host q ∷ ss) (take_hosts n qs)

-- The card that a batch leaves is the one that its calls leave.
after_made : (c : Card) (xs : List ℕ) (room : ℕ) → (serve Host c xs room).after ≡ after_all c (made_in c xs room)
unfolding made_in requests_in
after_made c xs room =
    let n : ℕ = (serve Host c xs room).records in
    left_by_calls Host c xs room ∙ ap (after_all c) (ap (take n) (host_arrivals (lent_size c.public.info.bytes) xs) ∙ take_hosts n (map (request_with (lent_size c.public.info.bytes)) (arrivals Host xs).records))

-- ---- the theorem

-- Of two equal lists of one element.
pub only : {A : Type 0} {x y : A} → ◌≡◌ {A = List A} (x ∷ []) (y ∷ []) → x ≡ y
only e = cc

module _ (xs : List ℕ) (room : ℕ) (c d : Card) (sc : SoundCard c) (sd : SoundCard d) (same : EqualBut (HiddenOrUnallocated (keys_in c xs) c) c d) where
  abbrev K : ℕ → ℕ → Bool
  K = keys_in c xs

  abbrev bytes : ℕ
  bytes = c.public.info.bytes

  abbrev acts : List (Act bytes Told)
  acts = batch_act bytes xs room ∷ []

  has_keys : HasKeys K (held_by acts)
  unfolding keys_in held_by batch_act
  has_keys high low h = ap (λ (qs : List Request). presented qs high low) (sym (append-nil (requests_in bytes xs))) ∙ h

  both : ActsSecret K acts c d
  both = acts_secret K acts has_keys c d sc sd refl same

  same_told : told (serve Host c xs room) ≡ told (serve Host d xs room)
  unfolding answers_by batch_act
  same_told = only both.answers

  same_made : made_in d xs room ≡ made_in c xs room
  unfolding made_in
  same_made = ap₂ (λ (n size : ℕ). host_session (take n (requests_in size xs))) (ap (λ (t : Told). t.records) (sym same_told)) (ap (λ (p : Public). p.info.bytes) (sym same.same_public))

  secret : Secret K (made_in c xs room) c d
  unfolding made_in made_by batch_act
  secret = subst (λ (qs : List Request). Secret K (host_session qs) c d) (append-nil (take (serve Host c xs room).records (requests_in bytes xs))) both.secret

  after_other : (serve Host d xs room).after ≡ after_all d (made_in c xs room)
  after_other = after_made d xs room ∙ ap (after_all d) same_made

  all_alike : SecretBatch c d xs room
  all_alike = record {
    answers = ap (λ (t : Told). t.output) same_told;
    records = ap (λ (t : Told). t.records) same_told;
    stops = ap (λ (t : Told). t.stop) same_told;
    left = ap (λ (t : Told). t.left) same_told;
    cards =
        subst (λ (x : Card). EqualBut (StillDiffers K c x) x (serve Host d xs room).after) (sym (after_made c xs room))
        (subst (λ (y : Card). EqualBut (StillDiffers K c (after_all c (made_in c xs room))) (after_all c (made_in c xs room)) y) (sym after_other) secret.cards);
    kept = λ b h f. ap (λ (x : Card). block x b) (after_made c xs room) ∙ secret.kept b h f;
    kept_on_other = λ b h f. ap (λ (x : Card). block x b) after_other ∙ secret.kept_on_other b h (ap (λ (calls : List Sent). last_taken d calls b) (sym same_made) ∙ f);
  }

pub bytes_secret : BytesSecret
bytes_secret = all_alike
