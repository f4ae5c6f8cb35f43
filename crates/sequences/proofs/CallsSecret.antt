-- Demand 3 of any sequence of C functions at the host port: calls by their operands, records one by one, and batches.
use Rattle.std.specs.Prelude.{Ok, Err, Result, Option, Some}
use Prim.Native.Nat.{ℕ, ◌-◌}
use mathlib.Core.Path.{◌≡◌, refl, sym, ap, ap₂, ◌∙◌, subst}
use mathlib.Core.Bool.{Bool, true, false, cond}
use mathlib.Core.List.{List, [], ◌∷◌, ◌++◌, map, map-append}
use lib.ListN.{length, take}
use borrow.Author.Tests.{eqb-true}
use Rattle.card.specs.Contents.{overwrite}
use Rattle.card.specs.Card.{Public, Card, block}
use Rattle.card.specs.SoundCard.{SoundCard}
use Rattle.card.specs.Session.{Request, Sent, Reply, request, replies, after_all, sent_by_host, host_session}
use Rattle.laws.specs.SessionLaws.{after_all_bytes}
use Rattle.card.specs.Reach.{presented, last_taken, HasKeys}
use Rattle.card.specs.declared.Port.{Port}
use Rattle.card.specs.declared.Port.TheVariants.{Host}
use Rattle.card.specs.declared.Call.{Call}
use Rattle.card.specs.declared.Credential.TheVariants.{Nothing, Reference, Key as KeyCredential}
use Rattle.card.specs.Statements.Secrecy.{EqualBut, HiddenOrUnallocated, StillDiffers, Secret}
use Rattle.guarantees.proofs.Secrecy.Acts.{Act, held_by, made_by, answers_by, ActsSecret, acts_secret}
use Rattle.kinds.proofs.KindsLaws.{host_kinds}
use Rattle.decoding.specs.Decode.{Decoding, call_of, renew_with, decode_body, renew_operands}
use Rattle.decoding.proofs.DecodeLaws.{decoded_kind}
use Rattle.input.specs.Arrivals.{arrivals, request_with, sent_with}
use Rattle.input.proofs.ArrivalsLaws.{host_arrivals}
use Rattle.serving.specs.Serve.{lent_size, serve}
use Rattle.serving.specs.Held.{requests_in}
use Rattle.serving.proofs.BytesSecret.{Told, told, batch_act, take_hosts, only}
use Rattle.parameters.specs.Numbers.{numbers_of, record_of, wire_of, call_at, at_port, decode_at}
use Rattle.parameters.specs.NumbersLaws.{numbers_record}
use Rattle.interface.specs.Functions.{Function, read, write, alloc, alloc_contig, create, delete, delete_tree, key_read, key_write, renew, force, tick, free, audit, rent, sweep, serve as serveRecord, Lending, lending_of, function_port}
use Rattle.interface.specs.Batch.{stop_number}
use Rattle.sequences.specs.Statements.{SafeCalls, calls_made, SecretCalls, CallsSecret}
use Rattle.sequences.specs.Sequence.{Memory, card_of, Step, calls, batches, Returned, from_call, from_batch, Called, is_whole, sent_of, sent_at, calls_of, calls_in, by_reply, call_returns, batch_returns, returns_of, returns_in, port_number, AllAtHost, request_of, requests_of, requests_by, keys_by}
use Rattle.sequences.proofs.CallsSafe.{called_safe}
use Rattle.fields.specs.Fields.{bad_record}
use Rattle.fields.specs.declared.BadRecord.{BadRecord}
use Rattle.card.specs.declared.Credential.{Credential}

-- ---- what a function makes at the host port is a host's call

abbrev AtHost : Decoding → Type 0
AtHost (Ok (port, call)) = port ≡ Host
AtHost (Err bad) = Unit {0}

at_port_law : (port : ℕ) → port ≡ 0 → (d : Decoding) → AtHost (at_port port d)
unfolding at_port call_at wire_of
at_port_law port e (Ok (at, call)) = rw e refl
at_port_law port e (Err bad) = tt

at_renew : (mode block : ℕ) (p : Result Credential BadRecord) (interval : ℕ) → AtHost (renew_with Host mode block p interval)
unfolding call_of renew_operands
at_renew mode block (Ok Nothing) interval = tt
at_renew mode block (Ok (Reference r)) interval = tt
at_renew mode block (Ok (KeyCredential high low)) interval = refl
at_renew mode block (Err bad) interval = tt

at_record : (kind : ℕ) (xs : List ℕ) (d : Decoding) → d ≡ decode_body Host kind xs → AtHost d
at_record kind xs (Ok (port, call)) e = host_kinds kind (decoded_kind Host kind xs port call e).kind
at_record kind xs (Err bad) e = tt

at_wire : (port kind : ℕ) (xs : List ℕ) → port ≡ 0 → AtHost (decode_at (wire_of port) kind xs)
unfolding decode_at wire_of
at_wire port kind xs e = rw e (at_record kind xs (decode_body Host kind xs) refl)

at_host_law : (f : Function) → function_port f ≡ 0 → AtHost (lending_of f).decoding
at_host_law (read port block credential interval out) e = at_port_law port e _
at_host_law (write port block credential interval bytes) e = at_port_law port e _
at_host_law (alloc port block credential hint count places) e = at_port_law port e _
at_host_law (alloc_contig port block credential hint count places) e = at_port_law port e _
at_host_law (create port source credential destination second) e = at_port_law port e _
at_host_law (delete port source credential destination value) e = at_port_law port e _
at_host_law (delete_tree port source credential destination value) e = at_port_law port e _
at_host_law (key_read port block credential key) e = at_port_law port e _
at_host_law (key_write port block credential key) e = at_port_law port e _
at_host_law (renew mode block credential interval) e = at_renew mode block _ interval
at_host_law (force block) e = refl
at_host_law (tick seconds value) e = refl
at_host_law (free value) e = refl
at_host_law audit e = refl
at_host_law (rent price value) e = refl
at_host_law (sweep most value) e = refl
at_host_law (serveRecord port kind body out places value) e = at_wire port kind body e

-- ---- a step as an act of a host

-- An act that holds, makes and returns what the step does.
record StepAct (bytes : ℕ) (whole : Bool) (s : Step) : Type 0 where
  pub act : Act bytes Returned
  pub holds : act.held ≡ requests_of bytes s
  pub returns : (c : Card) → act.answer c ≡ returns_of whole c s
  pub makes : (c : Card) → c.public.info.bytes ≡ bytes → host_session (take (act.made c) act.held) ≡ calls_of whole c s

module _ (bytes : ℕ) (whole : Bool) where
  -- ---- one call

  module _ (l : Lending) where
    record CallAct (d : Decoding) : Type 0 where
      pub act : Act bytes Returned
      pub holds : act.held ≡ request_of d l
      pub returns : (c : Card) → act.answer c ≡ call_returns whole c d l
      pub makes : (c : Card) → host_session (take (act.made c) act.held) ≡ cond whole (sent_of d l) []

    abbrev asked : Call → Request
    asked call = request call l.input l.out l.places

    one_act : Call → Act bytes Returned
    unfolding replies call_returns
    one_act call = record {
      held = asked call ∷ [];
      answer = λ c. call_returns whole c (Ok (Host, call)) l;
      made = λ c. cond whole 1 0;
      told = λ c d sc sd h. (ap (λ (r : Reply). cond whole (by_reply r l.value) (from_call 1 l.value l.out l.places)) (only h), refl);
    }

    one_made : (t : Bool) (port : Port) (call : Call) → port ≡ Host → host_session (take (cond t 1 0) (asked call ∷ [])) ≡ cond t (record { port = port; request = asked call } ∷ []) []
    one_made true port call e = ap (λ (p : Port). record { port = p; request = asked call } ∷ []) (sym e)
    one_made false port call e = refl

    none_made : (t : Bool) → host_session (take 0 []) ≡ cond t [] []
    none_made true = refl
    none_made false = refl

    call_act : (d : Decoding) → AtHost d → CallAct d
    unfolding one_act request_of call_returns sent_of
    call_act (Ok (port, call)) h = record {
      act = one_act call;
      holds = refl;
      returns = λ c. ap (λ (p : Port). call_returns whole c (Ok (p, call)) l) (sym h);
      makes = λ c. one_made whole port call h;
    }
    call_act (Err bad) h = record {
      act = record { held = []; answer = λ c. call_returns whole c (Err bad_record) l; made = λ c. 0; told = λ c d sc sd e. (refl, refl) };
      holds = refl;
      returns = λ c. refl;
      makes = λ c. none_made whole;
    }

  call_step : (f : Function) → function_port f ≡ 0 → StepAct bytes whole (calls f)
  unfolding requests_of returns_of calls_of
  call_step f e =
      let a : CallAct (lending_of f) (lending_of f).decoding = call_act (lending_of f) (lending_of f).decoding (at_host_law f e) in
      record { act = a.act; holds = a.holds; returns = a.returns; makes = λ c sc. a.makes c }

  -- ---- a batch

  module _ (input answers : List ℕ) (records taken written : ℕ) where
    abbrev room : ℕ
    room = length answers

    abbrev by_told : Told → Returned
    by_told t = cond whole (from_batch (stop_number t.stop) t.records (length input - length t.left) (length t.output) (overwrite answers 0 t.output)) (from_batch 1 records taken written answers)

    batch_act_law : Act bytes Returned
    unfolding batch_act batch_returns
    batch_act_law = record {
      held = requests_in bytes input;
      answer = λ c. batch_returns whole c (Some Host) input answers records taken written;
      made = λ c. cond whole (serve Host c input room).records 0;
      told = λ c d sc sd h.
          let same : told (serve Host c input room) ≡ told (serve Host d input room) = ((batch_act bytes input room).told c d sc sd h).0 in
          (ap by_told same, ap (λ (t : Told). cond whole t.records 0) same);
    }

    batch_made : (t : Bool) (c : Card) → c.public.info.bytes ≡ bytes
        → host_session (take (cond t (serve Host c input room).records 0) (requests_in bytes input)) ≡ cond t (sent_at (Some Host) c input room) []
    unfolding requests_in sent_at
    batch_made true c sc =
        let n : ℕ = (serve Host c input room).records in
        sym (take_hosts n (map (request_with (lent_size bytes)) (arrivals Host input).records))
        ∙ ap (take n) (sym (host_arrivals (lent_size bytes) input))
        ∙ ap (λ (size : ℕ). take n (map (sent_with (lent_size size)) (arrivals Host input).records)) (sym sc)
    batch_made false c sc = refl

    batch_step : (port : ℕ) → port ≡ 0 → StepAct bytes whole (batches port input answers records taken written)
    unfolding batch_act_law requests_of returns_of calls_of wire_of
    batch_step port e =
        let w : wire_of port ≡ Some Host = rw e refl in
        record {
          act = batch_act_law;
          holds = refl;
          returns = λ c. ap (λ (v : Option Port). batch_returns whole c v input answers records taken written) (sym w);
          makes = λ c sc. batch_made whole c sc ∙ ap (λ (v : Option Port). cond whole (sent_at v c input room) []) (sym w);
        }

  step_act : (s : Step) → port_number s ≡ 0 → StepAct bytes whole s
  step_act (calls f) e = call_step f e
  step_act (batches port input answers records taken written) e = batch_step input answers records taken written port e

  -- ---- a sequence

  record SequenceActs (steps : List Step) : Type 0 where
    pub acts : List (Act bytes Returned)
    pub holds : held_by acts ≡ requests_by bytes steps
    pub returns : (c : Card) → c.public.info.bytes ≡ bytes → answers_by c acts ≡ returns_in whole c steps
    pub makes : (c : Card) → c.public.info.bytes ≡ bytes → host_session (made_by c acts) ≡ calls_in whole c steps

  sequence_acts : (steps : List Step) → AllAtHost steps → SequenceActs steps
  unfolding held_by requests_by answers_by returns_in made_by calls_in
  sequence_acts [] h = record { acts = []; holds = refl; returns = λ c sc. refl; makes = λ c sc. refl }
  sequence_acts (s ∷ steps) h =
      let one : StepAct bytes whole s = step_act s h.0 in
      let rest : SequenceActs steps = sequence_acts steps h.1 in
      let first : Card → List Request = λ c. take (one.act.made c) one.act.held in
      let sized : (c : Card) → c.public.info.bytes ≡ bytes → (after_all c (host_session (first c))).public.info.bytes ≡ bytes = λ c sc. after_all_bytes c (host_session (first c)) ∙ sc in
      record {
        acts = one.act ∷ rest.acts;
        holds = ap₂ (λ (xs ys : List Request). xs ++ ys) one.holds rest.holds;
        returns = λ c sc.
            ap₂ (λ (r : Returned) (rs : List Returned). r ∷ rs) (one.returns c)
            (rest.returns (after_all c (host_session (first c))) (sized c sc) ∙ ap (λ (ss : List Sent). returns_in whole (after_all c ss) steps) (one.makes c sc));
        makes = λ c sc.
            map-append sent_by_host (first c) (made_by (after_all c (host_session (first c))) rest.acts)
            ∙ ap₂ (λ (xs ys : List Sent). xs ++ ys) (one.makes c sc)
            (rest.makes (after_all c (host_session (first c))) (sized c sc) ∙ ap (λ (ss : List Sent). calls_in whole (after_all c ss) steps) (one.makes c sc));
      }

-- ---- the theorem

-- A record that has its numbers is what its card says.
whole_numbers : (xs : List ℕ) → is_whole xs ≡ true → xs ≡ numbers_of (record_of xs)
whole_numbers xs h = sym (numbers_record xs (eqb-true _ _ h))

module _ {steps : List Step} {m n m' n' : Memory} {rs ss : List Returned} (at_host : AllAtHost steps)
    (runs : Called m steps rs m') (runsOther : Called n steps ss n')
    (sc : SoundCard (card_of m)) (sd : SoundCard (card_of n)) (sameRecord : m.info ≡ n.info)
    (same : EqualBut (HiddenOrUnallocated (keys_by (card_of m) steps) (card_of m)) (card_of m) (card_of n)) where
  abbrev c : Card
  c = card_of m

  abbrev d : Card
  d = card_of n

  abbrev K : ℕ → ℕ → Bool
  K = keys_by c steps

  abbrev is_whole_before : Bool
  is_whole_before = is_whole m.info

  abbrev bytes : ℕ
  bytes = c.public.info.bytes

  left_safe : SafeCalls m steps rs m'
  left_safe = called_safe runs

  right_safe : SafeCalls n steps ss n'
  right_safe = called_safe runsOther

  same_bytes : d.public.info.bytes ≡ bytes
  same_bytes = ap (λ (p : Public). p.info.bytes) (sym same.same_public)

  same_whole : is_whole n.info ≡ is_whole_before
  same_whole = ap is_whole (sym sameRecord)

  sequence : SequenceActs bytes is_whole_before steps
  sequence = sequence_acts bytes is_whole_before steps at_host

  has_keys : HasKeys K (held_by sequence.acts)
  unfolding keys_by
  has_keys high low h = ap (λ (qs : List Request). presented qs high low) (sym sequence.holds) ∙ h

  both : ActsSecret K sequence.acts c d
  both = acts_secret K sequence.acts has_keys c d sc sd refl same

  -- The same calls are made on both.
  same_calls : calls_in is_whole_before d steps ≡ calls_made m steps
  same_calls = sym (sequence.makes d same_bytes) ∙ ap host_session (sym both.made) ∙ sequence.makes c refl

  other_calls : calls_made n steps ≡ calls_made m steps
  other_calls = ap (λ (t : Bool). calls_in t d steps) same_whole ∙ same_calls

  secret : Secret K (calls_made m steps) c d
  secret = subst (λ (made : List Sent). Secret K made c d) (sequence.makes c refl) both.secret

  after_other : card_of n' ≡ after_all d (calls_made m steps)
  after_other = right_safe.leaves ∙ ap (after_all d) other_calls

  same_cards : EqualBut (StillDiffers K c (card_of m')) (card_of m') (card_of n')
  same_cards =
      subst (λ (x : Card). EqualBut (StillDiffers K c x) x (card_of n')) (sym left_safe.leaves)
      (subst (λ (y : Card). EqualBut (StillDiffers K c (after_all c (calls_made m steps))) (after_all c (calls_made m steps)) y) (sym after_other) secret.cards)

  same_info_law : (t : Bool) → is_whole_before ≡ t → m'.info ≡ n'.info
  same_info_law true e =
      whole_numbers m'.info (left_safe.whole ∙ e)
      ∙ ap (λ (p : Public). numbers_of p.info) same_cards.same_public
      ∙ sym (whole_numbers n'.info (right_safe.whole ∙ same_whole ∙ e))
  same_info_law false e = left_safe.not_whole e ∙ sameRecord ∙ sym (right_safe.not_whole (same_whole ∙ e))

  all_alike : SecretCalls steps m n rs ss m' n'
  all_alike = record {
    answers =
        left_safe.returns
        ∙ sym (sequence.returns c refl)
        ∙ both.answers
        ∙ sequence.returns d same_bytes
        ∙ ap (λ (t : Bool). returns_in t d steps) (sym same_whole)
        ∙ sym right_safe.returns;
    same_info = same_info_law is_whole_before refl;
    cards = same_cards;
    kept = λ b h f. ap (λ (x : Card). block x b) left_safe.leaves ∙ secret.kept b h f;
    kept_on_other = λ b h f. ap (λ (x : Card). block x b) after_other ∙ secret.kept_on_other b h (ap (λ (made : List Sent). last_taken d made b) (sym other_calls) ∙ f);
  }

pub calls_secret : CallsSecret
calls_secret steps h m n m' n' rs ss runs runsOther sc sd e same = all_alike h runs runsOther sc sd e same
