-- One call of a batch: the verdict that it leaves, how long its answer is, and what READ's buffer held before.
use Rattle.std.specs.Prelude.{Option, None, Some}
use Prim.Native.Nat.{ℕ, ◌+◌, ◌-◌, ◌≤◌}
use mathlib.Core.Path.{◌≡◌, refl, sym, ap, ap₂, ◌∙◌, subst}
use mathlib.Core.Logic.{◌⊎◌, inl, inr, ⊎_elim}
use mathlib.Core.List.{List, ◌++◌}
use native.Mathlib.Omega.{arith}
use lib.ListN.{length, take, drop, length-take, length-drop, length-replicate}
use lib.Seq.{take_at, drop_at, take-take, drop-drop, length-take-le}
use borrow.Rule.Slice.PartMut.{put_mid, put_same, take_put, drop_put, same_len_mid}
use Rattle.card.specs.Contents.{zeros, overwrite}
use Rattle.card.specs.Card.{Card}
use Rattle.card.specs.Soundness.{verdict}
use Rattle.laws.specs.SoundnessLaws.{verdict_sound, sound_verdict}
use Rattle.card.specs.Plan.{first, audited, out_after, places_after, Plan, Buffers, Result, settle, judge}
use Rattle.card.specs.Promises.{Is}
use Rattle.card.specs.Calls.{read_plan, write_plan, alloc_plan, alloc_contig_plan, create_plan, delete_plan, delete_tree_plan, key_plan, renew_plan, force_plan, free_plan, tick_plan, audit_plan, rent_plan, sweep_plan}
use Rattle.card.specs.Session.{Request, request, plan, perform, reply}
use Rattle.laws.specs.SessionLaws.{is_misshapen, is_unsound}
use Rattle.card.specs.declared.Port.{Port}
use Rattle.card.specs.declared.Verdict.{Verdict}
use Rattle.card.specs.declared.Verdict.TheVariants.{Misshapen, Unsound, Sound}
use Rattle.card.specs.declared.Refusal.{Refusal}
use Rattle.card.specs.Answers.{Answer}
use Rattle.card.specs.Answers.{Refused}
use Rattle.card.specs.declared.Call.{Call}
use Rattle.card.specs.declared.Call.TheVariants.{Read, Write, Alloc, AllocContig, Create, Delete, DeleteTree, KeyRead, KeyWrite, Renew, Force, Free, Tick, Audit, Rent, Sweep}
use Rattle.laws.proofs.KeepsSound.{perform_sound}
use Rattle.fields.specs.Bytes.{bytes}
use Rattle.lines.specs.Replied.{replied}
use Rattle.lines.specs.Written.{Written}
use Rattle.input.specs.Played.{WroteIs}
use Rattle.serving.specs.Serve.{pairs, answer_bytes, lent_size, lent_places, answer_room, served}
use Rattle.batch.proofs.AnswerBytesLaws.{pairs_length}

-- ---- the verdict

-- Every call leaves the verdict as it was: on a sound card it leaves a sound card, and on any other it is refused.
pub verdict_kept : (port : Port) (c : Card) (q : Request) → verdict (perform port c q).after ≡ verdict c
verdict_kept port c q = go (verdict c) refl
  where
    go : (v : Verdict) → verdict c ≡ v → verdict (perform port c q).after ≡ verdict c
    go Sound e = sound_verdict (perform_sound port c q (verdict_sound c e)) ∙ sym e
    go Misshapen e = ap verdict (sym (is_misshapen port c q e).leaves)
    go Unsound e = ap verdict (sym (is_unsound port c q e).leaves)

-- ---- what READ's buffer held

-- Two results that a host is told alike and that leave the same card.
pub record ToldAlike (call : Call) (r s : Result) : Type 0 where
  pub leaves : r.after ≡ s.after
  pub tells : answer_bytes call (reply r) ≡ answer_bytes call (reply s)

module _ (port : Port) (c : Card) (call : Call) (input places : List ℕ) where
  abbrev lent_with : List ℕ → Buffers
  lent_with out = (request call input out places).lent

  -- A call is judged by the length of READ's buffer alone.
  plan_alike : (out other : List ℕ) → length out ≡ length other → plan port c call (lent_with out) ≡ plan port c call (lent_with other)
  unfolding plan
  plan_alike out other e = go call
    where
      go : (call : Call) → plan port c call (lent_with out) ≡ plan port c call (lent_with other)
      go (Read o) = rw e
      go (Write o) = refl
      go (Alloc o) = refl
      go (AllocContig o) = refl
      go (Create o) = refl
      go (Delete o) = refl
      go (DeleteTree o) = refl
      go (KeyRead o) = refl
      go (KeyWrite o) = refl
      go (Renew o) = refl
      go (Force o) = refl
      go Free = refl
      go (Tick o) = refl
      go Audit = refl
      go (Rent o) = refl
      go (Sweep o) = refl

-- A done READ replaces all that its buffer held, and no other call reports of it.
done_alike : (port : Port) (c : Card) (call : Call) (lent : Buffers) (out other places : List ℕ)
    → (answer : Answer) → answer_bytes call (replied answer (out_after c (plan port c call lent).shown out) places) ≡ answer_bytes call (replied answer (out_after c (plan port c call lent).shown other) places)
unfolding plan read_plan out_after answer_bytes
done_alike port c (Read o) lent out other places answer = refl
done_alike port c (Write o) lent out other places answer = refl
done_alike port c (Alloc o) lent out other places answer = refl
done_alike port c (AllocContig o) lent out other places answer = refl
done_alike port c (Create o) lent out other places answer = refl
done_alike port c (Delete o) lent out other places answer = refl
done_alike port c (DeleteTree o) lent out other places answer = refl
done_alike port c (KeyRead o) lent out other places answer = refl
done_alike port c (KeyWrite o) lent out other places answer = refl
done_alike port c (Renew o) lent out other places answer = refl
done_alike port c (Force o) lent out other places answer = refl
done_alike port c Free lent out other places answer = refl
done_alike port c (Tick o) lent out other places answer = refl
done_alike port c Audit lent out other places answer = refl
done_alike port c (Rent o) lent out other places answer = refl
done_alike port c (Sweep o) lent out other places answer = refl

module _ (port : Port) (c : Card) (call : Call) (input places out other : List ℕ) where
  settle_alike : (lent : Buffers) (o : Option Refusal)
      → ToldAlike call (settle c (request call input out places).lent (plan port c call lent) o) (settle c (request call input other places).lent (plan port c call lent) o)
  unfolding settle answer_bytes
  settle_alike lent None = record { leaves = refl; tells = done_alike port c call lent out other (places_after (plan port c call lent).shown places) (plan port c call lent).answer }
  settle_alike lent (Some r) = record { leaves = refl; tells = refl }

  pub perform_alike : length out ≡ length other → ToldAlike call (perform port c (request call input out places)) (perform port c (request call input other places))
  unfolding perform judge
  perform_alike e =
      let p : Plan = plan port c call (request call input out places).lent in
      subst (λ (q : Plan). ToldAlike call (settle c (request call input out places).lent p (first (audited c p.checks))) (settle c (request call input other places).lent q (first (audited c q.checks))))
      (plan_alike port c call input places out other e) (settle_alike (request call input out places).lent (first (audited c p.checks)))

-- ---- how long an answer is

module _ (size : ℕ) where
  room_number : (call : Call) → 1 ≤ answer_room size call
  unfolding answer_room
  room_number (Read o) = omega arith
  room_number (Write o) = omega arith
  room_number (Alloc o) = omega arith
  room_number (AllocContig o) = omega arith
  room_number (Create o) = omega arith
  room_number (Delete o) = omega arith
  room_number (DeleteTree o) = omega arith
  room_number (KeyRead o) = omega arith
  room_number (KeyWrite o) = omega arith
  room_number (Renew o) = omega arith
  room_number (Force o) = omega arith
  room_number Free = omega arith
  room_number (Tick o) = omega arith
  room_number Audit = omega arith
  room_number (Rent o) = omega arith
  room_number (Sweep o) = omega arith

  -- READ's bytes fit behind the number.
  room_lent : (call : Call) → 1 + lent_size size call ≤ answer_room size call
  unfolding answer_room lent_size
  room_lent (Read o) = omega arith
  room_lent (Write o) = omega arith
  room_lent (Alloc o) = omega arith
  room_lent (AllocContig o) = omega arith
  room_lent (Create o) = omega arith
  room_lent (Delete o) = omega arith
  room_lent (DeleteTree o) = omega arith
  room_lent (KeyRead o) = omega arith
  room_lent (KeyWrite o) = omega arith
  room_lent (Renew o) = omega arith
  room_lent (Force o) = omega arith
  room_lent Free = omega arith
  room_lent (Tick o) = omega arith
  room_lent Audit = omega arith
  room_lent (Rent o) = omega arith
  room_lent (Sweep o) = omega arith

pub part_within : (size : ℕ) (call : Call) (at : ℕ) {lent n : ℕ} → lent ≡ lent_size size call → at + answer_room size call ≤ n → at + 1 + lent ≤ n
part_within size call at e h = omega (arith, room_lent size call)

pairs_short : (n : ℕ) (places : List ℕ) → length places ≡ lent_places → length (pairs (take n places)) ≤ 128
pairs_short n places h = omega (arith, pairs_length (take n places), length-take n places)

module _ (port : Port) (c : Card) (size : ℕ) where
  done_short : (call : Call) (lent : Buffers) (out places : List ℕ) → length out ≡ lent_size size call → length places ≡ lent_places
      → length (answer_bytes call (replied (plan port c call lent).answer out places)) ≤ answer_room size call
  unfolding plan read_plan write_plan alloc_plan alloc_contig_plan create_plan delete_plan delete_tree_plan key_plan renew_plan force_plan free_plan tick_plan audit_plan rent_plan sweep_plan answer_bytes answer_room bytes
  done_short (Read o) lent out places h p = omega arith
  done_short (Write o) lent out places h p = omega arith
  done_short (Alloc o) lent out places h p = omega (arith, pairs_short o.count places p)
  done_short (AllocContig o) lent out places h p = omega (arith, pairs_short o.count places p)
  done_short (Create o) lent out places h p = omega arith
  done_short (Delete o) lent out places h p = omega arith
  done_short (DeleteTree o) lent out places h p = omega arith
  done_short (KeyRead o) lent out places h p = omega arith
  done_short (KeyWrite o) lent out places h p = omega arith
  done_short (Renew o) lent out places h p = omega arith
  done_short (Force o) lent out places h p = omega arith
  done_short Free lent out places h p = omega arith
  done_short (Tick o) lent out places h p = omega arith
  done_short Audit lent out places h p = omega arith
  done_short (Rent o) lent out places h p = omega arith
  done_short (Sweep o) lent out places h p = omega arith

  refused_short : (call : Call) (r : Refusal) (out places : List ℕ) → length (answer_bytes call (replied (Refused r) out places)) ≤ answer_room size call
  unfolding answer_bytes bytes
  refused_short call r out places = room_number size call

  settle_short : (call : Call) (lent : Buffers) (o : Option Refusal) (r : Result) → r ≡ settle c lent (plan port c call lent) o → length r.out ≡ lent_size size call → length r.places ≡ lent_places
      → length (answer_bytes call (reply r)) ≤ answer_room size call
  unfolding settle
  settle_short call lent None r e h p = rw e (done_short call lent _ _ (rw e at h) (rw e at p))
  settle_short call lent (Some x) r e h p = rw e (refused_short call x lent.out lent.places)

  -- No answer is longer than the room that is kept for it.
  pub perform_short : (call : Call) (input out places : List ℕ) → length (perform port c (request call input out places)).out ≡ lent_size size call → length (perform port c (request call input out places)).places ≡ lent_places
      → length (answer_bytes call (reply (perform port c (request call input out places)))) ≤ answer_room size call
  unfolding perform judge
  perform_short call input out places h p = settle_short call (request call input out places).lent _ _ refl h p

-- ---- READ's buffer as a part of the answers

-- A call leaves READ's buffer as it was, or its answer is longer by a byte than the buffer.
module _ (port : Port) (c : Card) where
  abbrev Covers : Call → List ℕ → Result → Type 0
  Covers call out r = (r.out ≡ out) ⊎ (1 + length r.out ≤ length (answer_bytes call (reply r)))

  settle_covers : (call : Call) (lent : Buffers) (o : Option Refusal) → Covers call lent.out (settle c lent (plan port c call lent) o)
  unfolding settle plan read_plan write_plan alloc_plan alloc_contig_plan create_plan delete_plan delete_tree_plan key_plan renew_plan force_plan free_plan tick_plan audit_plan rent_plan sweep_plan out_after answer_bytes bytes
  settle_covers (Read o) lent None = inr (omega arith)
  settle_covers (Write o) lent None = inl refl
  settle_covers (Alloc o) lent None = inl refl
  settle_covers (AllocContig o) lent None = inl refl
  settle_covers (Create o) lent None = inl refl
  settle_covers (Delete o) lent None = inl refl
  settle_covers (DeleteTree o) lent None = inl refl
  settle_covers (KeyRead o) lent None = inl refl
  settle_covers (KeyWrite o) lent None = inl refl
  settle_covers (Renew o) lent None = inl refl
  settle_covers (Force o) lent None = inl refl
  settle_covers Free lent None = inl refl
  settle_covers (Tick o) lent None = inl refl
  settle_covers Audit lent None = inl refl
  settle_covers (Rent o) lent None = inl refl
  settle_covers (Sweep o) lent None = inl refl
  settle_covers call lent (Some r) = inl refl

  perform_covers : (call : Call) (input out places : List ℕ) → Covers call out (perform port c (request call input out places))
  unfolding perform judge
  perform_covers call input out places = settle_covers call (request call input out places).lent _

module _ (port : Port) (c : Card) (call : Call) (payload before : List ℕ) (at : ℕ) {size : ℕ} (told : size ≡ lent_size c.public.info.bytes call)
    (fits : at + answer_room c.public.info.bytes call ≤ length before) where
  abbrev end : ℕ
  end = at + 1 + size

  -- The part that is lent.
  abbrev read_part : List ℕ
  read_part = take (end - (at + 1)) (drop (at + 1) before)

  within : end ≤ length before
  within = part_within c.public.info.bytes call at told fits

  read_part_length : length read_part ≡ size
  read_part_length = length-take-le (end - (at + 1)) (drop (at + 1) before) (omega (arith, length-drop (at + 1) before, within)) ∙ omega arith

  module _ {answer : Answer} {after : Card} {out places : List ℕ} (i : Is (perform port c (request call payload read_part (zeros lent_places))) answer after out places)
      (kept : length out ≡ length read_part) (few : length places ≡ lent_places) where
    -- The buffer with READ's bytes, and without the number.
    abbrev middle : List ℕ
    middle = put_mid (at + 1) (end - (at + 1)) before out

    middle_length : length middle ≡ length before
    middle_length = same_len_mid (at + 1) (end - (at + 1)) before out kept

    stands : take size (drop (at + 1) middle) ≡ out
    stands =
        ap (take size) (drop_at (take (at + 1) before) _ (at + 1) (length-take-le (at + 1) before (omega (arith, within))))
        ∙ take_at out _ size (kept ∙ read_part_length)

    unfoldable result : Result
    result = perform port c (request call payload read_part (zeros lent_places))

    alike : ToldAlike call result (served port c call payload)
    unfolding served result
    alike = perform_alike port c call payload (zeros lent_places) read_part (zeros (lent_size c.public.info.bytes call)) (read_part_length ∙ told ∙ sym (length-replicate (lent_size c.public.info.bytes call) 0))

    abbrev told_bytes : List ℕ
    told_bytes = answer_bytes call (replied answer (take size (drop (at + 1) middle)) places)

    tells : told_bytes ≡ answer_bytes call (reply result)
    unfolding result
    tells =
        ap (λ (xs : List ℕ). answer_bytes call (replied answer xs places)) (stands ∙ i.fills_out)
        ∙ ap₂ (λ (a : Answer) (xs : List ℕ). answer_bytes call (replied a result.out xs)) i.answers i.fills_places

    short : length told_bytes ≤ answer_room c.public.info.bytes call
    unfolding result
    short =
        rw tells
        (perform_short port c c.public.info.bytes call payload read_part (zeros lent_places) (ap length (sym i.fills_out) ∙ kept ∙ read_part_length ∙ told) (ap length (sym i.fills_places) ∙ few))

    pub answer_room_law : (at + 1 + size ≤ length middle) × (at + length told_bytes ≤ length middle)
    answer_room_law = (omega (arith, middle_length, within), omega (arith, middle_length, short))

    -- What is written over READ's bytes is as if they had never stood there.
    covered_same : (ys : List ℕ) → 1 + length out ≤ length ys → at + length ys ≤ length before → overwrite middle at ys ≡ overwrite before at ys
    unfolding overwrite
    covered_same ys h g =
        let size_is : length out ≡ size = kept ∙ read_part_length in
        let rest : ℕ = at + length ys - end in
        let total : end + rest ≡ at + length ys = omega arith in
        let front : take at middle ≡ take at before =
        sym (take-take at (at + 1) middle (omega arith)) ∙ ap (take at) (take_put (at + 1) (end - (at + 1)) before out (omega (arith, within))) ∙ take-take at (at + 1) before (omega arith) in
        let behind : drop (at + length ys) middle ≡ drop (at + length ys) before =
        ap (λ (n : ℕ). drop n middle) (sym total)
        ∙ sym (drop-drop rest end middle)
        ∙ ap (drop rest) (drop_put (at + 1) end before out (omega arith) within (size_is ∙ omega arith))
        ∙ drop-drop rest end before
        ∙ ap (λ (n : ℕ). drop n before) total in
        ap₂ (λ (us vs : List ℕ). us ++ (ys ++ vs)) front behind

    over : overwrite middle at told_bytes ≡ overwrite before at told_bytes
    unfolding result
    over =
        ⊎_elim
        (λ (e : result.out ≡ read_part).
        ap (λ (xs : List ℕ). overwrite xs at told_bytes) (ap (put_mid (at + 1) (end - (at + 1)) before) (i.fills_out ∙ e) ∙ put_same (at + 1) (end - (at + 1)) before))
        (λ (h : 1 + length result.out ≤ length (answer_bytes call (reply result))).
        covered_same told_bytes (rw tells (rw i.fills_out h)) (omega (arith, short)))
        (perform_covers port c call payload read_part (zeros lent_places))

    pub answered : {to : List ℕ} {behind : ℕ} → Written middle at told_bytes to behind
        → WroteIs (served port c call payload).after (answer_bytes call (reply (served port c call payload))) (answer_room c.public.info.bytes call) after before at to behind
    unfolding result
    answered {to} {behind} w =
        let same : told_bytes ≡ answer_bytes call (reply (served port c call payload)) = tells ∙ alike.tells in
        record {
          leaves = i.leaves ∙ alike.leaves;
          writes = subst (λ (bs : List ℕ). Written before at bs to behind) same (record { holds = w.holds ∙ over; ends = w.ends });
          short = subst (λ (bs : List ℕ). length bs ≤ answer_room c.public.info.bytes call) same short;
        }
