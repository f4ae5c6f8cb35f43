-- Laws of a call performed, by what the audit finds, and of a list of calls.
use Rattle.std.specs.Prelude.{ℕ, suc, ◌+◌, ◌-◌, ◌≡◌, length, drop, Option, None, Some}
use Rattle.std.proofs.Math.Path.{refl}
use Rattle.std.proofs.Common.{ap, ◌∙◌, drop_at}
use mathlib.Core.List.{List, [], ◌∷◌, ◌++◌}
use Rattle.card.specs.Card.{Public, Card}
use Rattle.card.specs.Soundness.{verdict}
use Rattle.card.specs.Plan.{first, audited, Change, set_window, set_block, set_key, take_block, free_block, sweep_block, add_pointer, raise_pointer, lower_pointer, drop_pointer, drop_from, set_time, with_used, with_time, change_public, change, changes, Plan, Buffers, settle, judge}
use Rattle.card.specs.Promises.{Is}
use Rattle.laws.specs.PromisesLaws.{judged_misshapen, judged_unsound, judged_sound}
use Rattle.card.specs.Access.{admits}
use Rattle.card.specs.Calls.{key_plan}
use Rattle.card.specs.Session.{key_call, Request, Sent, Reply, plan, port_of, perform, perform_sound, reply, performed, replies, after_all}
use Rattle.card.specs.declared.Info.{Info}
use Rattle.card.specs.declared.Port.{Port}
use Rattle.card.specs.declared.Mode.{Mode}
use Rattle.card.specs.declared.Mode.TheVariants.{Reading, Writing}
use Rattle.card.specs.declared.KeyOperands.{KeyOperands}
use Rattle.card.specs.declared.Verdict.TheVariants.{Misshapen, Unsound, Sound}
use Rattle.card.specs.declared.Refusal.{Refusal}
use Rattle.card.specs.declared.Refusal.TheVariants.{Misshapen as MisshapenRefusal, Unsound as UnsoundRefusal}
use Rattle.card.specs.Answers.{Answer}
use Rattle.card.specs.Answers.{Refused}
use Rattle.card.specs.declared.Call.{Call}
use Rattle.card.specs.declared.Call.TheVariants.{Read, Write, Alloc, AllocContig, Create, Delete, DeleteTree, KeyRead, KeyWrite, Renew, Force, Free, Tick, Audit, Rent, Sweep}

module _ (port : Port) (c : Card) (q : Request) where
  pub is_misshapen : verdict c ≡ Misshapen → Is (perform port c q) (Refused MisshapenRefusal) c q.lent.out q.lent.places
  unfolding perform
  is_misshapen = judged_misshapen c q.lent (plan port c q.call q.lent)

  pub is_unsound : verdict c ≡ Unsound → Is (perform port c q) (Refused UnsoundRefusal) c q.lent.out q.lent.places
  unfolding perform
  is_unsound = judged_unsound c q.lent (plan port c q.call q.lent)

  -- What is right on an audited card is right.
  pub is_audited : verdict c ≡ Sound → {answer : Answer} {after : Card} {out places : List ℕ} → Is (perform_sound port c q) answer after out places
      → Is (perform port c q) answer after out places
  unfolding perform perform_sound
  is_audited e i = judged_sound c q.lent (plan port c q.call q.lent) e i

-- The two calls that set a key have one paragraph.
pub plan_key : (port : Port) (c : Card) (mode : Mode) (o : KeyOperands) (lent : Buffers)
    → plan port c (key_call mode o) lent ≡ key_plan port c.public (admits port c Writing o.block o.credential) mode o
unfolding plan
plan_key port c Reading o lent = refl
plan_key port c Writing o lent = refl

-- A call does at its port what it does at the port by whose rules it is judged.
pub perform_port_of : (port : Port) (c : Card) (q : Request) → perform port c q ≡ perform (port_of port q.call) c q
unfolding perform plan port_of
perform_port_of port c q = ap (judge c q.lent) (go q.call)
  where
    go : (call : Call) → plan port c call q.lent ≡ plan (port_of port call) c call q.lent
    go (Read o) = refl
    go (Write o) = refl
    go (Alloc o) = refl
    go (AllocContig o) = refl
    go (Create o) = refl
    go (Delete o) = refl
    go (DeleteTree o) = refl
    go (KeyRead o) = refl
    go (KeyWrite o) = refl
    go (Renew o) = refl
    go (Force o) = refl
    go Free = refl
    go (Tick o) = refl
    go Audit = refl
    go (Rent o) = refl
    go (Sweep o) = refl

-- ---- a list of calls, part by part

pub replies_append : (c : Card) (xs ys : List Sent) → replies c (xs ++ ys) ≡ replies c xs ++ replies (after_all c xs) ys
unfolding replies after_all
replies_append c [] ys = refl
replies_append c (x ∷ xs) ys = ap (λ (rs : List Reply). reply (performed c x) ∷ rs) (replies_append (performed c x).after xs ys)

pub after_all_append : (c : Card) (xs ys : List Sent) → after_all c (xs ++ ys) ≡ after_all (after_all c xs) ys
unfolding after_all
after_all_append c [] ys = refl
after_all_append c (x ∷ xs) ys = after_all_append (performed c x).after xs ys

pub length_replies : (c : Card) (xs : List Sent) → length (replies c xs) ≡ length xs
unfolding replies
length_replies c [] = refl
length_replies c (x ∷ xs) = ap suc (length_replies (performed c x).after xs)

-- Behind the replies of the first part stand those of the second, on the card that the first leaves.
pub drop_replies : (c : Card) (xs ys : List Sent) → drop (length xs) (replies c (xs ++ ys)) ≡ replies (after_all c xs) ys
drop_replies c xs ys =
    ap (drop (length xs)) (replies_append c xs ys) ∙ drop_at (replies c xs) (replies (after_all c xs) ys) (length xs) (length_replies c xs)

-- ---- the numbers of the record that no call changes, on any card, sound or not

-- A number of the record that is none of M, T and the total.
record Fixed (size : Info → ℕ) : Type 0 where
  used : (info : Info) (n : ℕ) → size (with_used info n) ≡ size info
  time : (info : Info) (n m : ℕ) → size (with_time info n m) ≡ size info

module _ {size : Info → ℕ} (fixed : Fixed size) where
  change_public_size : (step : Change) (p : Public) → size (change_public step p).info ≡ size p.info
  unfolding change_public
  change_public_size (set_window mode b end) p = refl
  change_public_size (set_block b ys) p = refl
  change_public_size (set_key mode b key) p = refl
  change_public_size (take_block b) p = refl
  change_public_size (free_block b) p = refl
  change_public_size (sweep_block b) p = refl
  change_public_size (add_pointer a b) p = fixed.used p.info (p.info.used + 1)
  change_public_size (raise_pointer a b) p = refl
  change_public_size (lower_pointer a b) p = refl
  change_public_size (drop_pointer a b) p = fixed.used p.info (p.info.used - 1)
  change_public_size (drop_from bs) p = fixed.used p.info _
  change_public_size (set_time time total) p = fixed.time p.info time total

  changes_size : (c : Card) (steps : List Change) → size (changes c steps).public.info ≡ size c.public.info
  unfolding changes change
  changes_size c [] = refl
  changes_size c (step ∷ steps) = changes_size (change c step) steps ∙ change_public_size step c.public

  settle_size : (c : Card) (lent : Buffers) (p : Plan) (o : Option Refusal) → size (settle c lent p o).after.public.info ≡ size c.public.info
  unfolding settle
  settle_size c lent p None = changes_size c p.steps
  settle_size c lent p (Some r) = refl

  perform_size : (port : Port) (c : Card) (q : Request) → size (perform port c q).after.public.info ≡ size c.public.info
  unfolding perform judge
  perform_size port c q =
      let p = plan port c q.call q.lent in
      settle_size c q.lent p (first (audited c p.checks))

  after_all_size : (c : Card) (xs : List Sent) → size (after_all c xs).public.info ≡ size c.public.info
  unfolding after_all
  after_all_size c [] = refl
  after_all_size c (x ∷ xs) = after_all_size (performed c x).after xs ∙ perform_size x.port c x.request

fixed_bytes : Fixed (λ (i : Info). i.bytes)
fixed_bytes = record { used = λ i n. refl; time = λ i n m. refl }

pub perform_bytes : (port : Port) (c : Card) (q : Request) → (perform port c q).after.public.info.bytes ≡ c.public.info.bytes
perform_bytes = perform_size fixed_bytes

pub after_all_bytes : (c : Card) (xs : List Sent) → (after_all c xs).public.info.bytes ≡ c.public.info.bytes
after_all_bytes = after_all_size fixed_bytes

pub after_all_blocks : (c : Card) (xs : List Sent) → (after_all c xs).public.info.blocks ≡ c.public.info.blocks
after_all_blocks = after_all_size (record { used = λ i n. refl; time = λ i n m. refl })
