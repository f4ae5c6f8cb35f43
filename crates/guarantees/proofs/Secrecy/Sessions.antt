-- One call of a host on two cards, and a whole list of them.
use Rattle.std.specs.Prelude.{Option, None, Some}
use Prim.Native.Nat.{ℕ}
use mathlib.Core.Path.{◌≡◌, refl, sym, ap, ap₂, ◌∙◌}
use mathlib.Core.Logic.{◌⊎◌, inl, inr, ⊎_elim}
use mathlib.Core.Bool.{Bool, true, false, ◌&&◌, cond}
use mathlib.Core.List.{List, [], ◌∷◌}
use lib.Dec.{eqb}
use lib.ListN.{length}
use borrow.Author.Tests.{eq-eqb}
use Rattle.laws.specs.ListsLaws.{and_true, or_left, or_right, or_false_left, or_false_right, absurd_test}
use Rattle.card.specs.Card.{Public, Card, allocated_flag, free_flag, allocated, free, free_blocks, block, count, multiplicity, points_to}
use Rattle.card.specs.SoundCard.{SoundCard}
use Rattle.card.specs.Access.{opens, admits}
use Rattle.card.specs.Plan.{set_window, free_block, add_pointer, raise_pointer, lower_pointer, drop_pointer, NoneHolds, first, Shown, nothing, block_part, numbers, Plan, Buffers, Result, refused, done, out_after, settle, judge_sound}
use Rattle.laws.specs.PlanLaws.{first_none, judge_sound_law}
use Rattle.card.specs.Calls.{opens_window, window_after, mode_of, wanted, picks, take_all, read_plan, write_plan, alloc_plan, run_starts, nearest_run, alloc_contig_plan, create_plan, delete_plan, delete_tree_plan, key_plan, renew_plan, force_plan, free_plan, tick_plan, audit_plan, rent_plan, lowest_waiting, sweep_each, sweep_plan}
use Rattle.card.specs.Session.{Request, plan, perform, reply, replies, after_all, host_session, traits}
use Rattle.card.specs.Reach.{shows, presents, some_shows, takes_last, is_one, last_taken, CallPresents}
use Rattle.card.specs.declared.Port.TheVariants.{Host}
use Rattle.card.specs.declared.Mode.{Mode}
use Rattle.card.specs.declared.Mode.TheVariants.{Reading, Writing}
use Rattle.card.specs.declared.Credential.{Credential}
use Rattle.card.specs.declared.Credential.TheVariants.{Key as KeyCredential}
use Rattle.card.specs.declared.Refusal.{Refusal}
use Rattle.card.specs.declared.Call.{Call}
use Rattle.card.specs.declared.Call.TheVariants.{Read, Write, Alloc, AllocContig, Create, Delete, DeleteTree, KeyRead, KeyWrite, Renew, Force, Free, Tick, Audit, Rent, Sweep}
use Rattle.guarantees.proofs.Secrecy.Closed.{Closed}
use Rattle.guarantees.proofs.Secrecy.StepsAlike.{Alike, Kept, GrownAll, grows, closed_changes, alike_changes, covered, Frees, FreesNone, KeptApart, apart_changes}
use Rattle.guarantees.proofs.Secrecy.Opened.{AllPresented}
use Rattle.guarantees.proofs.Secrecy.Plans.{sound_regular, ShownIn, Safe, safe}
use Rattle.guarantees.proofs.Secrecy.Trees.{tree_frees_none}

-- A link between the keys of two cards under which no presented credential tells them apart.
pub record KeyLink (K : ℕ → ℕ → Bool) (L : Public → List ℕ → List ℕ → Type 0) : Type 0 where
  pub kept : Kept L
  pub opens_same : (c d : Card) → c.public ≡ d.public → L c.public c.keys d.keys
      → (mode : Mode) (b : ℕ) (credential : Credential) → AllPresented K credential → opens c mode b credential ≡ opens d mode b credential

-- Each call on a sound card leaves a sound card.
abbrev pub CallsKeepSound : Type 0
CallsKeepSound = (c : Card) (q : Request) → SoundCard c → SoundCard (perform Host c q).after

-- What a call done or refused leaves of two cards: a larger set, closed, on which they agree.
pub record BothNext (K : ℕ → ℕ → Bool) (L : Public → List ℕ → List ℕ → Type 0) (G : ℕ → Type 0) (c c' d' : Card) : Type 1 where
  pub G' : ℕ → Type 0
  pub larger : (x : ℕ) → G x → G' x
  pub closed : Closed K G' c'
  pub alike : Alike L G' c' d'
  pub new : (x : ℕ) → allocated c'.public x ≡ true → G' x ⊎ (allocated c.public x ≡ true)
  pub new_free : (x : ℕ) → free c'.public x ≡ true → G' x ⊎ (free c.public x ≡ true)

module _ (K : ℕ → ℕ → Bool) (L : Public → List ℕ → List ℕ → Type 0) (link : KeyLink K L) (G : ℕ → Type 0) (c d : Card) (alike : Alike L G c d) where
  same_opens : (mode : Mode) (b : ℕ) (credential : Credential) → AllPresented K credential → opens c mode b credential ≡ opens d mode b credential
  same_opens mode b credential k = link.opens_same c d alike.same_public alike.linked mode b credential k

  -- The call's plan is the same on both cards.
  plan_same : (call : Call) (lent : Buffers) → CallPresents K call → plan Host c call lent ≡ plan Host d call lent
  unfolding plan admits presents some_shows traits
  plan_same (Read o) lent k =
      ap₂ (λ (p : Public) (t : Bool). read_plan Host p t o (length lent.out)) alike.same_public (same_opens Reading o.block o.credential k)
  plan_same (Write o) lent k =
      ap₂ (λ (p : Public) (t : Bool). write_plan Host p t o lent.input) alike.same_public (same_opens Writing o.block o.credential k)
  plan_same (Alloc o) lent k =
      ap₂ (λ (p : Public) (t : Bool). alloc_plan Host p t o (length lent.places)) alike.same_public (same_opens Writing o.reference o.credential k)
  plan_same (AllocContig o) lent k =
      ap₂ (λ (p : Public) (t : Bool). alloc_contig_plan Host p t o (length lent.places)) alike.same_public (same_opens Writing o.reference o.credential k)
  plan_same (Create o) lent k =
      let source = same_opens Writing o.source o.credential (λ high low h. k high low (or_left _ _ h)) in
      let destination = same_opens Writing o.destination o.second (λ high low h. k high low (or_right (shows o.credential high low) _ h)) in
      ap₂ (λ (p : Public) (t : Bool). create_plan Host p t (opens c Writing o.destination o.second) o) alike.same_public source
      ∙ ap (λ (t : Bool). create_plan Host d.public (opens d Writing o.source o.credential) t o) destination
  plan_same (Delete o) lent k = ap₂ (λ (p : Public) (t : Bool). delete_plan Host p t o) alike.same_public (same_opens Writing o.source o.credential k)
  plan_same (DeleteTree o) lent k =
      ap₂ (λ (p : Public) (t : Bool). delete_tree_plan Host p t o) alike.same_public (same_opens Writing o.source o.credential k)
  plan_same (KeyRead o) lent k = ap₂ (λ (p : Public) (t : Bool). key_plan Host p t Reading o) alike.same_public (same_opens Writing o.block o.credential k)
  plan_same (KeyWrite o) lent k = ap₂ (λ (p : Public) (t : Bool). key_plan Host p t Writing o) alike.same_public (same_opens Writing o.block o.credential k)
  plan_same (Renew o) lent k =
      ap₂ (λ (p : Public) (t : Bool). renew_plan p t o) alike.same_public (same_opens (mode_of o.mode) o.block (KeyCredential o.high o.low) k)
  plan_same (Force o) lent k = ap (λ (p : Public). force_plan p o) alike.same_public
  plan_same Free lent k = ap free_plan alike.same_public
  plan_same (Tick o) lent k = ap (λ (p : Public). tick_plan p o) alike.same_public
  plan_same Audit lent k = refl
  plan_same (Rent o) lent k = ap (λ (p : Public). rent_plan p o) alike.same_public
  plan_same (Sweep o) lent k = ap (λ (p : Public). sweep_plan p o) alike.same_public

  -- What is shown is the same.
  same_shown : (shown : Shown) (out : List ℕ) → ShownIn G shown → out_after c shown out ≡ out_after d shown out
  unfolding out_after
  same_shown nothing out g = refl
  same_shown (block_part b) out g = alike.same_blocks b g
  same_shown (numbers ns) out g = refl

-- A host's call on a sound card, as it is settled by its own checks.
settled : (c : Card) (q : Request) → SoundCard c → perform Host c q ≡ settle c q.lent (plan Host c q.call q.lent) (first (plan Host c q.call q.lent).checks)
unfolding perform judge_sound
settled c q s = judge_sound_law c q.lent (plan Host c q.call q.lent) s

-- ---- one call on two cards

pub record Both (K : ℕ → ℕ → Bool) (L : Public → List ℕ → List ℕ → Type 0) (G : ℕ → Type 0) (c : Card) (r t : Result) : Type 1 where
  pub same_reply : reply r ≡ reply t
  pub next : BothNext K L G c r.after t.after

module _ (K : ℕ → ℕ → Bool) (L : Public → List ℕ → List ℕ → Type 0) (link : KeyLink K L) (G : ℕ → Type 0) (c d : Card) (sc : SoundCard c) (sd : SoundCard d) (closed : Closed K G c) (alike : Alike L G c d) where
  both_refused : (lent : Buffers) (r : Refusal) → Both K L G c (refused c lent r) (refused d lent r)
  both_refused lent r = record {
    same_reply = refl;
    next = record { G' = G; larger = λ x g. g; closed = closed; alike = alike; new = λ x a. inr a; new_free = λ x a. inr a };
  }

  both_done : (lent : Buffers) (p : Plan) → Safe G c p → Both K L G c (done c lent p) (done d lent p)
  unfolding allocated free
  both_done lent p s = record {
    same_reply =
        ap (λ (out : List ℕ). reply (record { answer = p.answer; after = c; out = out; places = (done c lent p).places }))
        (same_shown K L link G c d alike p.shown lent.out s.shown_in);
    next = record {
      G' = GrownAll G p.steps;
      larger = grows G p.steps;
      closed = closed_changes K G c p.steps (sound_regular sc) s.allowed closed;
      alike = alike_changes L link.kept G c d p.steps (sound_regular sc) (sound_regular sd) s.allowed alike;
      new = covered allocated_flag refl G c p.steps (sound_regular sc) s.allowed;
      new_free = covered free_flag refl G c p.steps (sound_regular sc) s.allowed;
    };
  }

  both_settled : (q : Request) → CallPresents K q.call → (o : Option Refusal) → first (plan Host c q.call q.lent).checks ≡ o
      → Both K L G c (settle c q.lent (plan Host c q.call q.lent) o) (settle d q.lent (plan Host c q.call q.lent) o)
  unfolding settle
  both_settled q k None e = both_done q.lent (plan Host c q.call q.lent) (safe K G c sc closed q.call q.lent k (first_none _ e))
  both_settled q k (Some r) e = both_refused q.lent r

  pub both : (q : Request) → CallPresents K q.call → Both K L G c (perform Host c q) (perform Host d q)
  both q k =
      let p = plan Host c q.call q.lent in
      rw (settled c q sc, settled d q sd, ← plan_same K L link G c d alike q.call q.lent k)
      (both_settled q k (first p.checks) refl)

-- ---- a list of calls on two cards

-- Every key that a call of the list presents is presented.
abbrev pub AllPresent : (ℕ → ℕ → Bool) → List Request → Type 0
AllPresent K [] = Unit {0}
AllPresent K (q ∷ qs) = CallPresents K q.call × AllPresent K qs

pub record BothRun (K : ℕ → ℕ → Bool) (L : Public → List ℕ → List ℕ → Type 0) (G : ℕ → Type 0) (c d : Card) (qs : List Request) : Type 1 where
  pub same_replies : replies c (host_session qs) ≡ replies d (host_session qs)
  pub next : BothNext K L G c (after_all c (host_session qs)) (after_all d (host_session qs))

module _ (K : ℕ → ℕ → Bool) (L : Public → List ℕ → List ℕ → Type 0) (link : KeyLink K L) (keeps_sound : CallsKeepSound) where
  pub both_run : (qs : List Request) (G : ℕ → Type 0) (c d : Card) → SoundCard c → SoundCard d → Closed K G c → Alike L G c d → AllPresent K qs
      → BothRun K L G c d qs
  unfolding replies after_all
  both_run [] G c d sc sd closed alike k = record {
    same_replies = refl;
    next = record { G' = G; larger = λ x g. g; closed = closed; alike = alike; new = λ x a. inr a; new_free = λ x a. inr a };
  }
  both_run (q ∷ qs) G c d sc sd closed alike k =
      let one = both K L link G c d sc sd closed alike q k.0 in
      let rest = both_run qs one.next.G' (perform Host c q).after (perform Host d q).after (keeps_sound c q sc) (keeps_sound d q sd) one.next.closed one.next.alike k.1 in
      record {
        same_replies = ap₂ ◌∷◌ one.same_reply rest.same_replies;
        next = record {
          G' = rest.next.G';
          larger = λ x g. rest.next.larger x (one.next.larger x g);
          closed = rest.next.closed;
          alike = rest.next.alike;
          new = λ x a. ⊎_elim (λ g. inl g) (λ b. ⊎_elim (λ g. inl (rest.next.larger x g)) (λ h. inr h) (one.next.new x b)) (rest.next.new x a);
          new_free = λ x a. ⊎_elim (λ g. inl g) (λ b. ⊎_elim (λ g. inl (rest.next.larger x g)) (λ h. inr h) (one.next.new_free x b)) (rest.next.new_free x a);
        };
      }

-- ---- a hidden block on one card

takes_free_none : (reference : ℕ) (bs : List ℕ) (x : ℕ) → FreesNone (take_all reference bs) x
unfolding take_all
takes_free_none reference [] x = tt
takes_free_none reference (b ∷ bs) x = (λ f. f, (λ f. f, takes_free_none reference bs x))

sweeps_free_none : (bs : List ℕ) (x : ℕ) → FreesNone (sweep_each bs) x
unfolding sweep_each
sweeps_free_none [] x = tt
sweeps_free_none (b ∷ bs) x = (λ f. f, sweeps_free_none bs x)

-- A set closed on the card that a call leaves, and an allocated block outside the set before, as the call leaves it.
pub record OneNext (K : ℕ → ℕ → Bool) (G : ℕ → Type 0) (c c' : Card) (x : ℕ) : Type 1 where
  pub G' : ℕ → Type 0
  pub closed : Closed K G' c'
  pub apart : KeptApart G' c c' x

module _ (K : ℕ → ℕ → Bool) (G : ℕ → Type 0) (c : Card) (s : SoundCard c) (closed : Closed K G c) (x : ℕ) (a : allocated c.public x ≡ true) (out : G x → ⊥) where
  -- A done call that does not take the last pointer of a block outside the set away frees that block by no change.
  frees_none : (call : Call) (lent : Buffers) → CallPresents K call → NoneHolds (plan Host c call lent).checks → takes_last call (plan Host c call lent).answer x ≡ false
      → FreesNone (plan Host c call lent).steps x
  unfolding plan takes_last is_one read_plan write_plan alloc_plan alloc_contig_plan create_plan delete_plan key_plan renew_plan force_plan free_plan tick_plan audit_plan rent_plan sweep_plan opens_window traits
  frees_none (Read o) lent k n e = go (eqb o.interval 0)
    where
      go : (t : Bool) → FreesNone (cond t [] (set_window Reading o.block (window_after c.public Reading o.block o.interval) ∷ [])) x
      go true = tt
      go false = (λ f. f, tt)
  frees_none (Write o) lent k n e = (λ f. f, go (eqb o.interval 0))
    where
      go : (t : Bool) → FreesNone (cond t [] (set_window Writing o.block (window_after c.public Writing o.block o.interval) ∷ [])) x
      go true = tt
      go false = (λ f. f, tt)
  frees_none (Alloc o) lent k n e = takes_free_none o.reference (picks (wanted o.hint) o.count (free_blocks c.public)) x
  frees_none (AllocContig o) lent k n e = takes_free_none o.reference (nearest_run (wanted o.hint) o.count (run_starts c.public o.count)) x
  frees_none (Create o) lent k n e = (first (points_to c.public o.source o.destination), tt)
    where
      first : (t : Bool) → Frees (cond t (raise_pointer o.source o.destination) (add_pointer o.source o.destination)) x → ⊥
      first true f = f
      first false f = f
  frees_none (Delete o) lent k n e =
      (first (eqb (multiplicity c.public o.source o.destination) 1), go (eqb (count c.public o.destination) 1) e)
    where
      first : (t : Bool) → Frees (cond t (drop_pointer o.source o.destination) (lower_pointer o.source o.destination)) x → ⊥
      first true f = f
      first false f = f

      go : (t : Bool) → eqb o.destination x && eqb (cond t 1 0) 1 ≡ false → FreesNone (cond t (free_block o.destination ∷ []) []) x
      go true h = (λ f. absurd_test (and_true _ _ (eq-eqb o.destination x (sym f)) refl) h, tt)
      go false h = tt
  frees_none (DeleteTree o) lent k n e = tree_frees_none K G c s closed o lent k n x out
  frees_none (KeyRead o) lent k n e = (λ f. f, (λ f. f, (λ f. f, tt)))
  frees_none (KeyWrite o) lent k n e = (λ f. f, (λ f. f, (λ f. f, tt)))
  frees_none (Renew o) lent k n e = (λ f. f, tt)
  frees_none (Force o) lent k n e = (λ f. f, (λ f. f, tt))
  frees_none Free lent k n e = tt
  frees_none (Tick o) lent k n e = (λ f. f, tt)
  frees_none Audit lent k n e = tt
  frees_none (Rent o) lent k n e = tt
  frees_none (Sweep o) lent k n e = sweeps_free_none (lowest_waiting c.public o.most) x

  one_settled : (q : Request) → CallPresents K q.call → (o : Option Refusal) → first (plan Host c q.call q.lent).checks ≡ o
      → takes_last q.call (settle c q.lent (plan Host c q.call q.lent) o).answer x ≡ false
      → OneNext K G c (settle c q.lent (plan Host c q.call q.lent) o).after x
  unfolding settle
  one_settled q k None e f =
      let p = plan Host c q.call q.lent in
      let ok = safe K G c s closed q.call q.lent k (first_none _ e) in
      record {
        G' = GrownAll G p.steps;
        closed = closed_changes K G c p.steps (sound_regular s) ok.allowed closed;
        apart = apart_changes G c p.steps (sound_regular s) x a out ok.allowed (frees_none q.call q.lent k (first_none _ e) f);
      }
  one_settled q k (Some r) e f = record { G' = G; closed = closed; apart = record { still_allocated = a; still_outside = out; same_block = refl } }

  one_next : (q : Request) → CallPresents K q.call → takes_last q.call (perform Host c q).answer x ≡ false → OneNext K G c (perform Host c q).after x
  one_next q k f =
      let p = plan Host c q.call q.lent in
      rw (settled c q s) (one_settled q k (first p.checks) refl (rw (settled c q s) at f))

-- A block outside a closed set keeps its contents unless a call takes its last pointer away.
module _ (K : ℕ → ℕ → Bool) (keeps_sound : CallsKeepSound) (x : ℕ) where
  pub hidden_kept : (qs : List Request) (G : ℕ → Type 0) (c : Card) → SoundCard c → Closed K G c → AllPresent K qs → allocated c.public x ≡ true → (G x → ⊥)
      → last_taken c (host_session qs) x ≡ false → block (after_all c (host_session qs)) x ≡ block c x
  unfolding last_taken after_all
  hidden_kept [] G c s closed k a out f = refl
  hidden_kept (q ∷ qs) G c s closed k a out f =
      let one = one_next K G c s closed x a out q k.0 (or_false_left _ _ f) in
      hidden_kept qs one.G' (perform Host c q).after (keeps_sound c q s) one.closed k.1 one.apart.still_allocated one.apart.still_outside
      (or_false_right (takes_last q.call (perform Host c q).answer x) _ f)
      ∙ one.apart.same_block
