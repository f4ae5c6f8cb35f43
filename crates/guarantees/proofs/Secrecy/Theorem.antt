-- Demand 3: what a host session shows, and what it leaves, depends on no hidden block, on no waiting one and on no free one.
use Prim.Native.Nat.{ℕ}
use mathlib.Core.Path.{◌≡◌, refl, sym, ap, ◌∙◌}
use mathlib.Core.Logic.Dec
use mathlib.Core.Logic.{inl, inr, ⊎_elim}
use mathlib.Core.Bool.{Bool, true, false}
use mathlib.Core.List.{List, [], ◌∷◌, List-discrete}
use native.Mathlib.Decide.{ℕ_discrete}
use Rattle.laws.specs.ListsLaws.{or_left, or_right, absurd_test}
use Rattle.card.specs.Card.{Card, allocated, free, block}
use Rattle.card.specs.SoundCard.{SoundCard}
use Rattle.laws.specs.SoundnessLaws.{allocated_below}
use Rattle.card.specs.Access.{key_opens, opens_keyed, opens}
use Rattle.card.specs.Plan.{change_keys}
use Rattle.card.specs.Session.{Request, Sent, after_all, host_session}
use Rattle.card.specs.Reach.{HasKeys, presents, presented, key_presented, sealed, Reach, unsealed_root, by_key, open_window, pointed, Hidden}
use Rattle.card.specs.Statements.Secrecy.{Secrecy, EqualBut, HiddenOrUnallocated, StillDiffers, Secret, SameHidden}
use Rattle.card.proofs.Computed.Bounds.{reach_allocated}
use Rattle.card.specs.declared.Mode.{Mode}
use Rattle.card.specs.declared.Mode.TheVariants.{Reading, Writing}
use Rattle.card.specs.declared.Port.TheVariants.{Host}
use Rattle.card.specs.declared.Credential.{Credential}
use Rattle.card.specs.declared.Credential.TheVariants.{Nothing, Reference, Key}
use Rattle.guarantees.proofs.Sound.{done_sound}
use Rattle.guarantees.proofs.Secrecy.Closed.{reach_closed}
use Rattle.guarantees.proofs.Secrecy.StepsAlike.{Alike}
use Rattle.guarantees.proofs.Secrecy.Sessions.{KeyLink, CallsKeepSound, AllPresent, BothRun, both_run, hidden_kept}

-- ---- the proof

-- What is presented by a call of the list is presented in the list.
presented_later : (K : ℕ → ℕ → Bool) (qs : List Request) → HasKeys K qs → AllPresent K qs
unfolding presented
presented_later K [] k = tt
presented_later K (q ∷ qs) k =
    (λ high low h. k high low (or_left (presents q.call high low) _ h), presented_later K qs (λ high low h. k high low (or_right (presents q.call high low) _ h)))

-- The access test looks at the public part and the keys alone.
opens_same_law : (c d : Card) → c.public ≡ d.public → c.keys ≡ d.keys → (mode : Mode) (b : ℕ) (credential : Credential)
    → opens c mode b credential ≡ opens d mode b credential
unfolding opens opens_keyed key_opens
opens_same_law c d e k mode b Nothing = rw e
opens_same_law c d e k mode b (Reference r) = rw e
opens_same_law c d e k Reading b (Key high low) = rw (e, k)
opens_same_law c d e k Writing b (Key high low) = rw (e, k)

-- Equal keys: no credential tells them apart, and every change keeps them equal.
equal_keys : (K : ℕ → ℕ → Bool) → KeyLink K (λ p ks ls. ks ≡ ls)
equal_keys K = record {
  kept = λ p ks ls step e. ap (change_keys step) e;
  opens_same = λ c d e k mode b credential _. opens_same_law c d e k mode b credential;
}

-- On two cards with equal public parts and keys the same blocks are within reach.
module _ (K : ℕ → ℕ → Bool) (c d : Card) (e : c.public ≡ d.public) (k : c.keys ≡ d.keys) where
  presented_same : (mode : Mode) (b : ℕ) → key_presented K d mode b ≡ key_presented K c mode b
  unfolding key_presented
  presented_same mode b = rw (e, k)

  sealed_same : (b : ℕ) → sealed K d b ≡ sealed K c b
  unfolding sealed
  sealed_same b = rw (presented_same Reading b, presented_same Writing b, e)

  reach_same : {b : ℕ} → Reach K d b → Reach K c b
  reach_same (unsealed_root {b = b} a r s) = unsealed_root {b = b} (rw e a) (rw e r) (sym (sealed_same b) ∙ s)
  reach_same (by_key {b = b} mode a h) = by_key {b = b} mode (rw e a) (sym (presented_same mode b) ∙ h)
  reach_same (open_window {b = b} mode a o) = open_window {b = b} mode (rw e a) (rw e o)
  reach_same (pointed {a = x} {b = b} g a p s) = pointed {a = x} {b = b} (reach_same g) (rw e a) (rw e p) (sym (sealed_same b) ∙ s)

hidden_same : (K : ℕ → ℕ → Bool) (c d : Card) → c.public ≡ d.public → c.keys ≡ d.keys → {b : ℕ} → Hidden K c b → Hidden K d b
hidden_same K c d e k h = record { is_allocated = rw (← e) h.is_allocated; out_of_reach = λ g. h.out_of_reach (reach_same K c d e k g) }

pub same_hidden : SameHidden
same_hidden K Differ c d same b =
    let e = same.same_public in
    let k = same.same_keys in
    ((reach_same K d c (sym e) (sym k), reach_same K c d e k), (hidden_same K c d e k, hidden_same K d c (sym e) (sym k)))

-- A block that is neither hidden nor unallocated cannot fail to be within reach, so contents that agree there agree.
agree : (K : ℕ → ℕ → Bool) (c : Card) (b : ℕ) (xs ys : List ℕ) → allocated c.public b ≡ true → (Hidden K c b → ⊥) → (Reach K c b → xs ≡ ys) → xs ≡ ys
agree K c b xs ys a visible f =
    (Dec.not-not (List-discrete ℕ_discrete xs ys)).0 (λ n. visible (record { is_allocated = a; out_of_reach = λ g. n (f g) }))

-- Two such cards agree on the blocks within reach.
start : (K : ℕ → ℕ → Bool) (c d : Card) → EqualBut (HiddenOrUnallocated K c) c d → Alike (λ p ks ls. ks ≡ ls) (Reach K c) c d
start K c d same = record {
  same_public = same.same_public;
  linked = same.same_keys;
  same_blocks = λ b g.
      same.same_contents b (allocated_below c.public b (reach_allocated K c g))
      (λ h. ⊎_elim (λ (hidden : Hidden K c b). hidden.out_of_reach g) (λ free. absurd_test (reach_allocated K c g) free) h);
}

keeps_sound : CallsKeepSound
keeps_sound c q s = done_sound Host c q s

-- Any list of a host's calls, refused ones included, and any keys that have all that the list presents.
module _ (K : ℕ → ℕ → Bool) (session : List Request) (all : HasKeys K session)
    (c d : Card) (sc : SoundCard c) (sd : SoundCard d) (same : EqualBut (HiddenOrUnallocated K c) c d) where
  abbrev calls : List Sent
  calls = host_session session

  shown : AllPresent K session
  shown = presented_later K session all

  run : BothRun K (λ p ks ls. ks ≡ ls) (Reach K c) c d session
  run = both_run K (λ p ks ls. ks ≡ ls) (equal_keys K) keeps_sound session (Reach K c) c d sc sd (reach_closed K c) (start K c d same) shown

  -- A block that is free at the end joined the set, and so is the same on both, or was free at the start.
  not_swept : (b : ℕ) → (block (after_all c calls) b ≡ block (after_all d calls) b → ⊥) → free (after_all c calls).public b ≡ true → free c.public b ≡ true
  not_swept b n f = ⊎_elim (λ g. absurd (n (run.next.alike.same_blocks b g))) (λ h. h) (run.next.new_free b f)

  same_unless : (b : ℕ) → (StillDiffers K c (after_all c calls) b → ⊥) → (s e : Bool) → allocated c.public b ≡ s → allocated (after_all c calls).public b ≡ e
      → (block (after_all c calls) b ≡ block (after_all d calls) b → ⊥) → ⊥
  same_unless b n true e p q m =
      m (agree K c b _ _ p (λ h. n (inl h, not_swept b m)) (λ g. run.next.alike.same_blocks b (run.next.larger b g)))
  same_unless b n false true p q m = m (⊎_elim (λ g. run.next.alike.same_blocks b g) (λ a. absurd_test a p) (run.next.new b q))
  same_unless b n false false p q m = n (inr (p, q), not_swept b m)

  same_after : (b : ℕ) → (StillDiffers K c (after_all c calls) b → ⊥) → block (after_all c calls) b ≡ block (after_all d calls) b
  same_after b n =
      (Dec.not-not (List-discrete ℕ_discrete (block (after_all c calls) b) (block (after_all d calls) b))).0
      (same_unless b n (allocated c.public b) (allocated (after_all c calls).public b) refl refl)

  pub secrecy_by : Secret K (host_session session) c d
  secrecy_by = record {
    answers = run.same_replies;
    cards = record {
      same_public = run.next.alike.same_public;
      same_keys = run.next.alike.linked;
      same_contents = λ b l n. same_after b n;
    };
    kept = λ b h f. hidden_kept K keeps_sound b session (Reach K c) c sc (reach_closed K c) shown h.is_allocated h.out_of_reach f;
    kept_on_other = λ b h f.
        let hidden = (same_hidden K _ c d same b).1.0 h in
        hidden_kept K keeps_sound b session (Reach K d) d sd (reach_closed K d) shown hidden.is_allocated hidden.out_of_reach f;
  }

pub secrecy : Secrecy
secrecy session = secrecy_by (presented session) session (λ high low h. h)
