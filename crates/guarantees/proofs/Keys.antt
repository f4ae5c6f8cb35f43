-- The request 2026-02, of KEY_READ and KEY_WRITE: each sets its own key and leaves the other, both need write access and close both windows; and a block
-- that carries one key alone is not sealed.
use Rattle.std.specs.Prelude.{}
use Prim.Native.Nat.{ℕ, ◌+◌, ◌*◌, ◌≤◌, ◌<◌}
use mathlib.Core.Path.{◌≡◌, refl, sym, ap, ◌∙◌, subst}
use mathlib.Core.Logic.{⊎_elim}
use mathlib.Core.Bool.{Bool, true, false, ◌&&◌, cond}
use native.Mathlib.Omega.{arith}
use lib.Dec.{eqb}
use lib.ListN.{length, get_or, set}
use lib.Seq.{get_or-set_same, get_or-set_other}
use borrow.Author.Tests.{eqb-true, not-false}
use Rattle.laws.specs.ListsLaws.{and_left, and_right, and_false_left, and_false_right, absurd_test, same_or_other}
use Rattle.card.specs.Card.{Card, flag, key_flag, allocated, has_key, is_root, window_end, window_open, points_to, key_high}
use Rattle.card.specs.SoundCard.{SoundCard}
use Rattle.laws.specs.SoundnessLaws.{allocated_below}
use Rattle.card.specs.Access.{key_is, key_opens, opens_keyed, opens_root, opens_pointed, opens, admits}
use Rattle.card.specs.Plan.{NoneHolds, other_mode, keyed_flags, change_public, change_keys, change, changes, Plan, Buffers, Result, refused, done, settle}
use Rattle.laws.specs.ChangesLaws.{get_d_set_either, mode_or_other, keyed_own, keyed_other, replaced_high, replaced_low, kept_high, kept_low}
use Rattle.card.specs.Calls.{is_done, root_at_host, key_plan}
use Rattle.card.specs.Session.{perform}
use Rattle.laws.specs.SessionLaws.{plan_key}
use Rattle.card.specs.Reach.{sealed}
use Rattle.card.specs.declared.Port.{Port}
use Rattle.card.specs.declared.Port.TheVariants.{Host}
use Rattle.card.specs.declared.Mode.{Mode}
use Rattle.card.specs.declared.Mode.TheVariants.{Reading, Writing}
use Rattle.card.specs.declared.Credential.{Credential}
use Rattle.card.specs.declared.Credential.TheVariants.{Nothing, Reference, Key}
use Rattle.card.specs.declared.KeyOperands.{KeyOperands}
use Rattle.card.specs.declared.Refusal.{Refusal}
use Rattle.laws.proofs.KeepsSound.{not_missing}
use Rattle.laws.proofs.PointerSteps.{closed_same}
use Rattle.laws.proofs.Judged.{judge_cases}
use Rattle.card.specs.Statements.Keys.{setting, SameKey, HasNewKey, WriteAccess, by_write_key, by_reference, OneKeyUnsealed, WriteAccessNeeded, OtherKeyKept, OwnKeySet, BothWindowsClosed}

-- ---- sealed

pub one_key_unsealed : OneKeyUnsealed
unfolding sealed
one_key_unsealed K c Reading b own none = and_false_left _ _ (and_false_right (has_key c.public Reading b) _ none)
one_key_unsealed K c Writing b own none = and_false_left _ _ (and_false_left _ (has_key c.public Writing b) none)

-- ---- what opens a block for writing

module _ (c : Card) (b : ℕ) where
  by_key : (credential : Credential) → has_key c.public Writing b ≡ true → opens_keyed c Writing b credential ≡ true → WriteAccess c b credential
  unfolding opens_keyed key_opens key_is
  by_key Nothing k o = absurd_test o refl
  by_key (Reference r) k o = absurd_test o refl
  by_key (Key high low) k o = by_write_key k (eqb-true _ _ (and_left _ _ o)) (eqb-true _ _ (and_right (eqb (key_high c.keys Writing b) high) _ o))

  by_pointer : (credential : Credential) → has_key c.public Writing b ≡ false → opens_pointed c.public Writing b credential ≡ true → WriteAccess c b credential
  unfolding opens_pointed
  by_pointer Nothing k o = absurd_test o refl
  by_pointer (Reference r) k o =
      let rest : points_to c.public r b && window_open c.public Writing r ≡ true = and_right (allocated c.public r) _ o in
      by_reference k (and_left _ _ o) (and_left _ _ rest) (and_right (points_to c.public r b) _ rest)
  by_pointer (Key high low) k o = absurd_test o refl

  opened_access : (credential : Credential) → is_root c.public b ≡ false → opens c Writing b credential ≡ true → WriteAccess c b credential
  unfolding opens
  opened_access credential no_root = go (has_key c.public Writing b) (is_root c.public b) refl no_root
    where
      go : (k r : Bool) → has_key c.public Writing b ≡ k → r ≡ false
          → cond k (opens_keyed c Writing b credential) (cond r (opens_root credential) (opens_pointed c.public Writing b credential)) ≡ true
          → WriteAccess c b credential
      go true r e n o = by_key credential e o
      go false true e n o = absurd_test refl n
      go false false e n o = by_pointer credential e o

-- ---- each of the two calls

module _ (port : Port) (c : Card) (mode : Mode) (o : KeyOperands) (lent : Buffers) where
  abbrev made : Result
  made = perform port c (setting mode o lent)

  abbrev planned : Plan
  planned = key_plan port c.public (admits port c Writing o.block o.credential) mode o

  -- By cases: refused, or done on a sound card.
  made_cases : (P : Result → Type 0) → ((r : Refusal) → P (refused c lent r)) → (SoundCard c → NoneHolds planned.checks → P (done c lent planned)) → P made
  unfolding perform settle
  made_cases P kept f = rw (plan_key port c mode o lent) (judge_cases P c lent planned kept f)

  -- Where it is done.
  when_done : (P : Result → Type 0) → (SoundCard c → NoneHolds planned.checks → P (done c lent planned)) → is_done made.answer ≡ true → P made
  when_done P f = made_cases (λ (r : Result). is_done r.answer ≡ true → P r) (λ r d. absurd_test d refl) (λ s n d. f s n)

  flag_kept : (m : Mode) (b : ℕ) → (m ≡ mode → b ≡ o.block → ⊥)
      → key_flag m (get_or (set c.public.flags o.block (keyed_flags (flag c.public o.block) mode o.key)) b 0) ≡ key_flag m (flag c.public b)
  flag_kept m b apart =
      let f = flag c.public o.block in
      let v = keyed_flags f mode o.key in
      ⊎_elim
      (λ (e : b ≡ o.block).
      rw e
      (get_d_set_either (λ (n : ℕ). key_flag m n ≡ key_flag m f) c.public.flags o.block v o.block
      (⊎_elim
      (λ (q : m ≡ mode). absurd (apart q e))
      (λ (q : m ≡ other_mode mode). subst (λ (n : Mode). key_flag n v ≡ key_flag n f) (sym q) (keyed_other f mode o.key))
      (mode_or_other m mode))
      refl))
      (λ (other : b ≡ o.block → ⊥). ap (key_flag m) (get_or-set_other c.public.flags o.block b v 0 other))
      (same_or_other b o.block)

  -- Each of the two leaves the other key, and every key of another block; on any card, refused or done.
  other_kept : (m : Mode) (b : ℕ) → (m ≡ mode → b ≡ o.block → ⊥) → SameKey c made.after m b
  unfolding key_plan changes change change_public change_keys has_key
  other_kept m b apart =
      made_cases (λ (r : Result). SameKey c r.after m b) (λ r. record { there = refl; high = refl; low = refl })
      (λ s n. record {
        there = flag_kept m b apart;
        high = kept_high c.keys mode o.block o.key m b apart;
        low = kept_low c.keys mode o.block o.key m b apart;
      })

  -- "each with one new key or none"
  own_set : is_done made.answer ≡ true → HasNewKey made.after mode o.block o.key
  unfolding key_plan changes change change_public change_keys has_key
  own_set =
      when_done (λ (r : Result). HasNewKey r.after mode o.block o.key)
      (λ s n.
      let b : ℕ = o.block in
      let f : ℕ = flag c.public b in
      let below : b < c.public.info.blocks = allocated_below c.public b (not_missing _ _ n.0) in
      let fits : 4 * b + 4 ≤ length c.keys = omega (arith, s.shaped.has_lengths.keys) in
      record {
        there =
            ap (key_flag mode) (get_or-set_same c.public.flags b (keyed_flags f mode o.key) 0 (omega (arith, s.shaped.has_lengths.flags)))
            ∙ keyed_own f mode o.key;
        high = replaced_high c.keys mode b o.key fits;
        low = replaced_low c.keys mode b o.key fits;
      })

  -- "and both close the block's two windows"
  windows_closed : is_done made.answer ≡ true → (m : Mode) → window_end made.after.public m o.block ≡ 0
  unfolding key_plan changes change change_public
  windows_closed =
      when_done (λ (r : Result). (m : Mode) → window_end r.after.public m o.block ≡ 0)
      (λ s n.
      let b : ℕ = o.block in
      let below : b < c.public.info.blocks = allocated_below c.public b (not_missing _ _ n.0) in
      closed_same c.public.windows b (omega (arith, s.shaped.has_lengths.windows)))

pub write_access_needed : WriteAccessNeeded
unfolding key_plan root_at_host admits
write_access_needed c mode o lent =
    when_done Host c mode o lent (λ (r : Result). WriteAccess c o.block o.credential)
    (λ s n. opened_access c o.block o.credential n.1.0 (not-false _ n.1.1.0))

-- ---- the theorems

pub other_key_kept : OtherKeyKept
other_key_kept = other_kept

pub own_key_set : OwnKeySet
own_key_set = own_set

pub both_windows_closed : BothWindowsClosed
both_windows_closed = windows_closed
