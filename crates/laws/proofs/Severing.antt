-- The pointers from a set of blocks dropped and the blocks freed: a sound card again, where the set can be cut off. The blocks that DELETE_TREE frees can.
use Prim.Native.Nat.{ℕ, zero, suc, ◌-◌, ◌≤◌, ◌<◌}
use mathlib.Core.Path.{◌≡◌, refl, sym, ap, ap₂, ◌∙◌, subst}
use mathlib.Core.Logic.{inl, inr, ⊎_elim}
use mathlib.Core.Bool.{Bool, true, false, ◌&&◌, not, cond}
use mathlib.Core.List.{List, [], ◌∷◌}
use native.Mathlib.Omega.{arith}
use lib.Dec.{eqb, ltb, leb}
use lib.ListN.{length, get_or, set, length-set}
use lib.Seq.{get_or-set_same, get_or-set_other, length-take-le}
use borrow.Author.Tests.{eq-eqb, ne_eqb, eqb-true, eqb-false, not-true, le-leb}
use Rattle.card.specs.Lists.{all, any}
use Rattle.laws.specs.ListsLaws.{or_cases, or_false_left, or_false_right, absurd_test, false_unless, not_cases, below_or_not, and_false_right, all_append, all_map}
use Rattle.card.specs.Pointers.{pointer, source, destination, contains, beside, pointers_to, keep, keep_beside, not_from}
use Rattle.laws.specs.PointersLaws.{source_pointer, contains_all, all_contains}
use Rattle.laws.specs.BesideLaws.{InStep, uncounted, total_none}
use Rattle.laws.specs.KeepLaws.{keep_in_step, keep_most, keep_passes, keep_contains, contains_keep, keep_ascending, all_keep, all_keep_beside, total_keep_most, beside_keep, tabulate_length, tabulate_at}
use Rattle.laws.specs.NearestLaws.{contains_here, contains_there}
use Rattle.card.specs.Contents.{zeros, part}
use Rattle.card.specs.Card.{Public, Card, flag, allocated_flag, allocated, waiting, count, in_use, times_in_use, multiplicity, points_to, block}
use Rattle.card.specs.Soundness.{pointer_right, multiplicity_right}
use Rattle.card.specs.SoundCard.{SoundCard}
use Rattle.laws.specs.SoundnessLaws.{multiplicity_right_low, allocated_below, flag_allocated, flag_waiting}
use Rattle.card.specs.Plan.{freed_flags, free_block, drop_pointer, drop_from, change_public, change_keys, change_contents, change, changes}
use Rattle.laws.specs.ChangesLaws.{used_in_step, kept_take, kept_drop, kept_length, uncleared_high, uncleared_low, in_use_kept}
use Rattle.card.specs.Tree.{ordinary, only_from, orphans}
use Rattle.laws.specs.TreeLaws.{only_from_law, from_only, is_ordinary, ordinary_allocated, ordinary_below, ordinary_no_root, orphans_closed, orphans_ordinary, orphans_inward}
use Rattle.card.specs.Calls.{freed_with, free_each}
use Rattle.card.specs.declared.Info.{Info}
use Rattle.laws.proofs.Steps.{shaped_with, key_zero_from, empty_from}
use Rattle.laws.proofs.PointerSteps.{SoundExcept, SoundBut, except_sound, free_block_except, drop_pointer_sound, closed_other}
use Rattle.card.specs.Statements.Trees.{Spared}

-- A set of blocks that can be cut off: no roots, pointed to from within alone, and each other block that must be pointed to is so from without.
pub record Severed (p : Public) (bs : List ℕ) : Type 0 where
  pub below : (b : ℕ) → contains b bs ≡ true → b < p.info.blocks
  pub no_root : (b : ℕ) → contains b bs ≡ true → p.info.roots ≤ b
  pub inward : (w : ℕ) → contains w (in_use p) ≡ true → contains (destination w) bs ≡ true → contains (source w) bs ≡ true
  pub rest : (b : ℕ) → contains b bs ≡ false → b < p.info.blocks → p.info.roots ≤ b → allocated_flag (flag p b) ≡ true → only_from bs b (in_use p) ≡ false

-- The blocks that are freed once a pointer is gone can be cut off.
pub orphans_severed : (p : Public) → Severed p (orphans p)
orphans_severed p = record {
  below = λ b h. ordinary_below p b (orphans_ordinary p b h);
  no_root = λ b h. ordinary_no_root p b (orphans_ordinary p b h);
  inward = λ w h i. orphans_inward p (destination w) i w h refl;
  rest = λ b other l r a.
      false_unless _
      (λ e.
      absurd_test
      (orphans_closed p b (is_ordinary p b (flag_allocated p b l a) r) (only_from_law (orphans p) b (in_use p) e))
      other);
}

-- ---- the pointers from the set dropped

all_zeros : (n : ℕ) → all (λ w. eqb w 0) (zeros n) ≡ true
unfolding all
all_zeros zero = refl
all_zeros (suc n) = all_zeros n

-- A pointer that is kept does not start at a block of the set.
not_from_law : (bs : List ℕ) (w : ℕ) → not_from bs w ≡ true → contains (source w) bs ≡ false
unfolding not_from
not_from_law bs w e = not-true _ e

from_not : (bs : List ℕ) (w : ℕ) → contains (source w) bs ≡ false → not_from bs w ≡ true
unfolding not_from
from_not bs w e = ap not e

module _ (p : Public) (fit : p.info.used ≤ length p.pointers) (same : length p.multiplicities ≡ length p.pointers) (bs : List ℕ) where
  before_in_step : InStep (in_use p) (times_in_use p)
  before_in_step = used_in_step 0 0 p.info.used p.pointers p.multiplicities fit same

  abbrev kept_times : List ℕ
  kept_times = keep_beside (not_from bs) (in_use p) (times_in_use p)

  pub times_kept : times_in_use (change_public (drop_from bs) p) ≡ kept_times
  unfolding change_public
  times_kept = kept_take (not_from bs) p.info.used p.pointers p.multiplicities fit same

  -- Every pointer from the set goes wholly, and every other stays as it was.
  pub multiplicity_kept : (a b : ℕ) → b < 65536 → multiplicity (change_public (drop_from bs) p) a b ≡ cond (contains a bs) 0 (multiplicity p a b)
  unfolding multiplicity not_from
  multiplicity_kept a b narrow =
      rw (in_use_kept p bs, times_kept, beside_keep (not_from bs) (pointer a b) before_in_step, source_pointer a b narrow) (go (contains a bs))
    where
      go : (t : Bool) → cond (not t) (beside (pointer a b) (in_use p) (times_in_use p)) 0 ≡ cond t 0 (beside (pointer a b) (in_use p) (times_in_use p))
      go true = refl
      go false = refl

module _ (c : Card) (bs : List ℕ) {X : ℕ → Type 0} (s : SoundExcept X c) (cut : Severed c.public bs) where
  abbrev ws : List ℕ
  ws = keep (not_from bs) (in_use c.public)

  abbrev ns : List ℕ
  ns = keep_beside (not_from bs) (in_use c.public) (times_in_use c.public)

  step : InStep (in_use c.public) (times_in_use c.public)
  step = before_in_step c.public s.shaped.used_high s.shaped.has_lengths.multiplicities bs

  -- No pointer to a block of the set is kept, and none from it.
  none_to : (b : ℕ) → contains b bs ≡ true → pointers_to b ws ns ≡ 0
  none_to b h =
      total_none (λ w. eqb (destination w) b) ws ns
      (all_contains (λ w. not (eqb (destination w) b)) ws
      (λ w i.
      ap not
      (ne_eqb (destination w) b
      (λ e.
      absurd_test
      (cut.inward w (keep_contains (not_from bs) w (in_use c.public) i) (subst (λ (k : ℕ). contains k bs ≡ true) (sym e) h))
      (not_from_law bs w (contains_all (not_from bs) w ws i (keep_passes (not_from bs) (in_use c.public))))))))

  none_from : (b : ℕ) → contains b bs ≡ true → all (λ w. not (eqb (source w) b)) ws ≡ true
  none_from b h =
      all_map (not_from bs) (λ w. not (eqb (source w) b))
      (λ w e. ap not (ne_eqb (source w) b (λ q. absurd_test (subst (λ (k : ℕ). contains k bs ≡ true) (sym q) h) (not_from_law bs w e))))
      ws (keep_passes (not_from bs) (in_use c.public))

  least : all (λ n. leb 1 n) (times_in_use c.public) ≡ true
  least = all_map (λ n. multiplicity_right n) (λ n. leb 1 n) (λ n e. le-leb 1 n (multiplicity_right_low n e)) (times_in_use c.public) s.times_right

  -- A block with a pointer from without is still pointed to.
  still_counted : (b : ℕ) → only_from bs b (in_use c.public) ≡ false → 1 ≤ pointers_to b ws ns
  still_counted b e =
      ⊎_elim
      (λ (z : pointers_to b ws ns < 1).
      let none : all (λ w. not (eqb (destination w) b)) ws ≡ true =
      uncounted (λ w. eqb (destination w) b) (keep_in_step (not_from bs) step) (all_keep_beside (not_from bs) (λ n. leb 1 n) step least) (omega arith) in
      absurd_test
      (from_only bs b (in_use c.public)
      (λ w h q.
      ⊎_elim
      (λ (t : contains (source w) bs ≡ true). t)
      (λ (t : contains (source w) bs ≡ false).
      absurd_test (eq-eqb (destination w) b q)
      (not-true _ (contains_all (λ w. not (eqb (destination w) b)) w ws (contains_keep (not_from bs) w (in_use c.public) (from_not bs w t) h) none)))
      (not_cases (contains (source w) bs))))
      e)
      (λ (l : 1 ≤ pointers_to b ws ns). l)
      (below_or_not (pointers_to b ws ns) 1)

  counted : (b : ℕ) → b < c.public.info.blocks → count (change c (drop_from bs)).public b ≡ pointers_to b ws ns
  unfolding change change_public
  counted b l = tabulate_at (λ b. pointers_to b ws ns) (length c.public.counts) b (omega (arith, s.shaped.has_lengths.counts))

  -- Sound, but that the blocks of the set are not pointed to.
  pub drop_from_sound : SoundExcept (λ x. contains x bs ≡ true) (change c (drop_from bs))
  unfolding change change_public change_keys change_contents pointer_right allocated keep
  drop_from_sound =
      let p : Public = c.public in
      let used : ℕ = p.info.used in
      let fit : used ≤ length p.pointers = s.shaped.used_high in
      let same : length p.multiplicities ≡ length p.pointers = s.shaped.has_lengths.multiplicities in
      let listed : in_use (change_public (drop_from bs) p) ≡ ws = in_use_kept p bs in
      let timed : times_in_use (change_public (drop_from bs) p) ≡ ns = times_kept p fit same bs in
      let long : length (change_public (drop_from bs) p).pointers ≡ length p.pointers = kept_length (not_from bs) used p.pointers p.pointers fit refl in
      record {
        shaped = shaped_with s.shaped refl refl (tabulate_length (λ b. pointers_to b ws ns) (length p.counts)) long
            (kept_length (not_from bs) used p.pointers p.multiplicities fit same) refl refl
            (omega (arith, long, keep_most (not_from bs) (in_use p), length-take-le used p.pointers fit))
            s.shaped.time_high;
        flags_low = s.flags_low;
        roots_allocated = s.roots_allocated;
        unallocated = λ x l e.
            empty_from refl (λ m. refl) (λ m. refl)
            (omega (arith, counted x l, total_keep_most (not_from bs) (λ w. eqb (destination w) x) step, s.counts x l, (s.unallocated x l e).count_zero))
            (λ m. refl)
            (s.unallocated x l e);
        absent_key = λ m x l e. key_zero_from refl refl (s.absent_key m x l e);
        ascends = rw listed (keep_ascending (not_from bs) (in_use p) s.ascends);
        rest_zero =
            subst (λ (us : List ℕ). all (λ w. eqb w 0) us ≡ true) (sym (kept_drop (not_from bs) used p.pointers p.pointers fit refl))
            (all_append (λ w. eqb w 0) (zeros (used - length ws)) _ (all_zeros (used - length ws)) s.rest_zero);
        times_right = rw timed (all_keep_beside (not_from bs) (λ n. multiplicity_right n) step s.times_right);
        rest_times_zero =
            subst (λ (us : List ℕ). all (λ w. eqb w 0) us ≡ true) (sym (kept_drop (not_from bs) used p.pointers p.multiplicities fit same))
            (all_append (λ w. eqb w 0) (zeros (used - length ws)) _ (all_zeros (used - length ws)) s.rest_times_zero);
        pointers_right = subst (λ (us : List ℕ). all (λ w. pointer_right p w) us ≡ true) (sym listed) (all_keep (not_from bs) (λ w. pointer_right p w) (in_use p) s.pointers_right);
        counts = λ x l. rw (listed, timed) (counted x l);
        pointed = λ x other l r e. rw (counted x l) (still_counted x (cut.rest x (false_unless _ other) l r e));
        windows_low = s.windows_low;
        total_low = s.total_low;
      }

-- ---- the blocks freed one after the other

-- A block that can be freed: no root, no pointer to it and none of its own.
pub record Bare (p : Public) (b : ℕ) : Type 0 where
  pub below : b < p.info.blocks
  pub no_root : p.info.roots ≤ b
  pub uncounted : count p b ≡ 0
  pub unpointing : all (λ w. not (eqb (source w) b)) (in_use p) ≡ true

pub free_each_sound : (c : Card) (bs : List ℕ) → SoundExcept (λ x. contains x bs ≡ true) c → ((b : ℕ) → contains b bs ≡ true → Bare c.public b)
    → SoundCard (changes c (free_each bs))
unfolding free_each changes change change_public contains any
free_each_sound c [] s f = except_sound s (λ b l r a. inl (λ z. absurd_test {t = false} z refl))
free_each_sound c (b ∷ bs) s f =
    let here : Bare c.public b = f b (contains_here b bs) in
    free_each_sound (change c (free_block b)) bs
    (free_block_except b s (λ x h. ⊎_elim (λ e. inl (sym (eqb-true b x e))) (λ e. inr e) (or_cases (eqb b x) _ h)) here.below here.no_root here.uncounted
    here.unpointing)
    (λ x h.
    let bare : Bare c.public x = f x (contains_there x b bs h) in
    record { below = bare.below; no_root = bare.no_root; uncounted = bare.uncounted; unpointing = bare.unpointing })

-- The pointers from a set that can be cut off dropped and its blocks freed: a sound card, whichever blocks lacked a pointer before.
pub severed_sound : (c : Card) (bs : List ℕ) {X : ℕ → Type 0} → SoundExcept X c → Severed c.public bs → SoundCard (changes c (drop_from bs ∷ free_each bs))
unfolding changes change change_public
severed_sound c bs s cut =
    free_each_sound (change c (drop_from bs)) bs (drop_from_sound c bs s cut)
    (λ b h. record {
      below = cut.below b h;
      no_root = cut.no_root b h;
      uncounted = counted c bs s cut b (cut.below b h) ∙ none_to c bs s cut b h;
      unpointing =
          subst (λ (us : List ℕ). all (λ w. not (eqb (source w) b)) us ≡ true)
          (sym (in_use_kept c.public bs))
          (none_from c bs s cut b h);
    })

-- ---- what is left of the other blocks

free_each_spares : (c : Card) (bs : List ℕ) (b : ℕ) → contains b bs ≡ false → Spared c (changes c (free_each bs)) b
unfolding free_each changes change change_public change_keys change_contents contains any
free_each_spares c [] b h = record { flags = refl; high = λ m. refl; low = λ m. refl; window = λ m. refl; contents = refl }
free_each_spares c (x ∷ bs) b h =
    let other : (b ≡ x → ⊥) = λ e. eqb-false x b (or_false_left (eqb x b) _ h) (sym e) in
    let rest : Spared (change c (free_block x)) (changes (change c (free_block x)) (free_each bs)) b =
    free_each_spares (change c (free_block x)) bs b (or_false_right (eqb x b) _ h) in
    record {
      flags = rest.flags ∙ get_or-set_other c.public.flags x b freed_flags 0 other;
      high = λ m. rest.high m ∙ uncleared_high c.keys x m b other;
      low = λ m. rest.low m ∙ uncleared_low c.keys x m b other;
      window = λ m. rest.window m ∙ closed_other c.public.windows x b m (λ e. other (sym e));
      contents = rest.contents;
    }

-- What freeing leaves: everything but flags, keys and windows.
record FreesAlone (c d : Card) : Type 0 where
  info : d.public.info ≡ c.public.info
  pointers : d.public.pointers ≡ c.public.pointers
  multiplicities : d.public.multiplicities ≡ c.public.multiplicities
  contents : d.contents ≡ c.contents

free_each_alone : (c : Card) (bs : List ℕ) → FreesAlone c (changes c (free_each bs))
unfolding free_each changes change change_public change_contents
free_each_alone c [] = record { info = refl; pointers = refl; multiplicities = refl; contents = refl }
free_each_alone c (b ∷ bs) =
    let rest : FreesAlone (change c (free_block b)) (changes (change c (free_block b)) (free_each bs)) = free_each_alone (change c (free_block b)) bs in
    record { info = rest.info; pointers = rest.pointers; multiplicities = rest.multiplicities; contents = rest.contents }

-- A block that is freed waits.
free_each_frees : (c : Card) (bs : List ℕ) (b : ℕ) → b < length c.public.flags → contains b bs ≡ true → flag (changes c (free_each bs)).public b ≡ freed_flags
unfolding free_each changes change change_public contains any
free_each_frees c [] b l h = absurd_test {t = false} h refl
free_each_frees c (x ∷ bs) b l h =
    let next : Card = change c (free_block x) in
    ⊎_elim
    (λ (e : contains b bs ≡ true). free_each_frees next bs b (omega (arith, length-set c.public.flags x freed_flags)) e)
    (λ (e : contains b bs ≡ false).
    let same : x ≡ b = ⊎_elim (λ q. eqb-true x b q) (λ q. absurd_test q e) (or_cases (eqb x b) _ h) in
    (free_each_spares next bs b e).flags ∙ ap (λ (k : ℕ). get_or (set c.public.flags k freed_flags) b 0) same ∙ get_or-set_same c.public.flags b freed_flags 0 l)
    (not_cases (contains b bs))

-- The same of the whole: the pointers from the set dropped, then its blocks freed.
module _ (c : Card) (bs : List ℕ) where
  abbrev severed : Card
  severed = changes c (drop_from bs ∷ free_each bs)

  pub severed_spares : (b : ℕ) → contains b bs ≡ false → Spared c severed b
  unfolding changes change change_public change_keys change_contents
  severed_spares b h =
      let rest : Spared (change c (drop_from bs)) severed b = free_each_spares (change c (drop_from bs)) bs b h in
      record { flags = rest.flags; high = rest.high; low = rest.low; window = rest.window; contents = rest.contents }

  severed_alone : FreesAlone (change c (drop_from bs)) severed
  unfolding changes
  severed_alone = free_each_alone (change c (drop_from bs)) bs

  pub severed_blocks : severed.public.info.blocks ≡ c.public.info.blocks
  unfolding changes change change_public
  severed_blocks = ap (λ (i : Info). i.blocks) severed_alone.info

  -- "their pointers go": what is in the contents stays, also of a block that is freed.
  pub severed_contents : (b : ℕ) → block severed b ≡ block c b
  unfolding changes change change_public change_contents
  severed_contents b = ap₂ (λ (i : Info) (xs : List ℕ). part i.bytes xs b) severed_alone.info severed_alone.contents

  pub severed_waits : (b : ℕ) → b < c.public.info.blocks → b < length c.public.flags → contains b bs ≡ true → waiting severed.public b ≡ true
  unfolding changes change change_public
  severed_waits b l m h = flag_waiting severed.public b (subst (λ (n : ℕ). b < n) (sym severed_blocks) l) (free_each_frees (change c (drop_from bs)) bs b m h)

  pub severed_frees : (b : ℕ) → b < length c.public.flags → contains b bs ≡ true → allocated severed.public b ≡ false
  unfolding changes change change_public allocated
  severed_frees b l h =
      and_false_right (ltb b severed.public.info.blocks) _ (ap allocated_flag (free_each_frees (change c (drop_from bs)) bs b l h))

  pub severed_allocated : (b : ℕ) → contains b bs ≡ false → allocated severed.public b ≡ allocated c.public b
  unfolding allocated
  severed_allocated b h = ap₂ (λ (n f : ℕ). ltb b n && allocated_flag f) severed_blocks (severed_spares b h).flags

  pub severed_multiplicity : c.public.info.used ≤ length c.public.pointers → length c.public.multiplicities ≡ length c.public.pointers → (a b : ℕ) → b < 65536
      → multiplicity severed.public a b ≡ cond (contains a bs) 0 (multiplicity c.public a b)
  unfolding multiplicity change
  severed_multiplicity fit same a b narrow =
      rw (severed_alone.info, severed_alone.pointers, severed_alone.multiplicities) (multiplicity_kept c.public fit same bs a b narrow)

-- ---- DELETE_TREE: a pointer dropped, and all that is freed then

module _ (c : Card) (a b : ℕ) where
  abbrev freed : List ℕ
  freed = freed_with c.public a b

  abbrev pub tree_deleted : Card
  tree_deleted = changes c (drop_pointer a b ∷ (drop_from freed ∷ free_each freed))

  -- Only allocated blocks are freed, and no root.
  pub freed_ordinary : (x : ℕ) → contains x freed ≡ true → ordinary c.public x ≡ true
  unfolding freed_with change_public ordinary allocated
  freed_ordinary x h = orphans_ordinary (change_public (drop_pointer a b) c.public) x h

  pub freed_allocated : (x : ℕ) → contains x freed ≡ true → allocated c.public x ≡ true
  freed_allocated x h = ordinary_allocated c.public x (freed_ordinary x h)

  pub deleted_frees : (x : ℕ) → length c.public.flags ≡ c.public.info.blocks → contains x freed ≡ true → allocated tree_deleted.public x ≡ false
  unfolding changes change change_public
  deleted_frees x same h =
      severed_frees (change c (drop_pointer a b)) freed x (omega (arith, allocated_below c.public x (freed_allocated x h))) h

  pub deleted_waits : (x : ℕ) → length c.public.flags ≡ c.public.info.blocks → contains x freed ≡ true → waiting tree_deleted.public x ≡ true
  unfolding changes change change_public
  deleted_waits x same h =
      let below = allocated_below c.public x (freed_allocated x h) in
      severed_waits (change c (drop_pointer a b)) freed x below (omega (arith, below)) h

  pub deleted_spares : (x : ℕ) → contains x freed ≡ false → Spared c tree_deleted x
  unfolding changes change change_public change_keys change_contents
  deleted_spares x h =
      let rest : Spared (change c (drop_pointer a b)) tree_deleted x = severed_spares (change c (drop_pointer a b)) freed x h in
      record { flags = rest.flags; high = rest.high; low = rest.low; window = rest.window; contents = rest.contents }

  pub deleted_allocated : (x : ℕ) → contains x freed ≡ false → allocated tree_deleted.public x ≡ allocated c.public x
  unfolding changes change change_public allocated
  deleted_allocated x h = severed_allocated (change c (drop_pointer a b)) freed x h

  pub deleted_blocks : tree_deleted.public.info.blocks ≡ c.public.info.blocks
  unfolding changes change change_public
  deleted_blocks = severed_blocks (change c (drop_pointer a b)) freed

  pub deleted_contents : (x : ℕ) → block tree_deleted x ≡ block c x
  unfolding changes change change_public change_contents
  deleted_contents x = severed_contents (change c (drop_pointer a b)) freed x

  module _ (s : SoundCard c) (toAllocated : allocated c.public b ≡ true) (there : points_to c.public a b ≡ true) where
    pub deleted_sound : SoundCard tree_deleted
    unfolding changes change freed_with
    deleted_sound =
        severed_sound (change c (drop_pointer a b)) freed (drop_pointer_sound a b s toAllocated there)
        (orphans_severed (change_public (drop_pointer a b) c.public))

    pub deleted_multiplicity : (x y : ℕ) → y < 65536
        → multiplicity tree_deleted.public x y ≡ cond (contains x freed) 0 (multiplicity (change_public (drop_pointer a b) c.public) x y)
    unfolding changes change
    deleted_multiplicity x y narrow =
        let but : SoundBut b (change c (drop_pointer a b)) = drop_pointer_sound a b s toAllocated there in
        severed_multiplicity (change c (drop_pointer a b)) freed but.shaped.used_high but.shaped.has_lengths.multiplicities x y narrow
