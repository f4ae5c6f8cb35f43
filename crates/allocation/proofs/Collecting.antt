-- Blocks taken one after the other, with the pointers to them beside the table, and their merge into it, over plain values.
use Prim.Native.Nat.{ℕ, ◌+◌, ◌≤◌, ◌<◌}
use mathlib.Core.Path.{◌≡◌, refl, sym, ap, ◌∙◌, subst}
use mathlib.Core.Bool.{true, false, not}
use mathlib.Core.List.{List, [], ◌∷◌, ◌++◌}
use native.Mathlib.Numerals.{add-one}
use native.Mathlib.Omega.{arith}
use lib.ListN.{length, take, drop, get_or, take-append-drop}
use lib.Seq.{take_at, drop_at, drop-cons, drop-drop, drop-length, length-take-le}
use Rattle.card.specs.Lists.{all}
use Rattle.laws.specs.ListsLaws.{false_unless, absurd_test, all_at}
use Rattle.card.specs.Pointers.{pointer, ascending, contains, insert, insert_beside}
use Rattle.laws.specs.PointersLaws.{insert_ascending, all_insert}
use Rattle.laws.specs.BesideLaws.{InStep, in_step}
use Rattle.laws.specs.ChangesLaws.{inserted_take, inserted_length}
use Rattle.card.specs.Lent.{lent_card, SameTables}
use Rattle.card.specs.declared.LentCard.{LentCard}
use Rattle.card.specs.Card.{Card, card, free, in_use, points_to}
use Rattle.laws.specs.SoundnessLaws.{free_unallocated}
use Rattle.card.specs.Plan.{with_used, change_public, change_keys, change_contents, change, changes}
use Rattle.card.specs.Calls.{take_all}
use Rattle.card.specs.declared.Info.{Info}
use Rattle.laws.proofs.Steps.{block_within, unallocated_flag}
use Rattle.laws.proofs.PointerSteps.{no_pointer}
use Rattle.laws.proofs.KeepsSound.{takeable_below, takeable_free, taken_sound, taken_allocated, taken_rest, taken_room}
use Rattle.tables.specs.Merge.{insert_all_beside, insert_all, MergedIn}
use Rattle.tables.specs.MergeLaws.{insert_all_beside_length, insert_all_beside_insert, insert_all_contains}
use Rattle.tables.specs.InUse.{Sorted, Addable, Mergeable, Paired}
use Rattle.tables.specs.InUseLaws.{sound_sorted, sound_paired, count_low_law}
use Rattle.allocation.specs.Taking.{CanTake, BlockTaken, CanTakeAll}

-- ---- the tables that the rule has

-- The table with the first `taken` of the added pointers put in, or the number that f gives of each, where the table stands beside the pointers.
unfoldable pub merged : (ℕ → ℕ) → List ℕ → List ℕ → ℕ → List ℕ → ℕ → List ℕ
merged f pointers table used added taken = insert_all_beside f (take taken added) (take used pointers) (take used table) ++ drop (used + taken) table

module _ (f : ℕ → ℕ) (pointers table : List ℕ) (used : ℕ) (added : List ℕ) where
  merged_none : used ≤ length table → merged f pointers table used added 0 ≡ table
  unfolding merged insert_all_beside
  merged_none fit = let none : used + 0 ≡ used = omega arith in rw none (take-append-drop used table)

  module _ (taken : ℕ) (fit : used + taken ≤ length pointers) (paired : Paired pointers table) (enough : taken ≤ length added) where
    step : InStep (take used pointers) (take used table)
    step =
        in_step (take used pointers) (take used table)
        (length-take-le used pointers (omega arith) ∙ sym (length-take-le used table (omega (arith, paired.same))))

    merged_long : length (insert_all_beside f (take taken added) (take used pointers) (take used table)) ≡ used + taken
    merged_long =
        omega (arith, insert_all_beside_length f (take taken added) step, length-take-le taken added enough, length-take-le used table (omega (arith, paired.same)))

    merged_take : take (used + taken) (merged f pointers table used added taken) ≡ insert_all_beside f (take taken added) (take used pointers) (take used table)
    unfolding merged
    merged_take = take_at (insert_all_beside f (take taken added) (take used pointers) (take used table)) (drop (used + taken) table) (used + taken) merged_long

    merged_drop : drop (used + taken + 1) (merged f pointers table used added taken) ≡ drop (used + taken + 1) table
    unfolding merged
    merged_drop =
        sym (drop-drop 1 (used + taken) (merged f pointers table used added taken))
        ∙ ap (drop 1)
        (drop_at (insert_all_beside f (take taken added) (take used pointers) (take used table)) (drop (used + taken) table) (used + taken) merged_long)
        ∙ drop-drop 1 (used + taken) table

-- The pointers are the table that stands beside itself.
itself : (pointers : List ℕ) → Paired pointers pointers
itself pointers = record { same = refl }

-- One pointer more, among the added ones or in the table.
merged_more : (f : ℕ → ℕ) (pointers table : List ℕ) (used : ℕ) (added : List ℕ) (taken : ℕ) → used + taken ≤ length pointers → Paired pointers table
    → taken ≤ length added → (w : ℕ)
    → merged f pointers table used (insert w (take taken added) ++ drop (taken + 1) added) (taken + 1)
    ≡ insert_beside w (f w) (take (used + taken) (merged (λ x. x) pointers pointers used added taken)) (take (used + taken) (merged f pointers table used added taken))
    ++ drop (used + taken + 1) (merged f pointers table used added taken)
unfolding merged insert_all
merged_more f pointers table used added taken fit paired enough w =
    let more : used + (taken + 1) ≡ used + taken + 1 = omega arith in
    rw (merged_take (λ x. x) pointers pointers used added taken fit (itself pointers) enough, merged_take f pointers table used added taken fit paired enough, merged_drop f pointers table used added taken fit paired enough, inserted_take w taken added enough, insert_all_beside_insert f w (take taken added) (step f pointers table used added taken fit paired enough), more)

-- ---- the blocks

-- The card that the rule has once `taken` blocks are taken.
abbrev pub during : Card → List ℕ → List ℕ → List ℕ → List ℕ → ℕ → Card
during c flags counts contents added taken =
    let p = c.public in
    card (with_used p.info (p.info.used + taken)) flags c.keys counts (merged (λ x. x) p.pointers p.pointers p.info.used added taken) (merged (λ x. 1) p.pointers p.multiplicities p.info.used added taken) p.windows contents

-- After `taken` blocks: those left can be taken on that card, and taking them leaves what taking all does.
pub record Collected (c₀ : Card) (reference : ℕ) (numbers flags counts contents added : List ℕ) (taken : ℕ) : Type 0 where
  pub began : CanTakeAll c₀ reference numbers
  pub ready : CanTakeAll (during c₀ flags counts contents added taken) reference (drop taken numbers)
  pub whole : changes (during c₀ flags counts contents added taken) (take_all reference (drop taken numbers)) ≡ changes c₀ (take_all reference numbers)
  pub most : taken ≤ length numbers
  pub sorted : Sorted added taken
  pub absent : all (λ v. not (contains v (in_use c₀.public))) (take taken added) ≡ true
  pub size : length added ≡ 64

-- What the loop leaves alone of the lent card.
pub record Spares (before now : LentCard) : Type 0 where
  pub same : SameTables before now
  pub info : now.info ≡ before.info
  pub keys : now.keys.now ≡ before.keys.now
  pub pointers : now.pointers.now ≡ before.pointers.now
  pub multiplicities : now.multiplicities.now ≡ before.multiplicities.now
  pub windows : now.windows.now ≡ before.windows.now

pub record Collects (before now : LentCard) (reference : ℕ) (numbers added : List ℕ) (taken : ℕ) : Type 0 where
  pub collected : Collected (lent_card before) reference numbers now.flags.now now.counts.now now.contents.now added taken
  pub spares : Spares before now

pub collected_start : {c₀ : Card} {reference : ℕ} {numbers added : List ℕ} → CanTakeAll c₀ reference numbers → length added ≡ 64
    → Collected c₀ reference numbers c₀.public.flags c₀.public.counts c₀.contents added 0
unfolding ascending all
collected_start {c₀} {reference} {numbers} {added} r e =
    let p = c₀.public in
    let none : p.info.used + 0 ≡ p.info.used = omega arith in
    let same : c₀ ≡ during c₀ p.flags p.counts c₀.contents added 0 = rw (merged_none (λ x. x) p.pointers p.pointers p.info.used added r.sound.shaped.used_high, merged_none (λ x. 1) p.pointers p.multiplicities p.info.used added (omega (arith, r.sound.shaped.used_high, r.sound.shaped.has_lengths.multiplicities)), none) in
    record {
      began = r;
      ready = subst (λ (d : Card). CanTakeAll d reference numbers) same r;
      whole = ap (λ (d : Card). changes d (take_all reference numbers)) (sym same);
      most = omega arith;
      sorted = record { within = omega arith; ascends = refl };
      absent = refl;
      size = e;
    }

-- One block is taken and pointed to, and then the others can still be.
others : {c : Card} {reference b : ℕ} {bs : List ℕ} → CanTakeAll c reference (b ∷ bs) → CanTakeAll (changes c (take_all reference (b ∷ []))) reference bs
others {reference = reference} r = record {
  sound = taken_sound reference r.sound r.reference_allocated r.takeable r.room;
  reference_allocated = taken_allocated reference r.sound r.reference_allocated r.takeable r.room;
  takeable = taken_rest reference r.sound r.reference_allocated r.takeable r.room;
  few = omega (arith, r.few);
  room = taken_room reference r.sound r.reference_allocated r.takeable r.room;
}

module _ {c₀ : Card} {reference : ℕ} {numbers flags counts contents added : List ℕ} {taken : ℕ}
    (r : Collected c₀ reference numbers flags counts contents added taken) where
  abbrev present : Card
  present = during c₀ flags counts contents added taken

  fits : c₀.public.info.used + taken ≤ length c₀.public.pointers
  fits = omega (arith, r.began.room, r.most)

  -- The next block is taken.
  module _ (l : taken < length numbers) where
    abbrev b : ℕ
    b = get_or numbers taken 0

    left : drop taken numbers ≡ b ∷ drop (taken + 1) numbers
    left = rw add-one (drop-cons numbers taken 0 l)

    here : CanTakeAll present reference (b ∷ drop (taken + 1) numbers)
    here = subst (CanTakeAll present reference) left r.ready

    below : b < c₀.public.info.blocks
    below = takeable_below here.takeable

    pub can_take : CanTake c₀.public.info.bytes flags counts contents b
    can_take =
        let s = here.sound in
        record {
          in_flags = omega (arith, below, s.shaped.has_lengths.flags);
          in_counts = omega (arith, below, s.shaped.has_lengths.counts);
          count_low = omega (arith, count_low_law s b below, s.shaped.used_high, s.shaped.has_lengths.places_high);
          in_contents = block_within present b s.shaped.has_lengths.contents below;
        }

    -- The pointer to the block is not among those added.
    pub addable : Addable added taken (pointer reference b)
    unfolding points_to insert_all
    addable = record {
      sorted = r.sorted;
      room = omega (arith, r.began.few, r.size);
      absent = false_unless _
          (λ e.
          absurd_test
          (subst (λ (ws : List ℕ). contains (pointer reference b) ws ≡ true)
          (sym (merged_take (λ x. x) c₀.public.pointers c₀.public.pointers c₀.public.info.used added taken fits (itself c₀.public.pointers) r.sorted.within))
          (insert_all_contains (pointer reference b) (take taken added) (in_use c₀.public) e))
          (no_pointer reference b here.sound below (takeable_free here.takeable)));
    }

    -- Nor is it in use.
    unused : contains (pointer reference b) (in_use c₀.public) ≡ false
    unfolding points_to
    unused =
        let p = c₀.public in
        no_pointer reference b r.began.sound below
        (unallocated_flag p b below (free_unallocated p b (all_at (free p) numbers r.began.takeable.free taken l)))

    module _ {flagsAfter countsAfter contentsAfter addedAfter : List ℕ}
        (t : BlockTaken c₀.public.info.bytes b flags counts contents flagsAfter countsAfter contentsAfter)
        (e : addedAfter ≡ insert (pointer reference b) (take taken added) ++ drop (taken + 1) added) where
      stepped : changes present (take_all reference (b ∷ [])) ≡ during c₀ flagsAfter countsAfter contentsAfter addedAfter (taken + 1)
      unfolding take_all changes change change_public change_keys change_contents insert
      stepped =
          let p = c₀.public in
          let more : p.info.used + (taken + 1) ≡ p.info.used + taken + 1 = omega arith in
          rw (t.allocates, t.counted, t.zeroes, e, merged_more (λ x. x) p.pointers p.pointers p.info.used added taken fits (itself p.pointers) r.sorted.within (pointer reference b), merged_more (λ x. 1) p.pointers p.multiplicities p.info.used added taken fits (sound_paired r.began.sound) r.sorted.within (pointer reference b), more)

      long : length addedAfter ≡ length added
      long = rw e (inserted_length (pointer reference b) taken added r.sorted.within addable.room)

      ascends : ascending (take (taken + 1) addedAfter) ≡ true
      ascends =
          rw (e, inserted_take (pointer reference b) taken added r.sorted.within)
          (insert_ascending (pointer reference b) (take taken added) r.sorted.ascends addable.absent)

      pub collected_taken : Collected c₀ reference numbers flagsAfter countsAfter contentsAfter addedAfter (taken + 1)
      unfolding take_all changes
      collected_taken = record {
        began = r.began;
        ready = subst (λ (d : Card). CanTakeAll d reference (drop (taken + 1) numbers)) stepped (others here);
        whole =
            ap (λ (d : Card). changes d (take_all reference (drop (taken + 1) numbers))) (sym stepped)
            ∙ ap (λ (xs : List ℕ). changes present (take_all reference xs)) (sym left)
            ∙ r.whole;
        most = omega arith;
        sorted = record { within = omega (arith, long, addable.room); ascends = ascends };
        absent =
            rw (e, inserted_take (pointer reference b) taken added r.sorted.within)
            (all_insert (λ v. not (contains v (in_use c₀.public))) (pointer reference b) (take taken added) (ap not unused) r.absent);
        size = long ∙ r.size;
      }

  -- The tables are as long as before.
  pub flags_same : length flags ≡ length c₀.public.flags
  flags_same = r.ready.sound.shaped.has_lengths.flags ∙ sym r.began.sound.shaped.has_lengths.flags

  pub counts_same : length counts ≡ length c₀.public.counts
  counts_same = r.ready.sound.shaped.has_lengths.counts ∙ sym r.began.sound.shaped.has_lengths.counts

  pub contents_same : length contents ≡ length c₀.contents
  contents_same = r.ready.sound.shaped.has_lengths.contents ∙ sym r.began.sound.shaped.has_lengths.contents

  -- All are taken: the pointers added can be put into the table, which gives the card of the rule.
  module _ (l : length numbers ≤ taken) where
    all_taken : taken ≡ length numbers
    all_taken = omega (arith, r.most)

    pub mergeable : Mergeable c₀.public.pointers c₀.public.info.used added (length numbers)
    mergeable = record {
      sorted = sound_sorted r.began.sound;
      added_sorted = subst (Sorted added) all_taken r.sorted;
      room = r.began.room;
      absent = subst (λ (n : ℕ). all (λ v. not (contains v (in_use c₀.public))) (take n added) ≡ true) all_taken r.absent;
    }

    pub collected_whole : {info : Info} {pointers multiplicities : List ℕ} → info ≡ with_used c₀.public.info (c₀.public.info.used + length numbers)
        → MergedIn (take (length numbers) added) c₀.public.info.used c₀.public.pointers c₀.public.multiplicities pointers multiplicities
        → card info flags c₀.keys counts pointers multiplicities c₀.public.windows contents ≡ changes c₀ (take_all reference numbers)
    unfolding merged take_all changes insert_all
    collected_whole e f =
        let many : length (take (length numbers) added) ≡ length numbers = length-take-le (length numbers) added (omega (arith, all_taken, r.sorted.within)) in
        rw (e, f.of_pointers, f.of_multiplicities, many, ← all_taken)
        (ap (λ (xs : List ℕ). changes present (take_all reference xs)) (sym (ap (λ (k : ℕ). drop k numbers) all_taken ∙ drop-length numbers)) ∙ r.whole)
