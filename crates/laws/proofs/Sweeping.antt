-- Waiting blocks swept one after the other: the card stays sound, they become free and hold zeros, and nothing else changes.
use Prim.Native.Nat.{ℕ}
use mathlib.Core.Path.{◌≡◌, refl, sym, ap₂, ◌∙◌, subst}
use mathlib.Core.Logic.{⊎_elim}
use mathlib.Core.Bool.{true, false, ◌&&◌, not}
use mathlib.Core.List.{List, [], ◌∷◌}
use native.Mathlib.Omega.{arith}
use lib.Dec.{eqb, ltb}
use lib.ListN.{set, length-replicate}
use lib.Seq.{get_or-set_same, get_or-set_other}
use borrow.Author.Tests.{eqb-true, eqb-false, not-true}
use Rattle.card.specs.Lists.{any}
use Rattle.laws.specs.ListsLaws.{or_cases, or_false_left, or_false_right, absurd_test, not_cases, all_head, all_tail, all_both}
use Rattle.card.specs.Pointers.{contains}
use Rattle.card.specs.Contents.{zeros}
use Rattle.laws.specs.ContentsLaws.{part_fill_same, part_fill_other}
use Rattle.card.specs.Card.{Public, Card, flag, allocated_flag, waiting_flag, allocated, waiting, block}
use Rattle.card.specs.SoundCard.{SoundCard}
use Rattle.laws.specs.SoundnessLaws.{waiting_below}
use Rattle.card.specs.Plan.{sweep_block, with_flags, change_public, change_keys, change_contents, change, changes}
use Rattle.card.specs.Calls.{sweep_each}
use Rattle.laws.specs.Takeable.{Sweepable}
use Rattle.laws.specs.PicksLaws.{distinct_head, distinct_tail}
use Rattle.laws.proofs.Steps.{block_within, state_other, sweep_block_sound}
use Rattle.card.specs.Statements.Sweeping.{FlagsAndContents, HasFlagsAndBytes as Holds}

-- The first of them waits; once it is swept, the others still do.
module _ {p : Public} {b : ℕ} {bs : List ℕ} (t : Sweepable p (b ∷ bs)) where
  first_waits : waiting p b ≡ true
  first_waits = all_head (λ x. waiting p x) b bs t.waiting

  rest_waits : Sweepable (change_public (sweep_block b) p) bs
  unfolding change_public waiting
  rest_waits = record {
    waiting =
        all_both (λ x. waiting p x) (λ x. not (eqb x b)) (λ x. waiting (with_flags p (set p.flags b 0)) x)
        (λ x e f. state_other waiting_flag p b 0 x (eqb-false _ _ (not-true _ f)) ∙ e)
        bs
        (all_tail (λ x. waiting p x) b bs t.waiting)
        (distinct_head t.distinct);
    distinct = distinct_tail t.distinct;
  }

pub sweep_each_sound : {c : Card} (bs : List ℕ) → SoundCard c → Sweepable c.public bs → SoundCard (changes c (sweep_each bs))
unfolding sweep_each changes change
sweep_each_sound [] s t = s
sweep_each_sound {c = c} (b ∷ bs) s t = sweep_each_sound {c = change c (sweep_block b)} bs (sweep_block_sound b s (first_waits t)) (rest_waits t)

pub sweep_each_alone : (c : Card) (bs : List ℕ) → FlagsAndContents c (changes c (sweep_each bs))
unfolding sweep_each changes change change_public change_keys
sweep_each_alone c [] = record { info = refl; counts = refl; pointers = refl; multiplicities = refl; windows = refl; keys = refl }
sweep_each_alone c (b ∷ bs) =
    let rest : FlagsAndContents (change c (sweep_block b)) (changes (change c (sweep_block b)) (sweep_each bs)) = sweep_each_alone (change c (sweep_block b)) bs in
    record {
      info = rest.info;
      counts = rest.counts;
      pointers = rest.pointers;
      multiplicities = rest.multiplicities;
      windows = rest.windows;
      keys = rest.keys;
    }

-- A block with the same flags is allocated or not as before.
pub same_state : (p q : Public) (b : ℕ) → q.info.blocks ≡ p.info.blocks → flag q b ≡ flag p b → allocated q b ≡ allocated p b
unfolding allocated
same_state p q b n f = ap₂ (λ (n f : ℕ). ltb b n && allocated_flag f) n f

-- One block swept: what it holds then, and what another does.
module _ {c : Card} (x : ℕ) (s : SoundCard c) (w : waiting c.public x ≡ true) where
  abbrev next : Card
  next = change c (sweep_block x)

  one_swept : Holds next x 0 (zeros c.public.info.bytes)
  unfolding change change_public change_contents
  one_swept = record {
    flagged = get_or-set_same c.public.flags x 0 0 (omega (arith, waiting_below c.public x w, s.shaped.has_lengths.flags));
    held =
        part_fill_same c.public.info.bytes c.contents x (zeros c.public.info.bytes)
        (block_within c x s.shaped.has_lengths.contents (waiting_below c.public x w))
        (length-replicate c.public.info.bytes 0);
  }

  another_kept : (b : ℕ) → (b ≡ x → ⊥) → Holds next b (flag c.public b) (block c b)
  unfolding change change_public change_contents
  another_kept b other = record {
    flagged = get_or-set_other c.public.flags x b 0 0 other;
    held =
        part_fill_other c.public.info.bytes c.contents x (zeros c.public.info.bytes)
        (block_within c x s.shaped.has_lengths.contents (waiting_below c.public x w))
        (length-replicate c.public.info.bytes 0)
        b
        other;
  }

-- A block that is not among them keeps flags and contents.
pub sweep_each_spares : {c : Card} (bs : List ℕ) (b : ℕ) → SoundCard c → Sweepable c.public bs → contains b bs ≡ false
    → Holds (changes c (sweep_each bs)) b (flag c.public b) (block c b)
unfolding sweep_each changes change contains any
sweep_each_spares [] b s t h = record { flagged = refl; held = refl }
sweep_each_spares {c = c} (x ∷ bs) b s t h =
    let other : (b ≡ x → ⊥) = λ e. eqb-false x b (or_false_left (eqb x b) _ h) (sym e) in
    let one = another_kept x s (first_waits t) b other in
    let rest = sweep_each_spares {c = change c (sweep_block x)} bs b (sweep_block_sound x s (first_waits t)) (rest_waits t) (or_false_right (eqb x b) _ h) in
    record { flagged = rest.flagged ∙ one.flagged; held = rest.held ∙ one.held }

-- A block that is among them has no flag then and holds zeros.
pub sweep_each_sweeps : {c : Card} (bs : List ℕ) (b : ℕ) → SoundCard c → Sweepable c.public bs → contains b bs ≡ true
    → Holds (changes c (sweep_each bs)) b 0 (zeros c.public.info.bytes)
unfolding sweep_each changes change change_public contains any
sweep_each_sweeps [] b s t h = absurd_test {t = false} h refl
sweep_each_sweeps {c = c} (x ∷ bs) b s t h =
    let after : SoundCard (change c (sweep_block x)) = sweep_block_sound x s (first_waits t) in
    ⊎_elim
    (λ (e : contains b bs ≡ true). sweep_each_sweeps {c = change c (sweep_block x)} bs b after (rest_waits t) e)
    (λ (e : contains b bs ≡ false).
    let same : x ≡ b = ⊎_elim (λ q. eqb-true x b q) (λ q. absurd_test q e) (or_cases (eqb x b) _ h) in
    let one = subst (λ (n : ℕ). Holds (change c (sweep_block x)) n 0 (zeros c.public.info.bytes)) same (one_swept x s (first_waits t)) in
    let rest = sweep_each_spares bs b after (rest_waits t) e in
    record { flagged = rest.flagged ∙ one.flagged; held = rest.held ∙ one.held })
    (not_cases (contains b bs))
