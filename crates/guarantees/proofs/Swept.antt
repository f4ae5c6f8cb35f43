-- 2026-09, "Two observatories must show that withdrawn records are gone from the card": what a done SWEEP leaves.
use Prim.Native.Nat.{ℕ, ◌*◌, ◌<◌}
use mathlib.Core.Path.{◌≡◌, refl, sym, ap, ◌∙◌, subst}
use mathlib.Core.Logic.{⊎_elim}
use mathlib.Core.Bool.{true, false}
use mathlib.Core.List.{List, [], ◌∷◌}
use native.Mathlib.Omega.{arith}
use lib.ListN.{length, length-take}
use Rattle.laws.specs.ListsLaws.{absurd_test, false_unless, not_cases}
use Rattle.card.specs.Pointers.{contains}
use Rattle.card.specs.Contents.{part, zeros}
use Rattle.laws.specs.ContentsLaws.{parts_same}
use Rattle.card.specs.Card.{Public, Card, waiting, waiting_blocks, block}
use Rattle.card.specs.SoundCard.{SoundCard}
use Rattle.laws.specs.SoundnessLaws.{flag_free}
use Rattle.card.specs.Plan.{Buffers, Result, sweep_block, change_public, change, changes, first, settle, done, judge_sound}
use Rattle.laws.specs.PlanLaws.{judge_sound_law}
use Rattle.card.specs.Calls.{is_done, lowest_waiting, sweep_each, sweep_plan}
use Rattle.laws.specs.SweepLaws.{take_length, taken_lowest, lowest_taken, lowest_sweepable}
use Rattle.laws.specs.Takeable.{Sweepable}
use Rattle.card.specs.Session.{plan, perform}
use Rattle.card.specs.declared.Info.{Info}
use Rattle.card.specs.declared.Port.{Port}
use Rattle.card.specs.declared.SweepOperands.{SweepOperands}
use Rattle.card.specs.Statements.Sweeping.{sweeping, LowestWaiting, Gone, SweepsLowest, SweptGone}
use Rattle.laws.proofs.Sweeping.{sweep_each_sound, sweep_each_alone, sweep_each_spares, sweep_each_sweeps}
use Rattle.laws.proofs.Judged.{judge_cases}

-- ---- the proof

-- What sweeping does to the public part, and to a card, hangs on that part alone.
public_same : (c d : Card) (bs : List ℕ) → d.public ≡ c.public → (changes d (sweep_each bs)).public ≡ (changes c (sweep_each bs)).public
unfolding sweep_each changes change
public_same c d [] e = e
public_same c d (b ∷ bs) e = public_same (change c (sweep_block b)) (change d (sweep_block b)) bs (ap (change_public (sweep_block b)) e)

card_same : (c d : Card) → d.public ≡ c.public → d.keys ≡ c.keys → d.contents ≡ c.contents → d ≡ c
card_same c d p k x = rw (p, k, x) refl

-- The card that a SWEEP leaves of a sound one.
swept_card : (port : Port) (d : Card) (o : SweepOperands) (lent : Buffers) → SoundCard d
    → (perform port d (sweeping o lent)).after ≡ changes d (sweep_each (lowest_waiting d.public o.most))
unfolding perform plan sweep_plan judge_sound settle first
swept_card port d o lent s = ap (λ (r : Result). r.after) (judge_sound_law d lent (sweep_plan d.public o) s)

module _ (port : Port) (c : Card) (o : SweepOperands) (lent : Buffers) (s : SoundCard c) where
  abbrev swept : List ℕ
  swept = lowest_waiting c.public o.most

  abbrev after : Card
  after = changes c (sweep_each swept)

  fit : Sweepable c.public swept
  fit = lowest_sweepable c.public o.most

  same_size : after.public.info ≡ c.public.info
  same_size = (sweep_each_alone c swept).info

  -- A block is swept if and only if it is among the lowest.
  among : (b : ℕ) → contains b swept ≡ true → LowestWaiting c.public (length swept) b
  unfolding lowest_waiting waiting_blocks
  among b h =
      taken_lowest (waiting c.public) (length swept) c.public.info.blocks b
      (subst (λ (bs : List ℕ). contains b bs ≡ true) (sym (take_length o.most (waiting_blocks c.public))) h)

  lowest : (b : ℕ) → LowestWaiting c.public (length swept) b → contains b swept ≡ true
  unfolding lowest_waiting waiting_blocks
  lowest b l =
      subst (λ (bs : List ℕ). contains b bs ≡ true) (take_length o.most (waiting_blocks c.public))
      (lowest_taken (waiting c.public) (length swept) c.public.info.blocks b l)

  other : (b : ℕ) → (LowestWaiting c.public (length swept) b → ⊥) → contains b swept ≡ false
  other b n = false_unless _ (λ h. n (among b h))

  gone_one : (b : ℕ) → LowestWaiting c.public (length swept) b → Gone c.public.info.bytes after b
  gone_one b l =
      let zeroed = sweep_each_sweeps swept b s fit (lowest b l) in
      record {
        is_free = flag_free after.public b (subst (λ (i : Info). b < i.blocks) (sym same_size) l.below) zeroed.flagged;
        holds_zeros = zeroed.held;
      }

  module _ (d : Card) (t : SoundCard d) (p : d.public ≡ c.public) (k : d.keys ≡ c.keys)
      (same : (b : ℕ) → b < c.public.info.blocks → (LowestWaiting c.public (length swept) b → ⊥) → block d b ≡ block c b) where
    abbrev left : Card
    left = changes d (sweep_each swept)

    fit_there : Sweepable d.public swept
    fit_there = subst (λ (q : Public). Sweepable q swept) (sym p) fit

    -- Each block is left the same: a swept one holds zeros, another what it held.
    same_block : (b : ℕ) → b < c.public.info.blocks → block left b ≡ block after b
    same_block b l =
        ⊎_elim
        (λ (h : contains b swept ≡ true).
        (sweep_each_sweeps swept b t fit_there h).held ∙ ap (λ (q : Public). zeros q.info.bytes) p ∙ sym (sweep_each_sweeps swept b s fit h).held)
        (λ (h : contains b swept ≡ false).
        (sweep_each_spares swept b t fit_there h).held
        ∙ same b l (λ w. absurd_test (lowest b w) h)
        ∙ sym (sweep_each_spares swept b s fit h).held)
        (not_cases (contains b swept))

    same_public : left.public ≡ after.public
    same_public = public_same c d swept p

    same_contents : left.contents ≡ after.contents
    same_contents =
        parts_same after.public.info.blocks after.public.info.bytes left.contents after.contents
        (subst (λ (q : Public). length left.contents ≡ q.info.blocks * q.info.bytes) same_public (sweep_each_sound swept t fit_there).shaped.has_lengths.contents)
        (sweep_each_sound swept s fit).shaped.has_lengths.contents
        (λ b l.
        subst (λ (q : Public). part q.info.bytes left.contents b ≡ block after b) same_public
        (same_block b (subst (λ (i : Info). b < i.blocks) same_size l)))

    left_same : (perform port d (sweeping o lent)).after ≡ after
    left_same =
        swept_card port d o lent t
        ∙ ap (λ (q : Public). changes d (sweep_each (lowest_waiting q o.most))) p
        ∙ card_same after left same_public
        ((sweep_each_alone d swept).keys ∙ k ∙ sym (sweep_each_alone c swept).keys)
        same_contents

  swept_done : SweepsLowest port c o lent (done c lent (sweep_plan c.public o))
  unfolding sweep_plan lowest_waiting
  swept_done = record {
    number = length swept;
    answers = refl;
    most = omega (arith, length-take o.most (waiting_blocks c.public));
    few = omega (arith, length-take o.most (waiting_blocks c.public));
    all_if_fewer = λ h. omega (arith, length-take o.most (waiting_blocks c.public));
    gone = gone_one;
    kept = λ b n. sweep_each_spares swept b s fit (other b n);
    rest = sweep_each_alone c swept;
    forgotten = left_same;
  }

pub swept_gone : SweptGone
unfolding perform plan settle
swept_gone port c o lent =
    judge_cases (λ (result : Result). is_done result.answer ≡ true → SweepsLowest port c o lent result) c lent (sweep_plan c.public o)
    (λ r e. absurd_test e refl)
    (λ s h e. swept_done port c o lent s)
