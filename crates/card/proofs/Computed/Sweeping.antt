-- `swept_gone` as a test, which follows from it.
use Prim.Native.Nat.{ℕ}
use mathlib.Core.Bool.{Bool, true, false, ◌&&◌, ◌||◌, cond}
use mathlib.Core.List.{List, [], ◌∷◌}
use mathlib.Core.Path.{◌≡◌, refl, subst, sym, ap}
use lib.Dec.{eqb, ltb, leb}
use lib.ListN.{length, get_or}
use borrow.Author.Tests.{eq-eqb, lt-ltb, ltb-true, le-leb}
use Rattle.card.specs.Lists.{every, all_below, numbers_below}
use Rattle.card.specs.Contents.{zeros}
use Rattle.card.specs.Card.{Card, flag, waiting, free, waiting_blocks, block}
use Rattle.card.specs.Plan.{Result}
use Rattle.card.specs.Calls.{is_done, answer_values}
use Rattle.card.specs.Session.{perform}
use Rattle.card.specs.Trials.{lending}
use Rattle.card.specs.Statements.Sweeping.{sweeping, LowestWaiting, SweepsLowest, SweptGone}
use Rattle.card.specs.declared.Port.TheVariants.{Host}
use Rattle.card.specs.Answers.{Answer}
use Rattle.card.specs.declared.SweepOperands.{SweepOperands}
use Rattle.card.proofs.Computed.Same.{same_list, same_lists}
use Rattle.card.proofs.Computed.TestLaws.{and_left, and_right, and_true, or_else, absurd_test, true_every, all_below_true, true_all_below, same_list_true, true_same_list, true_same_lists, false_unless, waiting_below}
use Rattle.card.proofs.Computed.Row.{implies, true_implies, Row}
use Rattle.card.proofs.Computed.SoundLaws.{is_sound, is_sound_true}
use Rattle.card.proofs.Computed.Secrecy.{with_contents}

module _ (c : Card) (contents : List ℕ) (o : SweepOperands) where
  abbrev pub swept_by : Card → Result
  swept_by d = perform Host d (sweeping o (lending []))

  -- The number that the answer gives: how many were swept.
  abbrev pub number : ℕ
  number = get_or (answer_values (swept_by c).answer) 0 0

  -- The block is among the lowest that wait, so many of them.
  abbrev pub low : ℕ → ℕ → Bool
  low k b = waiting c.public b && ltb (length (numbers_below (waiting c.public) b)) k

  abbrev pub gone_or_kept : ℕ → ℕ → Bool
  gone_or_kept k b =
      let d = (swept_by c).after in
      cond (low k b) (free d.public b && same_list (block d b) (zeros c.public.info.bytes))
      (eqb (flag d.public b) (flag c.public b) && same_list (block d b) (block c b))

  abbrev pub other_tables : Card → List (List ℕ)
  other_tables d = d.public.counts ∷ d.public.pointers ∷ d.public.multiplicities ∷ d.public.windows ∷ d.keys ∷ []

  -- The other card differs at most in those blocks.
  abbrev pub differs_there : ℕ → Bool
  differs_there k =
      is_sound (with_contents c contents)
      && all_below (λ b. low k b || same_list (block (with_contents c contents) b) (block c b)) c.public.info.blocks

  abbrev pub swept_tests : ℕ → List Bool
  swept_tests k =
      leb k o.most
      ∷ leb k (length (waiting_blocks c.public))
      ∷ implies (ltb k o.most) (eqb k (length (waiting_blocks c.public)))
      ∷ all_below (gone_or_kept k) c.public.info.blocks
      ∷ same_lists (other_tables (swept_by c).after) (other_tables c)
      ∷ implies (differs_there k) (same_list (swept_by (with_contents c contents)).after.contents (swept_by c).after.contents)
      ∷ []

  abbrev pub swept_gone_test : Bool
  swept_gone_test = implies (is_done (swept_by c).answer) (every (swept_tests number))

  low_lowest : (k b : ℕ) → low k b ≡ true → LowestWaiting c.public k b
  low_lowest k b h = record {
    below = waiting_below c.public b (and_left _ _ h);
    holds = and_left _ _ h;
    few = ltb-true _ _ (and_right (waiting c.public b) _ h);
  }

  lowest_low : (k b : ℕ) → LowestWaiting c.public k b → low k b ≡ true
  lowest_low k b l = and_true _ _ l.holds (lt-ltb _ _ l.few)

  module _ (g : SweepsLowest Host c o (lending []) (swept_by c)) where
    gone_or_kept_law : (b : ℕ) (t : Bool) → low g.number b ≡ t
        → cond t (free (swept_by c).after.public b && same_list (block (swept_by c).after b) (zeros c.public.info.bytes))
        (eqb (flag (swept_by c).after.public b) (flag c.public b) && same_list (block (swept_by c).after b) (block c b)) ≡ true
    gone_or_kept_law b true e = let z = g.gone b (low_lowest g.number b e) in and_true _ _ z.is_free (true_same_list z.holds_zeros)
    gone_or_kept_law b false e =
        let z = g.kept b (λ l. absurd_test (lowest_low g.number b l) e) in
        and_true _ _ (eq-eqb _ _ z.flagged) (true_same_list z.held)

    same_tables : other_tables (swept_by c).after ≡ other_tables c
    same_tables = rw (g.rest.counts, g.rest.pointers, g.rest.multiplicities, g.rest.windows, g.rest.keys) refl

    forgotten_too : differs_there g.number ≡ true → same_list (swept_by (with_contents c contents)).after.contents (swept_by c).after.contents ≡ true
    forgotten_too h =
        true_same_list
        (ap (λ (d : Card). d.contents)
        (g.forgotten (with_contents c contents) (is_sound_true (and_left _ _ h)) refl refl
        (λ b l n.
        same_list_true _ _
        (or_else (low g.number b) _
        (all_below_true (λ b. low g.number b || same_list (block (with_contents c contents) b) (block c b)) _ (and_right (is_sound (with_contents c contents)) _ h) b l)
        (false_unless _ (λ e. n (low_lowest g.number b e)))))))

    all_swept : every (swept_tests g.number) ≡ true
    all_swept =
        true_every (swept_tests g.number) (
          le-leb _ _ g.most,
          (
            le-leb _ _ g.few,
            (
              true_implies (ltb g.number o.most) _ (λ h. eq-eqb _ _ (g.all_if_fewer (ltb-true _ _ h))),
              (
                true_all_below (gone_or_kept g.number) _ (λ b l. gone_or_kept_law b (low g.number b) refl),
                (true_same_lists same_tables, (true_implies (differs_there g.number) _ forgotten_too, tt)),
              ),
            ),
          ),
        )

    the_number : number ≡ g.number
    the_number = ap (λ (a : Answer). get_or (answer_values a) 0 0) g.answers

pub swept_gone_tests : SweptGone → (c : Card) (contents : List ℕ) (o : SweepOperands) → swept_gone_test c contents o ≡ true
swept_gone_tests swept_gone c contents o =
    true_implies (is_done (swept_by c contents o c).answer) _
    (λ h.
    let g = swept_gone Host c o (lending []) h in
    subst (λ (k : ℕ). every (swept_tests c contents o k) ≡ true) (sym (the_number c contents o g)) (all_swept c contents o g))

abbrev pub swept_gone_row : (c : Card) (contents : List ℕ) (o : SweepOperands) → Row SweptGone
swept_gone_row c contents o = record { test = swept_gone_test c contents o; follows = λ statement. swept_gone_tests statement c contents o }
