-- What the checks that ALLOC and ALLOC_CONTIG share find, and what taking the blocks asks once they pass, over plain values.
use Prim.Native.Nat.{ℕ, ◌+◌, ◌≤◌, ◌<◌}
use mathlib.Core.Path.{◌≡◌, sym, ap, ◌∙◌}
use mathlib.Core.Logic.{⊎_elim}
use mathlib.Core.Bool.{Bool, true, false, ◌&&◌, ◌||◌, not}
use mathlib.Core.List.{List, []}
use native.Mathlib.Omega.{arith}
use lib.Dec.{eqb, ltb}
use lib.ListN.{length, take, drop, length-take}
use lib.Seq.{take_at}
use borrow.Author.Tests.{lt-ltb, le-ltb, eq-eqb, ne_eqb, eqb-false, ltb-true, ltb-false, not-false}
use Rattle.laws.specs.ListsLaws.{or_false_left, or_false_right, and_true, absurd_test, not_cases}
use Rattle.card.specs.Contents.{overwrite}
use Rattle.card.specs.Card.{Card, card, allocated, free_blocks}
use Rattle.card.specs.SoundCard.{SoundCard}
use Rattle.card.specs.Access.{admits}
use Rattle.card.specs.Plan.{Check, FirstHolds, here, later, NoneHolds}
use Rattle.card.specs.Calls.{missing, root_at_host, no_hint, wanted, alloc_plan}
use Rattle.laws.specs.Takeable.{Takeable}
use Rattle.card.specs.declared.Port.{Port}
use Rattle.card.specs.declared.Mode.TheVariants.{Writing}
use Rattle.card.specs.declared.AllocOperands.{AllocOperands}
use Rattle.card.specs.declared.Refusal.TheVariants.{BadOperand, NotAllocated, IsRoot, NotOpened, TooFewBlocks}
use Rattle.tables.specs.Free.{free_below}
use Rattle.tables.specs.FreeLaws.{flags_free}
use Rattle.allocation.specs.Taking.{CanTakeAll}
use Rattle.allocation.specs.SharedChecks.{bad_operands, shared_checks}
use Rattle.access.proofs.Blocks.{missing_told, root_told, closed_told}

-- ---- the wanted block

-- The wanted block, where a hint is none or a block's number.
pub wanted_none : {hint : ℕ} → hint ≡ no_hint → 0 ≡ wanted hint
unfolding wanted
wanted_none {hint} e = rw (eq-eqb hint no_hint e)

pub wanted_hint : {hint : ℕ} → (hint ≡ no_hint → ⊥) → hint ≡ wanted hint
unfolding wanted
wanted_hint {hint} f = rw (ne_eqb hint no_hint f)

wanted_below : (blocks hint : ℕ) → 0 < blocks → not (ltb hint blocks) && not (eqb hint no_hint) ≡ false → wanted hint < blocks
unfolding wanted
wanted_below blocks hint some h =
    ⊎_elim
    (λ (e : eqb hint no_hint ≡ true). rw e some)
    (λ (e : eqb hint no_hint ≡ false).
    rw e
    (⊎_elim
    (λ (l : ltb hint blocks ≡ true). ltb-true hint blocks l)
    (λ (l : ltb hint blocks ≡ false). absurd_test (and_true (not (ltb hint blocks)) (not (eqb hint no_hint)) (ap not l) (ap not e)) h)
    (not_cases (ltb hint blocks))))
    (not_cases (eqb hint no_hint))

-- ---- the checks

module _ (port : Port) (c : Card) (o : AllocOperands) (places : List ℕ) where
  abbrev pub shared : List Check
  shared = shared_checks port c o (length places)

  module _ {t1 : Bool} (e1 : t1 ≡ bad_operands c.public.info.blocks o.hint o.count (length places)) where
    pub bad_operand : t1 ≡ true → FirstHolds shared BadOperand
    unfolding shared_checks alloc_plan
    bad_operand h = here (sym e1 ∙ h)

    module _ (h1 : t1 ≡ false) {t2 : Bool} (e2 : t2 ≡ missing (card c.public.info c.public.flags [] [] [] [] [] []).public o.reference) where
      pub reference_missing : t2 ≡ true → FirstHolds shared NotAllocated
      unfolding shared_checks alloc_plan allocated
      reference_missing h = later (sym e1 ∙ h1) (here (missing_told c.public _ e2 h))

      module _ (h2 : t2 ≡ false) {t3 : Bool} (e3 : t3 ≡ root_at_host port (card c.public.info [] [] [] [] [] [] []).public o.reference) where
        pub root_reference : t3 ≡ true → FirstHolds shared IsRoot
        unfolding shared_checks alloc_plan allocated
        root_reference h = later (sym e1 ∙ h1) (later (missing_told c.public _ e2 h2) (here (root_told port c.public _ e3 h)))

        module _ (h3 : t3 ≡ false) {t4 : Bool} (e4 : t4 ≡ admits port c Writing o.reference o.credential) where
          pub reference_shut : not t4 ≡ true → FirstHolds shared NotOpened
          unfolding shared_checks alloc_plan allocated
          reference_shut h =
              later (sym e1 ∙ h1) (later (missing_told c.public _ e2 h2)
              (later (root_told port c.public _ e3 h3)
              (here (closed_told port c Writing _ _ e4 h))))

          module _ (h4 : not t4 ≡ false) (s : SoundCard c) {n : ℕ} (e5 : n ≡ length (free_below c.public.flags (length c.public.flags))) where
            free_counted : n ≡ length (free_blocks c.public)
            free_counted = e5 ∙ ap (λ (xs : List ℕ). length xs) (flags_free c.public s.shaped.has_lengths.flags)

            pub too_few_blocks : n < o.count → FirstHolds shared TooFewBlocks
            unfolding shared_checks alloc_plan allocated
            too_few_blocks h =
                later (sym e1 ∙ h1) (later (missing_told c.public _ e2 h2)
                (later (root_told port c.public _ e3 h3)
                (later (closed_told port c Writing _ _ e4 h4)
                (here (lt-ltb (length (free_blocks c.public)) o.count (omega (arith, free_counted)))))))

            pub shared_passes : o.count ≤ n → NoneHolds shared
            unfolding shared_checks alloc_plan allocated
            shared_passes h = (
              sym e1 ∙ h1,
              (
                missing_told c.public _ e2 h2,
                (
                  root_told port c.public _ e3 h3,
                  (
                    closed_told port c Writing _ _ e4 h4,
                    (le-ltb (length (free_blocks c.public)) o.count (omega (arith, free_counted)), tt),
                  ),
                ),
              ),
            )

  -- What holds once they pass.
  module _ (s : SoundCard c) (n : NoneHolds shared) where
    operands_right : (1 ≤ o.count) × ((o.count ≤ 64) × ((wanted o.hint < c.public.info.blocks) × (o.count ≤ length places)))
    unfolding shared_checks alloc_plan
    operands_right =
        let front : Bool = eqb o.count 0 || ltb 64 o.count in
        let hinted : Bool = not (ltb o.hint c.public.info.blocks) && not (eqb o.hint no_hint) in
        let both : front || hinted ≡ false = or_false_left (front || hinted) _ n.0 in
        let counted : front ≡ false = or_false_left front hinted both in
        let other : (o.count ≡ 0 → ⊥) = eqb-false _ _ (or_false_left (eqb o.count 0) _ counted) in (
          omega arith,
          (
            ltb-false _ _ (or_false_right (eqb o.count 0) _ counted),
            (
              wanted_below c.public.info.blocks o.hint (omega (arith, s.shaped.in_ranges.blocks_low)) (or_false_right front hinted both),
              ltb-false _ _ (or_false_right (front || hinted) _ n.0),
            ),
          ),
        )

    pub count_some : 1 ≤ o.count
    count_some = operands_right.0

    pub count_low_law : o.count ≤ 64
    count_low_law = operands_right.1.0

    pub wanted_there : wanted o.hint < c.public.info.blocks
    wanted_there = operands_right.1.1.0

    pub count_fits : o.count ≤ length places
    count_fits = operands_right.1.1.1

    pub reference_there : allocated c.public o.reference ≡ true
    unfolding shared_checks alloc_plan
    reference_there = not-false _ n.1.0

    pub enough_free : o.count ≤ length (free_blocks c.public)
    unfolding shared_checks alloc_plan
    enough_free = ltb-false _ _ n.1.1.1.1.0

-- ---- the blocks chosen

-- As many blocks as asked for can be taken, and their numbers stand in the first places.
pub record Chosen (c : Card) (o : AllocOperands) (places chosen left : List ℕ) : Type 0 where
  pub takeable : Takeable c.public chosen
  pub long : length chosen ≡ o.count
  pub shown : left ≡ overwrite places 0 chosen

module _ {c : Card} {o : AllocOperands} {places chosen left : List ℕ} (t : Chosen c o places chosen left) where
  pub first_places : take o.count left ≡ chosen
  unfolding overwrite
  first_places = rw t.shown (take_at chosen (drop (0 + length chosen) places) o.count t.long)

  pub numbers_long : o.count ≡ length (take o.count left)
  numbers_long = sym (ap (λ (xs : List ℕ). length xs) first_places ∙ t.long)

  pub places_there : o.count ≤ length left
  places_there = omega (arith, numbers_long, length-take o.count left)

  -- What taking them asks.
  pub can_take_all : (port : Port) → SoundCard c → NoneHolds (shared port c o places) → c.public.info.used + o.count ≤ length c.public.pointers
      → CanTakeAll c o.reference (take o.count left)
  can_take_all port s n room = rw first_places (record {
    sound = s;
    reference_allocated = reference_there port c o places s n;
    takeable = t.takeable;
    few = omega (arith, count_low_law port c o places s n, t.long);
    room = omega (arith, t.long);
  })
