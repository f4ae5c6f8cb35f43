-- For each theorem a test: what it says of given cards and keys, or a part of it, as a value that can be computed. Each follows from the theorem's
-- statement, whatever the rules of the report are, and with that is a row of it.
use Prim.Native.Nat.{ℕ}
use mathlib.Core.Path.{◌≡◌, refl, ap}
use mathlib.Core.Logic.{⊎_elim}
use mathlib.Core.Bool.{Bool, true, false, ◌&&◌, ◌||◌, not}
use mathlib.Core.List.{List, [], ◌∷◌}
use lib.Dec.{eqb, ltb}
use lib.ListN.{length, take, drop}
use borrow.Author.Tests.{eq-eqb, eqb-true, lt-ltb, ltb-true, not-true}
use Rattle.laws.specs.ListsLaws.{and_left, and_right, and_true, or_left, or_right, or_cases, absurd_test, not_cases}
use Rattle.card.specs.Pointers.{ascending, contains}
use Rattle.card.specs.Card.{Card, allocated, is_root, window_open, points_to, key_high, key_low}
use Rattle.card.specs.Plan.{Result}
use Rattle.card.specs.Calls.{answer_number, answer_values, is_done, missing}
use Rattle.card.specs.Session.{Request, traits}
use Rattle.card.specs.Reach.{shows, some_shows, presents, presented, key_presented, sealed, Reach, unsealed_root, by_key, open_window, pointed}
use Rattle.card.specs.Trials.{read}
use Rattle.card.specs.declared.Port.TheVariants.{Host}
use Rattle.card.specs.declared.Mode.{Mode}
use Rattle.card.specs.declared.Mode.TheVariants.{Writing}
use Rattle.card.specs.declared.Credential.TheVariants.{Key}
use Rattle.card.proofs.Computed.Bounds.{bounds, reach_inside}
use Rattle.card.proofs.Computed.Same.{same_list, same_lists, card_numbers}
use Rattle.card.proofs.Computed.TestLaws.{true_same_list, true_same_lists}
use Rattle.card.proofs.Computed.Row.{Row, implies, true_implies}
use Rattle.card.proofs.Computed.SoundLaws.{is_sound, is_sound_true}
use Rattle.card.proofs.Computed.Refusals.{first_number, refused_by_tests}
use Rattle.report.specs.Report.{given, within_reach, unlocking, unlocking_report}
use Rattle.report.specs.Statements.{Lists, ReachListed, Unlocks, UnlockingListed, Among, here, later, HiddenUnlisted, Asked, list_of, reported, UnchangedButFor, ReportUnchanged, up_to64, refusals_of, ReportRefused, UnknownChosen}

-- ---- document 01's clauses

module _ (keys : ℕ → ℕ → Bool) (c : Card) (mode : Mode) where
  -- A clause that looks at the block alone holds of it.
  abbrev by_itself : ℕ → Bool
  by_itself b =
      allocated c.public b && ((is_root c.public b && not (sealed keys c b)) || (key_presented keys c mode b || window_open c.public mode b))

  -- Or it is unsealed, and a block that is known to be within reach points to it.
  abbrev by_clause : (ℕ → Bool) → ℕ → ℕ → Bool
  by_clause known a b = by_itself b || (known a && (allocated c.public b && (points_to c.public a b && not (sealed keys c b))))

  -- Or the blocks of a way lead on to it, each pointing to the one before it, and the first to the block.
  unfoldable pub by_way : List ℕ → ℕ → Bool
  by_way [] b = by_itself b
  by_way (a ∷ way) b = by_clause (by_way way) a b

  itself_reached : (b : ℕ) → by_itself b ≡ true → Reach keys c b
  itself_reached b h =
      let held : allocated c.public b ≡ true = and_left _ _ h in
      ⊎_elim
      (λ r. unsealed_root held (and_left (is_root c.public b) _ r) (not-true _ (and_right (is_root c.public b) _ r)))
      (λ r. ⊎_elim (λ k. by_key mode held k) (λ w. open_window mode held w) (or_cases (key_presented keys c mode b) _ r))
      (or_cases (is_root c.public b && not (sealed keys c b)) _ (and_right (allocated c.public b) _ h))

  clause_reached : (known : ℕ → Bool) (a b : ℕ) → (known a ≡ true → Reach keys c a) → by_clause known a b ≡ true → Reach keys c b
  clause_reached known a b f h =
      ⊎_elim
      (λ r. itself_reached b r)
      (λ r.
      let held : allocated c.public b && (points_to c.public a b && not (sealed keys c b)) ≡ true = and_right (known a) _ r in
      let q : points_to c.public a b && not (sealed keys c b) ≡ true = and_right (allocated c.public b) _ held in
      pointed (f (and_left _ _ r)) (and_left _ _ held) (and_left (points_to c.public a b) _ q) (not-true _ (and_right (points_to c.public a b) _ q)))
      (or_cases (by_itself b) _ h)

  way_reached : (way : List ℕ) (b : ℕ) → by_way way b ≡ true → Reach keys c b
  unfolding by_way
  way_reached [] b h = itself_reached b h
  way_reached (a ∷ way) b h = clause_reached (by_way way) a b (way_reached way a) h

-- ---- reach_listed

module _ (words : List ℕ) (c : Card) where
  abbrev reached : List ℕ
  reached = within_reach (given words) c

  -- By a clause, with the pointer from a listed block.
  abbrev is_reached : Mode → ℕ → ℕ → Bool
  is_reached mode a b = by_clause (given words) c mode (λ x. contains x reached) a b

  -- The list ascends; a listed block is named, if the named blocks bound what is within reach; and one that a clause brings within reach is listed.
  abbrev pub reach_listed_test : (ℕ → Bool) → Mode → ℕ → ℕ → Bool
  reach_listed_test named mode a b =
      ascending reached && (implies (bounds (given words) c named && contains b reached) (named b) && implies (is_reached mode a b) (contains b reached))

pub reach_listed_tests : ReachListed → (words : List ℕ) (c : Card) (named : ℕ → Bool) (mode : Mode) (a b : ℕ)
    → reach_listed_test words c named mode a b ≡ true
reach_listed_tests statement words c named mode a b =
    let l : Lists (Reach (given words) c) (within_reach (given words) c) = statement words c in
    and_true _ _ l.ascends
    (and_true _ _
    (true_implies (bounds (given words) c named && contains b (reached words c)) _
    (λ h. reach_inside (given words) c named (and_left _ _ h) (l.only b (and_right (bounds (given words) c named) _ h))))
    (true_implies (is_reached words c mode a b) _
    (λ h. l.listed b (clause_reached (given words) c mode (λ x. contains x (reached words c)) a b (l.only a) h))))

abbrev pub reach_listed_row : (words : List ℕ) (c : Card) (named : ℕ → Bool) (mode : Mode) (a b : ℕ) → Row ReachListed
reach_listed_row words c named mode a b = record {
  test = reach_listed_test words c named mode a b;
  follows = λ statement. reach_listed_tests statement words c named mode a b;
}

-- ---- unlocking_listed

module _ (words : List ℕ) (c : Card) (chosen s : ℕ) where
  -- The keys with the write key of the block.
  abbrev with_key : ℕ → ℕ → Bool
  with_key = given (key_high c.keys Writing s ∷ (key_low c.keys Writing s ∷ words))

  abbrev is_sealed_block : Bool
  is_sealed_block = ltb s c.public.info.blocks && sealed (given words) c s

  abbrev is_unlocking : Mode → List ℕ → Bool
  is_unlocking mode way = is_sealed_block && by_way with_key c mode way chosen

  -- The list ascends; a listed block is sealed, and with its key the chosen one is named, if the named blocks bound what is within reach; and a sealed
  -- block is listed, if with its key a way brings the chosen one within reach.
  abbrev pub unlocking_listed_test : (ℕ → Bool) → Mode → List ℕ → Bool
  unlocking_listed_test named mode way =
      let list = unlocking words c chosen in
      ascending list
      && (implies (contains s list) (is_sealed_block && implies (bounds with_key c named) (named chosen))
      && implies (is_unlocking mode way) (contains s list))

  unlocks_tests : (named : ℕ → Bool) → Unlocks words c chosen s → is_sealed_block && implies (bounds with_key c named) (named chosen) ≡ true
  unlocks_tests named u =
      and_true _ _ (and_true _ _ (lt-ltb _ _ u.is_block) u.is_sealed)
      (true_implies (bounds with_key c named) _ (λ h. reach_inside with_key c named h u.brings))

  tested_unlocks : (mode : Mode) (way : List ℕ) → is_unlocking mode way ≡ true → Unlocks words c chosen s
  tested_unlocks mode way h =
      let r : is_sealed_block ≡ true = and_left _ _ h in
      record {
        is_block = ltb-true _ _ (and_left _ _ r);
        is_sealed = and_right (ltb s c.public.info.blocks) _ r;
        brings = way_reached with_key c mode way chosen (and_right is_sealed_block _ h);
      }

pub unlocking_listed_tests : UnlockingListed → (words : List ℕ) (c : Card) (chosen s : ℕ) (named : ℕ → Bool) (mode : Mode) (way : List ℕ)
    → unlocking_listed_test words c chosen s named mode way ≡ true
unlocking_listed_tests statement words c chosen s named mode way =
    let l : Lists (Unlocks words c chosen) (unlocking words c chosen) = statement words c chosen in
    and_true _ _ l.ascends
    (and_true _ _
    (true_implies (contains s (unlocking words c chosen)) _ (λ h. unlocks_tests words c chosen s named (l.only s h)))
    (true_implies (is_unlocking words c chosen s mode way) _ (λ h. l.listed s (tested_unlocks words c chosen s mode way h))))

abbrev pub unlocking_listed_row : (words : List ℕ) (c : Card) (chosen s : ℕ) (named : ℕ → Bool) (mode : Mode) (way : List ℕ) → Row UnlockingListed
unlocking_listed_row words c chosen s named mode way = record {
  test = unlocking_listed_test words c chosen s named mode way;
  follows = λ statement. unlocking_listed_tests statement words c chosen s named mode way;
}

-- ---- hidden_unlisted

-- A READ of block 0 by each of the keys.
unfoldable pub key_reads : List ℕ → List Request
key_reads [] = []
key_reads (h ∷ []) = []
key_reads (h ∷ (l ∷ words)) = (read Host 0 (Key h l) 0).request ∷ key_reads words

reads_among : (words : List ℕ) (high low : ℕ) → presented (key_reads words) high low ≡ true → Among words high low
unfolding key_reads presented presents traits some_shows shows
reads_among [] high low e = absurd_test {t = false} e refl
reads_among (h ∷ []) high low e = absurd_test {t = false} e refl
reads_among (h ∷ (l ∷ words)) high low e =
    ⊎_elim
    (λ k. rw (eqb-true high h (and_left (eqb high h) _ k), eqb-true low l (and_right (eqb high h) _ k)) here)
    (λ k. later (reads_among words high low k))
    (or_cases (eqb high h && eqb low l) _ e)

among_reads : {words : List ℕ} {high low : ℕ} → Among words high low → presented (key_reads words) high low ≡ true
unfolding key_reads presented presents traits some_shows shows
among_reads (here {high = high} {low = low}) =
    or_left (eqb high high && eqb low low) _ (and_true (eqb high high) _ (eq-eqb high high refl) (eq-eqb low low refl))
among_reads (later {h = h} {l = l} {high = high} {low = low} q) = or_right (eqb high h && eqb low l) _ (among_reads q)

module _ (words : List ℕ) (c : Card) where
  abbrev shown : ℕ → ℕ → Bool
  shown = presented (key_reads words)

  -- An allocated block is not listed if it is not named, where the named blocks bound what is within reach; it is listed if its key is presented.
  abbrev pub hidden_unlisted_test : (ℕ → Bool) → Mode → ℕ → Bool
  hidden_unlisted_test named mode b =
      implies (bounds shown c named && (allocated c.public b && not (named b))) (not (contains b (within_reach (given words) c)))
      && implies (allocated c.public b && key_presented shown c mode b) (contains b (within_reach (given words) c))

pub hidden_unlisted_tests : HiddenUnlisted → (words : List ℕ) (c : Card) (named : ℕ → Bool) (mode : Mode) (b : ℕ)
    → hidden_unlisted_test words c named mode b ≡ true
hidden_unlisted_tests statement words c named mode b =
    let iff = statement words (key_reads words) (λ high low. (reads_among words high low, λ q. among_reads q)) c b in
    and_true _ _
    (true_implies (bounds (shown words c) c named && (allocated c.public b && not (named b))) _
    (λ h.
    let r : allocated c.public b && not (named b) ≡ true = and_right (bounds (shown words c) c named) _ h in
    ap not
    (iff.0 (record {
      is_allocated = and_left _ _ r;
      out_of_reach = λ g. absurd_test (reach_inside (shown words c) c named (and_left _ _ h) g) (not-true _ (and_right (allocated c.public b) _ r));
    })).1))
    (true_implies (allocated c.public b && key_presented (shown words c) c mode b) _
    (λ h.
    let held : allocated c.public b ≡ true = and_left _ _ h in
    ⊎_elim (λ e. e)
    (λ e. absurd ((iff.1 (held, e)).out_of_reach (by_key mode held (and_right (allocated c.public b) _ h))))
    (not_cases (contains b (within_reach (given words) c)))))

abbrev pub hidden_unlisted_row : (words : List ℕ) (c : Card) (named : ℕ → Bool) (mode : Mode) (b : ℕ) → Row HiddenUnlisted
hidden_unlisted_row words c named mode b = record {
  test = hidden_unlisted_test words c named mode b;
  follows = λ statement. hidden_unlisted_tests statement words c named mode b;
}

-- ---- report_unchanged

module _ (asked : Asked) (words places : List ℕ) (c : Card) where
  abbrev made : Result
  made = reported asked words places c

  abbrev list : List ℕ
  list = list_of asked words c

  abbrev done_test : Bool
  done_test =
      same_list (answer_values made.answer) (length list ∷ [])
      && (same_list (take (length list) made.places) list && same_list (drop (length list) made.places) (drop (length list) places))

  abbrev pub report_unchanged_test : Bool
  report_unchanged_test =
      same_lists ((length made.places ∷ []) ∷ card_numbers made.after) ((length places ∷ []) ∷ card_numbers c)
      && (implies (is_done made.answer) done_test && implies (not (is_done made.answer)) (same_list made.places places))

pub report_unchanged_tests : ReportUnchanged → (asked : Asked) (words places : List ℕ) (c : Card) → report_unchanged_test asked words places c ≡ true
report_unchanged_tests statement asked words places c =
    let u : UnchangedButFor (list asked words places c) c places (made asked words places c) = statement asked words places c in
    and_true _ _ (true_same_lists (λ i. (u.as_many i ∷ []) ∷ card_numbers (u.after i)))
    (and_true _ _
    (true_implies (is_done (made asked words places c).answer) _
    (λ d. and_true _ _ (true_same_list (ap answer_values (u.result d))) (and_true _ _ (true_same_list (u.lists d)) (true_same_list (u.behind d)))))
    (true_implies (not (is_done (made asked words places c).answer)) _ (λ d. true_same_list (u.when_refused (not-true _ d)))))

abbrev pub report_unchanged_row : (asked : Asked) (words places : List ℕ) (c : Card) → Row ReportUnchanged
report_unchanged_row asked words places c = record {
  test = report_unchanged_test asked words places c;
  follows = λ statement. report_unchanged_tests statement asked words places c;
}

-- ---- report_refused

abbrev pub report_refused_test : Asked → List ℕ → List ℕ → Card → Bool
report_refused_test asked words places c =
    eqb (answer_number (reported asked words places c).answer) (first_number (refusals_of asked words (length places) c))

pub report_refused_tests : ReportRefused → (asked : Asked) (words places : List ℕ) (c : Card) → report_refused_test asked words places c ≡ true
report_refused_tests statement asked words places c = refused_by_tests (statement asked words places c)

abbrev pub report_refused_row : (asked : Asked) (words places : List ℕ) (c : Card) → Row ReportRefused
report_refused_row asked words places c = record {
  test = report_refused_test asked words places c;
  follows = λ statement. report_refused_tests statement asked words places c;
}

-- ---- unknown_chosen

abbrev pub unknown_chosen_test : List ℕ → List ℕ → ℕ → Card → Bool
unknown_chosen_test words places chosen c =
    implies (is_sound c && (up_to64 (length words) && missing c.public chosen)) (eqb (answer_number (unlocking_report words chosen places c).answer) 3)

pub unknown_chosen_tests : UnknownChosen → (words places : List ℕ) (chosen : ℕ) (c : Card) → unknown_chosen_test words places chosen c ≡ true
unknown_chosen_tests statement words places chosen c =
    true_implies (is_sound c && (up_to64 (length words) && missing c.public chosen)) _
    (λ h.
    let r : up_to64 (length words) && missing c.public chosen ≡ true = and_right (is_sound c) _ h in
    eq-eqb _ _
    (ap answer_number (statement words places chosen c (is_sound_true (and_left _ _ h)) (and_left _ _ r) (and_right (up_to64 (length words)) _ r))))

abbrev pub unknown_chosen_row : (words places : List ℕ) (chosen : ℕ) (c : Card) → Row UnknownChosen
unknown_chosen_row words places chosen c = record {
  test = unknown_chosen_test words places chosen c;
  follows = λ statement. unknown_chosen_tests statement words places chosen c;
}
