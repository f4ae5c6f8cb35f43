-- Where the walk starts: one block more looked at.
use Prim.Native.Nat.{ℕ, ◌+◌, ◌≤◌, ◌<◌}
use mathlib.Core.Path.{◌≡◌, sym, ap, ◌∙◌}
use mathlib.Core.Logic.{◌⊎◌, ⊎_elim}
use mathlib.Core.Bool.{true, false, cond}
use mathlib.Core.List.{List}
use native.Mathlib.Nat.{not-suc-le-zero}
use native.Mathlib.Omega.{arith}
use lib.ListN.{length, get_or, set, replicate, length-set, length-replicate}
use lib.Seq.{get_or-set_same, get_or-set_other}
use Rattle.laws.specs.ListsLaws.{absurd_test, same_or_other}
use Rattle.card.specs.Card.{Card}
use Rattle.card.specs.Reach.{sealed}
use Rattle.report.specs.Report.{given, within_by_itself}
use Rattle.walks.specs.Walk.{mark, Walking, NoneReached, Entered}
use Rattle.walks.specs.declared.Reached.{Reached}
use Rattle.walks.specs.WalkLaws.{walking_none, walking_room, walking_enter, entered_marks, entered_kept, entered_cases}
use Rattle.reach.specs.Within.{StandingOf, Shut, Begun}
use Rattle.reach.specs.declared.Standing.{Standing}

begun_none : (words : List ℕ) (c : Card) {shut : List ℕ} {r : Reached} → shut ≡ replicate 4096 0 → NoneReached r → Begun words c 0 shut r.marks r.queue r.count
begun_none words c {r = r} e f =
    let w : Walking (λ a b. ⊥) r.marks r.queue 0 r.count = rw f.none_queued (walking_none f.none_marked f.has_queue) in
    record {
      has_shut = ap length e ∙ length-replicate {A = ℕ} 4096 0;
      shut_below = record { is_shut = λ b l e. absurd (not-suc-le-zero l); is_open = λ b l e. absurd (not-suc-le-zero l) };
      walking = w;
      is_marked = λ b l e. absurd (not-suc-le-zero l);
      only = λ b m. absurd (not-suc-le-zero (rw f.none_queued at (w.queued b m).low));
    }

module _ {words : List ℕ} {c : Card} {b : ℕ} {shut marks queue : List ℕ} {tail : ℕ} (h : Begun words c b shut marks queue tail) (l : b < 4096) {r : Standing}
    (s : StandingOf words c b r) where
  long : b < length marks
  long = omega (arith, h.walking.has_marks)

  here : get_or (set shut b r.shut) b 0 ≡ cond (sealed (given words) c b) 1 0
  here = get_or-set_same shut b r.shut 0 (omega (arith, h.has_shut)) ∙ s.is_shut

  shut_more : Shut words c (b + 1) (set shut b r.shut)
  shut_more = record {
    is_shut = λ x m e.
        ⊎_elim
        (λ (q : x ≡ b). rw q (here ∙ rw (rw q at e)))
        (λ (o : x ≡ b → ⊥). get_or-set_other shut b x r.shut 0 o ∙ h.shut_below.is_shut x (omega arith) e)
        (same_or_other x b);
    is_open = λ x m e.
        ⊎_elim
        (λ (q : x ≡ b). rw q (here ∙ rw (rw q at e)))
        (λ (o : x ≡ b → ⊥). get_or-set_other shut b x r.shut 0 o ∙ h.shut_below.is_open x (omega arith) e)
        (same_or_other x b);
  }

  begun_in : {marks' queue' : List ℕ} {tail' : ℕ} → r.within ≡ true → Entered marks queue tail b marks' queue' tail'
      → Begun words c (b + 1) (set shut b r.shut) marks' queue' tail'
  begun_in e n =
      let yes : within_by_itself (given words) c b ≡ true = sym s.is_within ∙ e in
      record {
        has_shut = length-set shut b r.shut ∙ h.has_shut;
        shut_below = shut_more;
        walking = walking_enter h.walking l n;
        is_marked = λ x m i.
            ⊎_elim
            (λ (q : x ≡ b). rw q (entered_marks n long))
            (λ (o : x ≡ b → ⊥). entered_kept n long x (h.is_marked x (omega arith) i))
            (same_or_other x b);
        only = λ x i.
            ⊎_elim
            (λ (q : x ≡ b). (omega arith, rw q yes))
            (λ (j : mark marks x ≡ 1). let o : (x < b) × (within_by_itself (given words) c x ≡ true) = h.only x j in (omega (arith, o.0), o.1))
            (entered_cases n x i);
      }

  begun_out : r.within ≡ false → Begun words c (b + 1) (set shut b r.shut) marks queue tail
  begun_out e =
      let no : within_by_itself (given words) c b ≡ false = sym s.is_within ∙ e in
      record {
        has_shut = length-set shut b r.shut ∙ h.has_shut;
        shut_below = shut_more;
        walking = h.walking;
        is_marked = λ x m i.
            ⊎_elim
            (λ (q : x ≡ b). absurd_test (rw q at i) no)
            (λ (o : x ≡ b → ⊥). h.is_marked x (omega arith) i)
            (same_or_other x b);
        only = λ x i. let o : (x < b) × (within_by_itself (given words) c x ≡ true) = h.only x i in (omega (arith, o.0), o.1);
      }

-- ---- the blocks below n

pub record Beginning (words : List ℕ) (c : Card) (n b : ℕ) (shut marks queue : List ℕ) (tail : ℕ) : Type 0 where
  pub most : b ≤ n
  pub few : n ≤ 4096
  pub begun : Begun words c b shut marks queue tail

pub beginning_none : (words : List ℕ) (c : Card) (n : ℕ) {shut : List ℕ} {r : Reached} → n ≤ 4096 → shut ≡ replicate 4096 0 → NoneReached r
    → Beginning words c n 0 shut r.marks r.queue r.count
beginning_none words c n few e f = record { most = omega arith; few = few; begun = begun_none words c e f }

module _ {words : List ℕ} {c : Card} {n b : ℕ} {shut marks queue : List ℕ} {tail : ℕ} (h : Beginning words c n b shut marks queue tail) where
  pub beginning_low : b < n → b < 4096
  beginning_low l = omega (arith, h.few)

  pub beginning_room : b < n → (mark marks b ≡ 1 → ⊥) → tail < 4096
  beginning_room l = walking_room h.begun.walking b (beginning_low l)

  -- One block more, which is queued or not.
  pub beginning_more : {r : Standing} {marks' queue' : List ℕ} {tail' : ℕ} → b < n → StandingOf words c b r
      → ((r.within ≡ true) × Entered marks queue tail b marks' queue' tail') ⊎ ((r.within ≡ false) × ((marks' ≡ marks) × ((queue' ≡ queue) × (tail' ≡ tail))))
      → Beginning words c n (b + 1) (set shut b r.shut) marks' queue' tail'
  beginning_more l s i = record {
    most = omega arith;
    few = h.few;
    begun = ⊎_elim
        (λ w. begun_in h.begun (beginning_low l) s w.0 w.1)
        (λ w. rw (w.1.0, w.1.1.0, w.1.1.1) (begun_out h.begun (beginning_low l) s w.0))
        i;
  }

  pub beginning_whole : n ≤ b → Begun words c n shut marks queue tail
  beginning_whole l = let e : b ≡ n = omega (arith, h.most) in rw e at h.begun
