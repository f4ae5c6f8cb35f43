-- The pointers that stay close up and the others are counted less, one place a turn.
use Prim.Native.Nat.{ℕ, zero, suc, ◌+◌, ◌-◌, ◌≤◌, ◌<◌}
use mathlib.Core.Path.{◌≡◌, refl, sym, ap, ◌∙◌}
use mathlib.Core.Logic.{◌⊎◌, ⊎_elim}
use mathlib.Core.Bool.{Bool, true, false, ◌&&◌, ◌||◌, not, cond}
use mathlib.Core.List.{List, [], ◌∷◌, ◌++◌, append-nil}
use native.Mathlib.Nat.{le_of_suc-le-suc, not-suc-le-zero}
use native.Mathlib.Numerals.{add-one}
use native.Mathlib.Omega.{arith}
use lib.Dec.{eqb}
use lib.ListN.{length, take, drop, get_or, set, length-set}
use lib.Seq.{take-suc-set, take-take, drop-set-lt, drop-drop, drop-length, get_or-take, get_or-drop, get_or-set_same, get_or-set_other, length-take-le}
use borrow.Author.Tests.{eq-eqb, ne_eqb}
use Rattle.laws.specs.ListsLaws.{same_or_other}
use Rattle.card.specs.Pointers.{source, destination, total, pointers_to, keep, keep_beside}
use Rattle.laws.specs.BesideLaws.{InStep, ended, onward, in_step, in_step_self}
use Rattle.laws.specs.KeepLaws.{total_keep}
use Rattle.walks.specs.Walk.{mark}
use Rattle.removal.specs.Dropping.{stays, Countable, ClosedUp}

-- ---- one place more

module _ (t : ℕ → Bool) where
  keep_more : (at : ℕ) {ws ns : List ℕ} → InStep ws ns → at < length ws
      → keep_beside t (take (suc at) ws) (take (suc at) ns) ≡ keep_beside t (take at ws) (take at ns) ++ cond (t (get_or ws at 0)) (get_or ns at 0 ∷ []) []
  unfolding keep_beside
  keep_more at ended l = absurd (not-suc-le-zero l)
  keep_more zero (onward s) l = refl
  keep_more (suc at) (onward {x = x} {n = n} {xs = xs} {ns = ns} s) l = go (t x) (keep_more at s (le_of_suc-le-suc l))
    where
      go : (u : Bool)
          → keep_beside t (take (suc at) xs) (take (suc at) ns) ≡ keep_beside t (take at xs) (take at ns) ++ cond (t (get_or xs at 0)) (get_or ns at 0 ∷ []) []
          → cond u (n ∷ keep_beside t (take (suc at) xs) (take (suc at) ns)) (keep_beside t (take (suc at) xs) (take (suc at) ns))
          ≡ cond u (n ∷ keep_beside t (take at xs) (take at ns)) (keep_beside t (take at xs) (take at ns)) ++ cond (t (get_or xs at 0)) (get_or ns at 0 ∷ []) []
      go true e = ap (λ (l : List ℕ). n ∷ l) e
      go false e = e

  total_more : (at : ℕ) {ws ns : List ℕ} → InStep ws ns → at < length ws
      → total t (take (suc at) ws) (take (suc at) ns) ≡ total t (take at ws) (take at ns) + cond (t (get_or ws at 0)) (get_or ns at 0) 0
  unfolding total
  total_more at ended l = absurd (not-suc-le-zero l)
  total_more zero (onward s) l = omega arith
  total_more (suc at) (onward s) l = omega (arith, total_more at s (le_of_suc-le-suc l))

  total_front : (at : ℕ) {ws ns : List ℕ} → InStep ws ns → at < length ws
      → total t (drop at ws) (drop at ns) ≡ cond (t (get_or ws at 0)) (get_or ns at 0) 0 + total t (drop (suc at) ws) (drop (suc at) ns)
  unfolding total
  total_front at ended l = absurd (not-suc-le-zero l)
  total_front zero (onward s) l = refl
  total_front (suc at) (onward s) l = total_front at s (le_of_suc-le-suc l)

-- ---- one table

-- What stands beside the pointers that stay is in the first `kept` places; the places from `at` on hold what they held.
pub record Gathering (t : ℕ → Bool) (used : ℕ) (ws before after : List ℕ) (kept at : ℕ) : Type 0 where
  pub front : take kept after ≡ keep_beside t (take at ws) (take at (take used before))
  pub rest : drop at after ≡ drop at before
  pub same : length after ≡ length before

module _ {t : ℕ → Bool} {used : ℕ} {ws before after : List ℕ} {kept at : ℕ} (h : Gathering t used ws before after kept at) where
  -- The place that is read still holds what it held.
  read_same : at < used → get_or after at 0 ≡ get_or (take used before) at 0
  read_same l =
      let z : at + 0 ≡ at = omega arith in
      ap (λ (k : ℕ). get_or after k 0) (sym z)
      ∙ sym (get_or-drop at after 0 0)
      ∙ ap (λ (xs : List ℕ). get_or xs 0 0) h.rest
      ∙ get_or-drop at before 0 0
      ∙ ap (λ (k : ℕ). get_or before k 0) z
      ∙ sym (get_or-take used before at 0 l)

  rest_more : drop (at + 1) after ≡ drop (at + 1) before
  rest_more = sym (drop-drop 1 at after) ∙ ap (drop 1) h.rest ∙ drop-drop 1 at before

  module _ (s : InStep ws (take used before)) (l : at < length ws) where
    gathering_pass : t (get_or ws at 0) ≡ false → Gathering t used ws before after kept (at + 1)
    gathering_pass e = record {
      front = h.front ∙ sym (rw (add-one at) (keep_more t at s l ∙ rw e (append-nil _)));
      rest = rest_more;
      same = h.same;
    }

    gathering_keep : at < used → used ≤ length before → kept ≤ at → t (get_or ws at 0) ≡ true → Gathering t used ws before (set after kept (get_or after at 0)) (kept + 1) (at + 1)
    gathering_keep m fits low e =
        let first_places : take (kept + 1) (set after kept (get_or after at 0)) ≡ take kept after ++ (get_or after at 0 ∷ []) =
        rw (add-one kept) (take-suc-set after kept (get_or after at 0) (omega (arith, h.same))) in
        record {
          front = first_places ∙ rw (h.front, read_same m) (sym (rw (add-one at) (keep_more t at s l ∙ rw e)));
          rest = drop-set-lt (at + 1) after kept (get_or after at 0) (omega arith) ∙ rest_more;
          same = length-set after kept _ ∙ h.same;
        }

-- ---- both tables and the counts

module _ (marks : List ℕ) (gone used : ℕ) (counts pointers multiplicities : List ℕ) where
  abbrev ws : List ℕ
  ws = take used pointers

  abbrev ns : List ℕ
  ns = take used multiplicities

  -- A pointer to the block that stays.
  abbrev stays_to : ℕ → ℕ → Bool
  stays_to b w = stays marks gone w && eqb (destination w) b

  -- Of the pointers before `at` those that stay stand in the first `kept` places. They are counted, and all from `at` on.
  pub record Closing (counts' pointers' multiplicities' : List ℕ) (kept at : ℕ) : Type 0 where
    pub most : at ≤ used
    pub low : kept ≤ at
    pub in_pointers : Gathering (stays marks gone) used ws pointers pointers' kept at
    pub in_times : Gathering (stays marks gone) used ws multiplicities multiplicities' kept at
    pub same_counts : length counts' ≡ length counts
    pub counted : (b : ℕ) → b < length counts → get_or counts' b 0 ≡ total (stays_to b) (take at ws) (take at ns) + pointers_to b (drop at ws) (drop at ns)

  module _ (r : Countable counts pointers multiplicities used) where
    long : length ws ≡ used
    long = length-take-le used pointers r.walkable.within

    steps : InStep ws ns
    steps = in_step ws ns (long ∙ sym (length-take-le used multiplicities (omega (arith, r.paired.same, r.walkable.within))))

    pub closing_none : Closing counts pointers multiplicities 0 0
    unfolding keep_beside total
    closing_none = record {
      most = omega arith;
      low = omega arith;
      in_pointers = record { front = refl; rest = refl; same = refl };
      in_times = record { front = refl; rest = refl; same = refl };
      same_counts = refl;
      counted = λ b i. omega (arith, r.right b i);
    }

    module _ {counts' pointers' multiplicities' : List ℕ} {kept at : ℕ} (h : Closing counts' pointers' multiplicities' kept at) (l : at < used) where
      inside : at < length ws
      inside = omega (arith, long)

      -- What is read is the pointer that was there, and its multiplicity.
      pub read_pointer : get_or pointers' at 0 ≡ get_or ws at 0
      read_pointer = read_same h.in_pointers l

      read_times : get_or multiplicities' at 0 ≡ get_or ns at 0
      read_times = read_same h.in_times l

      pub closing_source : source (get_or pointers' at 0) < 4096
      closing_source = rw (read_pointer, get_or-take used pointers at 0 l) (r.walkable.source_low at l)

      pub closing_destination : destination (get_or pointers' at 0) < length counts
      closing_destination = rw (read_pointer, get_or-take used pointers at 0 l) (r.low at l)

      -- The count of a block is made up of what stays before the place, of the pointer at the place, and of those behind it.
      parts : (b : ℕ) → b < length counts
          → get_or counts' b 0
          ≡ total (stays_to b) (take at ws) (take at ns)
          + (cond (eqb (destination (get_or pointers' at 0)) b) (get_or multiplicities' at 0) 0 + pointers_to b (drop (at + 1) ws) (drop (at + 1) ns))
      parts b i = rw (read_pointer, read_times, add-one at, ← total_front (λ w. eqb (destination w) b) at steps inside) (h.counted b i)

      sum_more : (b : ℕ)
          → total (stays_to b) (take (at + 1) ws) (take (at + 1) ns)
          ≡ total (stays_to b) (take at ws) (take at ns) + cond (stays_to b (get_or pointers' at 0)) (get_or multiplicities' at 0) 0
      sum_more b = rw (read_pointer, read_times, add-one at) (total_more (stays_to b) at steps inside)

      -- The destination is counted often enough.
      pub closing_enough : get_or multiplicities' at 0 ≤ get_or counts' (destination (get_or pointers' at 0)) 0
      closing_enough =
          let d : ℕ = destination (get_or pointers' at 0) in
          let one : cond (eqb d d) (get_or multiplicities' at 0) 0 ≡ get_or multiplicities' at 0 = rw (eq-eqb d d refl) in
          omega (arith, parts d closing_destination)

      module _ (e : eqb (get_or pointers' at 0) gone || eqb (mark marks (source (get_or pointers' at 0))) 1 ≡ true) where
        goes : stays marks gone (get_or pointers' at 0) ≡ false
        unfolding stays
        goes = ap not e

        goes_there : stays marks gone (get_or ws at 0) ≡ false
        goes_there = ap (stays marks gone) (sym read_pointer) ∙ goes

        pub closing_drop : Closing (set counts' (destination (get_or pointers' at 0)) (get_or counts' (destination (get_or pointers' at 0)) 0 - get_or multiplicities' at 0)) pointers' multiplicities' kept (at + 1)
        closing_drop =
            let d : ℕ = destination (get_or pointers' at 0) in
            let times : ℕ = get_or multiplicities' at 0 in
            record {
              most = omega arith;
              low = omega (arith, h.low);
              in_pointers = gathering_pass h.in_pointers (in_step_self ws) inside goes_there;
              in_times = gathering_pass h.in_times steps inside goes_there;
              same_counts = length-set counts' d _ ∙ h.same_counts;
              counted = λ b i.
                  let none : cond (stays_to b (get_or pointers' at 0)) times 0 ≡ 0 = rw goes in
                  ⊎_elim
                  (λ (q : b ≡ d).
                  let one : cond (eqb d b) times 0 ≡ times = rw (eq-eqb d b (sym q)) in
                  let left : get_or (set counts' d (get_or counts' d 0 - times)) b 0 ≡ get_or counts' d 0 - times =
                  rw q (get_or-set_same counts' d _ 0 (omega (arith, h.same_counts))) in
                  let same : get_or counts' b 0 ≡ get_or counts' d 0 = ap (λ (k : ℕ). get_or counts' k 0) q in
                  omega (arith, parts b i, sum_more b))
                  (λ (n : b ≡ d → ⊥).
                  let other : cond (eqb d b) times 0 ≡ 0 = rw (ne_eqb d b (λ q. n (sym q))) in
                  let left : get_or (set counts' d (get_or counts' d 0 - times)) b 0 ≡ get_or counts' b 0 = get_or-set_other counts' d b _ 0 n in
                  omega (arith, parts b i, sum_more b))
                  (same_or_other b d);
            }

      module _ (e : eqb (get_or pointers' at 0) gone || eqb (mark marks (source (get_or pointers' at 0))) 1 ≡ false) where
        keeps : stays marks gone (get_or pointers' at 0) ≡ true
        unfolding stays
        keeps = ap not e

        keeps_there : stays marks gone (get_or ws at 0) ≡ true
        keeps_there = ap (stays marks gone) (sym read_pointer) ∙ keeps

        pub closing_keep : Closing counts' (set pointers' kept (get_or pointers' at 0)) (set multiplicities' kept (get_or multiplicities' at 0)) (kept + 1) (at + 1)
        closing_keep = record {
          most = omega arith;
          low = omega (arith, h.low);
          in_pointers = gathering_keep h.in_pointers (in_step_self ws) inside l r.walkable.within h.low keeps_there;
          in_times = gathering_keep h.in_times steps inside l (omega (arith, r.paired.same, r.walkable.within)) h.low keeps_there;
          same_counts = h.same_counts;
          counted = λ b i.
              let all : cond (stays_to b (get_or pointers' at 0)) (get_or multiplicities' at 0) 0 ≡ cond (eqb (destination (get_or pointers' at 0)) b) (get_or multiplicities' at 0) 0 =
              rw keeps in
              omega (arith, parts b i, sum_more b);
        }

    -- Either way.
    pub closing_more : {counts' pointers' multiplicities' counts'' pointers'' multiplicities'' : List ℕ} {kept kept'' at : ℕ}
        → Closing counts' pointers' multiplicities' kept at → at < used
        → let w = get_or pointers' at 0 in
        let times = get_or multiplicities' at 0 in
        let leaves = eqb w gone || eqb (mark marks (source w)) 1 in
        ((leaves ≡ true)
        × ((counts'' ≡ set counts' (destination w) (get_or counts' (destination w) 0 - times))
        × ((pointers'' ≡ pointers') × ((multiplicities'' ≡ multiplicities') × (kept'' ≡ kept)))))
        ⊎ ((leaves ≡ false)
        × ((counts'' ≡ counts') × ((pointers'' ≡ set pointers' kept w) × ((multiplicities'' ≡ set multiplicities' kept times) × (kept'' ≡ kept + 1)))))
        → Closing counts'' pointers'' multiplicities'' kept'' (at + 1)
    closing_more h l f =
        ⊎_elim
        (λ w. rw (w.1.0, w.1.1.0, w.1.1.1.0, w.1.1.1.1) (closing_drop h l w.0))
        (λ w. rw (w.1.0, w.1.1.0, w.1.1.1.0, w.1.1.1.1) (closing_keep h l w.0))
        f

    pub closing_whole : {counts' pointers' multiplicities' : List ℕ} {kept at : ℕ} → Closing counts' pointers' multiplicities' kept at → used ≤ at
        → ClosedUp marks gone used counts pointers multiplicities counts' pointers' multiplicities' kept
    unfolding keep total
    closing_whole {counts'} {pointers'} {multiplicities'} {kept} {at} h l =
        let e : at ≡ used = omega (arith, h.most) in
        let front : take kept pointers' ≡ keep (stays marks gone) ws = h.in_pointers.front ∙ rw (e, take-take used used pointers (omega arith)) refl in
        record {
          is_kept = sym (length-take-le kept pointers' (omega (arith, h.low, h.in_pointers.same, r.walkable.within))) ∙ ap length front;
          front = front;
          front_times = h.in_times.front ∙ rw (e, take-take used used pointers (omega arith), take-take used used multiplicities (omega arith)) refl;
          behind = rw e at h.in_pointers.rest;
          behind_times = rw e at h.in_times.rest;
          same_counts = h.same_counts;
          counted = λ b i.
              let nothing : pointers_to b (drop at ws) (drop at ns) ≡ 0 = rw (e, ap (λ (n : ℕ). drop n ws) (sym long) ∙ drop-length ws) in
              let all : total (stays_to b) (take at ws) (take at ns) ≡ total (stays_to b) ws ns =
              rw (e, take-take used used pointers (omega arith), take-take used used multiplicities (omega arith)) refl in
              omega (arith, h.counted b i, total_keep (stays marks gone) (λ w. eqb (destination w) b) steps);
        }
