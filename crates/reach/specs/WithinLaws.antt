-- What a walk of a sound card goes along: the pointers in use to blocks that are not sealed.
use Prim.Native.Nat.{ℕ, ◌<◌}
use Rattle.std.specs.Prelude.{◌≡◌, false, List}
use Rattle.std.proofs.Math.Path.{ap, subst}
use Rattle.std.proofs.Common.{◌∙◌}
use Rattle.std.proofs.Math.Logic.{⊎_elim}
use Rattle.std.proofs.Math.Bool.{true}
use native.Mathlib.Omega.{arith}
use Rattle.std.proofs.Math.ListN.{get_or}
use Rattle.laws.specs.ListsLaws.{not_cases}
use Rattle.card.specs.Pointers.{pointer, source, destination}
use Rattle.laws.specs.PointersLaws.{source_pointer, destination_pointer}
use Rattle.laws.specs.NearestLaws.{Place, contains_place, place_contains}
use Rattle.card.specs.Card.{Card, allocated, points_to, in_use}
use Rattle.card.specs.SoundCard.{SoundCard, RightPointer}
use Rattle.laws.specs.SoundnessLaws.{allocated_below}
use Rattle.card.specs.Reach.{sealed}
use Rattle.report.specs.Report.{given}
use Rattle.walks.specs.Walk.{Edge}
use Rattle.walks.specs.WalkLaws.{sound_right}
use Rattle.walks.specs.declared.Direction.TheVariants.{Along, Against}
use Rattle.reach.specs.Within.{Shut}

-- ---- the two directions

-- Against the pointers a walk goes along the same ones.
pub turned : {shut ws : List ℕ} {a b : ℕ} → Edge Against shut ws a b → Edge Along shut ws b a
turned e = record { at = e.at; within = e.within; starts = e.ends; ends = e.starts; is_open = e.is_open }

pub turned_back : {shut ws : List ℕ} {a b : ℕ} → Edge Along shut ws b a → Edge Against shut ws a b
turned_back e = record { at = e.at; within = e.within; starts = e.ends; ends = e.starts; is_open = e.is_open }

-- ---- the pointers of a sound card

module _ (c : Card) (s : SoundCard c) where
  module _ {words shut : List ℕ} (h : Shut words c c.public.info.blocks shut) where
    -- A pointer between allocated blocks whose destination is not sealed.
    pub record Opens (a b : ℕ) : Type 0 where
      pub points : points_to c.public a b ≡ true
      pub is_source : allocated c.public a ≡ true
      pub is_destination : allocated c.public b ≡ true
      pub unsealed : sealed (given words) c b ≡ false

    pub along_opens : {a b : ℕ} → Edge Along shut (in_use c.public) a b → Opens a b
    unfolding points_to
    along_opens {a} {b} e =
        let w : ℕ = get_or (in_use c.public) e.at 0 in
        let r : RightPointer c.public w = sound_right c s e.at e.within in
        let whole : w ≡ pointer (source w) (destination w) = omega arith in
        let to : allocated c.public b ≡ true = subst (λ (x : ℕ). allocated c.public x ≡ true) e.ends r.destination_allocated in
        record {
          points = rw (← e.starts, ← e.ends, ← whole) (place_contains (in_use c.public) e.at e.within);
          is_source = subst (λ (x : ℕ). allocated c.public x ≡ true) e.starts r.source_allocated;
          is_destination = to;
          unsealed =
              ⊎_elim
              (λ (t : sealed (given words) c b ≡ true).
              let one : get_or shut b 0 ≡ 1 = h.is_shut b (allocated_below c.public b to) t in
              let none : get_or shut b 0 ≡ 0 = subst (λ (x : ℕ). get_or shut x 0 ≡ 0) e.ends e.is_open in
              absurd (omega arith))
              (λ (t : sealed (given words) c b ≡ false). t)
              (not_cases (sealed (given words) c b));
        }

    pub opens_along : (a b : ℕ) → b < c.public.info.blocks → points_to c.public a b ≡ true → sealed (given words) c b ≡ false
        → Edge Along shut (in_use c.public) a b
    unfolding points_to
    opens_along a b l p t =
        let w : Place (in_use c.public) (pointer a b) = contains_place (pointer a b) (in_use c.public) p in
        let narrow : b < 65536 = omega (arith, s.shaped.in_ranges.blocks_high) in
        let ends : destination (get_or (in_use c.public) w.at 0) ≡ b = ap (λ (x : ℕ). destination x) w.is ∙ destination_pointer a b narrow in
        record {
          at = w.at;
          within = w.within;
          starts = ap (λ (x : ℕ). source x) w.is ∙ source_pointer a b narrow;
          ends = ends;
          is_open = rw ends (h.is_open b l t);
        }
