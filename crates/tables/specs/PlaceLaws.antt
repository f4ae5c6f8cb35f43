-- The place of a pointer in use: what stands beside it, and what a store, an insertion or a removal there is.
use Rattle.std.specs.Prelude.{ℕ, ◌≤◌, ◌<◌, ◌≡◌, true, false, List, ◌++◌, ltb, eqb, length, take, drop, get_or, set}
use Rattle.std.proofs.Math.Path.{sym}
use Rattle.std.proofs.Common.{◌∙◌, arith, ltb-true, get_or-take, length-take-le}
use Rattle.laws.specs.ListsLaws.{and_left}
use Rattle.card.specs.Pointers.{contains, beside, insert, remove, insert_beside, remove_beside, set_beside}
use Rattle.laws.specs.BesideLaws.{InStep, in_step, in_step_self, beside_absent}
use Rattle.tables.specs.Places.{insert_at, remove_at}
use Rattle.tables.specs.Rank.{rank}
use Rattle.tables.specs.RankLaws.{rank_length, contains_rank}
use Rattle.tables.specs.BesideRank.{insert_beside_rank, remove_beside_rank, set_beside_rank, beside_rank, set_within}
use Rattle.tables.specs.InUse.{Sorted, Paired, Raisable, Lowerable}

pub rank_place : (w : ℕ) {pointers : List ℕ} {used at : ℕ} → Sorted pointers used → at ≡ rank w (take used pointers) → at ≤ used
rank_place w {pointers} {used} s e = omega (arith, rank_length w (take used pointers), length-take-le used pointers s.within)

pub place_within : (w : ℕ) {pointers : List ℕ} {used at : ℕ} → Sorted pointers used → at ≡ rank w (take used pointers) → contains w (take used pointers) ≡ true → at < used
place_within w {pointers} {used} s e present =
    let ws : List ℕ = take used pointers in
    let found : rank w ws < length ws =
    ltb-true (rank w ws) (length ws) (and_left (ltb (rank w ws) (length ws)) (eqb (get_or ws (rank w ws) 0) w) (sym (contains_rank w ws s.ascends) ∙ present)) in
    omega (arith, length-take-le used pointers s.within)

module _ (w : ℕ) {pointers multiplicities : List ℕ} {used at : ℕ} (sorted : Sorted pointers used) (paired : Paired pointers multiplicities)
    (place : at ≡ rank w (take used pointers)) where
  step : InStep (take used pointers) (take used multiplicities)
  step =
      in_step (take used pointers) (take used multiplicities)
      (length-take-le used pointers sorted.within ∙ sym (length-take-le used multiplicities (omega (arith, sorted.within, paired.same))))

  pub can_put : used < length pointers → Raisable pointers used 1 at
  can_put l = record { place = rank_place w sorted place; room = omega arith }

  pub times_missed : contains w (take used pointers) ≡ false → 0 ≡ beside w (take used pointers) (take used multiplicities)
  times_missed absent = sym (beside_absent w (take used pointers) (take used multiplicities) absent)

  module _ (present : contains w (take used pointers) ≡ true) where
    inside : at < used
    inside = place_within w sorted place present

    pub can_take_away : Lowerable pointers used at
    can_take_away = record { place = inside; within = sorted.within }

    pub times_there : get_or multiplicities at 0 ≡ beside w (take used pointers) (take used multiplicities)
    times_there = sym (rw (beside_rank w step sorted.ascends present, ← place) (get_or-take used multiplicities at 0 inside))

    pub times_set : (m : ℕ) → set multiplicities at m ≡ set_beside w m (take used pointers) (take used multiplicities) ++ drop used multiplicities
    times_set m = sym (rw (set_beside_rank w m step sorted.ascends present, ← place) (set_within used at m multiplicities inside))

    pub removed : remove_at at (take used pointers) ≡ remove w (take used pointers)
    unfolding remove
    removed = sym (rw (remove_beside_rank w (in_step_self (take used pointers)) sorted.ascends present, place))

    pub removed_beside : remove_at at (take used multiplicities) ≡ remove_beside w (take used pointers) (take used multiplicities)
    removed_beside = sym (rw (remove_beside_rank w step sorted.ascends present, place))

  module _ (absent : contains w (take used pointers) ≡ false) where
    pub inserted : insert_at at w (take used pointers) ≡ insert w (take used pointers)
    unfolding insert
    inserted = sym (rw (insert_beside_rank w w (in_step_self (take used pointers)) sorted.ascends absent, place))

    pub inserted_beside : (m : ℕ) → insert_at at m (take used multiplicities) ≡ insert_beside w m (take used pointers) (take used multiplicities)
    inserted_beside m = sym (rw (insert_beside_rank w m step sorted.ascends absent, place))
