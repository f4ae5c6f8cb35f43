-- Numbers in a row put into the first places, one after the other, over plain values.
use Prim.Native.Nat.{ℕ, suc, ◌+◌, ◌-◌, ◌≤◌, ◌<◌}
use mathlib.Core.Path.{◌≡◌, sym, ap, ◌∙◌}
use mathlib.Core.List.{List}
use native.Mathlib.Omega.{arith}
use lib.ListN.{length, set, length-set}
use Rattle.card.specs.Lists.{numbers_from}
use Rattle.card.specs.Contents.{overwrite}
use Rattle.allocation.proofs.Outward.{overwrite_none, overwrite_next}

-- After `listed` of them: with the others written behind these, the places are those of all.
pub record Listed (first count : ℕ) (places₀ places : List ℕ) (listed : ℕ) : Type 0 where
  pub narrow : first + count ≤ 65536
  pub fits : count ≤ length places₀
  pub most : listed ≤ count
  pub whole : overwrite places listed (numbers_from (first + listed) (count - listed)) ≡ overwrite places₀ 0 (numbers_from first count)
  pub same_places : length places ≡ length places₀

module _ {first count : ℕ} {places₀ places : List ℕ} {listed : ℕ} (w : Listed first count places₀ places listed) where
  pub listed_more : listed < count → Listed first count places₀ (set places listed (first + listed)) (listed + 1)
  unfolding numbers_from
  listed_more more =
      let one : count - listed ≡ suc (count - (listed + 1)) = omega arith in
      let next : first + (listed + 1) ≡ suc (first + listed) = omega arith in
      record {
        narrow = w.narrow;
        fits = w.fits;
        most = omega arith;
        whole =
            rw next (overwrite_next places listed (first + listed) _ (omega (arith, w.fits, w.same_places)))
            ∙ ap (λ (k : ℕ). overwrite places listed (numbers_from (first + listed) k)) (sym one)
            ∙ w.whole;
        same_places = length-set places listed (first + listed) ∙ w.same_places;
      }

  pub listed_whole : count ≤ listed → places ≡ overwrite places₀ 0 (numbers_from first count)
  unfolding numbers_from
  listed_whole l =
      let none : count - listed ≡ 0 = omega arith in
      sym (overwrite_none places listed) ∙ (rw none at w.whole)
