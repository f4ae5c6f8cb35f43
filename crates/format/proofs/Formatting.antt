-- What FORMAT tests, and the fresh card that it leaves.
use Prim.Native.Nat.{ℕ, ◌+◌, ◌-◌, ◌*◌, ◌≤◌}
use mathlib.Core.Path.{◌≡◌, refl, sym, ap, ◌∙◌, subst}
use mathlib.Core.Bool.{Bool, true, false, ◌&&◌}
use mathlib.Core.List.{List, [], ◌++◌}
use native.Mathlib.Nat.{mul-le-mul_right}
use native.Mathlib.Omega.{arith}
use lib.Dec.{leb}
use lib.ListN.{length, take, replicate, length-replicate}
use lib.Seq.{length-take-le}
use borrow.Author.Tests.{le-leb}
use borrow.Rule.Slice.PartMut.{put_mid}
use Rattle.card.specs.Lists.{every}
use Rattle.laws.specs.ListsLaws.{and_true}
use Rattle.card.specs.Contents.{zeros, overwrite}
use Rattle.card.specs.Card.{Card, card}
use Rattle.card.specs.Soundness.{ranges, lengths, shape}
use Rattle.card.specs.SoundCard.{Shaped}
use Rattle.laws.specs.SoundnessLaws.{shape_true}
use Rattle.card.specs.Calls.{fresh_info, format, format_result}
use Rattle.card.specs.Promises.{Is}
use Rattle.laws.specs.PromisesLaws.{is_same}
use Rattle.card.specs.declared.Info.{Info}
use Rattle.card.specs.declared.LentCard.{LentCard}
use Rattle.card.specs.declared.SharedCard.{SharedCard}
use Rattle.card.specs.declared.Refusal.TheVariants.{Misshapen}
use Rattle.card.specs.Answers.{Refused, Done}
use Rattle.card.specs.Lent.{Shows, lent_card}

-- ---- parts at the front

-- The roots' contents in front of the others'.
pub front_cleared : (xs : List ℕ) {ys : List ℕ} (n : ℕ) → ys ≡ zeros (length (take (n - 0) xs)) → n ≤ length xs → put_mid 0 (n - 0) xs ys ≡ overwrite xs 0 (zeros n)
unfolding overwrite
front_cleared xs {ys} n e h =
    let whole : n - 0 ≡ n = omega arith in
    let all : ys ≡ zeros n = (rw whole at e) ∙ ap zeros (length-take-le n xs h) in
    let long : 0 + length (zeros n) ≡ n = omega (arith, length-replicate {A = ℕ} n 0) in
    rw (whole, all, long)

-- ---- the roots of a fresh card of the right shape

-- The card with another record.
abbrev pub with_info : Card → Info → Card
with_info c info = card info c.public.flags c.keys c.public.counts c.public.pointers c.public.multiplicities c.public.windows c.contents

-- So it is on the tables that a card shows.
pub shown : (info : Info) {s : SharedCard} {t : LentCard} → Shows s t
    → card info s.flags.now s.keys.now s.counts.now s.pointers.now s.multiplicities.now s.windows.now s.contents.now ≡ with_info (lent_card t) info
shown info h = rw (h.flags, h.keys, h.counts, h.pointers, h.multiplicities, h.windows, h.contents)

module _ (c : Card) {blocks roots bytes : ℕ} {t : Bool} {info : Info} (made : info ≡ fresh_info blocks roots bytes) (told : t ≡ shape (with_info c info)) (e : t ≡ true) where
  told_shaped : Shaped (with_info c (fresh_info blocks roots bytes))
  told_shaped = subst (λ (i : Info). Shaped (with_info c i)) made (shape_true (with_info c info) (sym told ∙ e))

  pub roots_within : roots ≤ length c.public.flags
  roots_within =
      let s = told_shaped in
      omega (arith, s.in_ranges.blocks_low, s.in_ranges.roots_high, s.has_lengths.flags)

  pub size_low : roots * bytes ≤ 524288
  size_low =
      let s = told_shaped in
      let most : roots * bytes ≤ 8 * bytes = mul-le-mul_right bytes s.in_ranges.roots_high in
      omega (arith, s.in_ranges.bytes_high)

  pub size_within : roots * bytes ≤ length c.contents
  size_within =
      let s = told_shaped in
      let few : roots ≤ blocks = omega (arith, s.in_ranges.blocks_low, s.in_ranges.roots_high) in
      let most : roots * bytes ≤ blocks * bytes = mul-le-mul_right bytes few in
      omega (arith, s.has_lengths.contents)

-- ---- FORMAT

module _ (c : Card) (blocks roots bytes : ℕ) {info : Info} {t : Bool} (made : info ≡ fresh_info blocks roots bytes) (told : t ≡ shape (with_info c info)) where
  clauses : (a b d : Bool) → d ≡ true → a && (true && (b && (d && true))) ≡ a && b
  clauses true true d e = and_true d true e refl
  clauses true false d e = refl
  clauses false b d e = refl

  -- On a fresh record the shape is FORMAT's own test.
  test_is : ranges blocks roots bytes && lengths blocks bytes c ≡ t
  unfolding shape every lengths
  test_is = sym ((rw made at told) ∙ clauses (ranges blocks roots bytes) (lengths blocks bytes c) (leb 0 (length c.public.pointers)) (le-leb 0 (length c.public.pointers) (omega arith)))

  pub format_refused : t ≡ false → Is (format blocks roots bytes c) (Refused Misshapen) c [] []
  unfolding format format_result
  format_refused e =
      is_same (ap (λ (u : Bool). format_result u blocks roots bytes c) (test_is ∙ e))
      (record { answers = refl; leaves = refl; fills_out = refl; fills_places = refl })

  pub format_done : t ≡ true
      → {flags keys counts pointers multiplicities windows contents : List ℕ}
      → flags ≡ replicate roots 1 ++ zeros (length c.public.flags - roots)
      → keys ≡ zeros (length c.keys)
      → counts ≡ zeros (length c.public.counts)
      → pointers ≡ zeros (length c.public.pointers)
      → multiplicities ≡ zeros (length c.public.multiplicities)
      → windows ≡ zeros (length c.public.windows)
      → contents ≡ overwrite c.contents 0 (zeros (roots * bytes))
      → Is (format blocks roots bytes c) Done (card info flags keys counts pointers multiplicities windows contents) [] []
  unfolding format format_result
  format_done e f k n p m w o =
      let s = told_shaped c made told e in
      is_same (ap (λ (u : Bool). format_result u blocks roots bytes c) (test_is ∙ e))
      (record {
        answers = refl;
        leaves =
            rw (made, f, k, n, p, m, w, o, s.has_lengths.flags, s.has_lengths.keys, s.has_lengths.counts, s.has_lengths.windows);
        fills_out = refl;
        fills_places = refl;
      })
