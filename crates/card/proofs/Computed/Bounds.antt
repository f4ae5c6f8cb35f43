-- A bound on what is within reach, by a test that can be computed.
use Prim.Native.Nat.{ℕ}
use mathlib.Core.Bool.{Bool, true, false, ◌&&◌, ◌||◌, not}
use mathlib.Core.List.{List, [], ◌∷◌}
use mathlib.Core.Logic.{⊎_elim}
use mathlib.Core.Path.{◌≡◌, ap}
use borrow.Author.Tests.{not-true}
use Rattle.card.specs.Lists.{every, all_below}
use Rattle.card.specs.Card.{Card, allocated, is_root, window_open, points_to}
use Rattle.card.specs.Reach.{key_presented, sealed, Reach, unsealed_root, by_key, open_window, pointed}
use Rattle.card.specs.declared.Mode.{Mode}
use Rattle.card.specs.declared.Mode.TheVariants.{Reading, Writing}
use Rattle.card.proofs.Computed.TestLaws.{and_true, or_false, or_else, not_cases, absurd_test, every_true, all_below_true}
use Rattle.card.proofs.Computed.SoundLaws.{allocated_below}

-- The named blocks hold every block within reach of the keys: they hold what is so by itself, and where a pointer leads on from them.
unfoldable pub bounds : (ℕ → ℕ → Bool) → Card → (ℕ → Bool) → Bool
bounds K c test =
    all_below
    (λ b.
    not (allocated c.public b)
    || test b
    || every
    (not (is_root c.public b && not (sealed K c b))
    ∷ not (key_presented K c Reading b)
    ∷ not (key_presented K c Writing b)
    ∷ not (window_open c.public Reading b)
    ∷ not (window_open c.public Writing b)
    ∷ all_below (λ a. not (test a && (points_to c.public a b && not (sealed K c b)))) c.public.info.blocks
    ∷ []))
    c.public.info.blocks

pub reach_allocated : (K : ℕ → ℕ → Bool) (c : Card) {b : ℕ} → Reach K c b → allocated c.public b ≡ true
reach_allocated K c (unsealed_root a r s) = a
reach_allocated K c (by_key mode a h) = a
reach_allocated K c (open_window mode a o) = a
reach_allocated K c (pointed g a p s) = a

module _ (K : ℕ → ℕ → Bool) (c : Card) (test : ℕ → Bool) (h : bounds K c test ≡ true) where
  abbrev rest : ℕ → List Bool
  rest b =
      not (is_root c.public b && not (sealed K c b))
      ∷ not (key_presented K c Reading b)
      ∷ not (key_presented K c Writing b)
      ∷ not (window_open c.public Reading b)
      ∷ not (window_open c.public Writing b)
      ∷ all_below (λ a. not (test a && (points_to c.public a b && not (sealed K c b)))) c.public.info.blocks
      ∷ []

  -- An allocated block that the test does not name passes the rest.
  passes : (b : ℕ) → allocated c.public b ≡ true → test b ≡ false → every (rest b) ≡ true
  unfolding bounds
  passes b a f =
      or_else (not (allocated c.public b) || test b) (every (rest b))
      (all_below_true (λ b. not (allocated c.public b) || test b || every (rest b)) c.public.info.blocks h b (allocated_below c.public b a))
      (or_false _ _ (ap not a) f)

  named : (b : ℕ) → allocated c.public b ≡ true → (test b ≡ false → ⊥) → test b ≡ true
  named b a n = ⊎_elim (λ e. e) (λ f. absurd (n f)) (not_cases (test b))

  by_keys : (mode : Mode) (b : ℕ) → allocated c.public b ≡ true → test b ≡ false → key_presented K c mode b ≡ false
  by_keys Reading b a f = not-true _ (every_true (rest b) (passes b a f)).1.0
  by_keys Writing b a f = not-true _ (every_true (rest b) (passes b a f)).1.1.0

  by_windows : (mode : Mode) (b : ℕ) → allocated c.public b ≡ true → test b ≡ false → window_open c.public mode b ≡ false
  by_windows Reading b a f = not-true _ (every_true (rest b) (passes b a f)).1.1.1.0
  by_windows Writing b a f = not-true _ (every_true (rest b) (passes b a f)).1.1.1.1.0

  -- Every block within reach is named.
  pub reach_inside : {b : ℕ} → Reach K c b → test b ≡ true
  reach_inside (unsealed_root {b = b} a r s) =
      named b a (λ f. absurd_test (and_true _ _ r (ap not s)) (not-true _ (every_true (rest b) (passes b a f)).0))
  reach_inside (by_key {b = b} mode a k) = named b a (λ f. absurd_test k (by_keys mode b a f))
  reach_inside (open_window {b = b} mode a o) = named b a (λ f. absurd_test o (by_windows mode b a f))
  reach_inside (pointed {a = x} {b = b} g a p s) =
      named b a
      (λ f.
      absurd_test (and_true _ _ (reach_inside g) (and_true _ _ p (ap not s)))
      (not-true _
      (all_below_true (λ a. not (test a && (points_to c.public a b && not (sealed K c b)))) c.public.info.blocks
      (every_true (rest b) (passes b a f)).1.1.1.1.1.0 x (allocated_below c.public x (reach_allocated K c g)))))
