-- What FREE, TICK and RENT return, by each way out.
use Prim.Native.Nat.{ℕ, ◌+◌, ◌-◌, ◌*◌, ◌^◌, ◌≤◌, ◌<◌}
use mathlib.Core.Path.{◌≡◌, refl, ◌∙◌}
use mathlib.Core.List.{[]}
use native.Mathlib.Omega.{arith}
use lib.ListN.{length}
use borrow.Author.Tests.{le-leb, lt-leb, lt-ltb, le-ltb}
use Rattle.card.specs.Card.{Card, card}
use Rattle.card.specs.Rent.{rented, rent_for, highest_price, cents}
use Rattle.laws.specs.RentLaws.{rent_in_time}
use Rattle.card.specs.Soundness.{time_limit}
use Rattle.card.specs.SoundCard.{SoundCard}
use Rattle.card.specs.Plan.{here, with_time, changes, change, change_public, change_keys, change_contents, out_after, places_after}
use Rattle.card.specs.Promises.{Is}
use Rattle.laws.specs.PromisesLaws.{is_refused, is_done}
use Rattle.card.specs.Calls.{free_plan, tick_plan, rent_plan}
use Rattle.card.specs.Session.{plan, perform_sound, request}
use Rattle.card.specs.declared.Info.{Info}
use Rattle.card.specs.declared.Port.{Port}
use Rattle.card.specs.declared.TickOperands.{TickOperands}
use Rattle.card.specs.declared.RentOperands.{RentOperands}
use Rattle.card.specs.declared.Call.TheVariants.{Free, Tick, Rent}
use Rattle.card.specs.declared.Refusal.TheVariants.{TimeEnds, PriceTooHigh}
use Rattle.card.specs.Answers.{Value}
use Rattle.std.specs.Prelude.{Err}
use Rattle.tables.specs.Free.{free_below}
use Rattle.tables.specs.FreeLaws.{flags_free}
use Rattle.tables.specs.Rented.{rented_below}
use Rattle.tables.specs.RentedLaws.{rented_ordinary}

pub free_done : {c : Card} (port : Port) → SoundCard c → {n : ℕ} → n ≡ length (free_below c.public.flags (length c.public.flags))
    → Is (perform_sound port c (request Free [] [] [])) (Value n) c [] []
unfolding perform_sound plan free_plan changes out_after places_after
free_done {c} port s e =
    rw (e, flags_free c.public s.shaped.has_lengths.flags)
    (is_done c (request Free [] [] []).lent (free_plan c.public) tt refl refl refl)

-- ---- TICK

module _ (c : Card) (o : TickOperands) where
  pub tick_late : (port : Port) → time_limit - c.public.info.time ≤ o.seconds → Is (perform_sound port c (request (Tick o) [] [] [])) (Err TimeEnds) c [] []
  unfolding perform_sound plan tick_plan
  tick_late port h = is_refused c _ _ (here (le-leb time_limit (c.public.info.time + o.seconds) (omega arith)))

  module _ (s : SoundCard c) (h : o.seconds < time_limit - c.public.info.time) {n : ℕ}
      (e : n ≡ length (rented_below c.public.info.roots c.public.flags (length c.public.flags))) where
    rented_here : n ≡ rented c.public
    rented_here = e ∙ rented_ordinary c.public s.shaped.has_lengths.flags

    -- The new total is at most the new time times 4,096.
    pub total_fits : c.public.info.total + o.seconds * n < 2 ^ 64
    unfolding rent_for
    total_fits = rw rented_here (omega (arith, rent_in_time c.public o.seconds s.shaped.in_ranges.blocks_high s.is_sound.total_low))

    pub tick_done : (port : Port) {left : Info} → left ≡ with_time c.public.info (c.public.info.time + o.seconds) (c.public.info.total + o.seconds * n)
        → Is (perform_sound port c (request (Tick o) [] [] [])) (Value (c.public.info.time + o.seconds)) (card left c.public.flags c.keys c.public.counts c.public.pointers c.public.multiplicities c.public.windows c.contents) [] []
    unfolding perform_sound plan tick_plan rent_for changes change change_public change_keys change_contents out_after places_after
    tick_done port told =
        rw (told, rented_here)
        (is_done c (request (Tick o) [] [] []).lent (tick_plan c.public o)
        (lt-leb time_limit (c.public.info.time + o.seconds) (omega arith), tt) refl refl refl)

-- ---- RENT

module _ (c : Card) (o : RentOperands) (port : Port) where
  pub rent_high : highest_price < o.price → Is (perform_sound port c (request (Rent o) [] [] [])) (Err PriceTooHigh) c [] []
  unfolding perform_sound plan rent_plan
  rent_high h = is_refused c _ _ (here (lt-ltb highest_price o.price h))

  pub rent_done : o.price ≤ highest_price → {n : ℕ} → n ≡ cents c.public.info.total o.price
      → Is (perform_sound port c (request (Rent o) [] [] [])) (Value n) c [] []
  unfolding perform_sound plan rent_plan changes out_after places_after
  rent_done h e =
      rw e
      (is_done c (request (Rent o) [] [] []).lent (rent_plan c.public o) (le-ltb highest_price o.price h, tt) refl refl refl)
