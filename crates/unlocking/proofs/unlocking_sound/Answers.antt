-- `unlocking::unlocking_sound` meets its contract: each way out by one law.
use mathlib.Core.Path.{refl, sym, ◌∙◌}
use Rattle.card.specs.Card.{allocated}
use Rattle.card.specs.Lent.{shared_card}
use Rattle.access.proofs.Blocks.{missing_told}
use Rattle.unlocking.proofs.Answering.{found_within, found_unlocked, keys_refused, missing_refused, within_refused, places_refused, places_enough, list_answered}
use Rattle.unlocking.proofs.unlocking_sound.Goals as goal

pub returns-then-bad : goal.returns-then-bad
returns-then-bad c = keys_refused _ _ _ _ (sym c.bad_keys-bad.ensures ∙ c.if-bad.true)

pub returns-then-gone : goal.returns-then-gone
unfolding allocated
returns-then-gone c = missing_refused _ _ _ _ (sym c.bad_keys-bad.ensures ∙ c.if-bad.false)
    (missing_told (shared_card c.args.card).public _ c.missing-gone.ensures c.if-gone.true)

pub find-found-requires : goal.find-found-requires
unfolding allocated
find-found-requires c = record { sound_card = c.requires; chosen_value = missing_told (shared_card c.args.card).public _ c.missing-gone.ensures c.if-gone.false; shut_value = refl }

pub returns-in_default : goal.returns-in_default
returns-in_default c = within_refused _ _ _ _ (sym c.bad_keys-bad.ensures ∙ c.if-bad.false)
    (found_within _ _ _ _ _ c.find-found.ensures c.in_default.is)

pub returns-then-places-count : goal.returns-then-places-count
returns-then-places-count c = places_refused _ _ _ _ (sym c.bad_keys-bad.ensures ∙ c.if-bad.false)
    (found_unlocked _ _ _ _ _ c.find-found.ensures c.in-Some.is) c.if-places-count.true

pub list-requires : goal.list-requires
list-requires c = record { blocks_bound = c.requires.shaped.in_ranges.blocks_high; blocks_in_bounds = places_enough (found_unlocked _ _ _ _ _ c.find-found.ensures c.in-Some.is) c.if-places-count.false }

pub returns : goal.returns
unfolding allocated
returns c = list_answered _ _ _ _ (sym c.bad_keys-bad.ensures ∙ c.if-bad.false)
    (found_unlocked _ _ _ _ _ c.find-found.ensures c.in-Some.is)
    (missing_told (shared_card c.args.card).public _ c.missing-gone.ensures c.if-gone.false) c.if-places-count.false c.list.ensures
