-- `reach::reach_sound` meets its contract.
use mathlib.Core.Path.{refl}
use Rattle.reach.proofs.Answering.{keys_refused, places_refused, places_enough, list_answered}
use Rattle.reach.proofs.reach_sound.Goals as goal

pub returns-then-bad_keys : goal.returns-then-bad_keys
returns-then-bad_keys c = keys_refused _ _ _ c.bad_keys.ensures c.if-bad_keys.true

pub mark_within-requires : goal.mark_within-requires
mark_within-requires c = record { sound_card = c.requires; shut_value = refl; none_reached = c.none-reached.ensures }

pub returns-then-places-reached : goal.returns-then-places-reached
returns-then-places-reached c = places_refused _ _ _ c.bad_keys.ensures c.if-bad_keys.false c.mark_within.ensures c.if-places-reached.true

pub list-requires : goal.list-requires
list-requires c = record { blocks_bound = c.requires.shaped.in_ranges.blocks_high; blocks_in_bounds = places_enough c.args.words.now c.args.places.now _ c.bad_keys.ensures c.if-bad_keys.false c.mark_within.ensures c.if-places-reached.false }

pub returns : goal.returns
returns c = list_answered _ _ _ c.bad_keys.ensures c.if-bad_keys.false c.mark_within.ensures c.if-places-reached.false c.list.ensures
