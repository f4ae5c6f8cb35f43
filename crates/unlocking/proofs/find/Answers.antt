-- `unlocking::find` meets its contract: by the marks of the first walk, or by the queue of the second.
use Rattle.walks.specs.WalkLaws.{sound_walkable}
use Rattle.unlocking.proofs.Leaders.{sound_keyed, there_below, there_low, queued_below, kept_unlocking, marked_within, unmarked_outside}
use Rattle.unlocking.proofs.find.Goals as goal

pub mark_within-requires : goal.mark_within-requires
mark_within-requires c = record { sound_card = c.requires.sound_card; shut_value = c.requires.shut_value; none_reached = c.none-reached.ensures }

pub bounds-reached-chosen : goal.bounds-reached-chosen
bounds-reached-chosen c = there_low c.requires.sound_card c.args.chosen c.requires.chosen_value

pub returns-then-reached-chosen-eq1 : goal.returns-then-reached-chosen-eq1
returns-then-reached-chosen-eq1 c = marked_within c.mark_within.ensures c.args.chosen
    (there_below c.requires.sound_card c.args.chosen c.requires.chosen_value) c.if-reached-chosen-eq1.true

pub queue_leading-requires : goal.queue_leading-requires
queue_leading-requires c = record { walkable = sound_walkable _ c.requires.sound_card; chosen_bound = there_low c.requires.sound_card c.args.chosen c.requires.chosen_value; none_reached = c.none-reached-2.ensures }

pub keep_fitting-requires : goal.keep_fitting-requires
keep_fitting-requires c = record { keyed = sound_keyed c.requires.sound_card; queued_below = queued_below _ _ c.requires.sound_card c.args.chosen c.requires.chosen_value c.mark_within.ensures.shut_below c.queue_leading.ensures }

pub returns : goal.returns
returns c =
    kept_unlocking _ _ c.requires.sound_card c.args.chosen c.requires.chosen_value
    c.mark_within.ensures.shut_below c.queue_leading.ensures
    (unmarked_outside c.mark_within.ensures c.args.chosen c.if-reached-chosen-eq1.false) c.keep_fitting.ensures
