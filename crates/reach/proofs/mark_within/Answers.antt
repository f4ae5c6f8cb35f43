-- `reach::mark_within` meets its contract: the walk goes along the pointers from the blocks that are within reach by themselves.
use Rattle.walks.specs.WalkLaws.{sound_walkable}
use Rattle.reach.proofs.Marking.{walking_start, walked}
use Rattle.reach.proofs.mark_within.Goals as goal

pub walk-requires : goal.walk-requires
walk-requires c = record { walkable = sound_walkable _ c.requires.sound_card; walking = walking_start c.begin.ensures.walking }

pub returns : goal.returns
returns c = walked c.requires.sound_card c.begin.ensures c.walk.ensures
