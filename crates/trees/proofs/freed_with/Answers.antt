-- `trees::freed_with` marks the blocks that are freed with the pointer.
use native.Mathlib.Omega.{arith}
use Rattle.trees.proofs.Freeing.{sound_releasable, to_low, freed_enough, freed_loosened, freed_none, freed_all}
use Rattle.trees.proofs.freed_with.Goals as goal

pub bounds-left-to : goal.bounds-left-to
bounds-left-to c = to_low _ c.requires.sound_card c.args.source c.args.destination (omega arith) c.requires.destination_value

pub overflow_sub-others : goal.overflow_sub-others
overflow_sub-others c = freed_enough _ c.requires.sound_card c.args.source c.args.destination (omega arith) c.requires.destination_value c.copy.ensures c.times-times.ensures

pub bounds-left-to-2 : goal.bounds-left-to-2
bounds-left-to-2 c = to_low _ c.requires.sound_card c.args.source c.args.destination (omega arith) c.requires.destination_value

pub returns-then-others-ne0 : goal.returns-then-others-ne0
returns-then-others-ne0 c = rw c.requires.none_reached.none_queued (freed_none _ c.requires.sound_card c.args.source c.args.destination (omega arith) c.requires.destination_value c.copy.ensures c.times-times.ensures c.if-others-ne0.true c.requires.none_reached.none_marked)

pub spread-requires : goal.spread-requires
spread-requires c = record { releasable = sound_releasable _ c.requires.sound_card; loosened = freed_loosened _ c.requires.sound_card c.args.source c.args.destination (omega arith) c.requires.destination_value c.copy.ensures c.times-times.ensures c.if-others-ne0.false; none_reached = c.requires.none_reached }

pub returns : goal.returns
returns c = freed_all _ c.requires.sound_card c.args.source c.args.destination (omega arith) c.requires.destination_value c.copy.ensures c.times-times.ensures c.if-others-ne0.false c.spread.ensures
