use mathlib.Core.Path.{sym}
use lib.Seq.{length-take-le}
use Rattle.cardplay.proofs.InputBufferLaws.{written_within}
use Rattle.cardplay.proofs.Awaited.{play_awaits}
use Rattle.cardplay.proofs.ProgressLaws.{room_left, progress_is}
use Rattle.cardplay.proofs.play_on.Goals as goal

pub slice_bounds-write_all-end : goal.slice_bounds-write_all-end
slice_bounds-write_all-end g c = (written_within c.play_some-played.ensures.plays.writes).1

pub slice_bounds-write_all-end-2 : goal.slice_bounds-write_all-end-2
slice_bounds-write_all-end-2 g c = sym (length-take-le _ _ (written_within c.play_some-played.ensures.plays.writes).1)

pub read_on-end-requires-clause-fact_2 : goal.read_on-end-requires-clause-fact_2
read_on-end-requires-clause-fact_2 g c =
    room_left c.play_some-played.ensures.plays (play_awaits _ _ _ _) c.is_ok-wrote.result c.needs_input.ensures c.requires.has_room c.play_some-played.auto.buffer

pub returns-clause-progresses : goal.returns-clause-progresses
returns-clause-progresses g c = progress_is c.play_some-played.ensures.plays c.is_ok-wrote.result c.needs_input.ensures c.is_full.ensures c.read_on-end.ensures
