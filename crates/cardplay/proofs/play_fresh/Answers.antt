use Rattle.cardplay.proofs.FreshLaws.{fresh_left}
use Rattle.cardplay.proofs.PiecesLaws.{pieces_from}
use Rattle.cardplay.proofs.play_fresh.Goals as goal

pub returns-clause-plays : goal.returns-clause-plays
returns-clause-plays g c = pieces_from (fresh_left c.args.card.now.info c.requires c.format.ensures.performs.leaves) c.play_all.ensures.plays
