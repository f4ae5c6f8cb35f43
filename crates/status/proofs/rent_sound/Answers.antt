-- `status::rent_sound` is RENT on an audited card.
use Rattle.status.proofs.Ticked.{rent_high, rent_done}
use Rattle.status.proofs.rent_sound.Goals as goal

pub returns-then-o-gt-HIGHEST_PRICE : goal.returns-then-o-gt-HIGHEST_PRICE
returns-then-o-gt-HIGHEST_PRICE c = λ port. search rent_high

pub returns : goal.returns
returns c = λ port. search rent_done
