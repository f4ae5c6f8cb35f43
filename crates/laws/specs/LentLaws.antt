-- Laws of a card on lent tables.
use Rattle.std.specs.Prelude.{◌≡◌, refl}
use Rattle.card.specs.Lent.{Shows, shared_card, lent_card}
use Rattle.card.specs.declared.LentCard.{LentCard}
use Rattle.card.specs.declared.SharedCard.{SharedCard}

-- What is lent to be read is the card itself.
pub shown_card : {s : SharedCard} {t : LentCard} → Shows s t → shared_card s ≡ lent_card t
shown_card h = rw (h.info, h.flags, h.keys, h.counts, h.pointers, h.multiplicities, h.windows, h.contents) refl
