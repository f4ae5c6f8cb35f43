-- The blocks of a table of flags that rent is paid for, on a card.
use Rattle.std.specs.Prelude.{◌≡◌, length}
use Rattle.std.proofs.Common.{ap, lt-ltb}
use Rattle.laws.specs.ListsLaws.{numbers_below_same}
use Rattle.card.specs.Card.{Public, allocated}
use Rattle.card.specs.Tree.{ordinary}
use Rattle.card.specs.Rent.{rented}
use Rattle.tables.specs.Rented.{is_rented, rented_below}

-- On a card of the right shape they are its allocated non-root blocks.
pub rented_ordinary : (p : Public) → length p.flags ≡ p.info.blocks → length (rented_below p.info.roots p.flags (length p.flags)) ≡ rented p
unfolding rented_below rented ordinary allocated
rented_ordinary p e =
    rw e
    (ap length
    (numbers_below_same (is_rented p.info.roots p.flags) (ordinary p) p.info.blocks
    (λ b l. rw (lt-ltb b p.info.blocks l))))
