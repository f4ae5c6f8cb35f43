-- The blocks of a table of flags that pass a test, on a card: the free ones, and others.
use Rattle.std.specs.Prelude.{ℕ, ◌≡◌, Bool, ◌&&◌, ltb, length, get_or}
use Rattle.std.proofs.Common.{lt-ltb}
use Rattle.card.specs.Lists.{numbers_below}
use Rattle.laws.specs.ListsLaws.{numbers_below_same}
use Rattle.card.specs.Card.{Public, flag, free_flag, free, free_blocks}
use Rattle.tables.specs.Free.{free_below}

-- On a card of the right shape those of the table are those below N.
pub flags_state : (test : ℕ → Bool) (p : Public) → length p.flags ≡ p.info.blocks
    → numbers_below (λ b. test (get_or p.flags b 0)) (length p.flags) ≡ numbers_below (λ b. ltb b p.info.blocks && test (flag p b)) p.info.blocks
flags_state test p e =
    rw e
    (numbers_below_same (λ b. test (get_or p.flags b 0)) (λ b. ltb b p.info.blocks && test (flag p b)) p.info.blocks
    (λ b l. rw (lt-ltb b p.info.blocks l)))

pub flags_free : (p : Public) → length p.flags ≡ p.info.blocks → free_below p.flags (length p.flags) ≡ free_blocks p
unfolding free_below free_blocks free
flags_free p e = flags_state free_flag p e
