-- What is promised of a sequence of the functions that C links: what the calls make of the card, and demand 3.
use Rattle.std.specs.Prelude.{ℕ, ◌≡◌, false, List}
use Rattle.card.specs.Card.{block}
use Rattle.card.specs.SoundCard.{SoundCard}
use Rattle.card.specs.Session.{Sent, after_all, Each}
use Rattle.card.specs.Reach.{Hidden, last_taken}
use Rattle.card.specs.Statements.Secrecy.{EqualBut, HiddenOrUnallocated, StillDiffers}
use Rattle.card.specs.Statements.Safe.{SafeCall}
use Rattle.sequences.specs.Sequence.{Memory, card_of, Step, Returned, Called, is_whole, calls_in, returns_in, AllAtHost, keys_by}

-- From memory m to n the sequence returned rs.
pub record SafeCalls (m : Memory) (steps : List Step) (rs : List Returned) (n : Memory) : Type 0 where
  pub returns : rs ≡ returns_in (is_whole m.info) (card_of m) steps
  pub leaves : card_of n ≡ after_all (card_of m) (calls_in (is_whole m.info) (card_of m) steps)
  -- Refused, a call changes nothing; on a sound card it leaves a sound one; and it touches no unallocated block but those that it allots or sweeps.
  pub safe : Each SafeCall (card_of m) (calls_in (is_whole m.info) (card_of m) steps)
  -- The record has its numbers afterwards if it had them before, and is as it was if it had not.
  pub whole : is_whole n.info ≡ is_whole m.info
  pub not_whole : is_whole m.info ≡ false → n.info ≡ m.info

-- Any sequence of C functions, at either port and on any record and tables: what is returned and left is what the calls return and leave by the rules,
-- each on the card that the one before left.
abbrev pub CallsSafe : Type 0
CallsSafe = (m n : Memory) (steps : List Step) (rs : List Returned) → Called m steps rs n → SafeCalls m steps rs n

-- ---- demand 3

-- The calls of a sequence on the memory that a caller lends.
abbrev pub calls_made : Memory → List Step → List Sent
calls_made m steps = calls_in (is_whole m.info) (card_of m) steps

-- From memory m to m' the sequence returned rs, and from n to n' it returned ss.
pub record SecretCalls (steps : List Step) (m n : Memory) (rs ss : List Returned) (m' n' : Memory) : Type 0 where
  -- All that is returned is equal: the numbers, the results and what the buffers then hold.
  pub answers : rs ≡ ss
  -- The memories are still equal but for the contents of blocks that could differ at the start.
  pub same_info : m'.info ≡ n'.info
  pub cards : EqualBut (StillDiffers (keys_by (card_of m) steps) (card_of m) (card_of m')) (card_of m') (card_of n')
  -- On both, each hidden block ends with the contents it started with, unless a call of the sequence took its last pointer away.
  pub kept : (b : ℕ) → Hidden (keys_by (card_of m) steps) (card_of m) b → last_taken (card_of m) (calls_made m steps) b ≡ false → block (card_of m') b ≡ block (card_of m) b
  pub kept_on_other : (b : ℕ) → Hidden (keys_by (card_of m) steps) (card_of m) b → last_taken (card_of n) (calls_made n steps) b ≡ false → block (card_of n') b ≡ block (card_of n) b

-- Any sequence of functions called at the host port, each with what the one before left, from any two memories that hold sound cards and are equal but for
-- the contents of hidden, waiting and free blocks. Hidden is judged on the starting card, with the keys that any step presents.
abbrev pub CallsSecret : Type 0
CallsSecret =
    (steps : List Step) → AllAtHost steps → (m n m' n' : Memory) (rs ss : List Returned) → Called m steps rs m' → Called n steps ss n'
    → SoundCard (card_of m) → SoundCard (card_of n) → m.info ≡ n.info → EqualBut (HiddenOrUnallocated (keys_by (card_of m) steps) (card_of m)) (card_of m) (card_of n)
    → SecretCalls steps m n rs ss m' n'
