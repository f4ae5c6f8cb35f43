-- 2026-07, of DELETE_TREE: the blocks that it frees are the least set that the request describes, every other block is left, a cycle stays, and so do a
-- block with a write key and a hidden block.
use Rattle.std.specs.Prelude.{ℕ, ◌<◌, Bool, true, false, ◌&&◌, not, ◌⊎◌, ◌↔◌, ◌≡◌, eqb, length}
use Rattle.card.specs.Pointers.{ascending, contains, pointers_to}
use Rattle.card.specs.Card.{Public, Card, flag, allocated, has_key, is_root, window_end, count, in_use, times_in_use, multiplicity, points_to, key_high, key_low, block}
use Rattle.card.specs.Plan.{drop_pointer, change_public, Buffers}
use Rattle.card.specs.Calls.{is_done, freed_with}
use Rattle.card.specs.Session.{Request, perform}
use Rattle.card.specs.Reach.{CallPresents, Hidden}
use Rattle.card.specs.declared.Port.{Port}
use Rattle.card.specs.declared.Port.TheVariants.{Host}
use Rattle.card.specs.declared.Mode.{Mode}
use Rattle.card.specs.declared.Mode.TheVariants.{Writing}
use Rattle.card.specs.Answers.{Answer}
use Rattle.card.specs.Answers.{Value}
use Rattle.card.specs.declared.Call.TheVariants.{DeleteTree}
use Rattle.card.specs.declared.DeleteOperands.{DeleteOperands}

-- DELETE_TREE, with whatever buffers.
abbrev pub deleting_tree : DeleteOperands → Buffers → Request
deleting_tree o lent = record { call = DeleteTree o; lent = lent }

-- From card c to card d the block is freed.
pub record Freed (c d : Card) (b : ℕ) : Type 0 where
  pub before : allocated c.public b ≡ true
  pub after : allocated d.public b ≡ false

-- "After the pointer is wholly removed".
abbrev pub removed : Card → DeleteOperands → Public
removed c o = change_public (drop_pointer o.source o.destination) c.public

-- Once the pointer is removed, each block points where it did, but for that pointer. Block numbers have 16 bits.
abbrev pub RemovedPoints : Type 0
RemovedPoints =
    (port : Port) (c : Card) (o : DeleteOperands) (lent : Buffers) → is_done (perform port c (deleting_tree o lent)).answer ≡ true
    → (a b : ℕ) → b < 65536 → points_to (removed c o) a b ≡ points_to c.public a b && not (eqb a o.source && eqb b o.destination)

-- ---- what goes

-- The set holds the destination, where it has to: "the destination is freed if nothing points to it".
abbrev pub HoldsDestination : Card → DeleteOperands → (ℕ → Type 0) → Type 0
HoldsDestination c o G = ((a : ℕ) → points_to (removed c o) a o.destination ≡ true → ⊥) → G o.destination

-- The set holds each block that has a pointer and has to follow: "Then each allocated non-root block whose every pointer comes from freed blocks is freed too".
abbrev pub HoldsFollowers : Card → DeleteOperands → (ℕ → Type 0) → Type 0
HoldsFollowers c o G =
    (b : ℕ) → allocated c.public b ≡ true → is_root c.public b ≡ false
    → (a : ℕ) → points_to (removed c o) a b ≡ true
    → ((a : ℕ) → points_to (removed c o) a b ≡ true → G a) → G b

-- The freed blocks are the least set that holds the destination and those that follow, and the answer is how many they are.
pub record LeastFreed (c d : Card) (o : DeleteOperands) (answer : Answer) : Type 1 where
  pub destination_freed : HoldsDestination c o (Freed c d)
  -- Also of a block without a pointer, if there were one.
  pub followers_freed : (b : ℕ) → allocated c.public b ≡ true → is_root c.public b ≡ false → ((a : ℕ) → points_to (removed c o) a b ≡ true → Freed c d a) → Freed c d b
  pub least : (G : ℕ → Type 0) → HoldsDestination c o G → HoldsFollowers c o G → (b : ℕ) → Freed c d b → G b
  -- "Result: how many were freed."
  pub listed : (b : ℕ) → (contains b (freed_with c.public o.source o.destination) ≡ true) ↔ Freed c d b
  pub ascends : ascending (freed_with c.public o.source o.destination) ≡ true
  pub answers : answer ≡ Value (length (freed_with c.public o.source o.destination))

-- "After the pointer is wholly removed, the destination is freed if nothing points to it. Then each allocated non-root block whose every pointer comes
-- from freed blocks is freed too", and no other. "Result: how many were freed."
abbrev pub TreeLeast : Type 1
TreeLeast =
    (port : Port) (c : Card) (o : DeleteOperands) (lent : Buffers) → is_done (perform port c (deleting_tree o lent)).answer ≡ true
    → LeastFreed c (perform port c (deleting_tree o lent)).after o (perform port c (deleting_tree o lent)).answer

-- No root is freed.
abbrev pub TreeSparesRoots : Type 0
TreeSparesRoots =
    (port : Port) (c : Card) (o : DeleteOperands) (lent : Buffers) → is_done (perform port c (deleting_tree o lent)).answer ≡ true
    → (b : ℕ) → is_root c.public b ≡ true → Freed c (perform port c (deleting_tree o lent)).after b → ⊥

-- ---- what stays

-- "their pointers go": the pointer from a to b is the one that is removed, or comes from a freed block.
abbrev pub Goes : Card → Card → DeleteOperands → ℕ → ℕ → Type 0
Goes c d o a b = ((o.source ≡ a) × (o.destination ≡ b)) ⊎ Freed c d a

-- From card c to card d a block keeps its flags, the words of both keys, both windows and its contents.
pub record Spared (c d : Card) (b : ℕ) : Type 0 where
  pub flags : flag d.public b ≡ flag c.public b
  pub high : (m : Mode) → key_high d.keys m b ≡ key_high c.keys m b
  pub low : (m : Mode) → key_low d.keys m b ≡ key_low c.keys m b
  pub window : (m : Mode) → window_end d.public m b ≡ window_end c.public m b
  pub contents : block d b ≡ block c b

-- What is left: of the pointers all but those that go, and of a block that is not freed everything but its count.
pub record RestSpared (c d : Card) (o : DeleteOperands) : Type 0 where
  pub spared : (b : ℕ) → (Freed c d b → ⊥) → Spared c d b
  pub counted : (b : ℕ) → b < d.public.info.blocks → count d.public b ≡ pointers_to b (in_use d.public) (times_in_use d.public)
  -- Block numbers have 16 bits.
  pub gone : (a b : ℕ) → b < 65536 → Goes c d o a b → multiplicity d.public a b ≡ 0
  pub left : (a b : ℕ) → b < 65536 → (Goes c d o a b → ⊥) → multiplicity d.public a b ≡ multiplicity c.public a b
  -- The contents of a freed block stay too.
  pub contents : (b : ℕ) → block d b ≡ block c b

-- "is freed too, and their pointers go": nothing else changes, but the counts.
abbrev pub TreeSpares : Type 0
TreeSpares =
    (port : Port) (c : Card) (o : DeleteOperands) (lent : Buffers) → is_done (perform port c (deleting_tree o lent)).answer ≡ true
    → RestSpared c (perform port c (deleting_tree o lent)).after o

-- A block of the set points to block b.
pub record PointedWithin (p : Public) (S : ℕ → Type 0) (b : ℕ) : Type 0 where
  pub from : ℕ
  pub within : S from
  pub points : points_to p from b ≡ true

-- "A cycle kept alive only by itself stays": any set of allocated blocks, each pointed to from within the set once the pointer is removed.
abbrev pub TreeCycle : Type 1
TreeCycle =
    (port : Port) (c : Card) (o : DeleteOperands) (lent : Buffers) → is_done (perform port c (deleting_tree o lent)).answer ≡ true
    → (S : ℕ → Type 0) → ((b : ℕ) → S b → allocated c.public b ≡ true) → ((b : ℕ) → S b → PointedWithin (removed c o) S b)
    → (b : ℕ) → S b → allocated (perform port c (deleting_tree o lent)).after.public b ≡ true

-- "Blocks under a foreign write key must survive this": on any card, at either port and whatever the answer, a block with a write key stays allocated.
abbrev pub TreeKeyed : Type 0
TreeKeyed =
    (port : Port) (c : Card) (o : DeleteOperands) (lent : Buffers) (b : ℕ) → allocated c.public b ≡ true → has_key c.public Writing b ≡ true
    → allocated (perform port c (deleting_tree o lent)).after.public b ≡ true

-- A block is allocated still, and its contents are as they were.
pub record Survives (c after : Card) (b : ℕ) : Type 0 where
  pub still_allocated : allocated after.public b ≡ true
  pub same_block : block after b ≡ block c b

-- "Blocks under a foreign write key must survive this, so a hidden block below one keeps its contents here too": on any card, and with any keys that have
-- all that the call presents, a host's DELETE_TREE frees no hidden block and changes none.
abbrev pub TreeHides : Type 0
TreeHides =
    (K : ℕ → ℕ → Bool) (c : Card) (o : DeleteOperands) (lent : Buffers) → CallPresents K (DeleteTree o)
    → (b : ℕ) → Hidden K c b → Survives c (perform Host c (deleting_tree o lent)).after b
