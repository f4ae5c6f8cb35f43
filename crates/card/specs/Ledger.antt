-- 2026-05, "counted as often as it was made and not yet taken away": the pointers that calls made and took away, told by the calls, their answers and
-- the card before them.
use Rattle.std.specs.Prelude.{ℕ, ◌+◌, Bool, ◌&&◌, ◌||◌, cond, List, [], ◌∷◌, eqb, take}
use Rattle.card.specs.Pointers.{contains}
use Rattle.card.specs.Card.{Card, multiplicity}
use Rattle.card.specs.Calls.{is_done, freed_with}
use Rattle.card.specs.Session.{Sent, Reply, reply, performed}
use Rattle.card.specs.declared.AllocOperands.{AllocOperands}
use Rattle.card.specs.declared.DeleteOperands.{DeleteOperands}
use Rattle.card.specs.declared.Call.{Call}
use Rattle.card.specs.declared.Call.TheVariants.{Read, Write, Alloc, AllocContig, Create, Delete, DeleteTree, KeyRead, KeyWrite, Renew, Force, Free, Tick, Audit, Rent, Sweep}

-- 1 where the test holds.
abbrev pub once : Bool → ℕ
once t = cond t 1 0

-- A done call gave b among its numbers to one who allocated at a.
abbrev pub allotted : AllocOperands → Reply → ℕ → ℕ → Bool
allotted o r a b = is_done r.answer && (eqb o.reference a && contains b (take o.count r.places))

-- How many pointers from a to b the call made: a done CREATE from a to b one, and a done ALLOC or ALLOC_CONTIG at a one, if b is among the numbers that it gave.
unfoldable pub made : Call → Reply → ℕ → ℕ → ℕ
made (Read o) r a b = 0
made (Write o) r a b = 0
made (Alloc o) r a b = once (allotted o r a b)
made (AllocContig o) r a b = once (allotted o r a b)
made (Create o) r a b = once (is_done r.answer && (eqb o.source a && eqb o.destination b))
made (Delete o) r a b = 0
made (DeleteTree o) r a b = 0
made (KeyRead o) r a b = 0
made (KeyWrite o) r a b = 0
made (Renew o) r a b = 0
made (Force o) r a b = 0
made Free r a b = 0
made (Tick o) r a b = 0
made Audit r a b = 0
made (Rent o) r a b = 0
made (Sweep o) r a b = 0

-- The pointer from a to b is the one that a DELETE_TREE removes, or comes from a block that it frees.
abbrev pub goes : Card → DeleteOperands → ℕ → ℕ → Bool
goes c o a b = (eqb o.source a && eqb o.destination b) || contains a (freed_with c.public o.source o.destination)

-- How many the call took away on the card: a done DELETE from a to b one, and a done DELETE_TREE every one of each pointer that goes.
unfoldable pub taken : Card → Call → Reply → ℕ → ℕ → ℕ
taken c (Read o) r a b = 0
taken c (Write o) r a b = 0
taken c (Alloc o) r a b = 0
taken c (AllocContig o) r a b = 0
taken c (Create o) r a b = 0
taken c (Delete o) r a b = once (is_done r.answer && (eqb o.source a && eqb o.destination b))
taken c (DeleteTree o) r a b = cond (is_done r.answer && goes c o a b) (multiplicity c.public a b) 0
taken c (KeyRead o) r a b = 0
taken c (KeyWrite o) r a b = 0
taken c (Renew o) r a b = 0
taken c (Force o) r a b = 0
taken c Free r a b = 0
taken c (Tick o) r a b = 0
taken c Audit r a b = 0
taken c (Rent o) r a b = 0
taken c (Sweep o) r a b = 0

-- The same of a list of calls at either port, each on the card that the one before left, added up.
unfoldable pub made_in_all : Card → List Sent → ℕ → ℕ → ℕ
made_in_all c [] a b = 0
made_in_all c (s ∷ ss) a b = made s.request.call (reply (performed c s)) a b + made_in_all (performed c s).after ss a b

unfoldable pub taken_in_all : Card → List Sent → ℕ → ℕ → ℕ
taken_in_all c [] a b = 0
taken_in_all c (s ∷ ss) a b = taken c s.request.call (reply (performed c s)) a b + taken_in_all (performed c s).after ss a b
