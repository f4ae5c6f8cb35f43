-- `batch::room_of` meets its contract.
use Prim.Native.Nat.{ℕ}
use mathlib.Core.List.{List, [], ◌∷◌}
use mathlib.Core.Path.{◌≡◌, refl}
use native.Mathlib.Omega.{arith}
use types.Run.{OneOf, miss}
use denote.Enum.Declared.{tag_of}
use Rattle.card.specs.contracts.Call.{the_type}
use Rattle.card.specs.declared.Call.{Call}
use Rattle.card.specs.declared.Call.TheVariants.{Read, Write, Alloc, AllocContig, Create, Delete, DeleteTree, KeyRead, KeyWrite, Renew, Force, Free, Tick, Audit, Rent, Sweep}
use Rattle.serving.specs.Serve.{answer_room}
use Rattle.batch.proofs.AnswerBytesLaws.{lent_most, room_read}
use Rattle.batch.proofs.room_of.Goals as goal

-- The places among the variants of the calls that have no results.
abbrev calls_without_results : List ℕ
calls_without_results = 1 ∷ 4 ∷ 7 ∷ 8 ∷ 9 ∷ 10 ∷ 13 ∷ []

room_other : (size : ℕ) (call : Call) → OneOf calls_without_results (tag_of the_type call) → 1 ≡ answer_room size call
unfolding answer_room
room_other size (Read o) h = absurd (miss calls_without_results 0 tt h)
room_other size (Write o) h = refl
room_other size (Alloc o) h = absurd (miss calls_without_results 2 tt h)
room_other size (AllocContig o) h = absurd (miss calls_without_results 3 tt h)
room_other size (Create o) h = refl
room_other size (Delete o) h = absurd (miss calls_without_results 5 tt h)
room_other size (DeleteTree o) h = absurd (miss calls_without_results 6 tt h)
room_other size (KeyRead o) h = refl
room_other size (KeyWrite o) h = refl
room_other size (Renew o) h = refl
room_other size (Force o) h = refl
room_other size Free h = absurd (miss calls_without_results 11 tt h)
room_other size (Tick o) h = absurd (miss calls_without_results 12 tt h)
room_other size Audit h = refl
room_other size (Rent o) h = absurd (miss calls_without_results 14 tt h)
room_other size (Sweep o) h = absurd (miss calls_without_results 15 tt h)

pub overflow_add-result : goal.overflow_add-result
overflow_add-result c = omega (arith, c.lent_size.ensures, lent_most c.args.info.bytes c.args.call)

pub returns-in-Read : goal.returns-in-Read
returns-in-Read c = search room_read

pub returns-in-Alloc : goal.returns-in-Alloc
unfolding answer_room
returns-in-Alloc c = rw c.in-Alloc.is

pub returns-in-AllocContig : goal.returns-in-AllocContig
unfolding answer_room
returns-in-AllocContig c = rw c.in-AllocContig.is

pub returns-in-Delete : goal.returns-in-Delete
unfolding answer_room
returns-in-Delete c = rw c.in-Delete.is

pub returns-in-DeleteTree : goal.returns-in-DeleteTree
unfolding answer_room
returns-in-DeleteTree c = rw c.in-DeleteTree.is

pub returns-in-Free : goal.returns-in-Free
unfolding answer_room
returns-in-Free c = rw c.in-Free.is

pub returns-in-Tick : goal.returns-in-Tick
unfolding answer_room
returns-in-Tick c = rw c.in-Tick.is

pub returns-in-Rent : goal.returns-in-Rent
unfolding answer_room
returns-in-Rent c = rw c.in-Rent.is

pub returns-in-Sweep : goal.returns-in-Sweep
unfolding answer_room
returns-in-Sweep c = rw c.in-Sweep.is

pub returns-in_default : goal.returns-in_default
returns-in_default c = search room_other
