-- What a player reports of a reply: the number, and where the values stand.
use Rattle.std.specs.Prelude.{ℕ, ◌≤◌, List, [], length, take}
use Rattle.card.specs.Session.{Reply}
use Rattle.card.specs.Answers.{Answer}
use Rattle.card.specs.declared.Call.{Call}
use Rattle.card.specs.declared.Call.TheVariants.{Read, Write, Alloc, AllocContig, Create, Delete, DeleteTree, KeyRead, KeyWrite, Renew, Force, Free, Tick, Audit, Rent, Sweep}
use Rattle.lines.specs.declared.Filled.{Filled}
use Rattle.lines.specs.declared.Filled.TheVariants.{Neither, Bytes, Blocks}

abbrev pub replied : Answer → List ℕ → List ℕ → Reply
replied answer out places = record { answer = answer; out = out; places = places }

-- The buffers that a player lends: READ at least 8 bytes, ALLOC and ALLOC_CONTIG at most 64 places.
pub record BuffersFit (out places : List ℕ) : Type 0 where
  pub bytes : 8 ≤ length out
  pub numbers : length places ≤ 64

-- Which lent buffer a done call fills.
abbrev pub filled_by : Call → Filled
filled_by (Read o) = Bytes
filled_by (Write o) = Neither
filled_by (Alloc o) = Blocks o.count
filled_by (AllocContig o) = Blocks o.count
filled_by (Create o) = Neither
filled_by (Delete o) = Neither
filled_by (DeleteTree o) = Neither
filled_by (KeyRead o) = Neither
filled_by (KeyWrite o) = Neither
filled_by (Renew o) = Neither
filled_by (Force o) = Neither
filled_by Free = Neither
filled_by (Tick o) = Neither
filled_by Audit = Neither
filled_by (Rent o) = Neither
filled_by (Sweep o) = Neither

abbrev pub values_of : Filled → List ℕ → List ℕ → List ℕ
values_of Neither out places = []
values_of Bytes out places = take 8 out
values_of (Blocks n) out places = take n places
