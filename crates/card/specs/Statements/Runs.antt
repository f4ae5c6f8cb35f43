-- 2026-01, of ALLOC_CONTIG: a run that exists is found, the numbers given adjoin, and no run starts nearer the hint.
use Rattle.std.specs.Prelude.{ℕ, ◌+◌, ◌<◌, ◌≤◌, Bool, true, List, ◌↔◌, ◌≡◌, length, take, get_or}
use Rattle.card.specs.Card.{Public, Card, free, free_blocks}
use Rattle.card.specs.Plan.{NoneHolds, Buffers}
use Rattle.card.specs.Calls.{is_done, no_hint, distance, alloc_plan, alloc_contig_plan}
use Rattle.card.specs.Session.{Request, refusals, perform}
use Rattle.card.specs.declared.Port.{Port}
use Rattle.card.specs.declared.Refusal.TheVariants.{NoRun}
use Rattle.card.specs.Answers.{Refused, Done}
use Rattle.card.specs.declared.Call.TheVariants.{AllocContig}
use Rattle.card.specs.declared.AllocOperands.{AllocOperands}

abbrev pub contig : AllocOperands → Buffers → Request
contig o lent = record { call = AllocContig o; lent = lent }

-- "checks as ALLOC": those of 4, 3, 6, 5 and 10 are ALLOC's.
abbrev pub ContigChecks : Type 0
ContigChecks =
    (port : Port) (p : Public) (opened : Bool) (o : AllocOperands) (places : ℕ)
    → take 5 (alloc_contig_plan port p opened o places).checks ≡ take 5 (alloc_plan port p opened o places).checks

-- So many free blocks that adjoin, from `first` on.
abbrev pub Run : Public → ℕ → ℕ → Type 0
Run p count first = (b : ℕ) → first ≤ b → b < first + count → free p b ≡ true

-- "14, enough blocks are free but no count of them adjoin; after 10, before 11": the six conditions before are those of 1, 2, 4, 3, 6 and 5.
pub record FoundIfThere (port : Port) (c : Card) (o : AllocOperands) (lent : Buffers) : Type 0 where
  pub refused_iff : ((perform port c (contig o lent)).answer ≡ Refused NoRun)
      ↔ (NoneHolds (take 6 (refusals port c (contig o lent))) × ((o.count ≤ length (free_blocks c.public)) × ((first : ℕ) → Run c.public o.count first → ⊥)))
  -- "A run that exists is always found": with enough blocks free and room for the pointers the call is done.
  pub always_found : NoneHolds (take 6 (refusals port c (contig o lent))) → o.count ≤ length (free_blocks c.public) → (first : ℕ) → Run c.public o.count first
      → c.public.info.used + o.count ≤ length c.public.pointers → (perform port c (contig o lent)).answer ≡ Done

abbrev pub RunFound : Type 0
RunFound = (port : Port) (c : Card) (o : AllocOperands) (lent : Buffers) → FoundIfThere port c o lent

-- The numbers that a done call leaves in the first places adjoin and ascend, and their blocks were all free.
pub record AdjoiningFree (p : Public) (o : AllocOperands) (places : List ℕ) : Type 0 where
  pub adjoin : (i : ℕ) → i < o.count → get_or places i 0 ≡ get_or places 0 0 + i
  pub were_free : Run p o.count (get_or places 0 0)

abbrev pub RunAdjoins : Type 0
RunAdjoins =
    (port : Port) (c : Card) (o : AllocOperands) (lent : Buffers) → is_done (perform port c (contig o lent)).answer ≡ true
    → AdjoiningFree c.public o (perform port c (contig o lent)).places

-- "the one whose first block is nearest the hint, the lower on a tie. Without a hint it is the lowest run."
pub record NoNearer (o : AllocOperands) (first other : ℕ) : Type 0 where
  pub hinted : (o.hint ≡ no_hint → ⊥) → (distance o.hint first ≤ distance o.hint other) × (other < first → distance o.hint first < distance o.hint other)
  pub unhinted : o.hint ≡ no_hint → first ≤ other

abbrev pub RunNearest : Type 0
RunNearest =
    (port : Port) (c : Card) (o : AllocOperands) (lent : Buffers) → is_done (perform port c (contig o lent)).answer ≡ true
    → (other : ℕ) → Run c.public o.count other → NoNearer o (get_or (perform port c (contig o lent)).places 0 0) other
