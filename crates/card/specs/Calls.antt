-- Document 01, "Calls", and the requests of document 02: each paragraph as its refusals in order, then what is answered, shown and changed.
use Rattle.std.specs.Prelude.{ℕ, zero, suc, ◌+◌, ◌-◌, ◌*◌, max, Bool, true, false, ◌&&◌, ◌||◌, not, cond, List, [], ◌∷◌, ◌++◌, eqb, ltb, leb, length, Some, None, Ok, Err, take, replicate}
use Rattle.card.specs.Lists.{any, all_below, numbers_below, numbers_from}
use Rattle.card.specs.Pointers.{remove}
use Rattle.card.specs.Contents.{zeros, overwrite}
use Rattle.card.specs.Card.{Public, Card, card, allocated, free, has_key, is_root, free_blocks, waiting_blocks, window_end, longest_interval, count, multiplicity, highest_multiplicity, points_to, has_pointers}
use Rattle.card.specs.Tree.{orphans}
use Rattle.card.specs.Rent.{rent_for, highest_price, cents}
use Rattle.card.specs.Soundness.{ranges, lengths, time_limit}
use Rattle.card.specs.Plan.{Check, ◌⇒◌, Change, set_window, set_block, set_key, take_block, free_block, sweep_block, add_pointer, raise_pointer, lower_pointer, drop_pointer, drop_from, set_time, change_public, nothing, block_part, numbers, Plan, Result}
use Rattle.card.specs.declared.Info.{Info}
use Rattle.card.specs.declared.Port.{Port}
use Rattle.card.specs.declared.Port.TheVariants.{Host, Service}
use Rattle.card.specs.declared.Mode.{Mode}
use Rattle.card.specs.declared.Mode.TheVariants.{Reading, Writing}
use Rattle.card.specs.declared.TransferOperands.{TransferOperands}
use Rattle.card.specs.declared.AllocOperands.{AllocOperands}
use Rattle.card.specs.declared.CreateOperands.{CreateOperands}
use Rattle.card.specs.declared.DeleteOperands.{DeleteOperands}
use Rattle.card.specs.declared.KeyOperands.{KeyOperands}
use Rattle.card.specs.declared.RenewOperands.{RenewOperands}
use Rattle.card.specs.declared.ForceOperands.{ForceOperands}
use Rattle.card.specs.declared.TickOperands.{TickOperands}
use Rattle.card.specs.declared.RentOperands.{RentOperands}
use Rattle.card.specs.declared.SweepOperands.{SweepOperands}
use Rattle.card.specs.declared.Refusal.{Refusal}
use Rattle.card.specs.declared.Refusal.TheVariants.{Misshapen, Unsound, NotAllocated, BadOperand, NotOpened, IsRoot, CannotPoint, NoPointer, HasPointers, TooFewBlocks, TooFewPlaces, TimeEnds, BadRecord, NoRun, HasWriteKey, PriceTooHigh}
use Rattle.card.specs.Answers.{Answer}
use Rattle.card.specs.Answers.{Refused, Done, Value}

-- ---- the numbers of refusals and answers

-- The number of a refusal: 1 to 13 of document 01, 14 of the request 2026-01, 15 of the request 2026-07, 16 of the request 2026-08.
abbrev pub refusal_number : Refusal → ℕ
refusal_number Misshapen = 1
refusal_number Unsound = 2
refusal_number NotAllocated = 3
refusal_number BadOperand = 4
refusal_number NotOpened = 5
refusal_number IsRoot = 6
refusal_number CannotPoint = 7
refusal_number NoPointer = 8
refusal_number HasPointers = 9
refusal_number TooFewBlocks = 10
refusal_number TooFewPlaces = 11
refusal_number TimeEnds = 12
refusal_number BadRecord = 13
refusal_number NoRun = 14
refusal_number HasWriteKey = 15
refusal_number PriceTooHigh = 16

-- An answer's number, 0 for done.
abbrev pub answer_number : Answer → ℕ
answer_number (Err r) = refusal_number r
answer_number (Ok None) = 0
answer_number (Ok (Some v)) = 0

-- The answer is no refusal.
abbrev pub is_done : Answer → Bool
is_done (Err r) = false
is_done (Ok None) = true
is_done (Ok (Some v)) = true

-- The values that an answer carries by itself.
abbrev pub answer_values : Answer → List ℕ
answer_values (Err r) = []
answer_values (Ok None) = []
answer_values (Ok (Some v)) = v ∷ []

-- ---- conditions that several calls share

-- "3": the block is not below N or not allocated.
abbrev pub missing : Public → ℕ → Bool
missing p b = not (allocated p b)

-- "6": the block is a root and the call is a host's.
unfoldable pub root_at_host : Port → Public → ℕ → Bool
root_at_host Host p b = is_root p b
root_at_host Service p b = false

-- ---- windows

-- 2026-04, "a window's end becomes the later of its present end and T + interval": by an interval that is not 0, of READ, WRITE and RENEW alike.
unfoldable pub window_after : Public → Mode → ℕ → ℕ → ℕ
window_after p mode b interval = max (window_end p mode b) (p.info.time + interval)

-- A host's READ or WRITE opens a window by an interval that is not 0; "an interval of 0 still leaves it", and calls at the service port open none.
unfoldable pub opens_window : Port → Public → Mode → ℕ → ℕ → List Change
opens_window Host p mode b interval = cond (eqb interval 0) [] (set_window mode b (window_after p mode b interval) ∷ [])
opens_window Service p mode b interval = []

-- ---- FORMAT

-- The record of a fresh card.
abbrev pub fresh_info : ℕ → ℕ → ℕ → Info
fresh_info blocks roots bytes = record { blocks = blocks; roots = roots; bytes = bytes; used = 0; time = 0; total = 0 }

-- A fresh card on the lent tables: the roots allocated and their contents zeros, other contents left.
abbrev pub fresh_card : ℕ → ℕ → ℕ → Card → Card
fresh_card blocks roots bytes c =
    card (fresh_info blocks roots bytes)
    (replicate roots 1 ++ zeros (blocks - roots))
    (zeros (4 * blocks))
    (zeros blocks)
    (zeros (length c.public.pointers))
    (zeros (length c.public.multiplicities))
    (zeros (2 * blocks))
    (overwrite c.contents 0 (zeros (roots * bytes)))

unfoldable pub format_result : Bool → ℕ → ℕ → ℕ → Card → Result
format_result true blocks roots bytes c = record { answer = Done; after = fresh_card blocks roots bytes c; out = []; places = [] }
format_result false blocks roots bytes c = record { answer = Refused Misshapen; after = c; out = []; places = [] }

-- "FORMAT(N, R, B)": refused 1 by its operands and the tables' lengths alone.
unfoldable pub format : ℕ → ℕ → ℕ → Card → Result
format blocks roots bytes c = format_result (ranges blocks roots bytes && lengths blocks bytes c) blocks roots bytes c

-- ---- READ and WRITE

-- "READ(b, credential, interval, out)", where `opened` says that b is opened for reading and `size` is out's length.
unfoldable pub read_plan : Port → Public → Bool → TransferOperands → ℕ → Plan
read_plan port p opened o size = record {
  checks =
      (not (eqb size p.info.bytes) || ltb longest_interval o.interval ⇒ BadOperand)
      ∷ (missing p o.block ⇒ NotAllocated)
      ∷ (not opened ⇒ NotOpened)
      ∷ [];
  answer = Done;
  shown = block_part o.block;
  steps = opens_window port p Reading o.block o.interval;
}

-- "WRITE(b, credential, interval, data)": "The same with writing, data and the write window."
unfoldable pub write_plan : Port → Public → Bool → TransferOperands → List ℕ → Plan
write_plan port p opened o input = record {
  checks =
      (not (eqb (length input) p.info.bytes) || ltb longest_interval o.interval ⇒ BadOperand)
      ∷ (missing p o.block ⇒ NotAllocated)
      ∷ (not opened ⇒ NotOpened)
      ∷ [];
  answer = Done;
  shown = nothing;
  steps = set_block o.block input ∷ opens_window port p Writing o.block o.interval;
}

-- ---- ALLOC

-- No hint.
abbrev pub no_hint : ℕ
no_hint = 65535

-- Without a hint the lowest block is wanted, which is the one nearest to 0.
unfoldable pub wanted : ℕ → ℕ
wanted hint = cond (eqb hint no_hint) 0 hint

abbrev pub distance : ℕ → ℕ → ℕ
distance a b = (a - b) + (b - a)

-- Of `best` and an ascending list after it, the number nearest to the wanted one, the lower on a tie.
unfoldable pub nearest : ℕ → ℕ → List ℕ → ℕ
nearest want best [] = best
nearest want best (x ∷ xs) = nearest want (cond (ltb (distance want x) (distance want best)) x best) xs

-- "blocks are taken singly, each the unallocated one nearest the hint, the lower on a tie": of the free ones, since 2026-09 a waiting block "is not
-- free for ALLOC".
unfoldable pub picks : ℕ → ℕ → List ℕ → List ℕ
picks want zero free = []
picks want (suc n) [] = []
picks want (suc n) (x ∷ xs) = let best = nearest want x xs in best ∷ picks want n (remove best (x ∷ xs))

-- Each block is taken, filled with zeros, and pointed to by the reference.
unfoldable pub take_all : ℕ → List ℕ → List Change
take_all reference [] = []
take_all reference (b ∷ bs) = take_block b ∷ (add_pointer reference b ∷ take_all reference bs)

-- "ALLOC(ref, credential, hint, count, out)", where `places` is the length of out.
unfoldable pub alloc_plan : Port → Public → Bool → AllocOperands → ℕ → Plan
alloc_plan port p opened o places =
    let taken = picks (wanted o.hint) o.count (free_blocks p) in
    record {
      checks =
          (eqb o.count 0
          || ltb 64 o.count
          || (not (ltb o.hint p.info.blocks) && not (eqb o.hint no_hint))
          || ltb places o.count
          ⇒ BadOperand)
          ∷ (missing p o.reference ⇒ NotAllocated)
          ∷ (root_at_host port p o.reference ⇒ IsRoot)
          ∷ (not opened ⇒ NotOpened)
          ∷ (ltb (length (free_blocks p)) o.count ⇒ TooFewBlocks)
          ∷ (ltb (length p.pointers) (p.info.used + o.count) ⇒ TooFewPlaces)
          ∷ [];
      answer = Done;
      shown = numbers taken;
      steps = take_all o.reference taken;
    }

-- ---- ALLOC_CONTIG, the request 2026-01

-- A run is any `count` free blocks that adjoin, also inside a longer stretch: here those from `first` on.
unfoldable pub is_run : Public → ℕ → ℕ → Bool
is_run p count first = all_below (λ i. free p (first + i)) count

-- The first blocks of the runs, ascending.
unfoldable pub run_starts : Public → ℕ → List ℕ
run_starts p count = numbers_below (is_run p count) p.info.blocks

-- "The run is the one whose first block is nearest the hint, the lower on a tie." "Its numbers are given ascending."
unfoldable pub nearest_run : ℕ → ℕ → List ℕ → List ℕ
nearest_run want count [] = []
nearest_run want count (x ∷ xs) = numbers_from (nearest want x xs) count

-- "body and checks as ALLOC", and 14 "after 10, before 11": "enough blocks are free but no count of them adjoin".
unfoldable pub alloc_contig_plan : Port → Public → Bool → AllocOperands → ℕ → Plan
alloc_contig_plan port p opened o places =
    let free = length (free_blocks p) in
    let starts = run_starts p o.count in
    let taken = nearest_run (wanted o.hint) o.count starts in
    record {
      checks =
          (eqb o.count 0
          || ltb 64 o.count
          || (not (ltb o.hint p.info.blocks) && not (eqb o.hint no_hint))
          || ltb places o.count
          ⇒ BadOperand)
          ∷ (missing p o.reference ⇒ NotAllocated)
          ∷ (root_at_host port p o.reference ⇒ IsRoot)
          ∷ (not opened ⇒ NotOpened)
          ∷ (ltb free o.count ⇒ TooFewBlocks)
          ∷ (eqb (length starts) 0 ⇒ NoRun)
          ∷ (ltb (length p.pointers) (p.info.used + o.count) ⇒ TooFewPlaces)
          ∷ [];
      answer = Done;
      shown = numbers taken;
      steps = take_all o.reference taken;
    }

-- ---- CREATE and DELETE

-- "CREATE(src, credential, dest, credential)": "on an existing pointer adds one and uses no new place, so 11 doesn't arise then".
unfoldable pub create_plan : Port → Public → Bool → Bool → CreateOperands → Plan
create_plan port p source_opened destination_opened o = record {
  checks =
      (missing p o.source ⇒ NotAllocated)
      ∷ (missing p o.destination ⇒ NotAllocated)
      ∷ (is_root p o.destination || root_at_host port p o.source ⇒ IsRoot)
      ∷ (not source_opened ⇒ NotOpened)
      ∷ (not destination_opened ⇒ NotOpened)
      ∷ (eqb o.source o.destination || eqb (multiplicity p o.source o.destination) highest_multiplicity ⇒ CannotPoint)
      ∷ (not (points_to p o.source o.destination) && eqb p.info.used (length p.pointers) ⇒ TooFewPlaces)
      ∷ [];
  answer = Done;
  shown = nothing;
  steps = cond (points_to p o.source o.destination) (raise_pointer o.source o.destination) (add_pointer o.source o.destination) ∷ [];
}

-- The checks that DELETE and DELETE_TREE have in common: all but the last.
abbrev pub removal_checks : Port → Public → Bool → DeleteOperands → List Check
removal_checks port p opened o =
    (missing p o.source ⇒ NotAllocated)
    ∷ (missing p o.destination ⇒ NotAllocated)
    ∷ (root_at_host port p o.source ⇒ IsRoot)
    ∷ (not opened ⇒ NotOpened)
    ∷ (not (points_to p o.source o.destination) ⇒ NoPointer)
    ∷ []

-- "DELETE(src, credential, dest)": "DELETE takes one"; a pointer of multiplicity 1 goes; "at count 0 dest is freed". Result 1 if freed, else 0.
unfoldable pub delete_plan : Port → Public → Bool → DeleteOperands → Plan
delete_plan port p opened o =
    let once = eqb (multiplicity p o.source o.destination) 1 in
    let last = eqb (count p o.destination) 1 in
    record {
      checks = removal_checks port p opened o ++ ((last && has_pointers p o.destination ⇒ HasPointers) ∷ []);
      answer = Value (cond last 1 0);
      shown = nothing;
      steps = cond once (drop_pointer o.source o.destination) (lower_pointer o.source o.destination) ∷ cond last (free_block o.destination ∷ []) [];
    }

-- ---- DELETE_TREE, the request 2026-07

-- "After the pointer is wholly removed": the blocks that are freed then.
unfoldable pub freed_with : Public → ℕ → ℕ → List ℕ
freed_with p a b = orphans (change_public (drop_pointer a b) p)

unfoldable pub free_each : List ℕ → List Change
free_each [] = []
free_each (b ∷ bs) = free_block b ∷ free_each bs

-- "the operands and checks of DELETE without 9", and 15 "after 8": "some block that would be freed has a write key". "their pointers go. Result: how
-- many were freed."
unfoldable pub delete_tree_plan : Port → Public → Bool → DeleteOperands → Plan
delete_tree_plan port p opened o =
    let freed = freed_with p o.source o.destination in
    record {
      checks = removal_checks port p opened o ++ ((any (λ b. has_key p Writing b) freed ⇒ HasWriteKey) ∷ []);
      answer = Value (length freed);
      shown = nothing;
      steps = drop_pointer o.source o.destination ∷ (drop_from freed ∷ free_each freed);
    }

-- ---- KEY_READ and KEY_WRITE, the request 2026-02; RENEW and FORCE

-- Both windows of a block become 0.
abbrev pub close_windows : ℕ → List Change
close_windows b = set_window Reading b 0 ∷ (set_window Writing b 0 ∷ [])

-- "KEY_READ and KEY_WRITE, each with one new key or none": the mode is that of the key. "Both need the write access that KEY needs", so `opened` says
-- that the block is opened for writing, "and both close the block's two windows".
unfoldable pub key_plan : Port → Public → Bool → Mode → KeyOperands → Plan
key_plan port p opened mode o = record {
  checks =
      (missing p o.block ⇒ NotAllocated)
      ∷ (root_at_host port p o.block ⇒ IsRoot)
      ∷ (not opened ⇒ NotOpened)
      ∷ [];
  answer = Done;
  shown = nothing;
  steps = set_key mode o.block o.key ∷ close_windows o.block;
}

-- The operation that a mode number names: 0 reading, 1 writing.
unfoldable pub mode_of : ℕ → Mode
mode_of m = cond (eqb m 0) Reading Writing

-- "RENEW(read or write, b, key, interval), host only."
unfoldable pub renew_plan : Public → Bool → RenewOperands → Plan
renew_plan p opened o = record {
  checks =
      (ltb 1 o.mode || eqb o.interval 0 || ltb longest_interval o.interval ⇒ BadOperand)
      ∷ (missing p o.block ⇒ NotAllocated)
      ∷ (not (has_key p (mode_of o.mode) o.block) || not opened ⇒ NotOpened)
      ∷ [];
  answer = Done;
  shown = nothing;
  steps = set_window (mode_of o.mode) o.block (window_after p (mode_of o.mode) o.block o.interval) ∷ [];
}

-- "FORCE(b), host only, no credential."
unfoldable pub force_plan : Public → ForceOperands → Plan
force_plan p o = record {
  checks = (missing p o.block ⇒ NotAllocated) ∷ [];
  answer = Done;
  shown = nothing;
  steps = close_windows o.block;
}

-- ---- FREE, TICK and AUDIT

-- "FREE: the number of unallocated blocks", those that wait excepted (2026-09).
unfoldable pub free_plan : Public → Plan
free_plan p = record { checks = []; answer = Value (length (free_blocks p)); shown = nothing; steps = [] }

-- "TICK(n): 12 if T + n reaches 2^40; result the new T." 2026-08: "Each TICK of n adds n × the allocated non-root blocks" to the total.
unfoldable pub tick_plan : Public → TickOperands → Plan
tick_plan p o = record {
  checks = (leb time_limit (p.info.time + o.seconds) ⇒ TimeEnds) ∷ [];
  answer = Value (p.info.time + o.seconds);
  shown = nothing;
  steps = set_time (p.info.time + o.seconds) (p.info.total + rent_for p o.seconds) ∷ [];
}

-- "AUDIT: done with no result, or the refusal 1 or 2."
unfoldable pub audit_plan : Plan
audit_plan = record { checks = []; answer = Done; shown = nothing; steps = [] }

-- ---- RENT, the request 2026-08

-- "RENT takes a price .. 0 to 2,000, and gives cents"; "Refused: 16, price above 2,000; after 2."
unfoldable pub rent_plan : Public → RentOperands → Plan
rent_plan p o = record {
  checks = (ltb highest_price o.price ⇒ PriceTooHigh) ∷ [];
  answer = Value (cents p.info.total o.price);
  shown = nothing;
  steps = [];
}

-- ---- SWEEP, the request 2026-09

-- "the n lowest waiting blocks .. or all if fewer wait"
unfoldable pub lowest_waiting : Public → ℕ → List ℕ
lowest_waiting p most = take most (waiting_blocks p)

-- Each block is filled with zeros and becomes free.
unfoldable pub sweep_each : List ℕ → List Change
sweep_each [] = []
sweep_each (b ∷ bs) = sweep_block b ∷ sweep_each bs

-- "SWEEP(n) fills the n lowest waiting blocks with zeros, or all if fewer wait, and makes them free. Result: the number swept."
unfoldable pub sweep_plan : Public → SweepOperands → Plan
sweep_plan p o =
    let swept = lowest_waiting p o.most in
    record { checks = []; answer = Value (length swept); shown = nothing; steps = sweep_each swept }
