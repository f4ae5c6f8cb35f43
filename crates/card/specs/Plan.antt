-- A call as checks in order and then changes in order: the two parts of each paragraph of document 01, "Calls".
-- The checks and the changes are made from the public part of the card and from the answers of the access test alone.
use Rattle.std.specs.Prelude.{ℕ, ◌+◌, ◌-◌, ◌≡◌, Bool, true, false, not, cond, List, [], ◌∷◌, ◌++◌, length, drop, set, Option, None, Some, is_some, unwrap_or}
use Rattle.card.specs.Lists.{tabulate}
use Rattle.card.specs.Pointers.{pointer, pointers_to, insert, remove, insert_beside, remove_beside, set_beside, keep, keep_beside, not_from}
use Rattle.card.specs.Contents.{overwrite, fill, zeros}
use Rattle.card.specs.Card.{Public, Card, key_flag, flag, count, window_at, key_at, in_use, times_in_use, multiplicity, block}
use Rattle.card.specs.Soundness.{shape, sound}
use Rattle.card.specs.declared.Info.{Info}
use Rattle.card.specs.declared.Mode.{Mode}
use Rattle.card.specs.declared.Mode.TheVariants.{Reading, Writing}
use Rattle.card.specs.declared.Refusal.{Refusal}
use Rattle.card.specs.declared.Refusal.TheVariants.{Misshapen, Unsound}
use Rattle.card.specs.Answers.{Answer}
use Rattle.card.specs.Answers.{Refused}

-- ---- checks

infix 20 ◌⇒◌
-- A condition, and the refusal where it holds.
pub data Check : Type 0 where
  ◌⇒◌ : Bool → Refusal → Check

-- The refusal of the first condition that holds.
unfoldable pub first : List Check → Option Refusal
first [] = None
first ((test ⇒ r) ∷ checks) = cond test (Some r) (first checks)

-- The refusal's condition holds, and no condition before it.
pub data FirstHolds : List Check → Refusal → Type 0 where
  here : {t : Bool} {r : Refusal} {checks : List Check} → t ≡ true → FirstHolds ((t ⇒ r) ∷ checks) r
  later : {t : Bool} {r s : Refusal} {checks : List Check} → t ≡ false → FirstHolds checks r → FirstHolds ((t ⇒ s) ∷ checks) r

-- No condition holds.
abbrev pub NoneHolds : List Check → Type 0
NoneHolds [] = Unit {0}
NoneHolds ((t ⇒ r) ∷ checks) = (t ≡ false) × NoneHolds checks

-- Document 01, "Every call but FORMAT first refuses 1 (shape), then 2 (unsound)."
unfoldable pub audited : Card → List Check → List Check
audited c checks = (not (shape c) ⇒ Misshapen) ∷ ((not (sound c) ⇒ Unsound) ∷ checks)

-- ---- changes

pub data Change : Type 0 where
  set_window : Mode → ℕ → ℕ → Change
  set_block : ℕ → List ℕ → Change
  set_key : Mode → ℕ → Option (ℕ × ℕ) → Change
  take_block : ℕ → Change
  free_block : ℕ → Change
  -- 2026-09: a waiting block is overwritten and becomes free.
  sweep_block : ℕ → Change
  add_pointer : ℕ → ℕ → Change
  raise_pointer : ℕ → ℕ → Change
  lower_pointer : ℕ → ℕ → Change
  drop_pointer : ℕ → ℕ → Change
  drop_from : List ℕ → Change
  -- 2026-08: the time, and the total that goes with it.
  set_time : ℕ → ℕ → Change

-- The words of a new key; they are 0 where there is none.
abbrev pub high_word : Option (ℕ × ℕ) → ℕ
high_word key = (unwrap_or key (0, 0)).0

abbrev pub low_word : Option (ℕ × ℕ) → ℕ
low_word key = (unwrap_or key (0, 0)).1

-- The operation that is not this one.
abbrev pub other_mode : Mode → Mode
other_mode Reading = Writing
other_mode Writing = Reading

-- The flag of a key for the mode: 0 where there is none.
abbrev pub key_bit : Mode → Bool → ℕ
key_bit mode false = 0
key_bit Reading true = 2
key_bit Writing true = 4

-- 2026-02: the flags of an allocated block once its key for the mode is set, from those that it had: the other key's flag stays.
abbrev pub keyed_flags : ℕ → Mode → Option (ℕ × ℕ) → ℕ
keyed_flags f mode key = 1 + key_bit mode (is_some key) + key_bit (other_mode mode) (key_flag (other_mode mode) f)

abbrev pub with_used : Info → ℕ → Info
with_used info used = record { blocks = info.blocks; roots = info.roots; bytes = info.bytes; used = used; time = info.time; total = info.total }

abbrev pub with_time : Info → ℕ → ℕ → Info
with_time info time total = record { blocks = info.blocks; roots = info.roots; bytes = info.bytes; used = info.used; time = time; total = total }

abbrev pub with_flags : Public → List ℕ → Public
with_flags p flags = record { info = p.info; flags = flags; counts = p.counts; pointers = p.pointers; multiplicities = p.multiplicities; windows = p.windows }

abbrev pub with_window : Public → Mode → ℕ → ℕ → Public
with_window p mode b end = record {
  info = p.info;
  flags = p.flags;
  counts = p.counts;
  pointers = p.pointers;
  multiplicities = p.multiplicities;
  windows = set p.windows (window_at mode b) end;
}

-- A pointer that is there gets another multiplicity.
abbrev pub with_multiplicity : Public → ℕ → ℕ → ℕ → Public
with_multiplicity p a b times = record {
  info = p.info;
  flags = p.flags;
  counts = p.counts;
  pointers = p.pointers;
  multiplicities = set_beside (pointer a b) times (in_use p) (times_in_use p) ++ drop p.info.used p.multiplicities;
  windows = p.windows;
}

abbrev pub with_count : Public → ℕ → ℕ → Public
with_count p b times = record {
  info = p.info;
  flags = p.flags;
  counts = set p.counts b times;
  pointers = p.pointers;
  multiplicities = p.multiplicities;
  windows = p.windows;
}

-- The flags of a block that is freed. 2026-09, "A freed block now waits, flag 8 alone".
abbrev pub freed_flags : ℕ
freed_flags = 8

-- What a change does to the public part.
unfoldable pub change_public : Change → Public → Public
change_public (set_window mode b end) p = with_window p mode b end
change_public (set_block b ys) p = p
change_public (set_key mode b key) p = with_flags p (set p.flags b (keyed_flags (flag p b) mode key))
change_public (take_block b) p = with_flags p (set p.flags b 1)
change_public (free_block b) p = with_window (with_window (with_flags p (set p.flags b freed_flags)) Reading b 0) Writing b 0
change_public (sweep_block b) p = with_flags p (set p.flags b 0)
change_public (add_pointer a b) p = record {
  info = with_used p.info (p.info.used + 1);
  flags = p.flags;
  counts = set p.counts b (count p b + 1);
  pointers = insert (pointer a b) (in_use p) ++ drop (p.info.used + 1) p.pointers;
  multiplicities = insert_beside (pointer a b) 1 (in_use p) (times_in_use p) ++ drop (p.info.used + 1) p.multiplicities;
  windows = p.windows;
}
change_public (raise_pointer a b) p = with_multiplicity (with_count p b (count p b + 1)) a b (multiplicity p a b + 1)
change_public (lower_pointer a b) p = with_multiplicity (with_count p b (count p b - 1)) a b (multiplicity p a b - 1)
change_public (drop_pointer a b) p = record {
  info = with_used p.info (p.info.used - 1);
  flags = p.flags;
  counts = set p.counts b (count p b - multiplicity p a b);
  pointers = remove (pointer a b) (in_use p) ++ (0 ∷ drop p.info.used p.pointers);
  multiplicities = remove_beside (pointer a b) (in_use p) (times_in_use p) ++ (0 ∷ drop p.info.used p.multiplicities);
  windows = p.windows;
}
change_public (drop_from bs) p =
    let ws = keep (not_from bs) (in_use p) in
    let ns = keep_beside (not_from bs) (in_use p) (times_in_use p) in
    let gone = p.info.used - length ws in
    record {
      info = with_used p.info (length ws);
      flags = p.flags;
      counts = tabulate (λ b. pointers_to b ws ns) (length p.counts);
      pointers = ws ++ (zeros gone ++ drop p.info.used p.pointers);
      multiplicities = ns ++ (zeros gone ++ drop p.info.used p.multiplicities);
      windows = p.windows;
    }
change_public (set_time time total) p = record { info = with_time p.info time total; flags = p.flags; counts = p.counts; pointers = p.pointers; multiplicities = p.multiplicities; windows = p.windows }

-- The two words of a block's key for the mode; those of the other key stay.
abbrev pub replace_key : List ℕ → Mode → ℕ → Option (ℕ × ℕ) → List ℕ
replace_key keys mode b key = set (set keys (key_at mode b) (high_word key)) (key_at mode b + 1) (low_word key)

-- Neither key is there any more.
abbrev pub clear_keys : List ℕ → ℕ → List ℕ
clear_keys keys b = replace_key (replace_key keys Reading b None) Writing b None

-- What a change does to the keys.
unfoldable pub change_keys : Change → List ℕ → List ℕ
change_keys (set_window mode b end) keys = keys
change_keys (set_block b ys) keys = keys
change_keys (set_key mode b key) keys = replace_key keys mode b key
change_keys (take_block b) keys = keys
change_keys (free_block b) keys = clear_keys keys b
change_keys (sweep_block b) keys = keys
change_keys (add_pointer a b) keys = keys
change_keys (raise_pointer a b) keys = keys
change_keys (lower_pointer a b) keys = keys
change_keys (drop_pointer a b) keys = keys
change_keys (drop_from bs) keys = keys
change_keys (set_time time total) keys = keys

-- What a change does to the contents, in blocks of so many bytes.
unfoldable pub change_contents : ℕ → Change → List ℕ → List ℕ
change_contents bytes (set_window mode b end) contents = contents
change_contents bytes (set_block b ys) contents = fill bytes contents b ys
change_contents bytes (set_key mode b key) contents = contents
change_contents bytes (take_block b) contents = fill bytes contents b (zeros bytes)
change_contents bytes (free_block b) contents = contents
change_contents bytes (sweep_block b) contents = fill bytes contents b (zeros bytes)
change_contents bytes (add_pointer a b) contents = contents
change_contents bytes (raise_pointer a b) contents = contents
change_contents bytes (lower_pointer a b) contents = contents
change_contents bytes (drop_pointer a b) contents = contents
change_contents bytes (drop_from bs) contents = contents
change_contents bytes (set_time time total) contents = contents

unfoldable pub change : Card → Change → Card
change c step = record {
  public = change_public step c.public;
  keys = change_keys step c.keys;
  contents = change_contents c.public.info.bytes step c.contents;
}

-- The changes, one after the other.
unfoldable pub changes : Card → List Change → Card
changes c [] = c
changes c (step ∷ steps) = changes (change c step) steps

-- ---- a call

-- What a done call puts into a lent buffer: nothing, a block's part of the contents, or numbers in the first places.
pub data Shown : Type 0 where
  nothing : Shown
  block_part : ℕ → Shown
  numbers : List ℕ → Shown

-- One paragraph of document 01, "Calls", or a call of a request: its refusals in order, then what is answered, shown and changed.
pub record Plan : Type 0 where
  pub checks : List Check
  pub answer : Answer
  pub shown : Shown
  pub steps : List Change

-- The buffers that are lent with a call, and what they hold: the bytes that WRITE takes, READ's bytes, and the places of ALLOC and ALLOC_CONTIG.
pub record Buffers : Type 0 where
  pub input : List ℕ
  pub out : List ℕ
  pub places : List ℕ

-- What a call answers, the card that it leaves, and what the buffers that it may write then hold.
pub record Result : Type 0 where
  pub answer : Answer
  pub after : Card
  pub out : List ℕ
  pub places : List ℕ

-- Document 01, "A refusal returns its number and changes no table, record or buffer."
abbrev pub refused : Card → Buffers → Refusal → Result
refused c lent r = record { answer = Refused r; after = c; out = lent.out; places = lent.places }

unfoldable pub out_after : Card → Shown → List ℕ → List ℕ
out_after c nothing out = out
out_after c (block_part b) out = block c b
out_after c (numbers ns) out = out

unfoldable pub places_after : Shown → List ℕ → List ℕ
places_after nothing places = places
places_after (block_part b) places = places
places_after (numbers ns) places = overwrite places 0 ns

abbrev pub done : Card → Buffers → Plan → Result
done c lent plan = record {
  answer = plan.answer;
  after = changes c plan.steps;
  out = out_after c plan.shown lent.out;
  places = places_after plan.shown lent.places;
}

unfoldable pub settle : Card → Buffers → Plan → Option Refusal → Result
settle c lent plan None = done c lent plan
settle c lent plan (Some r) = refused c lent r

-- A call judged by its own checks, on a card that has been audited.
unfoldable pub judge_sound : Card → Buffers → Plan → Result
judge_sound c lent plan = settle c lent plan (first plan.checks)

-- A call on any card: audited first.
unfoldable pub judge : Card → Buffers → Plan → Result
judge c lent plan = settle c lent plan (first (audited c plan.checks))
