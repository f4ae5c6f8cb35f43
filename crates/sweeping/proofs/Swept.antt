-- The waiting blocks swept one after the other, over plain values, and what that leaves of a card.
use Prim.Native.Nat.{ℕ, zero, suc, ◌+◌, ◌-◌, ◌*◌, ◌≤◌, ◌<◌}
use mathlib.Core.Path.{◌≡◌, refl, sym, ap, ◌∙◌}
use mathlib.Core.Logic.{◌⊎◌, ⊎_elim}
use mathlib.Core.Bool.{Bool, true, false, cond}
use mathlib.Core.List.{List, [], ◌∷◌, ◌++◌, append-nil, append_assoc}
use native.Mathlib.Numerals.{add-one}
use native.Mathlib.Omega.{arith}
use lib.ListN.{length, take, drop, get_or, set, length-set, length-append, length-replicate}
use lib.Seq.{take_at, take_all, get_or-set_other}
use Rattle.card.specs.Lists.{numbers_below}
use Rattle.laws.specs.ListsLaws.{same_or_other}
use Rattle.card.specs.Contents.{fill, zeros}
use Rattle.laws.specs.ContentsLaws.{block_fits, fill_length}
use Rattle.card.specs.Card.{Card, Public, card, waiting, waiting_blocks, waiting_flag}
use Rattle.card.specs.SoundCard.{SoundCard}
use Rattle.card.specs.Plan.{changes, change, change_public, change_keys, change_contents, out_after, places_after}
use Rattle.card.specs.Promises.{Is}
use Rattle.laws.specs.PromisesLaws.{is_done}
use Rattle.card.specs.Calls.{lowest_waiting, sweep_each, sweep_plan}
use Rattle.card.specs.Session.{plan, perform_sound, request}
use Rattle.card.specs.declared.Info.{Info}
use Rattle.card.specs.declared.Port.{Port}
use Rattle.card.specs.declared.SweepOperands.{SweepOperands}
use Rattle.card.specs.declared.Call.TheVariants.{Sweep}
use Rattle.card.specs.Answers.{Value}
use Rattle.tables.specs.Cleared.{part_cleared}
use Rattle.tables.specs.FreeLaws.{flags_state}
use Rattle.sweeping.specs.Sweeping.{CanSweep, BlockSwept, swept_flags, swept_contents, is_waiting, waiting_below, lowest_in, LowestSwept}

-- ---- one block

pub block_swept : {bytes b : ℕ} {flags contents cleared : List ℕ} → CanSweep bytes flags contents b
    → (let at = b * bytes in let size = (at + bytes) - at in
    cleared ≡ zeros (length (take size (drop at contents)))
    → BlockSwept bytes b flags contents (set flags b 0) (take at contents ++ (cleared ++ drop size (drop at contents))))
unfolding fill
block_swept {bytes} {b} {contents = contents} s e = record { frees = refl; zeroes = part_cleared (b * bytes) bytes contents s.in_contents e }

-- ---- one more

flags_one_more : (flags bs : List ℕ) (b : ℕ) → swept_flags flags (bs ++ (b ∷ [])) ≡ set (swept_flags flags bs) b 0
unfolding swept_flags
flags_one_more flags [] b = refl
flags_one_more flags (x ∷ bs) b = flags_one_more (set flags x 0) bs b

contents_one_more : (bytes : ℕ) (contents bs : List ℕ) (b : ℕ)
    → swept_contents bytes contents (bs ++ (b ∷ [])) ≡ fill bytes (swept_contents bytes contents bs) b (zeros bytes)
unfolding swept_contents
contents_one_more bytes contents [] b = refl
contents_one_more bytes contents (x ∷ bs) b = contents_one_more bytes (fill bytes contents x (zeros bytes)) bs b

-- ---- the walk

-- The waiting blocks below `block` are swept, at most so many; from it on the flags are as they were.
pub record Walked (bytes most : ℕ) (flags contents flags' contents' : List ℕ) (swept block : ℕ) : Type 0 where
  pub within : block ≤ length flags
  pub few : swept ≤ most
  pub counted : swept ≡ length (waiting_below flags block)
  pub frees : flags' ≡ swept_flags flags (waiting_below flags block)
  pub zeroes : contents' ≡ swept_contents bytes contents (waiting_below flags block)
  pub same_flags : length flags' ≡ length flags
  pub same_contents : length contents' ≡ length contents
  pub ahead : (b : ℕ) → block ≤ b → get_or flags' b 0 ≡ get_or flags b 0

pub walked_none : (bytes most : ℕ) (flags contents : List ℕ) → Walked bytes most flags contents flags contents 0 0
unfolding waiting_below numbers_below swept_flags swept_contents
walked_none bytes most flags contents = record {
  within = omega arith;
  few = omega arith;
  counted = refl;
  frees = refl;
  zeroes = refl;
  same_flags = refl;
  same_contents = refl;
  ahead = λ b l. refl;
}

-- One turn: the block is there, and not enough are swept.
module _ {bytes most : ℕ} {flags contents flags' contents' : List ℕ} {swept block : ℕ} (w : Walked bytes most flags contents flags' contents' swept block)
    (inside : block < length flags) (wanting : swept < most) where
  -- The block's own flags are those at the start.
  waits_at_first : {t : Bool} → t ≡ waiting_flag (get_or flags' block 0) → is_waiting flags block ≡ t
  waits_at_first e = sym (e ∙ ap waiting_flag (w.ahead block (omega arith)))

  pub can_sweep : length contents ≡ length flags * bytes → CanSweep bytes flags' contents' block
  can_sweep e = record {
    in_flags = omega (arith, w.same_flags, inside);
    in_contents = omega (arith, w.same_contents, block_fits bytes inside);
  }

  pub walked_pass : {t : Bool} → t ≡ waiting_flag (get_or flags' block 0) → t ≡ false → Walked bytes most flags contents flags' contents' swept (block + 1)
  unfolding waiting_below numbers_below
  walked_pass e f =
      let same : waiting_below flags (block + 1) ≡ waiting_below flags block = rw (add-one block, waits_at_first e, f) (append-nil _) in
      record {
        within = omega (arith, inside);
        few = w.few;
        counted = rw same w.counted;
        frees = rw same w.frees;
        zeroes = rw same w.zeroes;
        same_flags = w.same_flags;
        same_contents = w.same_contents;
        ahead = λ b k. w.ahead b (omega arith);
      }

  pub walked_more : {t : Bool} {flags'' contents'' : List ℕ} → length contents ≡ length flags * bytes → t ≡ waiting_flag (get_or flags' block 0) → t ≡ true
      → BlockSwept bytes block flags' contents' flags'' contents'' → Walked bytes most flags contents flags'' contents'' (swept + 1) (block + 1)
  unfolding waiting_below numbers_below
  walked_more {flags'' = flags''} {contents''} long e f s =
      let more : waiting_below flags (block + 1) ≡ waiting_below flags block ++ (block ∷ []) = rw (add-one block, waits_at_first e, f) in
      record {
        within = omega (arith, inside);
        few = omega (arith, wanting);
        counted = rw (more, w.counted) (sym (length-append (waiting_below flags block) (block ∷ [])));
        frees = rw more (s.frees ∙ ap (λ (xs : List ℕ). set xs block 0) w.frees ∙ sym (flags_one_more flags (waiting_below flags block) block));
        zeroes =
            rw more
            (s.zeroes
            ∙ ap (λ (xs : List ℕ). fill bytes xs block (zeros bytes)) w.zeroes
            ∙ sym (contents_one_more bytes contents (waiting_below flags block) block));
        same_flags = rw s.frees (length-set flags' block 0 ∙ w.same_flags);
        same_contents =
            rw s.zeroes
            (fill_length bytes contents' block (zeros bytes) (can_sweep long).in_contents (length-replicate bytes 0) ∙ w.same_contents);
        ahead = λ b k. rw s.frees (get_or-set_other flags' block b 0 0 (λ (q : b ≡ block). absurd (omega arith)) ∙ w.ahead b (omega arith));
      }

-- Equal tables are as good.
pub walked_same : {bytes most : ℕ} {flags contents flags' contents' flags'' contents'' : List ℕ} {swept swept' block : ℕ} → Walked bytes most flags contents flags' contents' swept block
    → flags'' ≡ flags' → contents'' ≡ contents' → swept' ≡ swept → Walked bytes most flags contents flags'' contents'' swept' block
walked_same w e f g = rw (e, f, g) w

-- ---- the end of the walk

-- The numbers below n start with those below m.
record Starts (p : ℕ → Bool) (m n : ℕ) : Type 0 where
  pub rest : List ℕ
  pub split : numbers_below p n ≡ numbers_below p m ++ rest

numbers_start : (p : ℕ → Bool) (m n : ℕ) → m ≤ n → Starts p m n
unfolding numbers_below
numbers_start p m zero l = let none : m ≡ 0 = omega arith in record { rest = []; split = rw none }
numbers_start p m (suc n) l =
    ⊎_elim
    (λ (e : m ≡ suc n). record { rest = []; split = rw e (sym (append-nil _)) })
    (λ (f : m ≡ suc n → ⊥).
    let s = numbers_start p m n (omega arith) in
    record {
      rest = s.rest ++ cond (p n) (n ∷ []) [];
      split = ap (λ (xs : List ℕ). xs ++ cond (p n) (n ∷ []) []) s.split ∙ append_assoc (numbers_below p m) s.rest (cond (p n) (n ∷ []) []);
    })
    (same_or_other m (suc n))

module _ {bytes most : ℕ} {flags contents flags' contents' : List ℕ} {swept block : ℕ} (w : Walked bytes most flags contents flags' contents' swept block)
    (stop : (swept ≡ most) ⊎ (length flags ≤ block)) where
  -- Those that are swept are the lowest: all that wait, or as many as asked for.
  lowest_walked : lowest_in flags most ≡ waiting_below flags block
  unfolding lowest_in waiting_below
  lowest_walked =
      ⊎_elim
      (λ (full : swept ≡ most).
      let long : length (waiting_below flags block) ≡ most = omega (arith, w.counted) in
      let s = numbers_start (is_waiting flags) block (length flags) w.within in
      ap (take most) s.split ∙ take_at (waiting_below flags block) s.rest most long)
      (λ (l : length flags ≤ block).
      let end : length flags ≡ block = omega (arith, w.within) in
      rw end (take_all most (waiting_below flags block) (omega (arith, w.counted, w.few))))
      stop

  pub walked_whole : LowestSwept bytes most flags contents flags' contents' swept
  walked_whole = record {
    counted = w.counted ∙ ap length (sym lowest_walked);
    frees = w.frees ∙ ap (swept_flags flags) (sym lowest_walked);
    zeroes = w.zeroes ∙ ap (swept_contents bytes contents) (sym lowest_walked);
  }

-- ---- on a card

swept_card : (info : Info) (flags keys counts pointers multiplicities windows contents bs : List ℕ)
    → card info (swept_flags flags bs) keys counts pointers multiplicities windows (swept_contents info.bytes contents bs)
    ≡ changes (card info flags keys counts pointers multiplicities windows contents) (sweep_each bs)
unfolding swept_flags swept_contents changes change change_public change_keys change_contents sweep_each
swept_card info flags keys counts pointers multiplicities windows contents [] = refl
swept_card info flags keys counts pointers multiplicities windows contents (b ∷ bs) =
    swept_card info (set flags b 0) keys counts pointers multiplicities windows (fill info.bytes contents b (zeros info.bytes)) bs

-- On a card of the right shape the lowest of the table are those of the rule.
lowest_waiting_law : (p : Public) (most : ℕ) → length p.flags ≡ p.info.blocks → lowest_in p.flags most ≡ lowest_waiting p most
unfolding lowest_in lowest_waiting waiting_below waiting_blocks waiting
lowest_waiting_law p most e = ap (take most) (flags_state waiting_flag p e)

module _ {c : Card} (s : SoundCard c) where
  pub sweep_done : (port : Port) (o : SweepOperands) {flags contents : List ℕ} {n : ℕ}
      → LowestSwept c.public.info.bytes o.most c.public.flags c.contents flags contents n
      → Is (perform_sound port c (request (Sweep o) [] [] [])) (Value n) (card c.public.info flags c.keys c.public.counts c.public.pointers c.public.multiplicities c.public.windows contents) [] []
  unfolding perform_sound plan sweep_plan out_after places_after
  sweep_done port o w =
      let same = lowest_waiting_law c.public o.most s.shaped.has_lengths.flags in
      rw (w.counted, w.frees, w.zeroes, same)
      (is_done c (request (Sweep o) [] [] []).lent (sweep_plan c.public o) tt (swept_card _ _ _ _ _ _ _ _ (lowest_waiting c.public o.most)) refl refl)
