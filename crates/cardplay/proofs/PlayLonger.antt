-- The play of an input's first part, and of what it left with more behind it, is the play of the whole.
use Rattle.std.specs.Prelude.{Option, Some, None}
use Prim.Native.Nat.{ℕ, zero, suc, ◌+◌, ◌-◌, ◌≤◌}
use mathlib.Core.Path.{◌≡◌, refl, sym, ap, ap₂, ◌∙◌, subst}
use mathlib.Core.Bool.{Bool, true, false, true≢false}
use mathlib.Core.List.{List, [], ◌∷◌, ◌++◌, append_assoc}
use native.Mathlib.Omega.{arith}
use native.Mathlib.Nat.{sub-zero}
use lib.Dec.{ltb}
use lib.ListN.{length, length-append}
use Rattle.card.specs.Card.{Card}
use Rattle.decoding.specs.Decode.{Next, ended, refused, sent, decode}
use Rattle.lines.specs.Lines.{line_room}
use Rattle.input.specs.Play.{player_port, fault, Turn, turn_of, turn, Play, output_before, stopped, go_on, play_within, play}
use Rattle.input.proofs.PlayLaws.{tried, play_went, play_stopped}
use Rattle.input.specs.declared.Stop.{Stop}
use Rattle.input.specs.declared.Stop.TheVariants.{Ended, Full}
use Rattle.std.proofs.lemmas.Option.{none-some}
use Rattle.cardplay.specs.Progress.{is_full}
use Rattle.cardplay.proofs.DecodeLonger.{decode_longer}

-- ---- one turn

turn_longer : (ordinal : ℕ) (c : Card) (xs ys : List ℕ) (n : Next) → decode player_port xs ≡ n → (turn_of ordinal c xs n).stop ≡ None
    → turn ordinal c (xs ++ ys) ≡ record { stop = None; output = (turn_of ordinal c xs n).output; after = (turn_of ordinal c xs n).after; left = (turn_of ordinal c xs n).left ++ ys }
unfolding turn turn_of decode
turn_longer ordinal c xs ys ended d e = absurd (none-some Ended (sym e))
turn_longer ordinal c xs ys refused d e = absurd (none-some (fault player_port xs) (sym e))
turn_longer ordinal c [] ys (sent port call payload rest) d e = let z : ◌≡◌ {A = ℕ} 0 1 = cc in absurd (omega arith)
turn_longer ordinal c (kind ∷ xs) ys (sent port call payload rest) d e = ap (turn_of ordinal c (kind ∷ (xs ++ ys))) (decode_longer player_port (kind ∷ xs) ys d)

-- What a turn that stops the play leaves as it was.
abbrev Idle : Turn → Card → List ℕ → Type 0
Idle t c xs = (stop : Stop) → t.stop ≡ Some stop → (t.after ≡ c) × (t.left ≡ xs)

turn_idle : (ordinal : ℕ) (c : Card) (xs : List ℕ) (n : Next) → Idle (turn_of ordinal c xs n) c xs
unfolding turn_of
turn_idle ordinal c xs ended stop e = (refl, refl)
turn_idle ordinal c xs refused stop e = (refl, refl)
turn_idle ordinal c xs (sent port call payload rest) stop e = absurd (none-some stop e)

tried_idle : (full : Bool) (records : ℕ) (c : Card) (xs : List ℕ) → Idle (tried full records c xs) c xs
unfolding turn
tried_idle true records c xs stop e = (refl, refl)
tried_idle false records c xs stop e = turn_idle (records + 1) c xs (decode player_port xs) stop e

-- A turn that plays a record plays it whatever follows.
tried_went : (full : Bool) (records : ℕ) (c : Card) (xs ys : List ℕ) (big : ℕ) → line_room ≤ big → let t : Turn = tried full records c xs in t.stop ≡ None
    → play records c (xs ++ ys) big ≡ output_before t.output (play (records + 1) t.after (t.left ++ ys) (big - length t.output))
unfolding turn
tried_went true records c xs ys big h e = absurd (none-some Full (sym e))
tried_went false records c xs ys big h e =
    let longer = turn_longer (records + 1) c xs ys (decode player_port xs) refl e in
    play_went records c (xs ++ ys) big h (ap (λ (t : Turn). t.stop) longer)
    ∙ ap (λ (t : Turn). output_before t.output (play (records + 1) t.after t.left (big - length t.output))) longer

-- ---- a play of the input's first part

-- However far the play of the first part came, that of the whole goes on from there.
abbrev Longer : Play → ℕ → Card → List ℕ → Type 0
Longer p records c xs = (ys : List ℕ) (big : ℕ) → length p.output + line_room ≤ big → play records c (xs ++ ys) big ≡ output_before p.output (play p.records p.after (p.left ++ ys) (big - length p.output))

longer_none : (stop : Stop) (records : ℕ) (c : Card) (xs : List ℕ) → Longer (stopped stop records c xs) records c xs
longer_none stop records c xs ys big h = ap (play records c (xs ++ ys)) (sym (sub-zero big))

-- Nothing of what is left is played, for this reason.
abbrev pub PlaysNothing : Stop → ℕ → Card → List ℕ → Type 0
PlaysNothing stop records c left = (room : ℕ) → line_room ≤ room → play records c left room ≡ stopped stop records c left

abbrev PlaysNothingAfter : Play → Type 0
PlaysNothingAfter p = is_full p.stop ≡ false → PlaysNothing p.stop p.records p.after p.left

output_append : (us vs : List ℕ) (p : Play) → output_before us (output_before vs p) ≡ output_before (us ++ vs) p
output_append us vs p = ap (λ (ls : List ℕ). record { stop = p.stop; output = ls; records = p.records; after = p.after; left = p.left }) (sym (append_assoc us vs p.output))

pub output_output : (us vs : List ℕ) (big : ℕ) (records : ℕ) (c : Card) (xs : List ℕ)
    → output_before us (output_before vs (play records c xs (big - length us - length vs))) ≡ output_before (us ++ vs) (play records c xs (big - length (us ++ vs)))
output_output us vs big records c xs =
    let same : big - length us - length vs ≡ big - length (us ++ vs) = omega (arith, length-append us vs) in
    subst (λ (n : ℕ). output_before us (output_before vs (play records c xs (big - length us - length vs))) ≡ output_before (us ++ vs) (play records c xs n)) same
    (output_append us vs (play records c xs (big - length us - length vs)))

same_stop : {s t : Stop} → ◌≡◌ {A = Option Stop} (Some s) (Some t) → s ≡ t
same_stop e = cc

-- Where there was room for a line, the whole play stops there too.
halted_here : (full : Bool) (records : ℕ) (c : Card) (xs : List ℕ) (stop : Stop) → (tried full records c xs).stop ≡ Some stop → is_full stop ≡ false → PlaysNothing stop records c xs
halted_here true records c xs stop e f = absurd (true≢false (ap is_full (same_stop e) ∙ f))
halted_here false records c xs stop e f =
    let idle = tried_idle false records c xs stop e in
    λ room h. play_stopped records c xs room h stop e idle.0 idle.1

module _ (most records : ℕ) (c : Card) (xs : List ℕ) (small : ℕ) (full : Bool) where
  abbrev tries : Turn
  tries = tried full records c xs

  -- A turn that stops the play: it stops where it was.
  stops : (stop : Stop) → tries.stop ≡ Some stop → stopped stop records c xs ≡ stopped stop records tries.after tries.left
  stops stop e =
      let idle = tried_idle full records c xs stop e in
      ap₂ (λ (d : Card) (ys : List ℕ). stopped stop records d ys) (sym idle.0) (sym idle.1)

  go_on_longer : (stop : Option Stop) → tries.stop ≡ stop → ((n : ℕ) (d : Card) (zs : List ℕ) (room : ℕ) → Longer (play_within most n d zs room) n d zs)
      → Longer (go_on stop tries records (play_within most) small) records c xs
  unfolding go_on
  go_on_longer None e ih ys big h =
      let p : Play = play_within most (records + 1) tries.after tries.left (small - length tries.output) in
      let long : length (tries.output ++ p.output) ≡ length tries.output + length p.output = length-append tries.output p.output in
      tried_went full records c xs ys big (omega arith) e
      ∙ ap (output_before tries.output) (ih (records + 1) tries.after tries.left (small - length tries.output) ys (big - length tries.output) (omega arith))
      ∙ output_output tries.output p.output big p.records p.after (p.left ++ ys)
  go_on_longer (Some stop) e ih ys big h = subst (λ (p : Play). Longer p records c xs) (stops stop e) (longer_none stop records c xs) ys big h

  go_on_halted : (stop : Option Stop) → tries.stop ≡ stop → ((n : ℕ) (d : Card) (zs : List ℕ) (room : ℕ) → PlaysNothingAfter (play_within most n d zs room))
      → PlaysNothingAfter (go_on stop tries records (play_within most) small)
  unfolding go_on
  go_on_halted None e ih f = ih (records + 1) tries.after tries.left (small - length tries.output) f
  go_on_halted (Some stop) e ih f = subst PlaysNothingAfter (stops stop e) (λ g. halted_here full records c xs stop e g) f

within_longer : (most records : ℕ) (c : Card) (xs : List ℕ) (small : ℕ) → Longer (play_within most records c xs small) records c xs
unfolding play_within
within_longer zero records c xs small = longer_none Full records c xs
within_longer (suc most) records c xs small =
    go_on_longer most records c xs small (ltb small line_room) (tried (ltb small line_room) records c xs).stop refl (within_longer most)

pub play_longer : (records : ℕ) (c : Card) (xs : List ℕ) (small : ℕ) → Longer (play records c xs small) records c xs
unfolding play
play_longer records c xs small ys big h = within_longer (suc (length xs)) records c xs small ys big h

within_halted : (most records : ℕ) (c : Card) (xs : List ℕ) (small : ℕ) → PlaysNothingAfter (play_within most records c xs small)
unfolding play_within
within_halted zero records c xs small f = absurd (true≢false f)
within_halted (suc most) records c xs small f =
    go_on_halted most records c xs small (ltb small line_room) (tried (ltb small line_room) records c xs).stop refl (within_halted most) f

pub play_halted : (records : ℕ) (c : Card) (xs : List ℕ) (small : ℕ) → PlaysNothingAfter (play records c xs small)
unfolding play
play_halted records c xs small f = within_halted (suc (length xs)) records c xs small f
