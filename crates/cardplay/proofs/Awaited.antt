-- A play that stops for want of input leaves less than a record.
use Rattle.std.specs.Prelude.{Option, Some, None, Ok, Err}
use Prim.Native.Nat.{ℕ, zero, suc, ◌+◌, ◌-◌, ◌<◌}
use mathlib.Core.Path.{◌≡◌, refl}
use mathlib.Core.Bool.{Bool, true, false, cond, false≢true}
use mathlib.Core.List.{List, [], ◌∷◌}
use native.Mathlib.Omega.{arith}
use lib.Dec.{ltb}
use lib.ListN.{length}
use borrow.Author.Tests.{ltb-true}
use Rattle.card.specs.Card.{Card}
use Rattle.decoding.specs.Decode.{Decoding, Next, ended, refused, sent, decode, decode_body, next_of}
use Rattle.kinds.specs.Kinds.{row, length_of, kind_of, kind_length, body_length}
use Rattle.kinds.specs.declared.Name.{Name}
use Rattle.kinds.specs.declared.Name.TheVariants.{Read as READ, Write as WRITE, Alloc as ALLOC, Create as CREATE, Delete as DELETE, KeyRead as KEY-READ, Renew as RENEW, Force as FORCE, Free as FREE, Tick as TICK, Audit as AUDIT, AllocContig as ALLOC-CONTIG, KeyWrite as KEY-WRITE, DeleteTree as DELETE-TREE}
use Rattle.lines.specs.Lines.{line_room}
use Rattle.input.specs.Play.{player_port, is_short, fault, Turn, turn_of, turn, Play, go_on, play_within, play}
use Rattle.input.proofs.PlayLaws.{tried}
use Rattle.input.specs.declared.Stop.{Stop}
use Rattle.input.specs.declared.Stop.TheVariants.{Short, Refused}
use Rattle.cardplay.specs.InputBuffer.{record_room}
use Rattle.cardplay.specs.Progress.{needs_input}
use Rattle.card.specs.declared.Port.{Port}

-- ---- one record

length_most : (name : Name) → length_of name < record_room
unfolding length_of row
length_most READ = omega arith
length_most WRITE = omega arith
length_most ALLOC = omega arith
length_most CREATE = omega arith
length_most DELETE = omega arith
length_most KEY-READ = omega arith
length_most RENEW = omega arith
length_most FORCE = omega arith
length_most FREE = omega arith
length_most TICK = omega arith
length_most AUDIT = omega arith
length_most ALLOC-CONTIG = omega arith
length_most KEY-WRITE = omega arith
length_most DELETE-TREE = omega arith

kind_short : (k : Option (Port × Name)) (n : ℕ) → is_short (kind_length k) n ≡ true → n + 1 < record_room
unfolding is_short kind_length
kind_short (Some (port, name)) n e = omega (arith, ltb-true n (length_of name) e, length_most name)
kind_short None n e = absurd (false≢true e)

fault_short : (xs : List ℕ) → needs_input (fault player_port xs) ≡ true → length xs < record_room
unfolding fault body_length
fault_short [] e = omega arith
fault_short (kind ∷ xs) e = go (is_short (body_length player_port kind) (length xs)) refl e
  where
    go : (t : Bool) → is_short (body_length player_port kind) (length xs) ≡ t → needs_input (cond t Short Refused) ≡ true → length (kind ∷ xs) < record_room
    go true s h = omega (arith, kind_short (kind_of player_port kind) (length xs) s)
    go false s h = absurd (false≢true h)

ended_none : (xs : List ℕ) → decode player_port xs ≡ ended → length xs < record_room
unfolding decode next_of
ended_none [] e = omega arith
ended_none (kind ∷ xs) e = absurd (go (decode_body player_port kind xs) e)
  where
    go : (d : Decoding) → next_of xs d ≡ ended → ⊥
    go (Ok (port, call)) h = let z : ◌≡◌ {A = ℕ} 0 1 = cc in omega arith
    go (Err bad) h = let z : ◌≡◌ {A = ℕ} 0 1 = cc in omega arith

-- The turn stopped the play, for want of input.
abbrev turn_needs : Option Stop → Bool
turn_needs None = false
turn_needs (Some stop) = needs_input stop

turn_awaits : (ordinal : ℕ) (c : Card) (xs : List ℕ) (n : Next) → decode player_port xs ≡ n → turn_needs (turn_of ordinal c xs n).stop ≡ true → length (turn_of ordinal c xs n).left < record_room
unfolding turn_of
turn_awaits ordinal c xs ended d e = ended_none xs d
turn_awaits ordinal c xs refused d e = fault_short xs e
turn_awaits ordinal c xs (sent port call payload rest) d e = absurd (false≢true e)

-- ---- a whole play

go_on_awaits : (stop : Option Stop) (t : Turn) (records : ℕ) (rest : ℕ → Card → List ℕ → ℕ → Play) (room : ℕ)
    → (turn_needs stop ≡ true → length t.left < record_room)
    → ((n : ℕ) (c : Card) (xs : List ℕ) (left : ℕ) → needs_input (rest n c xs left).stop ≡ true → length (rest n c xs left).left < record_room)
    → needs_input (go_on stop t records rest room).stop ≡ true → length (go_on stop t records rest room).left < record_room
unfolding go_on
go_on_awaits None t records rest room h later e = later (records + 1) t.after t.left (room - length t.output) e
go_on_awaits (Some stop) t records rest room h later e = h e

tried_awaits : (full : Bool) (records : ℕ) (c : Card) (xs : List ℕ) → turn_needs (tried full records c xs).stop ≡ true → length (tried full records c xs).left < record_room
unfolding turn
tried_awaits true records c xs e = absurd (false≢true e)
tried_awaits false records c xs e = turn_awaits (records + 1) c xs (decode player_port xs) refl e

within_awaits : (most records : ℕ) (c : Card) (xs : List ℕ) (room : ℕ) → needs_input (play_within most records c xs room).stop ≡ true → length (play_within most records c xs room).left < record_room
unfolding play_within
within_awaits zero records c xs room e = absurd (false≢true e)
within_awaits (suc most) records c xs room e =
    let t : Turn = tried (ltb room line_room) records c xs in
    go_on_awaits t.stop t records (play_within most) room (tried_awaits (ltb room line_room) records c xs) (within_awaits most) e

pub play_awaits : (records : ℕ) (c : Card) (xs : List ℕ) (room : ℕ) → needs_input (play records c xs room).stop ≡ true → length (play records c xs room).left < record_room
unfolding play
play_awaits records c xs room e = within_awaits (suc (length xs)) records c xs room e
