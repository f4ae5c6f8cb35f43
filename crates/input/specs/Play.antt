-- Document 01, "Call records and the player": the lines of an input, and the card that it leaves.
use Rattle.std.specs.Prelude.{ℕ, zero, suc, ◌+◌, ◌-◌, Bool, false, cond, List, [], ◌∷◌, ◌++◌, ltb, length, get_or, Option, Some, None}
use Rattle.card.specs.Contents.{zeros}
use Rattle.card.specs.Card.{Card}
use Rattle.card.specs.Plan.{Result}
use Rattle.card.specs.Session.{request, perform, reply}
use Rattle.card.specs.declared.Port.{Port}
use Rattle.card.specs.declared.Port.TheVariants.{Service}
use Rattle.card.specs.declared.Call.{Call}
use Rattle.decoding.specs.Decode.{Next, ended, refused, sent, decode}
use Rattle.kinds.specs.Kinds.{body_length}
use Rattle.lines.specs.Lines.{line, line_room, last_line}
use Rattle.input.specs.declared.Stop.{Stop}
use Rattle.input.specs.declared.Stop.TheVariants.{Ended, Short, Refused, Full}

-- ---- one record

-- A player's input arrives at the service port, where the kinds of both ports are taken.
abbrev pub player_port : Port
player_port = Service

-- "It lends READ 512 bytes and ALLOC 64 places." ALLOC_CONTIG is lent as many as ALLOC.
unfoldable pub played : Port → Card → Call → List ℕ → Result
played port c call payload = perform port c (request call payload (zeros 512) (zeros 64))

-- What an input's first record leads to: what is written of it, the card after it and the input that is left, or why nothing was done.
pub record Turn : Type 0 where
  pub stop : Option Stop
  pub output : List ℕ
  pub after : Card
  pub left : List ℕ

abbrev pub halted : Stop → Card → List ℕ → Turn
halted stop c xs = record { stop = Some stop; output = []; after = c; left = xs }

-- The bytes of a body are fewer than its kind fixes.
unfoldable pub is_short : Option ℕ → ℕ → Bool
is_short (Some n) size = ltb size n
is_short None size = false

-- Why an input that starts with no whole record is refused 13: it ends within the record, or the record is wrong.
unfoldable pub fault : Port → List ℕ → Stop
fault wire [] = Refused
fault wire (kind ∷ xs) = cond (is_short (body_length wire kind) (length xs)) Short Refused

unfoldable pub turn_of : ℕ → Card → List ℕ → Next → Turn
turn_of ordinal c xs ended = halted Ended c xs
turn_of ordinal c xs refused = halted (fault player_port xs) c xs
turn_of ordinal c xs (sent port call payload rest) =
    let r = played port c call payload in
    record { stop = None; output = line ordinal (get_or xs 0 0) call (reply r); after = r.after; left = rest }

unfoldable pub turn : ℕ → Card → List ℕ → Turn
turn ordinal c xs = turn_of ordinal c xs (decode player_port xs)

-- ---- an input

-- What is written of an input, how many records were played, the card after them, what is left of the input, and why.
pub record Play : Type 0 where
  pub stop : Stop
  pub output : List ℕ
  pub records : ℕ
  pub after : Card
  pub left : List ℕ

-- A play with output before it.
abbrev pub output_before : List ℕ → Play → Play
output_before output p = record { stop = p.stop; output = output ++ p.output; records = p.records; after = p.after; left = p.left }

-- A play that stops at once.
abbrev pub stopped : Stop → ℕ → Card → List ℕ → Play
stopped stop records c xs = record { stop = stop; output = []; records = records; after = c; left = xs }

-- What one turn and, where it did not stop the play, the rest of the play come to.
unfoldable pub go_on : Option Stop → Turn → ℕ → (ℕ → Card → List ℕ → ℕ → Play) → ℕ → Play
go_on None t records rest room = output_before t.output (rest (records + 1) t.after t.left (room - length t.output))
go_on (Some stop) t records rest room = stopped stop records t.after t.left

-- Record after record, while there is room for a line. Each record takes a byte of the input at least, so that it has at most as many.
unfoldable pub play_within : ℕ → ℕ → Card → List ℕ → ℕ → Play
play_within zero records c xs room = stopped Full records c xs
play_within (suc most) records c xs room =
    let t = cond (ltb room line_room) (halted Full c xs) (turn (records + 1) c xs) in
    go_on t.stop t records (play_within most) room

unfoldable pub play : ℕ → Card → List ℕ → ℕ → Play
play records c xs room = play_within (suc (length xs)) records c xs room

-- The number of the last line: 0 at the end of the input, else 13.
abbrev pub end_number : Stop → ℕ
end_number Ended = 0
end_number Short = 13
end_number Refused = 13
end_number Full = 13

-- The whole of what a player writes of an input that it has room for.
unfoldable pub transcript : Card → List ℕ → ℕ → List ℕ
transcript c xs room = let p = play 0 c xs room in p.output ++ last_line p.records (end_number p.stop)
