-- A batch of call records that arrive at a port: the card that it leaves and the bytes of its answers, every call with its own audit.
use Rattle.std.specs.Prelude.{ℕ, zero, suc, ◌+◌, ◌-◌, ◌*◌, cond, List, [], ◌∷◌, ◌++◌, ltb, leb, length, Some, None, Ok, Err, take}
use Rattle.card.specs.Contents.{zeros}
use Rattle.card.specs.Card.{Card}
use Rattle.card.specs.Plan.{Result}
use Rattle.card.specs.Calls.{answer_number}
use Rattle.card.specs.Session.{Reply, request, perform, reply}
use Rattle.card.specs.declared.Port.{Port}
use Rattle.card.specs.Answers.{Answer}
use Rattle.card.specs.Answers.{Refused, Done, Value}
use Rattle.card.specs.declared.Call.{Call}
use Rattle.card.specs.declared.Call.TheVariants.{Read, Write, Alloc, AllocContig, Create, Delete, DeleteTree, KeyRead, KeyWrite, Renew, Force, Free, Tick, Audit, Rent, Sweep}
use Rattle.fields.specs.Bytes.{bytes}
use Rattle.decoding.specs.Decode.{Next, ended, refused, sent, decode}
use Rattle.lines.specs.Replied.{filled_by}
use Rattle.lines.specs.declared.Filled.{Filled}
use Rattle.lines.specs.declared.Filled.TheVariants.{Neither, Bytes, Blocks}
use Rattle.input.specs.Play.{Turn, halted, fault, Play, stopped, go_on}
use Rattle.input.specs.declared.Stop.TheVariants.{Ended, Full}

-- ---- the bytes of an answer

-- Each number in 2 bytes, big-endian.
unfoldable pub pairs : List ℕ → List ℕ
pairs [] = []
pairs (n ∷ ns) = bytes 2 n ++ pairs ns

-- What a done call leaves in the buffer that it fills: READ the block's bytes, ALLOC and ALLOC_CONTIG the numbers of the blocks.
abbrev pub filled_bytes : Filled → List ℕ → List ℕ → List ℕ
filled_bytes Neither out places = []
filled_bytes Bytes out places = out
filled_bytes (Blocks n) out places = pairs (take n places)

-- A done call's results: what it left in a buffer, or its value in 8 bytes, big-endian.
abbrev pub result_bytes : Answer → List ℕ → List ℕ
result_bytes (Err r) filled = []
result_bytes (Ok None) filled = filled
result_bytes (Ok (Some v)) filled = bytes 8 v

-- The answer's number in one byte and, if done, the results.
unfoldable pub answer_bytes : Call → Reply → List ℕ
answer_bytes call r = bytes 1 (answer_number r.answer) ++ result_bytes r.answer (filled_bytes (filled_by call) r.out r.places)

-- ---- what is lent with a call, and the room for its answer

-- READ is lent as many bytes as a block has. A card with larger blocks is misshapen, so that its READ is refused whatever is lent.
abbrev pub lent_bytes : ℕ → Filled → ℕ
lent_bytes size Neither = 0
lent_bytes size Bytes = cond (leb size 65536) size 0
lent_bytes size (Blocks n) = 0

-- The bytes lent with a call on a card with blocks of so many bytes.
unfoldable pub lent_size : ℕ → Call → ℕ
lent_size size call = lent_bytes size (filled_by call)

-- ALLOC and ALLOC_CONTIG are lent so many places.
abbrev pub lent_places : ℕ
lent_places = 64

-- No answer to the call is longer than this.
unfoldable pub answer_room : ℕ → Call → ℕ
answer_room size (Read o) = 1 + lent_size size (Read o)
answer_room size (Write o) = 1
answer_room size (Alloc o) = 1 + 2 * lent_places
answer_room size (AllocContig o) = 1 + 2 * lent_places
answer_room size (Create o) = 1
answer_room size (Delete o) = 1 + 8
answer_room size (DeleteTree o) = 1 + 8
answer_room size (KeyRead o) = 1
answer_room size (KeyWrite o) = 1
answer_room size (Renew o) = 1
answer_room size (Force o) = 1
answer_room size Free = 1 + 8
answer_room size (Tick o) = 1 + 8
answer_room size Audit = 1
answer_room size (Rent o) = 1 + 8
answer_room size (Sweep o) = 1 + 8

-- ---- one record

-- A call with its own audit.
unfoldable pub served : Port → Card → Call → List ℕ → Result
served port c call payload = perform port c (request call payload (zeros (lent_size c.public.info.bytes call)) (zeros lent_places))

-- A turn that serves a record: the bytes of the answer are written.
abbrev pub answering : Port → Card → Call → List ℕ → List ℕ → Turn
answering port c call payload rest =
    let r = served port c call payload in
    record { stop = None; output = answer_bytes call (reply r); after = r.after; left = rest }

-- What an input's first record leads to where there is so much room for answers.
unfoldable pub serve_turn_of : Port → ℕ → Card → List ℕ → Next → Turn
serve_turn_of wire room c xs ended = halted Ended c xs
serve_turn_of wire room c xs refused = halted (fault wire xs) c xs
serve_turn_of wire room c xs (sent port call payload rest) =
    cond (ltb room (answer_room c.public.info.bytes call)) (halted Full c xs) (answering port c call payload rest)

unfoldable pub serve_turn : Port → ℕ → Card → List ℕ → Turn
serve_turn wire room c xs = serve_turn_of wire room c xs (decode wire xs)

-- The room from a place on.
abbrev pub room_from : List ℕ → ℕ → ℕ
room_from to at = length to - at

-- ---- an input

-- Record after record, while there is room for the answer. Each record takes a byte of the input at least, so that it has at most as many.
unfoldable pub serve_within : Port → ℕ → ℕ → Card → List ℕ → ℕ → Play
serve_within wire zero records c xs room = stopped Full records c xs
serve_within wire (suc most) records c xs room = let t = serve_turn wire room c xs in go_on t.stop t records (serve_within wire most) room

unfoldable pub serve : Port → Card → List ℕ → ℕ → Play
serve wire c xs room = serve_within wire (suc (length xs)) 0 c xs room
