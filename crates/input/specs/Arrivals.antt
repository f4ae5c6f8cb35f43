-- The call records that bytes hold which arrive at a port: from bytes to a list of calls.
use Rattle.std.specs.Prelude.{ℕ, zero, suc, ◌+◌, List, [], ◌∷◌, ◌++◌, length, get_or}
use Rattle.card.specs.Contents.{zeros}
use Rattle.card.specs.Session.{Request, Sent, Reply, request}
use Rattle.card.specs.declared.Port.{Port}
use Rattle.card.specs.declared.Call.{Call}
use Rattle.decoding.specs.Decode.{Next, ended, refused, sent, decode}
use Rattle.input.specs.Play.{fault}
use Rattle.input.specs.declared.Stop.{Stop}
use Rattle.input.specs.declared.Stop.TheVariants.{Ended}

-- A record that arrived: its byte of kind, its port and call, and the data beside its operands.
pub record Arrived : Type 0 where
  pub kind : ℕ
  pub port : Port
  pub call : Call
  pub payload : List ℕ

-- The records that bytes hold, why there are no more, and the bytes that are left there.
pub record Arrivals : Type 0 where
  pub records : List Arrived
  pub stop : Stop
  pub left : List ℕ

-- Bytes that start with no record.
abbrev pub none_held : Stop → List ℕ → Arrivals
none_held stop xs = record { records = []; stop = stop; left = xs }

-- Bytes that start with a record, and those behind it.
abbrev pub held_before : Arrived → Arrivals → Arrivals
held_before a later = record { records = a ∷ later.records; stop = later.stop; left = later.left }

unfoldable pub arrivals_of : Port → (List ℕ → Arrivals) → List ℕ → Next → Arrivals
arrivals_of wire behind xs ended = none_held Ended xs
arrivals_of wire behind xs refused = none_held (fault wire xs) xs
arrivals_of wire behind xs (sent port call payload rest) =
    held_before (record { kind = get_or xs 0 0; port = port; call = call; payload = payload }) (behind rest)

-- Each record takes a byte at least, so that there are at most as many.
unfoldable pub arrivals_within : Port → ℕ → List ℕ → Arrivals
arrivals_within wire zero xs = none_held Ended xs
arrivals_within wire (suc most) xs = arrivals_of wire (arrivals_within wire most) xs (decode wire xs)

-- Record after record, up to the end of the bytes, to a record that is refused 13, or to one that is cut short. That record does not count, for
-- nothing of it is performed; nor does what stands behind it, for only a record tells where the next one starts. Whether there is room for
-- the answers does not matter here: a record for which there is none counts.
unfoldable pub arrivals : Port → List ℕ → Arrivals
arrivals wire xs = arrivals_within wire (suc (length xs)) xs

-- ---- the calls of the records

-- A record's call with what is lent with it: READ as many bytes as is said here, ALLOC and ALLOC_CONTIG 64 places.
abbrev pub request_with : (Call → ℕ) → Arrived → Request
request_with size a = request a.call a.payload (zeros (size a.call)) (zeros 64)

abbrev pub sent_with : (Call → ℕ) → Arrived → Sent
sent_with size a = record { port = a.port; request = request_with size a }

-- What is written of records that were performed, by the replies to them: the bytes of each by its ordinal, the record and the reply.
unfoldable pub written_of : (ℕ → Arrived → Reply → List ℕ) → ℕ → List Arrived → List Reply → List ℕ
written_of write ordinal [] rs = []
written_of write ordinal (a ∷ made) [] = []
written_of write ordinal (a ∷ made) (r ∷ rs) = write ordinal a r ++ written_of write (ordinal + 1) made rs
