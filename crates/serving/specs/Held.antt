-- The calls that the bytes of a batch hold, and the keys that they present.
use Rattle.std.specs.Prelude.{ℕ, ◌<◌, ◌≡◌, Bool, List, map, take}
use Rattle.card.specs.Card.{Card}
use Rattle.card.specs.Session.{Request, Sent, host_session}
use Rattle.card.specs.Reach.{presented}
use Rattle.card.specs.declared.Port.{Port}
use Rattle.card.specs.declared.Port.TheVariants.{Host}
use Rattle.decoding.specs.Decode.{sent, decode}
use Rattle.input.specs.Arrivals.{Arrived, arrivals, request_with}
use Rattle.input.specs.Performed.{Manner}
use Rattle.serving.specs.Serve.{answer_bytes, lent_size, answer_room, serve}

-- There is no room for the longest answer to the record that is next.
pub record NoRoomFor (wire : Port) (bytes room : ℕ) (xs : List ℕ) : Type 0 where
  pub next : Arrived
  pub rest : List ℕ
  pub decodes : decode wire xs ≡ sent next.port next.call next.payload rest
  pub little : room < answer_room bytes next.call

-- A batch lends READ a block's bytes and writes the answer to each record.
abbrev pub serving : Port → Manner
serving wire = record {
  wire = wire;
  size = lent_size;
  write = λ ordinal a r. answer_bytes a.call r;
  NoRoom = NoRoomFor wire;
}

-- ---- at the host port

-- The requests that bytes hold which arrive at the host port of a card with blocks of so many bytes. `arrivals` says which records count.
unfoldable pub requests_in : ℕ → List ℕ → List Request
requests_in bytes xs = map (request_with (lent_size bytes)) (arrivals Host xs).records

-- The keys that any record of the bytes presents, whatever is answered to it.
unfoldable pub keys_in : Card → List ℕ → ℕ → ℕ → Bool
keys_in c xs high low = presented (requests_in c.public.info.bytes xs) high low

-- The calls that a batch performs of them: as many as it counts.
unfoldable pub made_in : Card → List ℕ → ℕ → List Sent
made_in c xs room = host_session (take (serve Host c xs room).records (requests_in c.public.info.bytes xs))
