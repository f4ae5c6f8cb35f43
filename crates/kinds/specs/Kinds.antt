-- Document 01, "Call records and the player", 2026-01, 2026-02 and 2026-07: the kinds of records, and the lengths of their bodies.
use Rattle.std.specs.Prelude.{ℕ, ◌+◌, ◌-◌, Bool, true, false, cond, List, [], ◌∷◌, map, eqb, Option, Some, None}
use Rattle.card.specs.Pointers.{contains}
use Rattle.card.specs.declared.Port.{Port}
use Rattle.card.specs.declared.Port.TheVariants.{Host, Service}
use Rattle.kinds.specs.declared.Name.{Name}
use Rattle.kinds.specs.declared.Name.TheVariants.{Read as READ, Write as WRITE, Alloc as ALLOC, Create as CREATE, Delete as DELETE, KeyRead as KEY-READ, Renew as RENEW, Force as FORCE, Free as FREE, Tick as TICK, Audit as AUDIT, AllocContig as ALLOC-CONTIG, KeyWrite as KEY-WRITE, DeleteTree as DELETE-TREE}
use Rattle.kinds.specs.declared.Lengths.{Lengths}

infix 20 ◌body◌payload◌
-- A kind at the host port, the length of its body, and how many of its bytes, the last, are data.
pub data Row : Type 0 where
  ◌body◌payload◌ : ℕ → ℕ → ℕ → Row

-- The one table of the calls.
unfoldable pub row : Name → Row
row READ = 1 body 23 payload 0
row WRITE = 2 body 535 payload 512
row ALLOC = 3 body 22 payload 0
row CREATE = 4 body 38 payload 0
row DELETE = 5 body 21 payload 0
row KEY-READ = 6 body 36 payload 0
row RENEW = 7 body 23 payload 0
row FORCE = 8 body 2 payload 0
row FREE = 9 body 0 payload 0
row TICK = 10 body 8 payload 0
row AUDIT = 11 body 0 payload 0
row ALLOC-CONTIG = 12 body 22 payload 0
row KEY-WRITE = 13 body 36 payload 0
row DELETE-TREE = 14 body 21 payload 0

-- The calls that have a kind at each port.
unfoldable pub names : Port → List Name
names Host = READ ∷ WRITE ∷ ALLOC ∷ CREATE ∷ DELETE ∷ KEY-READ ∷ RENEW ∷ FORCE ∷ FREE ∷ TICK ∷ AUDIT ∷ ALLOC-CONTIG ∷ KEY-WRITE ∷ DELETE-TREE ∷ []
names Service = READ ∷ WRITE ∷ ALLOC ∷ CREATE ∷ DELETE ∷ KEY-READ ∷ ALLOC-CONTIG ∷ KEY-WRITE ∷ DELETE-TREE ∷ []

-- Document 01, "Kinds 129 to 134 are 1 to 6 at the service port."; 2026-01, "host kind 12 and service kind 140";
-- 2026-02, "Kinds 6 and 134 become KEY_READ, 13 and 141 KEY_WRITE, with a body of 36"; 2026-07, "Kinds 14 and 142, body 21".
abbrev pub kind_at : Port → Row → ℕ
kind_at Host (kind body length payload extra) = kind
kind_at Service (kind body length payload extra) = 128 + kind

abbrev pub row_length : Row → ℕ
row_length (kind body length payload extra) = length

abbrev pub row_payload : Row → ℕ
row_payload (kind body length payload extra) = extra

unfoldable pub kind_number : Port → Name → ℕ
kind_number port name = kind_at port (row name)

unfoldable pub length_of : Name → ℕ
length_of name = row_length (row name)

unfoldable pub data_length : Name → ℕ
data_length name = row_payload (row name)

-- The length of a call's operands, which come first in its body.
unfoldable pub operands_length : Name → ℕ
operands_length name = length_of name - data_length name

abbrev pub lengths_are : ℕ → ℕ → Lengths
lengths_are operands whole = record { operands = operands; body = whole }

unfoldable pub lengths_of : Name → Lengths
lengths_of name = lengths_are (operands_length name) (length_of name)

-- The call has a kind at the port.
unfoldable pub has_kind : Port → Name → Bool
has_kind port name = contains (kind_number port name) (map (kind_number port) (names port))

-- A record that arrives at the port may be a call at the other: all are taken at the service port, a host's alone at the host port.
unfoldable pub takes : Port → Port → Bool
takes Host Host = true
takes Host Service = false
takes Service port = true

-- The call among those of a port whose kind is the number, or else another answer.
unfoldable pub among : ℕ → Port → List Name → Option (Port × Name) → Option (Port × Name)
among kind port [] other = other
among kind port (name ∷ rest) other = cond (eqb kind (kind_number port name)) (Some (port, name)) (among kind port rest other)

-- What a byte of kind says that arrives at a port: the port of its call, and the call.
-- At the service port both sorts are taken; at the host port a kind of the service port is a kind that does not exist.
unfoldable pub kind_of : Port → ℕ → Option (Port × Name)
kind_of Host kind = among kind Host (names Host) None
kind_of Service kind = among kind Host (names Host) (among kind Service (names Service) None)

unfoldable pub kind_length : Option (Port × Name) → Option ℕ
kind_length (Some (port, name)) = Some (length_of name)
kind_length None = None

-- The length of a kind's body, where there is such a kind at the port.
unfoldable pub body_length : Port → ℕ → Option ℕ
body_length wire kind = kind_length (kind_of wire kind)
