-- Document 01, "Call records and the player", and the requests: the length of a record's body worked out from its kind, with no table of kinds.
-- `kind_lengths` says that it is the length in the table of the calls, and `lengths_worked_out` computes it for all 256 kinds.
use Rattle.std.specs.Prelude.{ℕ, ◌+◌, ◌-◌, Bool, cond, ◌||◌, eqb, ltb, leb}
use Rattle.kinds.specs.Kinds.{lengths_are}
use Rattle.kinds.specs.declared.Lengths.{Lengths}

-- ---- the sizes of the fields

-- "Block numbers, hints 2 bytes; interval 4; count, mode 1. Credential 17 bytes: .. A new key is 17 bytes: .."
abbrev pub block_size : ℕ
block_size = 2

abbrev pub interval_size : ℕ
interval_size = 4

abbrev pub count_size : ℕ
count_size = 1

abbrev pub mode_size : ℕ
mode_size = 1

abbrev pub credential_size : ℕ
credential_size = 17

abbrev pub new_key_size : ℕ
new_key_size = 17

-- RENEW's "bare key of 16".
abbrev pub bare_key_size : ℕ
bare_key_size = 16

-- TICK's number.
abbrev pub seconds_size : ℕ
seconds_size = 8

-- WRITE's "512 data bytes".
abbrev pub data_size : ℕ
data_size = 512

-- ---- the fields that a call has

-- A call has a number: its kind at the host port, and at the service port its kind less 128.
unfoldable pub number_of : ℕ → ℕ
number_of kind = cond (ltb kind 128) kind (kind - 128)

-- READ to KEY_READ, ALLOC_CONTIG, KEY_WRITE and DELETE_TREE have one, for the block that they name first.
unfoldable pub has_credential : ℕ → Bool
has_credential call = leb call 6 || leb 12 call

-- What some fields add to a length, where a call has them.
unfoldable pub part_of : Bool → ℕ → ℕ
part_of has size = cond has size 0

-- What follows the credential: of READ and WRITE, ALLOC and ALLOC_CONTIG, CREATE, DELETE and DELETE_TREE, KEY_READ and KEY_WRITE.
unfoldable pub behind_credential : ℕ → ℕ
behind_credential call =
    part_of (leb call 2) interval_size
    + part_of (eqb call 3 || eqb call 12) (block_size + count_size)
    + part_of (eqb call 4) (block_size + credential_size)
    + part_of (eqb call 5 || eqb call 14) block_size
    + part_of (eqb call 6 || eqb call 13) new_key_size

-- The operands of RENEW, of FORCE and of TICK.
unfoldable pub without_credential : ℕ → ℕ
without_credential call =
    part_of (eqb call 7) (mode_size + block_size + bare_key_size + interval_size)
    + part_of (eqb call 8) block_size
    + part_of (eqb call 10) seconds_size

unfoldable pub operands_at : ℕ → ℕ
operands_at call = part_of (has_credential call) (block_size + credential_size) + behind_credential call + without_credential call

-- The lengths of a call's operands and of its body: WRITE alone has data.
unfoldable pub lengths_numbered : ℕ → Lengths
lengths_numbered call = lengths_are (operands_at call) (operands_at call + part_of (eqb call 2) data_size)

unfoldable pub lengths_at : ℕ → Lengths
lengths_at kind = lengths_numbered (number_of kind)
