-- What entries take of a segment's room.
use Rattle.std.specs.Prelude.{ℕ, ◌+◌, ◌-◌, ◌*◌, ◌≤◌, List, length}
use Rattle.std.specs.List.{sum_by}
use Rattle.byteorder.specs.Endian.{big_number}
use Rattle.hse_fields.specs.LogLimits.{frame}
use Rattle.hse_fields.specs.LogText.{Entry}
use Rattle.wal.specs.Logged.{charge}

abbrev pub charges : List Entry → ℕ
charges entries = sum_by charge entries

-- how many bytes of a segment's region are no room
abbrev pub end_size : ℕ
end_size = 64

-- how many entries a payload says that it has
abbrev pub count_in : List ℕ → ℕ
count_in payload = big_number 4 payload

-- the payload has a count, of at least one entry
abbrev pub HasEntries : List ℕ → Type 0
HasEntries payload = (4 ≤ length payload) × (1 ≤ count_in payload)

-- what the entries of a payload take of a segment's room: the bytes behind their count, and a frame each
abbrev pub entries_charge : List ℕ → ℕ
entries_charge payload = length payload - 4 + frame * count_in payload
