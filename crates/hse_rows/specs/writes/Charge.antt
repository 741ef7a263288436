-- What a commit takes of the log, in bytes.
use Rattle.std.specs.Prelude.{ℕ, ◌+◌, List, length}
use Rattle.std.specs.List.{sum_by}
use Rattle.hse_rows.specs.declared.change.Change.{Change}
use Rattle.hse_rows.specs.declared.change.Change.TheVariants.{Put, Del, PDel}
use Rattle.hse_rows.specs.declared.write.Write.{Write}

-- a change: its kind and store id, its lengths, and its bytes
abbrev pub change_bytes : Change → ℕ
change_bytes (Put key value) = 15 + length key + length value
change_bytes (Del key) = 11 + length key
change_bytes (PDel prefix) = 11 + length prefix

-- writes together
abbrev pub writes_bytes : List Write → ℕ
writes_bytes writes = sum_by (λ w. change_bytes w.change) writes

-- the charge of a commit: its number and count of changes, the changes, and 32 beside
abbrev pub charge_of : List Write → ℕ
charge_of writes = 12 + writes_bytes writes + 32
