-- The changes of an entry, as far as there is room for it.
use Rattle.std.specs.Prelude.{ℕ, List, Result}
use Rattle.hse_fields.specs.LogText.{Change}
use Rattle.hse_fields.specs.LogReading.{◌>>=◌, ensure, changes_of, has_room}
use Rattle.wal.specs.Live.{prefix_fits}
use Rattle.wal.specs.Numbering.{Numbers, numbering}
use Rattle.wal.specs.declared.live.StorePrefix.{StorePrefix}

-- the changes behind this number; refused at the number, so many bytes from the end, where there is no room for them
abbrev pub changes_in_room : List StorePrefix → ℕ → Numbers → ℕ → ℕ → List ℕ → Result (List Change × List ℕ) ℕ
changes_in_room live most state number left bytes =
    ensure (has_room (numbering live) state number bytes) left >>= λ room. changes_of (prefix_fits live) most bytes
