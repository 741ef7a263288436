-- The mark of a row: numbers that stand in the order of rows, as far as they go.
use Rattle.std.specs.Prelude.{ℕ, zero, suc, ◌+◌, ◌*◌, ◌-◌, ◌^◌, min, List, [], ◌∷◌, get_or, drop}
use Rattle.hse_rows.specs.declared.change.Change.{Change}
use Rattle.hse_rows.specs.writes.Change.{target}
use Rattle.hse_rows.specs.writes.NormalForm.{rank}
use Rattle.ingest_tree.specs.declared.mark.Mark.{Mark}
use Rattle.ingest_tree.specs.declared.store_row.StoreRow.{StoreRow}

-- the first bytes as the digits of a number, zeros where there are no more
unfoldable pub front : ℕ → List ℕ → ℕ
front zero bytes = 0
front (suc n) bytes = get_or bytes 0 0 * 256 ^ n + min (front n (drop 1 bytes)) (256 ^ n - 1)

-- the rank of a change and the first bytes of its key or prefix
abbrev pub front_of : Change → ℕ
front_of change = front 8 (rank change ∷ target change)

abbrev pub mark_of : StoreRow → Mark
mark_of row = record { id = row.store.0; front = front_of row.row.change }

-- the mark of the first part
abbrev pub first_mark : {X : Type 0} → (X → Mark) → List X → Mark
first_mark mark [] = record { id = 0; front = 0 }
first_mark mark (part ∷ parts) = mark part
