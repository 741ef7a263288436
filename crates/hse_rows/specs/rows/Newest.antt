-- Rows with the numbers of their commits, and the newest of them.
use Rattle.std.specs.Prelude.{ℕ, ◌==◌, nat_lt, Bool, true, false, ◌&&◌, not, List, [], ◌∷◌, map, flat_map, cond}
use Rattle.std.specs.List.{filter, list_any}
use Rattle.std.specs.declared.cmp.Ordering.{Ordering}
use Rattle.std.specs.Ordering.{nat_cmp, on, then_cmp}
use Rattle.std.specs.Cmp.Lexicographic.{slice_cmp}
use Rattle.hse_rows.specs.declared.change.Change.{Change}
use Rattle.hse_rows.specs.declared.change.Change.TheVariants.{Put, Del, PDel}
use Rattle.hse_rows.specs.declared.row.Row.{Row}
use Rattle.hse_rows.specs.declared.write.Write.{Write}
use Rattle.hse_rows.specs.writes.Change.{target}
use Rattle.hse_rows.specs.writes.Sorted.{sorted}
use Rattle.hse_rows.specs.writes.NormalForm.{rank, hides_change}
use Rattle.hse_rows.specs.machine.Log.{Numbered}

-- the order of a set's rows: prefix deletes by prefix, then the changes of keys by key
abbrev pub row_cmp : Row → Row → Ordering
row_cmp =
    then_cmp (on (λ (row : Row). rank row.change) nat_cmp)
    (on (λ (row : Row). target row.change) (slice_cmp nat_cmp))

-- A row outdoes those of smaller numbers with its key or prefix, and a prefix delete also those that it covers.
abbrev pub outdoes : Row → Row → Bool
outdoes newer older = nat_lt older.number newer.number && hides_change newer.change older.change

-- a prefix delete, and another of its prefix and its number
abbrev pub is_twin : Row → Row → Bool
is_twin row other =
    (rank row.change == 0) && (other.number == row.number) && hides_change other.change row.change

-- the rows with one of each prefix and number
abbrev pub once_each : List Row → List Row
once_each [] = []
once_each (row ∷ rows) = cond (list_any (is_twin row) rows) (once_each rows) (row ∷ once_each rows)

-- the rows that no other outdoes, in the order of a set
unfoldable pub newest : List Row → List Row
newest rows = sorted row_cmp (once_each (filter (λ row. not (list_any (λ other. outdoes other row) rows)) rows))

-- a row that holds a value
abbrev pub is_put : Change → Bool
is_put (Put key bytes) = true
is_put (Del key) = false
is_put (PDel prefix) = false

-- What is left of rows that are merged. Where nothing older can stand behind them, deletions are left out.
abbrev pub merged : Bool → List Row → List Row
merged last rows = cond last (filter (λ row. is_put row.change) (newest rows)) (newest rows)

-- the rows of these writes for the store of this id
abbrev pub rows_of_writes : ℕ → ℕ → List Write → List Row
rows_of_writes id number writes =
    map (λ write. record { number = number; change = write.change }) (filter (λ write. write.store.0 == id) writes)

-- the rows of a layer's commits for the store of this id
abbrev pub rows_of : ℕ → List Numbered → List Row
rows_of id commits = flat_map (λ commit. rows_of_writes id commit.number commit.writes) commits
