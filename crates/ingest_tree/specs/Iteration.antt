-- What is left of a walk over the rows.
use Rattle.std.specs.Prelude.{ℕ, ◌-◌, Bool, cond, reverse, List, take, drop}
use Rattle.ingest_tree.specs.declared.iter.IngestIter.{IngestIter}
use Rattle.ingest_tree.specs.declared.store_row.StoreRow.{StoreRow}

-- the rows from one place up to another, or the same in reverse
abbrev pub walk_over : Bool → ℕ → ℕ → List StoreRow → List StoreRow
walk_over back first last rows = cond back (reverse (take (last - first) (drop first rows))) (take (last - first) (drop first rows))

-- what an iterator will still give
abbrev pub left_of : IngestIter → List StoreRow
left_of iter = walk_over iter.back iter.first iter.last iter.tree.now
