-- The rows of a source.
use Rattle.std.specs.Prelude.{List}
use Rattle.hse_rows.specs.declared.row.Row.{Row}
use Rattle.cursors.specs.declared.source.Source.{Source}
use Rattle.cursors.specs.declared.source.Source.TheVariants.{Layer, Set}

abbrev pub source_rows : {R : Type 0} → (R → List Row) → Source R → List Row
source_rows rows (Layer layer) = layer
source_rows rows (Set set) = rows set
