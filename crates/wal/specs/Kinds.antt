-- The kind of a change, and how its text follows from kind and name.
use Rattle.hse_fields.specs.LogText as log
use Rattle.hse_rows.specs.declared.change.Change.{Change}
use Rattle.hse_rows.specs.declared.change.Change.TheVariants.{Put, Del, PDel}

abbrev pub kind_of : Change → log.Kind
kind_of (Put key value) = log.put
kind_of (Del key) = log.del
kind_of (PDel prefix) = log.pdel
