-- The live stores, as they are listed.
use Rattle.std.specs.Ordering.{nat_cmp, on}
use Rattle.std.specs.Cmp.Lexicographic.{slice_cmp}
use Rattle.std.specs.declared.cmp.Ordering.{Ordering}
use Rattle.hse_rows.specs.machine.Replies.{Listed}
use Rattle.view.specs.declared.view_store.ViewStore.{ViewStore}
use Rattle.kvdb.specs.declared.listing.StoreLine.{StoreLine}

abbrev pub line_as : StoreLine → Listed
line_as line = record { name = line.name; mode = line.mode; prefix_length = line.prefix }

-- by their names
abbrev pub line_cmp : StoreLine → StoreLine → Ordering
line_cmp = on (λ (line : StoreLine). line.name) (slice_cmp nat_cmp)

-- a line of a store of a view
abbrev pub line_of : {R : Type 0} → ViewStore R → StoreLine
line_of store = record { name = store.name; mode = store.mode; prefix = store.prefix }
