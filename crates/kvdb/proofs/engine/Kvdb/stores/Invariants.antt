use Rattle.std.proofs.Common.{◌≡◌, length, map}
use Rattle.std.specs.List.{fold}
use Rattle.hse_rows.specs.writes.Sorted.{placed, sorted}
use Rattle.kvdb.specs.Listing.{line_cmp, line_of}
use Rattle.kvdb.proofs.engine.Kvdb.stores.Given as goal

abbrev pub invariant-loop-rest : goal.invariant-loop-rest
invariant-loop-rest g l =
    fold (placed line_cmp) l.lines.items (map line_of l.rest) ≡ sorted line_cmp (map line_of l.self.state.view.stores)

abbrev pub decreases-loop-rest : goal.decreases-loop-rest
decreases-loop-rest g l = length l.rest
