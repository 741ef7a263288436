use Rattle.std.proofs.Common.{◌≡◌, drop}
use Rattle.merge.specs.Deletes.{with_deletes}
use Rattle.merge.proofs.prefixes.add_source.Given as goal

-- the list so far with the rest of the rows is the list with all
abbrev pub invariant-loop-at : goal.invariant-loop-at
invariant-loop-at g l = with_deletes l.list (drop l.at (g.R.RowSet.rows l.fn.source)) ≡ with_deletes l.initial.list (g.R.RowSet.rows l.fn.source)
