use Rattle.std.proofs.Common.{◌≡◌, drop, map}
use Rattle.row_laws.specs.Sources.{first_said}
use Rattle.row_laws.proofs.lookup.first_word.Given as goal

-- what the rest says first is what all say first
abbrev pub invariant-loop-source : goal.invariant-loop-source
invariant-loop-source g l =
    let rows = g.R.RowSet.rows in
    first_said l.fn.key (map rows (drop l.source-index l.sources)) ≡ first_said l.fn.key (map rows l.fn.sources)
