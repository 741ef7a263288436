use Rattle.std.proofs.Common.{◌≡◌, drop}
use Rattle.hse_rows.specs.rows.Meaning.{covered_at, greater}
use Rattle.row_laws.proofs.sorted_rows.covered_in.Given as goal

-- the greatest so far and that of the rest is that of all
abbrev pub invariant-loop-row : goal.invariant-loop-row
invariant-loop-row l =
    greater l.greatest (covered_at l.fn.key (drop l.row-index l.rows)) ≡ covered_at l.fn.key l.fn.rows
