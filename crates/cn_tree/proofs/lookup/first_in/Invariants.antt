use Rattle.std.proofs.Common.{◌≡◌, drop, map}
use Rattle.cn_tree.specs.Found.{first_row}
use Rattle.cn_tree.proofs.lookup.first_in.Given as goal

-- what the rest says first is what all say first
abbrev pub invariant-loop-set : goal.invariant-loop-set
invariant-loop-set g l =
    let rows = g.R.RowSet.rows in
    first_row l.fn.key (map rows (drop l.set-index l.sets)) ≡ first_row l.fn.key (map rows l.fn.sets)
