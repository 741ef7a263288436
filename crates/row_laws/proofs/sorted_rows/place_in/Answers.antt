use Rattle.std.proofs.Common.{rules}
use Rattle.std.proofs.lemmas.Fn.{always_returns_same}
use Rattle.hse_rows.specs.rows.Newest.{row_cmp}
use Rattle.hse_rows.specs.rows.RowSets.{key_row}
use Rattle.row_laws.proofs.sorted_rows.place_in.Goals as goal

pub returns-clause-position : goal.returns-clause-position
returns-clause-position c =
    c.binary_search_by.ensures.position (λ row. row_cmp row (key_row c.args.key.now))
    (always_returns_same _ _ _ (λ a r f' k. search rules))
