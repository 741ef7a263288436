use Rattle.std.proofs.Common.{◌+◌, ◌<◌, suc, length, List, Some, ap, sym, ◌∙◌, subst, arith}
use Rattle.std.specs.List.{slice_get}
use Rattle.std.specs.Ordering.{is_lt}
use Rattle.hse_rows.specs.declared.row.Row.{Row}
use Rattle.ingest_tree.specs.declared.store_row.StoreRow.{StoreRow}
use Rattle.ingest_tree.specs.Rows.{store_row_cmp, rows_in}
use Rattle.ingest_tree.specs.StoreRows.{first_at}
use Rattle.ingest_tree.proofs.PartLemmas.{filter-shorter}
use Rattle.ingest_tree.proofs.StoreLemmas.{count-store, get-store}
use Rattle.ingest_tree.proofs.store_rows.StoreRowsRowSet.row.Goals as goal

pub row_at-requires : goal.row_at-requires
row_at-requires c =
    let id = c.self.inside.store.0 in
    let tree = c.self.inside.tree in
    let sum = count-store id tree in
    let most = filter-shorter (λ (r : StoreRow). is_lt (store_row_cmp r (first_at (suc id)))) tree in
    let same = ap length c.self.view_is in
    omega (arith, sum, most, same, c.self.invariant.first, c.requires)

pub overflow_add-self-inside : goal.overflow_add-self-inside
overflow_add-self-inside c =
    let id = c.self.inside.store.0 in
    let tree = c.self.inside.tree in
    let sum = count-store id tree in
    let most = filter-shorter (λ (r : StoreRow). is_lt (store_row_cmp r (first_at (suc id)))) tree in
    let same = ap length c.self.view_is in
    omega (arith, sum, most, same, c.self.invariant.first, c.requires, c.len-all.ensures, c.len-all.type_inv)

pub returns : goal.returns
returns c =
    let id = c.self.inside.store.0 in
    let tree = c.self.inside.tree in
    let same = c.self.view_is in
    let within : c.args.at < length (rows_in id tree) = subst (λ (rows : List Row). c.args.at < length rows) (sym same) c.requires in
    ap (λ (rows : List Row). slice_get rows c.args.at) (sym same)
    ∙ get-store id tree c.self.invariant.rising c.args.at c.row_at.result.now within
    (ap (λ n. slice_get tree (n + c.args.at)) (sym c.self.invariant.first) ∙ c.row_at.ensures)
    ∙ ap Some (sym c.lent.ensures)
