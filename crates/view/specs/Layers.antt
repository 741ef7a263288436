-- What holds of each row of a layer: of one more row, and of the rows of one store.
use Rattle.std.proofs.Common.{ℕ, ◌==◌, true, false, cond, not, List, [], ◌∷◌, map}
use Rattle.std.specs.Ordering.{eq_by_cmp}
use Rattle.std.specs.List.{AllByRecursion, filter}
use Rattle.std.specs.Cmp.{IsTotalOrder, then_total, on_total, nat_cmp_total}
use Rattle.std.specs.Cmp.Lexicographic.{nat_list_cmp_total}
use Rattle.hse_rows.specs.declared.row.Row.{Row}
use Rattle.hse_rows.specs.writes.Change.{target}
use Rattle.hse_rows.specs.writes.NormalForm.{rank}
use Rattle.ingest_tree.specs.declared.store_row.StoreRow.{StoreRow}
use Rattle.ingest_tree.specs.Rows.{store_row_cmp, rows_in, rows_with}
use Rattle.sorted_lists.specs.laws.Lists.{each-filter}
use Rattle.sorted_lists.specs.laws.Orders.{each-placed}
use Rattle.view.specs.Means.{layer_rows}

pub store_row_order : IsTotalOrder store_row_cmp
store_row_order =
    then_total (on_total (λ (row : StoreRow). row.store.0) nat_cmp_total)
    (on_total (λ (row : StoreRow). row.row)
    (then_total (on_total (λ (row : Row). rank row.change) nat_cmp_total)
    (on_total (λ (row : Row). target row.change) nat_list_cmp_total)))

pub each-with : (P : StoreRow → Type 0) (rows : List StoreRow) (row : StoreRow) → AllByRecursion P rows → P row → AllByRecursion P (rows_with rows row)
each-with P rows row all here =
    each-placed store_row_order P (filter (λ other. not (eq_by_cmp store_row_cmp row other)) rows) row
    (each-filter P (λ other. not (eq_by_cmp store_row_cmp row other)) rows all) here

module _ (P : Row → Type 0) where
  abbrev pub OfRow : StoreRow → Type 0
  OfRow row = P row.row

  pub each-row : (layer : List StoreRow) → AllByRecursion P (layer_rows layer) → AllByRecursion OfRow layer
  each-row [] all = tt
  each-row (row ∷ layer) all = (all.0, each-row layer all.1)

  pub row-each : (layer : List StoreRow) → AllByRecursion OfRow layer → AllByRecursion P (layer_rows layer)
  row-each [] all = tt
  row-each (row ∷ layer) all = (all.0, row-each layer all.1)

  pub each-of_store : (id : ℕ) (layer : List StoreRow) → AllByRecursion P (layer_rows layer) → AllByRecursion P (rows_in id layer)
  each-of_store id [] all = tt
  each-of_store id (row ∷ layer) all =
      elim (row.store.0 == id)
      as (λ b. AllByRecursion P (map (λ (r : StoreRow). r.row) (cond b (row ∷ filter (λ (r : StoreRow). r.store.0 == id) layer) (filter (λ (r : StoreRow). r.store.0 == id) layer))))
      [ true ↦ (all.0, each-of_store id layer all.1) | false ↦ each-of_store id layer all.1 ]
