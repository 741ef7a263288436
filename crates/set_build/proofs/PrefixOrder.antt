-- A prefix delete behind the others goes to the end of the list.
use Rattle.std.proofs.Common.{◌≡◌, ℕ, cond, List, [], ◌∷◌, ◌++◌, map, Option, None, ap, ◌∙◌}
use Rattle.std.specs.List.{AllByRecursion, filter}
use Rattle.std.specs.List.Sorted.{IsStrictlySortedBy}
use Rattle.std.specs.declared.cmp.Ordering.TheVariants.{Less}
use Rattle.std.specs.Ordering.{is_eq}
use Rattle.std.specs.Cmp.{IsTotalOrder, on_total}
use Rattle.std.specs.Cmp.Lexicographic.{nat_list_cmp_total}
use Rattle.sorted_lists.specs.Places as places
use Rattle.sorted_lists.specs.laws.Lists.{each-weaker}
use Rattle.sorted_lists.specs.laws.Orders.{placed-last, greater-not_lt}
use Rattle.sorted_lists.specs.laws.Parts.{rising-between, without-below, find-none}
use Rattle.hse_rows.specs.declared.change.Change.{Change}
use Rattle.hse_rows.specs.declared.change.Change.TheVariants.{Put, Del, PDel}
use Rattle.hse_rows.specs.declared.row.Row.{Row}
use Rattle.hse_rows.specs.rows.Newest.{row_cmp}
use Rattle.hse_rows.specs.rows.Packing.{is_prefix}
use Rattle.hse_rows.specs.writes.Sorted.{placed}
use Rattle.prefix_delete.specs.declared.entry.Entry.{Entry}
use Rattle.prefix_delete.specs.Prefixes.{prefix_cmp, probe, entry_at, later, with_entry}
use Rattle.set_build.specs.laws.Fronts.{row_order}
use Rattle.set_build.specs.Packs.{prefix_in, prefixes_in}
use Rattle.set_build.proofs.RowPacking.{the_row, is_prefix_row}

prefix_order : IsTotalOrder prefix_cmp
prefix_order = on_total (λ (entry : Entry). entry.prefix) nat_list_cmp_total

abbrev Below : Entry → Entry → Type 0
Below new entry = prefix_cmp entry new ≡ Less

-- what is below all others' end goes there
goes-last : (entries : List Entry) (new : Entry) → AllByRecursion (Below new) entries → with_entry entries new ≡ entries ++ new ∷ []
goes-last entries new below =
    let missing : entry_at entries new.prefix ≡ None =
    find-none (λ (e : Entry). is_eq (prefix_cmp e (probe new.prefix))) entries (each-weaker (λ e less. ap is_eq less) entries below) in
    ap (λ (o : Option Entry). places.with_one prefix_cmp entries (later o new)) missing
    ∙ ap (λ (l : List Entry). placed prefix_cmp l new) (without-below prefix_order entries new below)
    ∙ placed-last prefix_order entries new (each-weaker (λ e less. greater-not_lt prefix_order e new less) entries below)

module _ (n : ℕ) (prefix : List ℕ) where
  abbrev new : Row
  new = the_row n (PDel prefix)

  one-below : (m : ℕ) (change : Change) (rs : List Row) → row_cmp (the_row m change) new ≡ Less
      → AllByRecursion (Below (prefix_in new)) (prefixes_in rs)
      → AllByRecursion (Below (prefix_in new)) (map prefix_in (cond (is_prefix change) (the_row m change ∷ filter is_prefix_row rs) (filter is_prefix_row rs)))
  one-below m (Put key value) rs less rest = rest
  one-below m (Del key) rs less rest = rest
  one-below m (PDel other) rs less rest = (less, rest)

  all-below : (rows : List Row) → AllByRecursion (λ (x : Row). AllByRecursion (λ (y : Row). row_cmp x y ≡ Less) (new ∷ [])) rows
      → AllByRecursion (Below (prefix_in new)) (prefixes_in rows)
  all-below [] below = tt
  all-below (r ∷ rs) below = one-below r.number r.change rs below.0.0 (all-below rs below.1)

  pub behind-all : (rows : List Row) → IsStrictlySortedBy row_cmp (rows ++ new ∷ [])
      → with_entry (prefixes_in rows) (prefix_in new) ≡ prefixes_in rows ++ prefix_in new ∷ []
  behind-all rows rise = goes-last (prefixes_in rows) (prefix_in new) (all-below rows (rising-between row_order rows (new ∷ []) rise))
