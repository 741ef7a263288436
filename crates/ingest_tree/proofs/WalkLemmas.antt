-- What a walk over the rows of all stores finds of one store's key or prefix.
use Rattle.std.proofs.Common.{◌≡◌, ℕ, ◌==◌, Bool, true, false, true≢false, cond, ◌&&◌, List, [], ◌∷◌, map, Some, None, refl, ap, sym, ◌∙◌}
use Rattle.std.specs.declared.cmp.Ordering.{Ordering}
use Rattle.std.specs.declared.cmp.Ordering.TheVariants.{Less, Equal, Greater}
use Rattle.std.specs.Ordering.{is_eq}
use Rattle.std.specs.Option.{option_map}
use Rattle.std.specs.List.{AllByRecursion, filter, find}
use Rattle.std.specs.List.Sorted.{IsStrictlySortedBy}
use Rattle.std.specs.Cmp.{unsigned_ties, tied_then}
use Rattle.std.specs.Cmp.Lexicographic.{texts_ties}
use Rattle.hse_rows.specs.declared.change.Change.{Change}
use Rattle.hse_rows.specs.declared.change.Change.TheVariants.{Put, Del, PDel}
use Rattle.hse_rows.specs.declared.row.Row.{Row}
use Rattle.hse_rows.specs.declared.store.StoreId.{StoreId}
use Rattle.hse_rows.specs.writes.Change.{target}
use Rattle.hse_rows.specs.writes.NormalForm.{rank, same}
use Rattle.hse_rows.specs.rows.Newest.{row_cmp}
use Rattle.hse_rows.specs.rows.Meaning.{is_own, newer, own_at}
use Rattle.sorted_lists.specs.laws.Lists.{each-weaker}
use Rattle.sorted_lists.specs.laws.Orders.{turned}
use Rattle.sorted_lists.specs.laws.Parts.{find-none}
use Rattle.ingest_tree.specs.declared.store_row.StoreRow.{StoreRow}
use Rattle.ingest_tree.specs.Rows.{row_numbered, store_row, store_row_cmp, rows_in}
use Rattle.ingest_tree.proofs.OrderLemmas.{order}

pub equal-is : (r : Ordering) → is_eq r ≡ true → r ≡ Equal
equal-is Less is = absurd (true≢false (sym is))
equal-is Equal is = refl
equal-is Greater is = absurd (true≢false (sym is))

-- a row that ties with x stands there alone
pub alone : (x r : StoreRow) (rows : List StoreRow) → is_eq (store_row_cmp r x) ≡ true → AllByRecursion (λ other. store_row_cmp r other ≡ Less) rows
    → AllByRecursion (λ other. is_eq (store_row_cmp other x) ≡ false) rows
alone x r rows tied below =
    each-weaker (λ other less. ap is_eq (turned order x other Less (sym (order.congr r x other (equal-is (store_row_cmp r x) tied)) ∙ less))) rows below

-- rows tie where store, kind and bytes are the same
pub ties : (r x : StoreRow) → is_eq (store_row_cmp r x) ≡ ((r.store.0 == x.store.0) && is_eq (row_cmp r.row x.row))
ties r x = sym (tied_then _ _) ∙ (λ i. sym (unsigned_ties r.store.0 x.store.0) i && is_eq (row_cmp r.row x.row))

pub row-ties : (r x : Row) → is_eq (row_cmp r x) ≡ ((rank r.change == rank x.change) && same (target r.change) (target x.change))
row-ties r x = sym (tied_then _ _) ∙ (λ i. sym (unsigned_ties (rank r.change) (rank x.change)) i && sym (texts_ties (target r.change) (target x.change)) i)

module _ (store : StoreId) (key : List ℕ) where
  abbrev at_key : StoreRow
  at_key = store_row store (row_numbered 0 (Del key))

  own-parts : (number : ℕ) (change : Change) → ((rank change == 1) && same (target change) key) ≡ is_own key (record { number = number; change = change })
  own-parts number (Put own bytes) = refl
  own-parts number (Del own) = refl
  own-parts number (PDel prefix) = refl

  ties-own : (r : StoreRow) → is_eq (store_row_cmp r at_key) ≡ ((r.store.0 == store.0) && is_own key r.row)
  ties-own r = ties r at_key ∙ ap (λ b. (r.store.0 == store.0) && b) (row-ties r.row (row_numbered 0 (Del key)) ∙ own-parts r.row.number r.row.change)

  abbrev is_there : StoreRow → Bool
  is_there r = is_eq (store_row_cmp r at_key)

  -- the key's own row is the one that stands there
  pub own-walk : (rows : List StoreRow) → IsStrictlySortedBy store_row_cmp rows
      → own_at key (rows_in store.0 rows) ≡ option_map (λ (r : StoreRow). r.row) (find is_there rows)
  unfolding IsStrictlySortedBy
  own-walk [] rise = refl
  own-walk (r ∷ rows) rise =
      by (r.store.0 == store.0) (is_own key r.row) refl (ties-own r) (own-walk rows rise.1)
      ∙ ap (λ b. option_map (λ (r : StoreRow). r.row) (cond b (Some r) (find is_there rows))) (sym (ties-own r))
    where
      rest : List Row
      rest = rows_in store.0 rows

      by : (s t : Bool) → is_own key r.row ≡ t → is_there r ≡ (s && t)
          → own_at key (rows_in store.0 rows) ≡ option_map (λ (r : StoreRow). r.row) (find is_there rows)
          → own_at key (map (λ (r : StoreRow). r.row) (cond s (r ∷ filter (λ (row : StoreRow). row.store.0 == store.0) rows) (filter (λ (row : StoreRow). row.store.0 == store.0) rows)))
          ≡ option_map (λ (r : StoreRow). r.row) (cond (s && t) (Some r) (find is_there rows))
      by false t own tie more = more
      by true false own tie more = ap (λ b. newer (cond b (Some r.row) None) (own_at key (rows_in store.0 rows))) own ∙ more
      by true true own tie more =
          ap (λ b. newer (cond b (Some r.row) None) (own_at key (rows_in store.0 rows))) own
          ∙ ap (newer (Some r.row)) (more ∙ ap (option_map (λ (r : StoreRow). r.row)) (find-none is_there rows (alone at_key r rows tie rise.0)))
