-- The prefix deletes of sources, one after another, are those of their newest rows.
use Rattle.std.proofs.Common.{◌≡◌, ℕ, ◌==◌, Bool, true, false, cond, not, ◌&&◌, ◌||◌, List, [], ◌∷◌, ◌++◌, Option, Some, None, refl, sym, ap, ◌∙◌}
use Rattle.std.specs.Prelude.{nat_lt}
use Rattle.std.specs.declared.cmp.Ordering.TheVariants.{Equal}
use Rattle.std.specs.Ordering.{is_lt}
use Rattle.std.specs.Cmp.{IsTotalOrder, then_total, on_total, nat_cmp_total}
use Rattle.std.specs.Cmp.Lexicographic.{nat_list_cmp_total, texts_ties}
use Rattle.std.specs.FinMap.{slice_cmp-IsAntisymmetric, nat_cmp-IsAntisymmetric}
use Rattle.std.specs.List.{filter, fold, list_any}
use Rattle.hse_rows.specs.declared.row.Row.{Row}
use Rattle.hse_rows.specs.declared.change.Change.{Change}
use Rattle.hse_rows.specs.declared.change.Change.TheVariants.{Put, Del, PDel}
use Rattle.hse_rows.specs.writes.Change.{target}
use Rattle.hse_rows.specs.writes.NormalForm.{rank, hides_change}
use Rattle.hse_rows.specs.rows.Newest.{row_cmp, outdoes, is_twin, once_each, newest}
use Rattle.hse_rows.specs.writes.Sorted.{placed, sorted}
use Rattle.sorted_lists.specs.Places.{with_one}
use Rattle.sorted_lists.specs.laws.Orders.{filter-sorted}
use Rattle.row_laws.specs.Sources.{all_rows}
use Rattle.prefix_delete.specs.declared.entry.Entry.{Entry}
use Rattle.prefix_delete.specs.Prefixes.{entry_of, prefix_cmp, entry_at, later, row_of, rows_of}
use Rattle.merge.specs.Deletes.{with_change, with_deletes, all_deletes, is_delete}
use Rattle.merge.proofs.OutdoneLemmas.{after, put, once, twins, beats, top, fold-top}

prefix_order : IsTotalOrder prefix_cmp
prefix_order = on_total (λ (entry : Entry). entry.prefix) nat_list_cmp_total

row_order : IsTotalOrder row_cmp
row_order =
    then_total (on_total (λ (row : Row). rank row.change) nat_cmp_total)
    (on_total (λ (row : Row). target row.change) nat_list_cmp_total)

one-entry : (x y : Entry) → prefix_cmp x y ≡ Equal → x.number ≡ y.number → x ≡ y
one-entry x y is same' =
    let bytes : x.prefix ≡ y.prefix = slice_cmp-IsAntisymmetric nat_cmp-IsAntisymmetric x.prefix y.prefix is in
    λ i. entry_of (bytes i) (same' i)

-- the prefix deletes of rows, as entries
abbrev delete_of : ℕ → Change → List Entry
delete_of n (PDel prefix) = entry_of prefix n ∷ []
delete_of n (Put key bytes) = []
delete_of n (Del key) = []

abbrev deletes : List Row → List Entry
deletes [] = []
deletes (row ∷ rows) = delete_of row.number row.change ++ deletes rows

abbrev put-entry : List Entry → Entry → List Entry
put-entry = put prefix_order (λ (entry : Entry). entry.number) one-entry

abbrev top-entries : List Entry → List Entry
top-entries = top prefix_order (λ (entry : Entry). entry.number) one-entry

abbrev once-entries : List Entry → List Entry
once-entries = once prefix_order (λ (entry : Entry). entry.number) one-entry

abbrev entry-twins : Entry → Entry → Bool
entry-twins = twins prefix_order (λ (entry : Entry). entry.number) one-entry

abbrev entry-beats : Entry → Entry → Bool
entry-beats = beats prefix_order (λ (entry : Entry). entry.number) one-entry

later-after : (found : Option Entry) (entry : Entry) → later found entry ≡ after prefix_order (λ (entry : Entry). entry.number) one-entry found entry
later-after None entry = refl
later-after (Some old) entry = refl

put-deletes : (entries : List Entry) (rows : List Row) → with_deletes entries rows ≡ fold put-entry entries (deletes rows)
put-deletes entries [] = refl
put-deletes entries (row ∷ rows) = by row.change (λ e. put-deletes e rows)
  where
    by : (change : Change) → ((e : List Entry) → with_deletes e rows ≡ fold put-entry e (deletes rows))
        → with_deletes (with_change entries row.number change) rows ≡ fold put-entry entries (delete_of row.number change ++ deletes rows)
    by (PDel prefix) rest =
        ap (λ (x : Entry). with_deletes (with_one prefix_cmp entries x) rows) (later-after (entry_at entries prefix) (entry_of prefix row.number))
        ∙ rest (put-entry entries (entry_of prefix row.number))
    by (Put key bytes) rest = rest entries
    by (Del key) rest = rest entries

-- ---- the newest rows

both-false : (a : Bool) → (a && false) ≡ false
both-false true = refl
both-false false = refl

twins-same : (entry : Entry) (rows : List Row) → list_any (is_twin (row_of entry)) rows ≡ list_any (entry-twins entry) (deletes rows)
twins-same entry [] = refl
twins-same entry (row ∷ rows) = by row.change (twins-same entry rows)
  where
    by : (change : Change) → list_any (is_twin (row_of entry)) rows ≡ list_any (entry-twins entry) (deletes rows)
        → (((row.number == entry.number) && hides_change change (PDel entry.prefix)) || list_any (is_twin (row_of entry)) rows)
        ≡ list_any (entry-twins entry) (delete_of row.number change ++ deletes rows)
    by (PDel prefix) rest = λ i. ((row.number == entry.number) && texts_ties prefix entry.prefix i) || rest i
    by (Put key bytes) rest = (λ i. both-false (row.number == entry.number) i || rest i)
    by (Del key) rest = (λ i. both-false (row.number == entry.number) i || rest i)

outdone-same : (entry : Entry) (rows : List Row) → list_any (λ other. outdoes other (row_of entry)) rows ≡ list_any (λ other. entry-beats other entry) (deletes rows)
outdone-same entry [] = refl
outdone-same entry (row ∷ rows) = by row.change (outdone-same entry rows)
  where
    by : (change : Change) → list_any (λ other. outdoes other (row_of entry)) rows ≡ list_any (λ other. entry-beats other entry) (deletes rows)
        → ((nat_lt entry.number row.number && hides_change change (PDel entry.prefix)) || list_any (λ other. outdoes other (row_of entry)) rows)
        ≡ list_any (λ other. entry-beats other entry) (delete_of row.number change ++ deletes rows)
    by (PDel prefix) rest = λ i. (nat_lt entry.number row.number && texts_ties prefix entry.prefix i) || rest i
    by (Put key bytes) rest = (λ i. both-false (nat_lt entry.number row.number) i || rest i)
    by (Del key) rest = (λ i. both-false (nat_lt entry.number row.number) i || rest i)

once-same : (rows : List Row) → filter is_delete (once_each rows) ≡ rows_of (once-entries (deletes rows))
once-same [] = refl
once-same (row ∷ rows) = by row.number row.change (once-same rows)
  where
    by : (n : ℕ) (change : Change) → filter is_delete (once_each rows) ≡ rows_of (once-entries (deletes rows))
        → filter is_delete (cond (list_any (is_twin (record { number = n; change = change })) rows) (once_each rows) (record { number = n; change = change } ∷ once_each rows))
        ≡ rows_of (once-entries (delete_of n change ++ deletes rows))
    by n (PDel prefix) rest =
        ap (λ b. filter is_delete (cond b (once_each rows) (row_of (entry_of prefix n) ∷ once_each rows))) (twins-same (entry_of prefix n) rows)
        ∙ elim (list_any (entry-twins (entry_of prefix n)) (deletes rows))
        as (λ b. filter is_delete (cond b (once_each rows) (row_of (entry_of prefix n) ∷ once_each rows))
        ≡ rows_of (cond b (once-entries (deletes rows)) (entry_of prefix n ∷ once-entries (deletes rows))))
        [ true ↦ rest | false ↦ ap (λ (l : List Row). row_of (entry_of prefix n) ∷ l) rest ]
    by n (Put key bytes) rest =
        elim (list_any (is_twin (record { number = n; change = Put key bytes })) rows)
        as (λ b. filter is_delete (cond b (once_each rows) (record { number = n; change = Put key bytes } ∷ once_each rows)) ≡ rows_of (once-entries (deletes rows)))
        [ true ↦ rest | false ↦ rest ]
    by n (Del key) rest =
        elim (list_any (is_twin (record { number = n; change = Del key })) rows)
        as (λ b. filter is_delete (cond b (once_each rows) (record { number = n; change = Del key } ∷ once_each rows)) ≡ rows_of (once-entries (deletes rows)))
        [ true ↦ rest | false ↦ rest ]

module _ (all : List Row) where
  abbrev kept : List Row → List Row
  kept rows = filter (λ row. not (list_any (λ other. outdoes other row) all)) rows

  abbrev kept-entries : List Entry → List Entry
  kept-entries entries = filter (λ entry. not (list_any (λ other. entry-beats other entry) (deletes all))) entries

  kept-same : (rows : List Row) → deletes (kept rows) ≡ kept-entries (deletes rows)
  kept-same [] = refl
  kept-same (row ∷ rows) = by row.number row.change (kept-same rows)
    where
      by : (n : ℕ) (change : Change) → deletes (kept rows) ≡ kept-entries (deletes rows)
          → deletes (cond (not (list_any (λ other. outdoes other (record { number = n; change = change })) all)) (record { number = n; change = change } ∷ kept rows) (kept rows))
          ≡ kept-entries (delete_of n change ++ deletes rows)
      by n (PDel prefix) rest =
          ap (λ b. deletes (cond (not b) (row_of (entry_of prefix n) ∷ kept rows) (kept rows))) (outdone-same (entry_of prefix n) all)
          ∙ elim (not (list_any (λ other. entry-beats other (entry_of prefix n)) (deletes all)))
          as (λ b. deletes (cond b (row_of (entry_of prefix n) ∷ kept rows) (kept rows))
          ≡ cond b (entry_of prefix n ∷ kept-entries (deletes rows)) (kept-entries (deletes rows)))
          [ true ↦ ap (λ (l : List Entry). entry_of prefix n ∷ l) rest | false ↦ rest ]
      by n (Put key bytes) rest =
          elim (not (list_any (λ other. outdoes other (record { number = n; change = Put key bytes })) all))
          as (λ b. deletes (cond b (record { number = n; change = Put key bytes } ∷ kept rows) (kept rows)) ≡ kept-entries (deletes rows))
          [ true ↦ rest | false ↦ rest ]
      by n (Del key) rest =
          elim (not (list_any (λ other. outdoes other (record { number = n; change = Del key })) all))
          as (λ b. deletes (cond b (record { number = n; change = Del key } ∷ kept rows) (kept rows)) ≡ kept-entries (deletes rows))
          [ true ↦ rest | false ↦ rest ]

placed-same : (entries : List Entry) (entry : Entry) → placed row_cmp (rows_of entries) (row_of entry) ≡ rows_of (placed prefix_cmp entries entry)
placed-same [] entry = refl
placed-same (x ∷ xs) entry =
    elim (is_lt (prefix_cmp entry x))
    as (λ b. cond b (row_of entry ∷ row_of x ∷ rows_of xs) (row_of x ∷ placed row_cmp (rows_of xs) (row_of entry)) ≡ rows_of (cond b (entry ∷ x ∷ xs) (x ∷ placed prefix_cmp xs entry)))
    [ true ↦ refl | false ↦ ap (λ (l : List Row). row_of x ∷ l) (placed-same xs entry) ]

sorted-same : (acc entries : List Entry) → fold (placed row_cmp) (rows_of acc) (rows_of entries) ≡ rows_of (fold (placed prefix_cmp) acc entries)
sorted-same acc [] = refl
sorted-same acc (x ∷ xs) =
    ap (λ (l : List Row). fold (placed row_cmp) l (rows_of xs)) (placed-same acc x) ∙ sorted-same (placed prefix_cmp acc x) xs

newest-deletes : (rows : List Row) → filter is_delete (newest rows) ≡ rows_of (top-entries (deletes rows))
unfolding newest
newest-deletes rows =
    filter-sorted row_order is_delete (once_each (kept rows rows))
    ∙ ap (λ (l : List Row). sorted row_cmp l) (once-same (kept rows rows))
    ∙ sorted-same [] (once-entries (deletes (kept rows rows)))
    ∙ ap (λ (l : List Entry). rows_of (sorted prefix_cmp (once-entries l))) (kept-same rows rows)

pub all-newest : (sources : List (List Row)) → rows_of (all_deletes sources) ≡ filter is_delete (newest (all_rows sources))
unfolding all_deletes
all-newest sources =
    ap (λ (l : List Entry). rows_of l)
    (put-deletes [] (all_rows sources) ∙ fold-top prefix_order (λ (entry : Entry). entry.number) one-entry (deletes (all_rows sources)))
    ∙ sym (newest-deletes (all_rows sources))
