-- The store's rows as a map, by the place that a search for a key answers.
use Rattle.std.proofs.Common.{◌≡◌, Some, None, Result, Ok, Err, ℕ, ◌<◌, ◌≤◌, List, [], length, get_or, set, ap, sym, ◌∙◌}
use Rattle.std.specs.Ordering.{nat_cmp}
use Rattle.std.specs.Cmp.Lexicographic.{slice_cmp, nat_list_cmp_total}
use Rattle.std.specs.List.{insert, remove}
use Rattle.std.specs.List.Sorted.{IsBinarySearchResult}
use Rattle.std.specs.FinMap.{put, from_sorted, get-from_sorted, empty_of_len, len-entries, entries-from_sorted, slice_cmp-IsAntisymmetric, nat_cmp-IsAntisymmetric, IsAntisymmetric}
use Rattle.std.specs.FinMap as map
use Rattle.hse_shell.specs.Change.{Contents}
use Rattle.hse_shell.specs.declared.rows.Row.{Row}
use Rattle.hse_shell.specs.Rows.{pair_of, pairs_of, AreRising}
use Rattle.hse_shell.proofs.SortedRows.{find-found, find-missing, put-found, put-missing, is_sorted_after, searchable, insert-from_sorted, IsPlace, without-found, without-missing, is_sorted_without, remove-from_sorted}

-- a list of rows as a map
abbrev pub contents_of : List Row → Contents
contents_of rows = from_sorted (pairs_of rows)

-- what a search for a key answers
abbrev pub Searched : List Row → List ℕ → Result ℕ ℕ → Type 0
Searched rows key place = IsBinarySearchResult (λ row. slice_cmp nat_cmp row.key.items key) rows place

pub contents_of-empty : contents_of [] ≡ map.empty
contents_of-empty = empty_of_len _ (len-entries _ ∙ ap length (entries-from_sorted (slice_cmp nat_cmp) [] tt))

is_place : (rows : List Row) (key : List ℕ) (i : ℕ) → AreRising rows → i ≤ length rows → Searched rows key (Err i) → IsPlace nat_list_cmp_total pair_of key rows i
is_place rows key i rise within searched =
    let parts = searched (searchable nat_list_cmp_total pair_of key rows rise) in
    record { within = within; below = parts.0; above = parts.1 }

pub get-found : (rows : List Row) (key : List ℕ) (i : ℕ) (row : Row) → AreRising rows → i < length rows → Searched rows key (Ok i) → row ≡ get_or rows i row → map.get (contents_of rows) key ≡ Some row.value.items
get-found rows key i row rise in' searched is =
    get-from_sorted (slice_cmp nat_cmp) (pairs_of rows) key rise
    ∙ find-found nat_list_cmp_total pair_of key rows i row rise in' (searched row)
    ∙ ap (λ (r : Row). Some r.value.items) (sym is)

pub get-missing : (rows : List Row) (key : List ℕ) (i : ℕ) → AreRising rows → i ≤ length rows → Searched rows key (Err i) → map.get (contents_of rows) key ≡ None
get-missing rows key i rise within searched =
    get-from_sorted (slice_cmp nat_cmp) (pairs_of rows) key rise
    ∙ find-missing nat_list_cmp_total pair_of key rows i (is_place rows key i rise within searched)

-- a row keeps its key and takes a value
puts-found : (rows : List Row) (key value : List ℕ) (i : ℕ) (row new : Row) → AreRising rows → i < length rows → Searched rows key (Ok i) → row ≡ get_or rows i row → new.key ≡ row.key → new.value.items ≡ value → put (slice_cmp nat_cmp) key value (pairs_of rows) ≡ pairs_of (set rows i new)
puts-found rows key value i row new rise in' searched is same_key same_value =
    put-found nat_list_cmp_total pair_of key value rows i row new rise in' (searched row)
    (λ j. ((ap (λ k. k.items) same_key ∙ ap (λ (r : Row). r.key.items) is) j, same_value j))

pub rising-found : (rows : List Row) (key value : List ℕ) (i : ℕ) (row new : Row) → AreRising rows → i < length rows → Searched rows key (Ok i) → row ≡ get_or rows i row → new.key ≡ row.key → new.value.items ≡ value → AreRising (set rows i new)
rising-found rows key value i row new rise in' searched is same_key same_value =
    is_sorted_after nat_list_cmp_total pair_of key value rows _ rise
    (puts-found rows key value i row new rise in' searched is same_key same_value)

pub insert-found : (rows : List Row) (key value : List ℕ) (i : ℕ) (row new : Row) → AreRising rows → i < length rows → Searched rows key (Ok i) → row ≡ get_or rows i row → new.key ≡ row.key → new.value.items ≡ value → contents_of (set rows i new) ≡ map.insert (contents_of rows) key value
insert-found rows key value i row new rise in' searched is same_key same_value =
    sym (insert-from_sorted nat_list_cmp_total pair_of key value rows _ rise
    (puts-found rows key value i row new rise in' searched is same_key same_value))

-- a new row stands in its place
puts-missing : (rows : List Row) (key value : List ℕ) (i : ℕ) (new : Row) → AreRising rows → i ≤ length rows → Searched rows key (Err i) → new.key.items ≡ key → new.value.items ≡ value → put (slice_cmp nat_cmp) key value (pairs_of rows) ≡ pairs_of (insert rows i new)
puts-missing rows key value i new rise within searched same_key same_value =
    put-missing nat_list_cmp_total pair_of key value rows i new (is_place rows key i rise within searched)
    (λ j. (same_key j, same_value j))

pub rising-missing : (rows : List Row) (key value : List ℕ) (i : ℕ) (new : Row) → AreRising rows → i ≤ length rows → Searched rows key (Err i) → new.key.items ≡ key → new.value.items ≡ value → AreRising (insert rows i new)
rising-missing rows key value i new rise within searched same_key same_value =
    is_sorted_after nat_list_cmp_total pair_of key value rows _ rise
    (puts-missing rows key value i new rise within searched same_key same_value)

pub insert-missing : (rows : List Row) (key value : List ℕ) (i : ℕ) (new : Row) → AreRising rows → i ≤ length rows → Searched rows key (Err i) → new.key.items ≡ key → new.value.items ≡ value → contents_of (insert rows i new) ≡ map.insert (contents_of rows) key value
insert-missing rows key value i new rise within searched same_key same_value =
    sym (insert-from_sorted nat_list_cmp_total pair_of key value rows _ rise
    (puts-missing rows key value i new rise within searched same_key same_value))

key_order-IsAntisymmetric : IsAntisymmetric (slice_cmp nat_cmp)
key_order-IsAntisymmetric = slice_cmp-IsAntisymmetric nat_cmp-IsAntisymmetric

-- a removal takes the row of the key, if there is one
pub rising-remove : (rows : List Row) (key : List ℕ) (i : ℕ) (row : Row) → AreRising rows → i < length rows → Searched rows key (Ok i) → AreRising (remove rows i)
rising-remove rows key i row rise in' searched =
    is_sorted_without nat_list_cmp_total pair_of key rows _ rise
    (without-found nat_list_cmp_total pair_of key rows i row rise in' (searched row))

pub remove-found : (rows : List Row) (key : List ℕ) (i : ℕ) (row : Row) → AreRising rows → i < length rows → Searched rows key (Ok i) → contents_of (remove rows i) ≡ map.remove (contents_of rows) key
remove-found rows key i row rise in' searched =
    sym (remove-from_sorted nat_list_cmp_total pair_of key_order-IsAntisymmetric key rows _ rise
    (without-found nat_list_cmp_total pair_of key rows i row rise in' (searched row)))

pub remove-missing : (rows : List Row) (key : List ℕ) (i : ℕ) → AreRising rows → i ≤ length rows → Searched rows key (Err i) → contents_of rows ≡ map.remove (contents_of rows) key
remove-missing rows key i rise within searched =
    sym (remove-from_sorted nat_list_cmp_total pair_of key_order-IsAntisymmetric key rows rows rise
    (without-missing nat_list_cmp_total pair_of key rows i (is_place rows key i rise within searched)))
