-- The rows of a set that are pushed one after another, with their values or without.
use Rattle.std.specs.Prelude.{◌≡◌, ℕ, ◌+◌, ◌≤◌, true, List, [], ◌∷◌, ◌++◌, take, drop, Some, None, false, Option}
use Rattle.std.proofs.Common.{true≢false, refl, sym, ap, subst, ◌∙◌}
use Rattle.std.specs.List.{slice_get}
use Rattle.std.specs.Option.{IsSome}
use Rattle.std.specs.Cmp.{IsTotalOrder, then_total, on_total, nat_cmp_total}
use Rattle.std.specs.Cmp.Lexicographic.{nat_list_cmp_total}
use Rattle.std.proofs.lemmas.List.{take_more, take-append-drop}
use Rattle.std.proofs.lemmas.Option.{slice_get_within, get_or_from_slice_get}
use Rattle.sorted_lists.specs.laws.Lists.{each-front}
use Rattle.sorted_lists.specs.laws.Parts.{rising-front}
use Rattle.hse_rows.specs.declared.change.Change.{Change}
use Rattle.hse_rows.specs.declared.change.Change.TheVariants.{Put, Del, PDel}
use Rattle.hse_rows.specs.declared.row.Row.{Row}
use Rattle.hse_rows.specs.rows.Newest.{row_cmp}
use Rattle.hse_rows.specs.rows.Packing.{header_bytes, value_entry_bytes, has_value}
use Rattle.hse_rows.specs.rows.RowSets.{AreRows}
use Rattle.hse_rows.specs.writes.Change.{target, FitsLimits}
use Rattle.hse_rows.specs.writes.NormalForm.{rank}
use Rattle.hse_fields.specs.declared.block.ValuePlace.{ValuePlace}
use Rattle.set_build.specs.SetText.{Pushed, with_row, place_with}
use Rattle.set_build.specs.Packs.{MayFollow}

pub row_order : IsTotalOrder row_cmp
row_order =
    then_total (on_total (λ (row : Row). rank row.change) nat_cmp_total)
    (on_total (λ (row : Row). target row.change) nat_list_cmp_total)

-- rows with their values
abbrev pub written : ℕ → List Row → Pushed
written slot_size rows = record { slot_size = slot_size; values = true; rows = rows; places = [] }

-- one row more of a list
pub take-next : (rows : List Row) (at : ℕ) (row : Row) → slice_get rows at ≡ Some row → take (at + 1) rows ≡ take at rows ++ row ∷ []
take-next rows at row is =
    take_more rows at row (slice_get_within rows at row is)
    ∙ ap (λ (r : Row). take at rows ++ r ∷ []) (get_or_from_slice_get rows at row row is)

-- rows in order, without those behind some
pub rows-front : (xs ys : List Row) → AreRows (xs ++ ys) → AreRows xs
rows-front xs ys are = record {
  rising = rising-front row_order xs ys are.rising;
  within = each-front (λ (row : Row). FitsLimits row.change) xs ys are.within;
}

-- The next row of rows in order stands behind those before it.
pub next-in-order : (rows : List Row) (at : ℕ) (row : Row) → AreRows rows → slice_get rows at ≡ Some row → AreRows (take at rows ++ row ∷ [])
next-in-order rows at row are is =
    subst AreRows (take-next rows at row is)
    (rows-front (take (at + 1) rows) (drop (at + 1) rows) (subst AreRows (sym (take-append-drop (at + 1) rows)) are))

-- It may follow, if its value fits into a block, and then one row more is held.
pub next-written : (slot_size : ℕ) (rows : List Row) (at : ℕ) (row : Row) → AreRows rows → slice_get rows at ≡ Some row
    → header_bytes + value_entry_bytes row.change ≤ slot_size → MayFollow (written slot_size (take at rows)) row None
next-written slot_size rows at row are is fits = record {
  rows = next-in-order rows at row are is;
  fits = λ writes. fits;
  has_place = λ keeps. absurd (true≢false keeps);
}

without-place : (change : Change) → place_with change None ≡ []
without-place (Put key value) = refl
without-place (Del key) = refl
without-place (PDel prefix) = refl

pub written-next : (slot_size : ℕ) (rows : List Row) (at : ℕ) (row : Row) → slice_get rows at ≡ Some row
    → with_row (written slot_size (take at rows)) row None ≡ written slot_size (take (at + 1) rows)
written-next slot_size rows at row is = λ i. record {
  slot_size = slot_size;
  values = true;
  rows = sym (take-next rows at row is) i;
  places = without-place row.change i;
}

-- rows whose values stay where they are, at these places in order
abbrev pub kept : ℕ → List Row → List ValuePlace → Pushed
kept slot_size rows places = record { slot_size = slot_size; values = false; rows = rows; places = places }

-- The next row may follow, if it has a place where it is a put, and then one row more is held.
pub next-kept : (slot_size : ℕ) (rows : List Row) (places : List ValuePlace) (at : ℕ) (row : Row) (place : Option ValuePlace) → AreRows rows
    → slice_get rows at ≡ Some row → (has_value row.change ≡ true → IsSome place) → MayFollow (kept slot_size (take at rows) places) row place
next-kept slot_size rows places at row place are is there = record {
  rows = next-in-order rows at row are is;
  fits = λ writes. absurd (true≢false (sym writes));
  has_place = λ keeps. there;
}

pub kept-next : (slot_size : ℕ) (rows : List Row) (places : List ValuePlace) (at : ℕ) (row : Row) (place : Option ValuePlace) → slice_get rows at ≡ Some row
    → with_row (kept slot_size (take at rows) places) row place ≡ kept slot_size (take (at + 1) rows) (places ++ place_with row.change place)
kept-next slot_size rows places at row place is =
    ap (λ (l : List Row). kept slot_size l (places ++ place_with row.change place)) (sym (take-next rows at row is))
