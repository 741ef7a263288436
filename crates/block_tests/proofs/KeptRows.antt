-- Rows that are pushed one after another, whose values all stay at one place.
use Rattle.std.proofs.Common.{◌≡◌, ℕ, ◌+◌, ◌≤◌, true, false, true≢false, List, [], ◌∷◌, ◌++◌, take, Option, Some, refl, sym, ap, ◌∙◌}
use Rattle.std.specs.List.{flat_map, slice_get}
use Rattle.std.specs.Option.{IsSome}
use Rattle.std.proofs.lemmas.List.{append-nil}
use Rattle.std.proofs.lemmas.List.Concat.{flat_map-append}
use Rattle.hse_rows.specs.declared.row.Row.{Row}
use Rattle.hse_rows.specs.rows.RowSets.{AreRows}
use Rattle.hse_fields.specs.declared.block.ValuePlace.{ValuePlace}
use Rattle.set_build.specs.SetText.{Pushed, with_row, place_with}
use Rattle.set_build.specs.Packs.{MayFollow}
use Rattle.set_build.specs.laws.Fronts.{take-next, kept, next-kept, kept-next}

abbrev pub place_of : ValuePlace → Row → List ValuePlace
place_of place row = place_with row.change (Some place)

abbrev pub places_of : ValuePlace → List Row → List ValuePlace
places_of place rows = flat_map (place_of place) rows

abbrev pub all_kept : ValuePlace → List Row → Pushed
all_kept place rows = kept 65536 rows (places_of place rows)

pub may-follow : (place : ValuePlace) (rows : List Row) (at : ℕ) (row : Row) → AreRows rows → slice_get rows at ≡ Some row
    → MayFollow (all_kept place (take at rows)) row (Some place)
may-follow place rows at row are is = next-kept 65536 rows (places_of place (take at rows)) at row (Some place) are is (λ put. refl)

pub one-more : (place : ValuePlace) (rows : List Row) (at : ℕ) (row : Row) → slice_get rows at ≡ Some row
    → with_row (all_kept place (take at rows)) row (Some place) ≡ all_kept place (take (at + 1) rows)
one-more place rows at row is =
    let places : places_of place (take at rows) ++ place_of place row ≡ places_of place (take (at + 1) rows) =
    ap (λ (l : List ValuePlace). places_of place (take at rows) ++ l) (sym (append-nil (place_of place row)))
    ∙ sym (flat_map-append (place_of place) (take at rows) (row ∷ []))
    ∙ ap (places_of place) (sym (take-next rows at row is)) in
    kept-next 65536 rows (places_of place (take at rows)) at row (Some place) is
    ∙ ap (kept 65536 (take (at + 1) rows)) places
