-- The blocks of a packed set have the form of blocks.
use Rattle.std.proofs.Common.{◌≡◌, ℕ, ◌^◌, ◌≤◌, Bool, true, false, cond, List, [], length, Some, refl, sym, ap, ◌∙◌, arith}
use Rattle.std.specs.List.{AllByRecursion}
use Rattle.std.proofs.lemmas.List.{length-map}
use Rattle.hse_rows.specs.declared.row.Row.{Row}
use Rattle.hse_fields.specs.declared.block.ValuePlace.{ValuePlace}
use Rattle.hse_rows.specs.writes.Lengths.{longest_value_in}
use Rattle.hse_fields.specs.BlockForm.{AreValues}
use Rattle.set_build.specs.SetText.{Pushed, value_of, values_of, value_blocks_of, places_of, all_places}
use Rattle.set_build.specs.Packs.{puts_in}
use Rattle.set_build.specs.Reading.{MayWrite, CanBeSaid, MayBeWritten, AreFormed}
use Rattle.kvset.specs.Rows.{value_of as value_at_place}
use Rattle.set_build.proofs.RowPacking.{places_by}
use Rattle.set_build.proofs.FormLaws.{values-formed, values-fit}
use Rattle.set_build.proofs.PlaceLaws.{values-placed, places-say}
use Rattle.set_build.proofs.KeyForm.{set-keys}
use Rattle.set_build.proofs.PrefixForm.{set-prefixes}

abbrev pub blocks_by : ℕ → Bool → List (List ℕ) → List (List (List ℕ))
blocks_by slot writes values = cond writes (value_blocks_of slot values) []

formed-by : (slot : ℕ) (writes : Bool) (values : List (List ℕ)) → 2 ^ 16 ≤ slot → slot ≤ 2 ^ 25
    → (writes ≡ true → AllByRecursion (MayWrite slot) values) → AllByRecursion (AreValues (longest_value_in slot)) (blocks_by slot writes values)
formed-by slot true values large small may = values-formed slot values large small (may refl)
formed-by slot false values large small may = tt

-- as many places as values
placed-count : (slot : ℕ) (values : List (List ℕ)) → length (places_of 0 (value_blocks_of slot values)) ≡ length values
placed-count slot values =
    sym (length-map (places_of 0 (value_blocks_of slot values)) (value_at_place (value_blocks_of slot values)))
    ∙ ap length (values-placed slot values)
    ∙ length-map values (λ (v : List ℕ). Some v)

count-by : (slot : ℕ) (writes : Bool) (rows : List Row) (places : List ValuePlace) → (writes ≡ false → length places ≡ length (puts_in rows))
    → length (places_by writes (blocks_by slot writes (values_of rows)) places) ≡ length (puts_in rows)
count-by slot true rows places placed = placed-count slot (values_of rows) ∙ length-map (puts_in rows) (λ (row : Row). value_of row.change)
count-by slot false rows places placed = placed refl

said-by : (slot : ℕ) (writes : Bool) (values : List (List ℕ)) (places : List ValuePlace) → 2 ^ 16 ≤ slot → slot ≤ 2 ^ 25
    → (writes ≡ true → AllByRecursion (MayWrite slot) values) → length (blocks_by slot writes values) ≤ 2 ^ 32
    → (writes ≡ false → AllByRecursion CanBeSaid places) → AllByRecursion CanBeSaid (places_by writes (blocks_by slot writes values) places)
said-by slot true values places large small may few said =
    places-say slot 0 (value_blocks_of slot values) large small (omega (arith, few)) (values-fit slot values large (may refl))
said-by slot false values places large small may few said = said refl

pub set-formed : (p : Pushed) → MayBeWritten p → AreFormed p
set-formed p may = record {
  prefixes = set-prefixes p.slot_size p.rows may.large may.small may.rows may.numbers;
  keys =
      set-keys p.slot_size p.rows (all_places p) may.large may.small may.rows may.numbers
      (count-by p.slot_size p.values p.rows p.places may.placed)
      (said-by p.slot_size p.values (values_of p.rows) p.places may.large may.small may.written may.few may.places_said);
  values = formed-by p.slot_size p.values (values_of p.rows) may.large may.small may.written;
}
