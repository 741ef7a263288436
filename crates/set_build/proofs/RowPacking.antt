-- What a row more adds to the entries of a set.
use Rattle.std.proofs.Common.{◌≡◌, ℕ, ◌≤◌, Bool, true, false, true≢false, cond, List, [], ◌∷◌, ◌++◌, length, map, Option, Some, None, refl, sym, ap, ◌∙◌, arith, length-append}
use Rattle.std.specs.List.{filter}
use Rattle.std.proofs.lemmas.List.{append-nil, map-append}
use Rattle.sorted_lists.specs.laws.Parts.{filter-append}
use Rattle.hse_rows.specs.declared.change.Change.{Change}
use Rattle.hse_rows.specs.declared.change.Change.TheVariants.{Put, Del, PDel}
use Rattle.hse_rows.specs.declared.row.Row.{Row}
use Rattle.hse_rows.specs.rows.Packing.{is_prefix, has_value}
use Rattle.hse_fields.specs.declared.block.ValuePlace.{ValuePlace}
use Rattle.hse_fields.specs.BlockText.{KeyEntry, header_size}
use Rattle.hse_fields.specs.BlockReading.{key_entry}
use Rattle.set_build.specs.SetText.{Pushed, with_row, place_with, value_of, values_of, value_blocks_of, values_by_block, places_of, all_places, entries_of_row, later_places, entries_at, key_entries}
use Rattle.set_build.specs.Builders.{with_value, place_behind}
use Rattle.set_build.specs.Packs.{puts_in, prefix_in, prefixes_in}
use Rattle.set_build.proofs.ValuePacking.{value-packed, places-more}

abbrev pub the_row : ℕ → Change → Row
the_row number change = record { number = number; change = change }

abbrev Adds : ℕ → Change → List Row → List ValuePlace → List ValuePlace → Row → Type 0
Adds n change rs ps qs row =
    entries_of_row n change (ps ++ qs) ++ entries_at (rs ++ row ∷ []) (later_places change (ps ++ qs))
    ≡ (entries_of_row n change ps ++ entries_at rs (later_places change ps)) ++ entries_of_row row.number row.change qs

abbrev More : List Row → List ValuePlace → List ValuePlace → Row → Type 0
More rows ps qs row = entries_at (rows ++ row ∷ []) (ps ++ qs) ≡ entries_at rows ps ++ entries_of_row row.number row.change qs

by-change : (n : ℕ) (change : Change) (r : Row) (rs : List Row) (ps qs : List ValuePlace) (row : Row)
    → length ps ≡ length (cond (has_value change) (r ∷ puts_in rs) (puts_in rs))
    → ((us : List ValuePlace) → length us ≡ length (puts_in rs) → More rs us qs row) → Adds n change rs ps qs row
by-change n (Put key value) r rs [] qs row e more = absurd (omega (arith, e))
by-change n (Put key value) r rs (x ∷ ps) qs row e more = ap (λ (l : List KeyEntry). key_entry n key (Some x) ∷ l) (more ps (omega (arith, e)))
by-change n (Del key) r rs ps qs row e more = ap (λ (l : List KeyEntry). key_entry n key None ∷ l) (more ps e)
by-change n (PDel prefix) r rs ps qs row e more = more ps e

pub entries-more : (rows : List Row) (ps qs : List ValuePlace) (row : Row) → length ps ≡ length (puts_in rows) → More rows ps qs row
entries-more [] [] qs row e = append-nil (entries_of_row row.number row.change qs)
entries-more [] (x ∷ ps) qs row e = absurd (omega (arith, e))
entries-more (r ∷ rs) ps qs row e = by-change r.number r.change r rs ps qs row e (λ us. entries-more rs us qs row)

no-place : (change : Change) (place : Option ValuePlace) → has_value change ≡ false → place_with change place ≡ []
no-place (Put key value) place plain = absurd (true≢false plain)
no-place (Del key) place plain = refl
no-place (PDel prefix) place plain = refl

abbrev is_put_row : Row → Bool
is_put_row row = has_value row.change

abbrev pub is_prefix_row : Row → Bool
is_prefix_row row = is_prefix row.change

-- the places, where the values are in these blocks
abbrev pub places_by : Bool → List (List (List ℕ)) → List ValuePlace → List ValuePlace
places_by writes blocks places = cond writes (places_of 0 blocks) places

puts-more : (rows : List Row) (row : Row) (b : Bool) → is_put_row row ≡ b → puts_in (rows ++ row ∷ []) ≡ puts_in rows ++ cond b (row ∷ []) []
puts-more rows row b is = filter-append is_put_row rows (row ∷ []) ∙ ap (λ (c : Bool). puts_in rows ++ cond c (row ∷ []) []) is

-- a row without a value
module _ (p : Pushed) (row : Row) (place : Option ValuePlace) (plain : has_value row.change ≡ false) where
  plain-puts : puts_in (p.rows ++ row ∷ []) ≡ puts_in p.rows
  plain-puts = puts-more p.rows row false plain ∙ append-nil (puts_in p.rows)

  plain-values : values_of (p.rows ++ row ∷ []) ≡ values_of p.rows
  plain-values = ap (map (λ (r : Row). value_of r.change)) plain-puts

  pub plain-blocks : values_by_block (with_row p row place) ≡ values_by_block p
  plain-blocks = ap (λ (l : List (List ℕ)). cond p.values (value_blocks_of p.slot_size l) []) plain-values

  pub plain-places : all_places (with_row p row place) ≡ all_places p
  plain-places =
      ap (λ (l : List (List (List ℕ))). places_by p.values l (p.places ++ place_with row.change place)) plain-blocks
      ∙ ap (λ (l : List ValuePlace). places_by p.values (values_by_block p) (p.places ++ l)) (no-place row.change place plain)
      ∙ ap (λ (l : List ValuePlace). places_by p.values (values_by_block p) l) (append-nil p.places)

  pub plain-placed : length (all_places p) ≡ length (puts_in p.rows) → length (all_places (with_row p row place)) ≡ length (puts_in (p.rows ++ row ∷ []))
  plain-placed e = ap length plain-places ∙ e ∙ sym (ap length plain-puts)

  pub plain-entries : length (all_places p) ≡ length (puts_in p.rows)
      → key_entries (with_row p row place) ≡ key_entries p ++ entries_of_row row.number row.change []
  plain-entries e =
      ap (entries_at (p.rows ++ row ∷ [])) (plain-places ∙ sym (append-nil (all_places p)))
      ∙ entries-more p.rows (all_places p) [] row e

-- a put
module _ (p : Pushed) (n : ℕ) (key value : List ℕ) (place : Option ValuePlace) where
  put-values : values_of (p.rows ++ the_row n (Put key value) ∷ []) ≡ values_of p.rows ++ value ∷ []
  put-values =
      ap (map (λ (r : Row). value_of r.change)) (puts-more p.rows (the_row n (Put key value)) true refl)
      ∙ map-append (λ (r : Row). value_of r.change) (puts_in p.rows) (the_row n (Put key value) ∷ [])

  -- so many places and one more are enough
  pub put-placed : (at : ValuePlace) → all_places (with_row p (the_row n (Put key value)) place) ≡ all_places p ++ at ∷ []
      → length (all_places p) ≡ length (puts_in p.rows)
      → length (all_places (with_row p (the_row n (Put key value)) place)) ≡ length (puts_in (p.rows ++ the_row n (Put key value) ∷ []))
  put-placed at is e =
      omega (arith, ap length is, length-append (all_places p) (at ∷ []), e, ap length (puts-more p.rows (the_row n (Put key value)) true refl), length-append (puts_in p.rows) (the_row n (Put key value) ∷ []))

  pub put-entries : (at : ValuePlace) → all_places (with_row p (the_row n (Put key value)) place) ≡ all_places p ++ at ∷ []
      → length (all_places p) ≡ length (puts_in p.rows)
      → key_entries (with_row p (the_row n (Put key value)) place) ≡ key_entries p ++ key_entry n key (Some at) ∷ []
  put-entries at is e =
      ap (entries_at (p.rows ++ the_row n (Put key value) ∷ [])) is
      ∙ entries-more p.rows (all_places p) (at ∷ []) (the_row n (Put key value)) e

  -- whose value is written
  pub written-blocks : p.values ≡ true → header_size ≤ p.slot_size
      → values_by_block (with_row p (the_row n (Put key value)) place) ≡ with_value p.slot_size (values_by_block p) value
  written-blocks writes large =
      ap (λ (b : Bool). cond b (value_blocks_of p.slot_size (values_of (p.rows ++ the_row n (Put key value) ∷ []))) []) writes
      ∙ ap (value_blocks_of p.slot_size) put-values
      ∙ value-packed p.slot_size (values_of p.rows) value large
      ∙ ap (λ (l : List (List (List ℕ))). with_value p.slot_size l value)
      (sym (ap (λ (b : Bool). cond b (value_blocks_of p.slot_size (values_of p.rows)) []) writes))

  pub written-places : p.values ≡ true → header_size ≤ p.slot_size
      → all_places (with_row p (the_row n (Put key value)) place)
      ≡ all_places p ++ place_behind p.slot_size 0 (values_by_block p) (length value) ∷ []
  written-places writes large =
      ap (λ (b : Bool). places_by b (values_by_block (with_row p (the_row n (Put key value)) place)) (p.places ++ place_with (Put key value) place)) writes
      ∙ ap (places_of 0) (written-blocks writes large)
      ∙ places-more p.slot_size 0 (values_by_block p) value
      ∙ ap (λ (l : List ValuePlace). l ++ place_behind p.slot_size 0 (values_by_block p) (length value) ∷ [])
      (sym (ap (λ (b : Bool). places_by b (values_by_block p) p.places) writes))

  -- whose value is not written
  pub kept-blocks : p.values ≡ false → values_by_block (with_row p (the_row n (Put key value)) place) ≡ values_by_block p
  kept-blocks keeps =
      ap (λ (b : Bool). cond b (value_blocks_of p.slot_size (values_of (p.rows ++ the_row n (Put key value) ∷ []))) []) keeps
      ∙ sym (ap (λ (b : Bool). cond b (value_blocks_of p.slot_size (values_of p.rows)) []) keeps)

  pub kept-places : (at : ValuePlace) → p.values ≡ false → place ≡ Some at
      → all_places (with_row p (the_row n (Put key value)) place) ≡ all_places p ++ at ∷ []
  kept-places at keeps is =
      ap (λ (b : Bool). places_by b (values_by_block (with_row p (the_row n (Put key value)) place)) (p.places ++ place_with (Put key value) place)) keeps
      ∙ ap (λ (o : Option ValuePlace). p.places ++ place_with (Put key value) o) is
      ∙ ap (λ (l : List ValuePlace). l ++ at ∷ []) (sym (ap (λ (b : Bool). places_by b (values_by_block p) p.places) keeps))

-- ---- prefix deletes

pub key-prefixes : (rows : List Row) (row : Row) → is_prefix row.change ≡ false → prefixes_in (rows ++ row ∷ []) ≡ prefixes_in rows
key-prefixes rows row keyed =
    ap (map prefix_in) (
    filter-append is_prefix_row rows (row ∷ [])
    ∙ ap (λ (b : Bool). filter is_prefix_row rows ++ cond b (row ∷ []) []) keyed
    ∙ append-nil (filter is_prefix_row rows)
    )

pub more-prefixes : (rows : List Row) (n : ℕ) (prefix : List ℕ)
    → prefixes_in (rows ++ the_row n (PDel prefix) ∷ []) ≡ prefixes_in rows ++ prefix_in (the_row n (PDel prefix)) ∷ []
more-prefixes rows n prefix =
    ap (map prefix_in) (filter-append is_prefix_row rows (the_row n (PDel prefix) ∷ []))
    ∙ map-append prefix_in (filter is_prefix_row rows) (the_row n (PDel prefix) ∷ [])
