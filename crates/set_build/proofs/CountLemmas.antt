-- There are as many blocks as rows of their sizes fill.
use Rattle.std.proofs.Common.{◌≡◌, ℕ, suc, ◌+◌, ◌-◌, cond, List, [], ◌∷◌, ◌++◌, length, map, Option, Some, None, refl, sym, ap, ◌∙◌, arith, length-append}
use Rattle.std.specs.List.{filter}
use Rattle.std.proofs.lemmas.List.{length-map}
use Rattle.hse_rows.specs.declared.change.Change.{Change}
use Rattle.hse_rows.specs.declared.change.Change.TheVariants.{Put, Del, PDel}
use Rattle.hse_rows.specs.declared.row.Row.{Row}
use Rattle.hse_rows.specs.rows.Packing.{filled, header_bytes, page_bytes, page_with_index_bytes, prefix_entry_bytes, key_entry_bytes, value_entry_bytes, is_prefix, is_key, has_value, prefix_blocks, key_blocks, key_pages, value_blocks}
use Rattle.hse_fields.specs.declared.block.ValuePlace.{ValuePlace}
use Rattle.hse_fields.specs.BlockText.{place_text}
use Rattle.hse_fields.specs.BlockReading.{key_entry, prefix_entry}
use Rattle.set_build.specs.SetText.{prefix_bytes, value_bytes, entry_bytes, cost_of_page, in_prefix_block, value_of, prefix_entries, values_of, prefix_blocks_of, value_blocks_of, pages_of, key_blocks_of, entries_of_row, later_places, entries_at}
use Rattle.set_build.specs.Packs.{puts_in}
use Rattle.set_build.proofs.FilledLemmas.{filled-map}

-- packing depends on the sizes alone
count-by : {X : Type 0} (size : X → ℕ) (room : ℕ) (xs : List X) → length (filled size room xs) ≡ length (filled (λ (n : ℕ). n) room (map size xs))
count-by {X} size room xs =
    sym (length-map (filled size room xs) (map size))
    ∙ ap (λ (l : List (List ℕ)). length l) (filled-map size (λ (n : ℕ). n) room xs)

same-count : {X Y : Type 0} (size : X → ℕ) (other : Y → ℕ) (room : ℕ) (xs : List X) (ys : List Y) → map size xs ≡ map other ys
    → length (filled size room xs) ≡ length (filled other room ys)
same-count size other room xs ys e =
    count-by size room xs
    ∙ ap (λ (l : List ℕ). length (filled (λ (n : ℕ). n) room l)) e
    ∙ sym (count-by other room ys)

-- ---- prefix deletes

prefix-long : (n : ℕ) (change : Change) (r : Row) (rs : List Row)
    → map prefix_bytes (prefix_entries rs) ≡ map (λ (row : Row). prefix_entry_bytes row.change) (filter (λ (row : Row). is_prefix row.change) rs)
    → map prefix_bytes (map in_prefix_block (cond (is_prefix change) (record { number = n; change = change } ∷ filter (λ (row : Row). is_prefix row.change) rs) (filter (λ (row : Row). is_prefix row.change) rs)))
    ≡ map (λ (row : Row). prefix_entry_bytes row.change) (cond (is_prefix change) (record { number = n; change = change } ∷ filter (λ (row : Row). is_prefix row.change) rs) (filter (λ (row : Row). is_prefix row.change) rs))
prefix-long n (Put key value) r rs e = e
prefix-long n (Del key) r rs e = e
prefix-long n (PDel prefix) r rs e =
    let one : prefix_bytes (prefix_entry n prefix) ≡ suc (suc (suc (suc (suc (suc (suc (suc (suc (length prefix))))))))) = refl in
    let same : prefix_bytes (prefix_entry n prefix) ≡ 9 + length prefix = omega (arith, one) in
    ap (λ (k : ℕ). k ∷ map prefix_bytes (prefix_entries rs)) same ∙ ap (λ (l : List ℕ). (9 + length prefix) ∷ l) e

prefixes-long : (rows : List Row)
    → map prefix_bytes (prefix_entries rows) ≡ map (λ (row : Row). prefix_entry_bytes row.change) (filter (λ (row : Row). is_prefix row.change) rows)
prefixes-long [] = refl
prefixes-long (r ∷ rs) = prefix-long r.number r.change r rs (prefixes-long rs)

pub prefix-count : (slot : ℕ) (rows : List Row) → length (prefix_blocks_of slot (prefix_entries rows)) ≡ length (prefix_blocks slot rows)
prefix-count slot rows =
    same-count prefix_bytes (λ (row : Row). prefix_entry_bytes row.change) (slot - header_bytes) (prefix_entries rows)
    (filter (λ (row : Row). is_prefix row.change) rows) (prefixes-long rows)

-- ---- values

value-long : (n : ℕ) (change : Change) (rs : List Row)
    → map value_bytes (values_of rs) ≡ map (λ (row : Row). value_entry_bytes row.change) (puts_in rs)
    → map value_bytes (map (λ (row : Row). value_of row.change) (cond (has_value change) (record { number = n; change = change } ∷ puts_in rs) (puts_in rs)))
    ≡ map (λ (row : Row). value_entry_bytes row.change) (cond (has_value change) (record { number = n; change = change } ∷ puts_in rs) (puts_in rs))
value-long n (PDel prefix) rs e = e
value-long n (Del key) rs e = e
value-long n (Put key value) rs e =
    let one : value_bytes value ≡ suc (suc (suc (suc (length value)))) = refl in
    let same : value_bytes value ≡ 4 + length value = omega (arith, one) in
    ap (λ (k : ℕ). k ∷ map value_bytes (values_of rs)) same ∙ ap (λ (l : List ℕ). (4 + length value) ∷ l) e

values-long : (rows : List Row) → map value_bytes (values_of rows) ≡ map (λ (row : Row). value_entry_bytes row.change) (puts_in rows)
values-long [] = refl
values-long (r ∷ rs) = value-long r.number r.change rs (values-long rs)

pub value-count : (slot : ℕ) (rows : List Row) → length (value_blocks_of slot (values_of rows)) ≡ length (value_blocks slot rows)
value-count slot rows =
    same-count value_bytes (λ (row : Row). value_entry_bytes row.change) (slot - header_bytes) (values_of rows) (puts_in rows) (values-long rows)

-- ---- keys

abbrev keys_in : List Row → List Row
keys_in rows = filter (λ (row : Row). is_key row.change) rows

abbrev key_size : Row → ℕ
key_size row = key_entry_bytes row.change

pub head-long : (n : ℕ) (key : List ℕ) (place : Option ValuePlace) → entry_bytes (key_entry n key place) ≡ 11 + (length key + length (place_text place))
head-long n key place =
    let one : entry_bytes (key_entry n key place) ≡ suc (suc (suc (suc (suc (suc (suc (suc (suc (suc (suc (length (key ++ place_text place)))))))))))) = refl in
    omega (arith, one, length-append key (place_text place))

key-long : (n : ℕ) (change : Change) (rs : List Row) (ps : List ValuePlace)
    → length ps ≡ length (cond (has_value change) (record { number = n; change = change } ∷ puts_in rs) (puts_in rs))
    → ((us : List ValuePlace) → length us ≡ length (puts_in rs) → map entry_bytes (entries_at rs us) ≡ map key_size (keys_in rs))
    → map entry_bytes (entries_of_row n change ps ++ entries_at rs (later_places change ps))
    ≡ map key_size (cond (is_key change) (record { number = n; change = change } ∷ keys_in rs) (keys_in rs))
key-long n (PDel prefix) rs ps e more = more ps e
key-long n (Del key) rs ps e more =
    let same : entry_bytes (key_entry n key None) ≡ 11 + length key = omega (arith, head-long n key None) in
    ap (λ (k : ℕ). k ∷ map entry_bytes (entries_at rs ps)) same ∙ ap (λ (l : List ℕ). (11 + length key) ∷ l) (more ps e)
key-long n (Put key value) rs [] e more = absurd (omega (arith, e))
key-long n (Put key value) rs (x ∷ ps) e more =
    let same : entry_bytes (key_entry n key (Some x)) ≡ 23 + length key = omega (arith, head-long n key (Some x)) in
    ap (λ (k : ℕ). k ∷ map entry_bytes (entries_at rs ps)) same ∙ ap (λ (l : List ℕ). (23 + length key) ∷ l) (more ps (omega (arith, e)))

keys-long : (rows : List Row) (ps : List ValuePlace) → length ps ≡ length (puts_in rows) → map entry_bytes (entries_at rows ps) ≡ map key_size (keys_in rows)
keys-long [] ps e = refl
keys-long (r ∷ rs) ps e = key-long r.number r.change rs ps e (λ us. keys-long rs us)

same-cost : {X Y : Type 0} (xs : List X) (ys : List Y) → length xs ≡ length ys → map (λ (x : X). page_with_index_bytes) xs ≡ map (λ (y : Y). page_with_index_bytes) ys
same-cost [] [] e = refl
same-cost [] (y ∷ ys) e = absurd (omega (arith, e))
same-cost (x ∷ xs) [] e = absurd (omega (arith, e))
same-cost (x ∷ xs) (y ∷ ys) e = ap (λ (l : List ℕ). page_with_index_bytes ∷ l) (same-cost xs ys (omega (arith, e)))

pub key-count : (slot : ℕ) (rows : List Row) (ps : List ValuePlace) → length ps ≡ length (puts_in rows)
    → length (key_blocks_of slot (entries_at rows ps)) ≡ length (key_blocks slot rows)
key-count slot rows ps e =
    let pages : length (pages_of (entries_at rows ps)) ≡ length (key_pages rows) =
    same-count entry_bytes key_size (page_bytes - 2) (entries_at rows ps) (keys_in rows) (keys-long rows ps e) in
    same-count cost_of_page (λ (page : List Row). page_with_index_bytes) (slot - header_bytes) (pages_of (entries_at rows ps)) (key_pages rows)
    (same-cost (pages_of (entries_at rows ps)) (key_pages rows) pages)
