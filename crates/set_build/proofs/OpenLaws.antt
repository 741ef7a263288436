-- The blocks of a packed set are opened to its rows.
use Rattle.std.proofs.Common.{◌≡◌, ◌∙◌, ℕ, ◌+◌, ◌-◌, Bool, true, false, true≢false, List, [], ◌∷◌, ◌++◌, length, map, Option, None, Result, Ok, refl, sym, ap, subst}
use Rattle.std.specs.List.{AllByRecursion, flat_map}
use Rattle.std.proofs.lemmas.Grind.{flat_map-append}
use Rattle.sorted_lists.specs.laws.Lists.{each-front, each-rest}
use Rattle.hse_rows.specs.declared.row.Row.{Row}
use Rattle.hse_rows.specs.rows.Packing.{header_bytes, page_bytes}
use Rattle.hse_rows.specs.writes.Lengths.{longest_value_in}
use Rattle.hse_fields.specs.declared.block.ValuePlace.{ValuePlace}
use Rattle.hse_fields.specs.BlockForm.{ArePrefixEntries, AreValues}
use Rattle.hse_fields.specs.BlockReading.{key_block_of, prefix_block_of, value_block_of}
use Rattle.hse_fields.specs.BlockText.{header_size, key_block_text, key_text, prefix_block_text, value_block_text, KeyEntry, PrefixEntry}
use Rattle.kblock.specs.Form.{AreKeyPages}
use Rattle.kblock.specs.Opened.{entries_of}
use Rattle.kblock.specs.Walking.{placed_keys, placed_pages}
use Rattle.prefix_delete.specs.Blocks.{of_block}
use Rattle.kvset.specs.declared.block.Block.{Block}
use Rattle.kvset.specs.Reading.{met_by, met_in, set_of, set_over, slots_of, Contents}
use Rattle.kvset.specs.Reading as reading
use Rattle.kvset.specs.Rows.{is_met, set_rows, AreMet}
use Rattle.set_build.specs.SetText.{Pushed, all_places, cost_of_page, entry_bytes, key_blocks_of, key_entries, pages_of, prefix_blocks_of, prefix_bytes, prefix_entries, text_of, values_by_block, values_of}
use Rattle.set_build.specs.Reading.{ArePut, AreSetKeys, AreSetPrefixes, HasRows, IsPut, LeadTo, MayBeWritten}
use Rattle.set_build.proofs.FilledLemmas.{filled-flat}
use Rattle.set_build.proofs.PlaceLaws.{values-placed}
use Rattle.set_build.proofs.RowPacking.{places_by}
use Rattle.set_build.proofs.RowsAgain.{rows-again, all-met}
use Rattle.set_build.proofs.SetForm.{blocks_by, set-formed}

-- ---- each block is read as it was packed

abbrev pub ValuesRead : Type 0
ValuesRead = (most : ℕ) (values : List (List ℕ)) (rest : List ℕ) → AreValues most values → value_block_of most (value_block_text values ++ rest) ≡ Ok values

abbrev pub PrefixesRead : Type 0
PrefixesRead = (last : Option (List ℕ)) (entries : List PrefixEntry) (rest : List ℕ) → ArePrefixEntries last entries
    → prefix_block_of last (prefix_block_text entries ++ rest) ≡ Ok entries

abbrev pub KeysRead : Type 0
KeysRead = (last : Option (List ℕ)) (pages : List (List KeyEntry)) (rest : List ℕ) → AreKeyPages last pages
    → key_block_of last (key_block_text pages ++ rest) ≡ Ok pages

values-read : ValuesRead → (size : ℕ) (blocks : List (List (List ℕ))) (slots : List Block) → AllByRecursion (AreValues (longest_value_in size)) blocks
    → ArePut (map value_block_text blocks) slots → reading.values_of size slots ≡ Ok blocks
unfolding reading.values_of
values-read law size [] [] are put = refl
values-read law size [] (s ∷ ss) are put = absurd put
values-read law size (b ∷ bs) [] are put = absurd put
values-read law size (b ∷ bs) (s ∷ ss) are put =
    let here : value_block_of (longest_value_in size) s.bytes.items ≡ Ok b =
    ap (value_block_of (longest_value_in size)) put.0.1 ∙ law (longest_value_in size) b put.0.0 are.0 in
    rw (here, values-read law size bs ss are.1 put.1) refl

keys-read : KeysRead → (last : Option (List ℕ)) (blocks : List (List (List KeyEntry))) (slots : List Block) → AreSetKeys last blocks → ArePut (map key_block_text blocks) slots
    → reading.pages_of last slots ≡ Ok blocks
unfolding reading.pages_of
keys-read law last [] [] are put = refl
keys-read law last [] (s ∷ ss) are put = absurd put
keys-read law last (b ∷ bs) [] are put = absurd put
keys-read law last (b ∷ bs) (s ∷ ss) are put =
    let here : key_block_of last s.bytes.items ≡ Ok b = ap (key_block_of last) put.0.1 ∙ law last b put.0.0 are.0 in
    rw (here, keys-read law _ bs ss are.1 put.1) refl

prefixes-read : PrefixesRead → (last : Option (List ℕ)) (blocks : List (List PrefixEntry)) (slots : List Block) → AreSetPrefixes last blocks
    → ArePut (map prefix_block_text blocks) slots → reading.prefixes_of last slots ≡ Ok (flat_map (λ (b : List PrefixEntry). b) blocks)
unfolding reading.prefixes_of
prefixes-read law last [] [] are put = refl
prefixes-read law last [] (s ∷ ss) are put = absurd put
prefixes-read law last (b ∷ bs) [] are put = absurd put
prefixes-read law last (b ∷ bs) (s ∷ ss) are put =
    let here : prefix_block_of last s.bytes.items ≡ Ok b = ap (prefix_block_of last) put.0.1 ∙ law last b put.0.0 are.0 in
    rw (here, prefixes-read law _ bs ss are.1 put.1) refl

-- ---- the values are there

one-in : (slot : ℕ) (values : List (List (List ℕ))) (at : ℕ) (e : KeyEntry) (rest : List (ℕ × KeyEntry)) → is_met values e.value ≡ true
    → met_in slot values rest ≡ Ok tt → met_in slot values ((at, e) ∷ rest) ≡ Ok tt
one-in slot values at e rest is met = rw is met

page-in : (slot : ℕ) (values : List (List (List ℕ))) (at : ℕ) (es : List KeyEntry) (rest : List (ℕ × KeyEntry)) → AreMet values es
    → met_in slot values rest ≡ Ok tt → met_in slot values (placed_keys at es ++ rest) ≡ Ok tt
page-in slot values at [] rest are met = met
page-in slot values at (e ∷ es) rest are met =
    one-in slot values at e (placed_keys (at + length (key_text e)) es ++ rest) are.0 (page-in slot values (at + length (key_text e)) es rest are.1 met)

abbrev IsMet : List (List (List ℕ)) → KeyEntry → Type 0
IsMet values e = is_met values e.value ≡ true

pages-in : (slot : ℕ) (values : List (List (List ℕ))) (start : ℕ) (pages : List (List KeyEntry)) → AreMet values (entries_of pages)
    → met_in slot values (placed_pages start pages) ≡ Ok tt
pages-in slot values start [] are = refl
pages-in slot values start (p ∷ ps) are =
    page-in slot values (start + 2) p (placed_pages (start + 4096) ps) (each-front (IsMet values) p (entries_of ps) are)
    (pages-in slot values (start + 4096) ps (each-rest (IsMet values) p (entries_of ps) are))

blocks-in : (slots : List ℕ) (values : List (List (List ℕ))) (blocks : List (List (List KeyEntry))) → AreMet values (flat_map entries_of blocks)
    → met_by slots values blocks ≡ Ok tt
unfolding met_by
blocks-in [] values blocks are = refl
blocks-in (s ∷ ss) values [] are = refl
blocks-in (s ∷ ss) values (b ∷ bs) are =
    let here = pages-in s values header_size b (each-front (IsMet values) (entries_of b) (flat_map entries_of bs) are) in
    rw here (blocks-in ss values bs (each-rest (IsMet values) (entries_of b) (flat_map entries_of bs) are))

-- ---- all keys

flat-twice : (blocks : List (List (List KeyEntry))) → flat_map entries_of blocks ≡ entries_of (flat_map (λ (b : List (List KeyEntry)). b) blocks)
flat-twice [] = refl
flat-twice (b ∷ bs) =
    ap (λ (l : List KeyEntry). entries_of b ++ l) (flat-twice bs) ∙ sym (flat_map-append (λ (page : List KeyEntry). page) b (flat_map (λ (c : List (List KeyEntry)). c) bs))

all-keys : (slot : ℕ) (es : List KeyEntry) → flat_map entries_of (key_blocks_of slot es) ≡ es
all-keys slot es =
    flat-twice (key_blocks_of slot es)
    ∙ ap entries_of (filled-flat cost_of_page (slot - header_bytes) (pages_of es))
    ∙ filled-flat entry_bytes (page_bytes - 2) es

-- ---- the set

lead-by : (slot : ℕ) (writes : Bool) (rows : List Row) (places : List ValuePlace) → writes ≡ true
    → LeadTo (blocks_by slot writes (values_of rows)) (places_by writes (blocks_by slot writes (values_of rows)) places) rows
lead-by slot true rows places is = values-placed slot (values_of rows)
lead-by slot false rows places is = absurd (true≢false (sym is))

opened : (ps ks : List Block) (slots : List ℕ) (read : Result (List (List (List ℕ))) (ℕ × ℕ)) (prefixes : List PrefixEntry) (pages : List (List (List KeyEntry))) (values : List (List (List ℕ)))
    → reading.prefixes_of None ps ≡ Ok prefixes → reading.pages_of None ks ≡ Ok pages → read ≡ Ok values → met_by (slots_of ks) values pages ≡ Ok tt
    → set_over ps ks slots read ≡ Ok (record {
      slots = slots_of ps ++ (slots_of ks ++ slots);
      shape = (length ps, length ks, length values);
      prefixes = map of_block prefixes;
      keys = flat_map entries_of pages;
      values = values;
    })
unfolding set_over
opened ps ks slots read prefixes pages values p k v m = rw (p, k, v, m) refl

module _ (prefix_law : PrefixesRead) (key_law : KeysRead) (p : Pushed) (may : MayBeWritten p) (ps ks : List Block) (put : IsPut (text_of p) ps ks) where
  -- over values that are known
  over : (slots : List ℕ) (read : Result (List (List (List ℕ))) (ℕ × ℕ)) (values : List (List (List ℕ))) → read ≡ Ok values → LeadTo values (all_places p) p.rows
      → HasRows p.rows (set_over ps ks slots read)
  over slots read values known lead =
      let formed = set-formed p may in
      let entries = key_entries p in
      let flat = all-keys p.slot_size entries in
      let prefixes = prefixes-read prefix_law None (prefix_blocks_of p.slot_size (prefix_entries p.rows)) ps formed.prefixes put.prefixes
      ∙ ap (λ (l : List PrefixEntry). Ok l) (filled-flat prefix_bytes (p.slot_size - header_bytes) (prefix_entries p.rows)) in
      let keys = keys-read key_law None (key_blocks_of p.slot_size entries) ks formed.keys put.keys in
      let met = blocks-in (slots_of ks) values (key_blocks_of p.slot_size entries)
      (subst (AreMet values) (sym flat) (all-met values p.rows (all_places p) lead)) in
      record {
        contents = record {
          slots = slots_of ps ++ (slots_of ks ++ slots);
          shape = (length ps, length ks, length values);
          prefixes = map of_block (prefix_entries p.rows);
          keys = flat_map entries_of (key_blocks_of p.slot_size entries);
          values = values;
        };
        is = opened ps ks slots read (prefix_entries p.rows) (key_blocks_of p.slot_size entries) values prefixes keys known met;
        rows = ap (λ (l : List KeyEntry). set_rows (map of_block (prefix_entries p.rows)) l values) flat ∙ rows-again values p.rows (all_places p) may.rows.rising lead;
      }

  pub set-opened : ValuesRead → p.values ≡ true → (vs : List Block) → ArePut (text_of p).values vs → HasRows p.rows (set_of p.slot_size ps ks vs)
  set-opened value_law writes vs values_put =
      over (slots_of vs) (reading.values_of p.slot_size vs) (values_by_block p)
      (values-read value_law p.slot_size (values_by_block p) vs (set-formed p may).values values_put)
      (lead-by p.slot_size p.values p.rows p.places writes)

  pub set-opened-over : p.values ≡ false → (slots : List ℕ) (values : List (List (List ℕ))) → LeadTo values p.places p.rows
      → HasRows p.rows (set_over ps ks slots (Ok values))
  set-opened-over stay slots values lead =
      over slots (Ok values) values refl
      (subst (λ (b : Bool). LeadTo values (places_by b (values_by_block p) p.places) p.rows) (sym stay) lead)
