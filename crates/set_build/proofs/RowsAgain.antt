-- The rows that were pushed are those of the entries that are packed of them.
use Rattle.std.proofs.Common.{◌≡◌, ◌∙◌, ℕ, true≢false, List, [], ◌∷◌, ◌++◌, length, map, drop, Option, None, refl, sym, ap, arith}
use Rattle.std.specs.Prelude.{is_some}
use Rattle.std.specs.List.{AllByRecursion}
use Rattle.std.specs.List.Sorted.{IsStrictlySortedBy}
use Rattle.std.specs.declared.cmp.Ordering.TheVariants.{Less}
use Rattle.std.specs.Ordering.{is_lt}
use Rattle.hse_rows.specs.declared.change.Change.{Change}
use Rattle.hse_rows.specs.declared.change.Change.TheVariants.{Put, Del, PDel}
use Rattle.hse_rows.specs.declared.row.Row.{Row}
use Rattle.hse_rows.specs.rows.Newest.{row_cmp}
use Rattle.hse_fields.specs.declared.block.ValuePlace.{ValuePlace}
use Rattle.prefix_delete.specs.Blocks.{of_block}
use Rattle.prefix_delete.specs.Prefixes.{rows_of}
use Rattle.kvset.specs.Rows.{bytes_in, row_of_key, AreMet}
use Rattle.set_build.specs.SetText.{entries_at, prefix_entries}
use Rattle.set_build.specs.Reading.{LeadTo}
use Rattle.set_build.proofs.RowPacking.{the_row}

abbrev Texts : Type 0
Texts = List (Option (List ℕ))

abbrev first_of : Texts → Option (List ℕ)
first_of [] = None
first_of (x ∷ xs) = x

-- the rows of the prefix deletes
abbrev deletes : List Row → List Row
deletes rows = rows_of (map of_block (prefix_entries rows))

-- behind a row of a key stands no prefix delete
abbrev Behind : Row → List Row → Type 0
Behind row rows = AllByRecursion (λ (y : Row). row_cmp row y ≡ Less) rows

none-behind : (row : Row) → ((m : ℕ) (prefix : List ℕ) → row_cmp row (the_row m (PDel prefix)) ≡ Less → ⊥) → (rows : List Row) → Behind row rows → deletes rows ≡ []
none-behind row never [] below = refl
none-behind row never (r ∷ rs) below = by r.number r.change below.0 (none-behind row never rs below.1)
  where
    by : (m : ℕ) (change : Change) → row_cmp row (the_row m change) ≡ Less → deletes rs ≡ [] → deletes (the_row m change ∷ rs) ≡ []
    by m (Put key bytes) less none = none
    by m (Del key) less none = none
    by m (PDel prefix) less none = absurd (never m prefix less)

module _ (values : List (List (List ℕ))) where
  abbrev Lead : List ValuePlace → List Row → Type 0
  Lead = LeadTo values

  abbrev again : List Row → List ValuePlace → List Row
  again rows places = deletes rows ++ map (row_of_key values) (entries_at rows places)

  -- a row of a key before rows of keys
  in-front : (row : Row) (rs : List Row) (places : List ValuePlace) → deletes rs ≡ [] → again rs places ≡ rs
      → deletes rs ++ row ∷ map (row_of_key values) (entries_at rs places) ≡ row ∷ rs
  in-front row rs places none rest =
      ap (λ (l : List Row). l ++ row ∷ map (row_of_key values) (entries_at rs places)) none
      ∙ ap (λ (l : List Row). row ∷ l ++ map (row_of_key values) (entries_at rs places)) (sym none)
      ∙ ap (λ (l : List Row). row ∷ l) rest

  one-again : (n : ℕ) (change : Change) (rs : List Row) (places : List ValuePlace) → Behind (the_row n change) rs
      → ((ps : List ValuePlace) → Lead ps rs → again rs ps ≡ rs) → Lead places (the_row n change ∷ rs)
      → again (the_row n change ∷ rs) places ≡ the_row n change ∷ rs
  one-again n (PDel prefix) rs places below rest lead = ap (λ (l : List Row). the_row n (PDel prefix) ∷ l) (rest places lead)
  one-again n (Del key) rs places below rest lead =
      in-front (the_row n (Del key)) rs places (none-behind (the_row n (Del key)) (λ m prefix less. true≢false (sym (ap is_lt less))) rs below) (rest places lead)
  one-again n (Put key value) rs [] below rest lead = let long = ap length lead in absurd (omega (arith, long))
  one-again n (Put key value) rs (p ∷ ps) below rest lead =
      ap (λ (o : Option (List ℕ)). deletes rs ++ the_row n (Put key (bytes_in o)) ∷ map (row_of_key values) (entries_at rs ps)) (ap first_of lead)
      ∙ in-front (the_row n (Put key value)) rs ps (none-behind (the_row n (Put key value)) (λ m prefix less. true≢false (sym (ap is_lt less))) rs below) (rest ps (ap (drop 1) lead))

  pub rows-again : (rows : List Row) (places : List ValuePlace) → IsStrictlySortedBy row_cmp rows → Lead places rows → again rows places ≡ rows
  unfolding IsStrictlySortedBy
  rows-again [] places rise lead = refl
  rows-again (r ∷ rs) places rise lead = one-again r.number r.change rs places rise.0 (λ ps. rows-again rs ps rise.1) lead

  one-met : (n : ℕ) (change : Change) (rs : List Row) (places : List ValuePlace)
      → ((ps : List ValuePlace) → Lead ps rs → AreMet values (entries_at rs ps)) → Lead places (the_row n change ∷ rs)
      → AreMet values (entries_at (the_row n change ∷ rs) places)
  one-met n (PDel prefix) rs places rest lead = rest places lead
  one-met n (Del key) rs places rest lead = (refl, rest places lead)
  one-met n (Put key value) rs [] rest lead = let long = ap length lead in absurd (omega (arith, long))
  one-met n (Put key value) rs (p ∷ ps) rest lead = (ap is_some (ap first_of lead), rest ps (ap (drop 1) lead))

  pub all-met : (rows : List Row) (places : List ValuePlace) → Lead places rows → AreMet values (entries_at rows places)
  all-met [] places lead = tt
  all-met (r ∷ rs) places lead = one-met r.number r.change rs places (λ ps. all-met rs ps) lead
