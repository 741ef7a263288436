-- The prefix deletes of a source stand before its rows of keys.
use Rattle.std.proofs.Common.{◌≡◌, ℕ, zero, suc, ◌==◌, Bool, true, false, true≢false, not, List, [], ◌∷◌, drop, Some, None, refl, sym, ap, ◌∙◌}
use Rattle.std.specs.Prelude.{slice_get}
use Rattle.std.specs.declared.cmp.Ordering.TheVariants.{Less}
use Rattle.std.specs.List.{AllByRecursion}
use Rattle.std.specs.List.Sorted.{IsStrictlySortedBy}
use Rattle.hse_rows.specs.declared.row.Row.{Row}
use Rattle.hse_rows.specs.declared.change.Change.{Change}
use Rattle.hse_rows.specs.declared.change.Change.TheVariants.{Put, Del, PDel}
use Rattle.hse_rows.specs.writes.NormalForm.{rank}
use Rattle.hse_rows.specs.rows.Newest.{row_cmp}
use Rattle.row_laws.specs.Merging.{is_key_row}
use Rattle.sorted_lists.specs.laws.Lists.{each-weaker}
use Rattle.prefix_delete.specs.declared.entry.Entry.{Entry}
use Rattle.merge.specs.Deletes.{with_change, with_delete, with_deletes}
use Rattle.merge.proofs.SourceLemmas.{key-prefix, some-is}
use Rattle.merge.proofs.HeadLemmas.{two-less}

key-adds : (entries : List Entry) (number : ℕ) (change : Change) → not (rank change == 0) ≡ true → with_change entries number change ≡ entries
key-adds entries number (PDel prefix) is = absurd (true≢false (sym is))
key-adds entries number (Put key bytes) is = refl
key-adds entries number (Del key) is = refl

keys-add : (entries : List Entry) (rows : List Row) → AllByRecursion (λ y. is_key_row y ≡ true) rows → with_deletes entries rows ≡ entries
keys-add entries [] all = refl
keys-add entries (x ∷ xs) all =
    ap (λ (l : List Entry). with_deletes l xs) (key-adds entries x.number x.change all.0) ∙ keys-add entries xs all.1

-- behind a row of a key stand rows of keys alone
pub keys-rest : (entries : List Entry) (rows : List Row) (at : ℕ) (row : Row) → IsStrictlySortedBy row_cmp rows → slice_get rows at ≡ Some row
    → is_key_row row ≡ true → with_deletes entries (drop at rows) ≡ entries
unfolding IsStrictlySortedBy
keys-rest entries [] at row rise is keyed = let e : None ≡ Some row = is in absurd cc
keys-rest entries (x ∷ xs) zero row rise is keyed =
    keys-add entries (x ∷ xs) (here, each-weaker (λ y less. by y less (is_key_row y) refl) xs rise.0)
  where
    here : is_key_row x ≡ true
    here = ap is_key_row (some-is x row is) ∙ keyed

    by : (y : Row) → row_cmp x y ≡ Less → (b : Bool) → is_key_row y ≡ b → b ≡ true
    by y less true e = refl
    by y less false e = absurd (two-less (row_cmp x y) less (key-prefix x y here e))
keys-rest entries (x ∷ xs) (suc at) row rise is keyed = keys-rest entries xs at row rise.1 is keyed

pub delete-more : (entries : List Entry) (rows : List Row) (at : ℕ) (row : Row) → slice_get rows at ≡ Some row
    → with_deletes entries (drop at rows) ≡ with_deletes (with_delete entries row) (drop (suc at) rows)
delete-more entries [] at row is = let e : None ≡ Some row = is in absurd cc
delete-more entries (x ∷ xs) zero row is = ap (λ (y : Row). with_deletes (with_delete entries y) xs) (some-is x row is)
delete-more entries (x ∷ xs) (suc at) row is = delete-more entries xs at row is
