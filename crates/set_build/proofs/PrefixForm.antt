-- Blocks of prefix deletes that are packed have the form of such blocks, each behind the last prefix of the block before.
use Rattle.std.proofs.Common.{◌≡◌, ℕ, suc, ◌*◌, ◌-◌, ◌^◌, ◌<◌, ◌≤◌, true, true≢false, cond, List, [], ◌∷◌, ◌++◌, length, map, Option, Some, None, refl, sym, ap, subst, arith, length-append}
use Rattle.std.specs.List.{AllByRecursion, filter, flat_map, sum_by}
use Rattle.std.specs.List.Sorted.{IsStrictlySortedBy}
use Rattle.std.specs.declared.cmp.Ordering.TheVariants.{Less}
use Rattle.std.specs.Ordering.{is_lt}
use Rattle.std.proofs.lemmas.List.Sums.{sum_by-cons}
use Rattle.sorted_lists.specs.laws.Lists.{each-weaker}
use Rattle.hse_rows.specs.declared.change.Change.{Change}
use Rattle.hse_rows.specs.declared.change.Change.TheVariants.{Put, Del, PDel}
use Rattle.hse_rows.specs.declared.row.Row.{Row}
use Rattle.hse_rows.specs.rows.Newest.{row_cmp}
use Rattle.hse_rows.specs.rows.Packing.{header_bytes, is_prefix}
use Rattle.hse_rows.specs.rows.RowSets.{AreRows}
use Rattle.hse_rows.specs.writes.Change.{target, FitsLimits}
use Rattle.hse_fields.specs.BlockText.{PrefixEntry, prefix_text, prefixes_text}
use Rattle.hse_fields.specs.BlockReading.{is_above}
use Rattle.hse_fields.specs.BlockForm.{AreRising}
use Rattle.set_build.specs.SetText.{prefix_bytes, in_prefix_block, prefix_entries, prefix_blocks_of}
use Rattle.kvset.specs.Reading.{last_name}
use Rattle.set_build.specs.Reading.{AreSetPrefixes}
use Rattle.set_build.proofs.FilledLemmas.{filled-flat}
use Rattle.set_build.proofs.FormLaws.{FitsBlock, filled-fits}
use Rattle.set_build.proofs.RowPacking.{the_row, is_prefix_row}

rising-split : (last : Option (List ℕ)) (xs ys : List PrefixEntry) → AreRising last (xs ++ ys) → AreRising last xs × AreRising (last_name last xs) ys
rising-split last [] ys rise = (tt, rise)
rising-split last (x ∷ xs) ys rise =
    let rest = rising-split (Some x.prefix) xs ys rise.4 in
    ((rise.0, rise.1, rise.2, rise.3, rest.0), rest.1)

text-long : (es : List PrefixEntry) → length (prefixes_text es) ≡ sum_by prefix_bytes es
text-long [] = refl
text-long (e ∷ es) = omega (arith, text-long es, length-append (prefix_text e) (prefixes_text es), sum_by-cons prefix_bytes e es)

one-long : (e : PrefixEntry) → prefix_bytes e ≡ suc (suc (suc (suc (suc (suc (suc (suc (suc (length e.prefix)))))))))
one-long e = refl

nine-each : (es : List PrefixEntry) → 9 * length es ≤ sum_by prefix_bytes es
nine-each [] = omega arith
nine-each (e ∷ es) = omega (arith, nine-each es, sum_by-cons prefix_bytes e es, one-long e)

are-blocks : (slot : ℕ) (last : Option (List ℕ)) (blocks : List (List PrefixEntry)) → 2 ^ 16 ≤ slot → slot ≤ 2 ^ 25
    → AreRising last (flat_map (λ (b : List PrefixEntry). b) blocks) → AllByRecursion (FitsBlock prefix_bytes (slot - header_bytes)) blocks
    → AreSetPrefixes last blocks
are-blocks slot last [] large small rise fit = tt
are-blocks slot last (b ∷ bs) large small rise fit =
    let split = rising-split last b (flat_map (λ (c : List PrefixEntry). c) bs) rise in (
      record {
        some = fit.0.some;
        counted = omega (arith, nine-each b, fit.0.fits, small);
        rising = split.0;
        within = omega (arith, text-long b, fit.0.fits, small, large);
      },
      are-blocks slot (last_name last b) bs large small split.1 fit.1,
    )

each-small : (slot : ℕ) (last : Option (List ℕ)) (es : List PrefixEntry) → 2 ^ 16 ≤ slot → AreRising last es
    → AllByRecursion (λ (e : PrefixEntry). prefix_bytes e ≤ slot - header_bytes) es
each-small slot last [] large rise = tt
each-small slot last (e ∷ es) large rise = (omega (arith, large, rise.2, one-long e), each-small slot (Some e.prefix) es large rise.4)

-- ---- rows

abbrev Above : Option (List ℕ) → Row → Type 0
Above last row = is_prefix row.change ≡ true → is_above last (target row.change) ≡ true

later : (n m : ℕ) (prefix : List ℕ) (change : Change) → row_cmp (the_row n (PDel prefix)) (the_row m change) ≡ Less → Above (Some prefix) (the_row m change)
later n m prefix (PDel other) less is = ap is_lt less
later n m prefix (Put key value) less is = absurd (true≢false (sym is))
later n m prefix (Del key) less is = absurd (true≢false (sym is))

abbrev Rest : List Row → Type 0
Rest rs = (last : Option (List ℕ)) → AllByRecursion (Above last) rs → AreRising last (prefix_entries rs)

row-rises : (n : ℕ) (change : Change) (rs : List Row) (last : Option (List ℕ)) → Rest rs → Above last (the_row n change)
    → AllByRecursion (Above last) rs → AllByRecursion (λ (y : Row). row_cmp (the_row n change) y ≡ Less) rs → FitsLimits change → n < 2 ^ 64
    → AreRising last (map in_prefix_block (cond (is_prefix change) (the_row n change ∷ filter is_prefix_row rs) (filter is_prefix_row rs)))
row-rises n (Put key value) rs last rest above others less fits small = rest last others
row-rises n (Del key) rs last rest above others less fits small = rest last others
row-rises n (PDel prefix) rs last rest above others less fits small =
    (above refl, fits.0, fits.1, small, rest (Some prefix) (each-weaker (λ y l. later n y.number prefix y.change l) rs less))

rows-rise : (rows : List Row) → IsStrictlySortedBy row_cmp rows → AllByRecursion (λ (row : Row). FitsLimits row.change) rows
    → AllByRecursion (λ (row : Row). row.number < 2 ^ 64) rows → Rest rows
unfolding IsStrictlySortedBy
rows-rise [] rise fit small = λ last above. tt
rows-rise (r ∷ rs) rise fit small = λ last above.
    row-rises r.number r.change rs last (rows-rise rs rise.1 fit.1 small.1) above.0 above.1 rise.0 fit.0 small.0

none-above : (rows : List Row) → AllByRecursion (Above None) rows
none-above [] = tt
none-above (r ∷ rs) = ((λ is. refl), none-above rs)

pub set-prefixes : (slot : ℕ) (rows : List Row) → 2 ^ 16 ≤ slot → slot ≤ 2 ^ 25 → AreRows rows → AllByRecursion (λ (row : Row). row.number < 2 ^ 64) rows
    → AreSetPrefixes None (prefix_blocks_of slot (prefix_entries rows))
set-prefixes slot rows large small are numbers =
    let rise : AreRising None (prefix_entries rows) = rows-rise rows are.rising are.within numbers None (none-above rows) in
    are-blocks slot None (prefix_blocks_of slot (prefix_entries rows)) large small
    (subst (AreRising None) (sym (filled-flat prefix_bytes (slot - header_bytes) (prefix_entries rows))) rise)
    (filled-fits prefix_bytes (slot - header_bytes) (prefix_entries rows) (each-small slot None (prefix_entries rows) large rise))
