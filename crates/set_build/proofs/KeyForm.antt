-- Blocks of keys that are packed have the form of blocks of keys, each behind the last key of the block before.
use Rattle.std.proofs.Common.{◌≡◌, ℕ, suc, ◌-◌, ◌^◌, ◌<◌, ◌≤◌, true, true≢false, cond, List, [], ◌∷◌, ◌++◌, length, Option, Some, None, refl, sym, ap, subst, arith}
use Rattle.std.specs.List.{AllByRecursion, flat_map}
use Rattle.std.specs.List.Sorted.{IsStrictlySortedBy}
use Rattle.std.specs.declared.cmp.Ordering.TheVariants.{Less}
use Rattle.std.specs.Ordering.{is_lt}
use Rattle.sorted_lists.specs.laws.Lists.{each-weaker}
use Rattle.hse_rows.specs.declared.change.Change.{Change}
use Rattle.hse_rows.specs.declared.change.Change.TheVariants.{Put, Del, PDel}
use Rattle.hse_rows.specs.declared.row.Row.{Row}
use Rattle.hse_rows.specs.rows.Newest.{row_cmp}
use Rattle.hse_rows.specs.rows.Packing.{header_bytes, page_bytes, is_key, has_value}
use Rattle.hse_rows.specs.rows.RowSets.{AreRows}
use Rattle.hse_rows.specs.writes.Change.{target, FitsLimits}
use Rattle.hse_fields.specs.declared.block.ValuePlace.{ValuePlace}
use Rattle.hse_fields.specs.BlockText.{KeyEntry, page_used, keys_text}
use Rattle.hse_fields.specs.BlockReading.{is_above, last_key}
use Rattle.kblock.specs.Form.{AreKeys, ArePages}
use Rattle.set_build.specs.SetText.{entry_bytes, cost_of_page, pages_of, key_blocks_of, entries_of_row, later_places, entries_at}
use Rattle.set_build.specs.Reading.{AreSetKeys, CanBeSaid}
use Rattle.set_build.specs.Packs.{puts_in}
use Rattle.set_build.proofs.FilledLemmas.{filled-flat}
use Rattle.set_build.proofs.FormLaws.{FitsBlock, filled-fits}
use Rattle.set_build.proofs.KeyPacking.{used-long, cost-long}
use Rattle.set_build.proofs.KeyLemmas.{place_short}
use Rattle.set_build.proofs.CountLemmas.{head-long}
use Rattle.set_build.proofs.RowPacking.{the_row}

last-append : (last : Option (List ℕ)) (xs ys : List KeyEntry) → last_key last (xs ++ ys) ≡ last_key (last_key last xs) ys
last-append last [] ys = refl
last-append last (x ∷ xs) ys = last-append (Some x.key) xs ys

keys-split : (last : Option (List ℕ)) (xs ys : List KeyEntry) → AreKeys last (xs ++ ys) → AreKeys last xs × AreKeys (last_key last xs) ys
keys-split last [] ys are = (tt, are)
keys-split last (x ∷ xs) ys are = let rest = keys-split (Some x.key) xs ys are.1 in ((are.0, rest.0), rest.1)

-- ---- pages

abbrev FitsPage : List KeyEntry → Type 0
FitsPage = FitsBlock entry_bytes (page_bytes - 2)

are-pages : (last : Option (List ℕ)) (pages : List (List KeyEntry)) → AreKeys last (flat_map (λ (p : List KeyEntry). p) pages)
    → AllByRecursion FitsPage pages → ArePages last pages
are-pages last [] keys fit = tt
are-pages last (p ∷ ps) keys fit =
    let split = keys-split last p (flat_map (λ (q : List KeyEntry). q) ps) keys in
    let used : length (page_used p) ≡ suc (suc (length (keys_text p))) = refl in (
      record { keys = split.0; some = fit.0.some; fits = omega (arith, used, used-long p, fit.0.fits) },
      are-pages (last_key last p) ps split.1 fit.1,
    )

pages-split : (last : Option (List ℕ)) (ps qs : List (List KeyEntry)) → ArePages last (ps ++ qs)
    → ArePages last ps × ArePages (last_key last (flat_map (λ (p : List KeyEntry). p) ps)) qs
pages-split last [] qs are = (tt, are)
pages-split last (p ∷ ps) qs are =
    let rest = pages-split (last_key last p) ps qs are.1 in (
      (are.0, rest.0),
      subst (λ (l : Option (List ℕ)). ArePages l qs) (sym (last-append last p (flat_map (λ (q : List KeyEntry). q) ps))) rest.1,
    )

-- ---- blocks

are-blocks : (slot : ℕ) (last : Option (List ℕ)) (blocks : List (List (List KeyEntry))) → slot ≤ 2 ^ 25 → ArePages last (flat_map (λ (b : List (List KeyEntry)). b) blocks)
    → AllByRecursion (FitsBlock cost_of_page (slot - header_bytes)) blocks → AreSetKeys last blocks
are-blocks slot last [] small are fit = tt
are-blocks slot last (b ∷ bs) small are fit =
    let split = pages-split last b (flat_map (λ (c : List (List KeyEntry)). c) bs) are in (
      record { pages = split.0; some = fit.0.some; within = omega (arith, fit.0.fits, cost-long b, small) },
      are-blocks slot (last_key last (flat_map (λ (p : List KeyEntry). p) b)) bs small split.1 fit.1,
    )

entry-small : (e : KeyEntry) → length e.key ≤ 1344 → entry_bytes e ≤ page_bytes - 2
entry-small e short = omega (arith, head-long e.number e.key e.value, place_short e.value, short)

each-cost : (slot : ℕ) (pages : List (List KeyEntry)) → 2 ^ 16 ≤ slot → AllByRecursion (λ (p : List KeyEntry). cost_of_page p ≤ slot - header_bytes) pages
each-cost slot [] large = tt
each-cost slot (p ∷ ps) large = (omega (arith, large), each-cost slot ps large)

each-small : (last : Option (List ℕ)) (es : List KeyEntry) → AreKeys last es → AllByRecursion (λ (e : KeyEntry). entry_bytes e ≤ page_bytes - 2) es
each-small last [] are = tt
each-small last (e ∷ es) are = (entry-small e are.0.short, each-small (Some e.key) es are.1)

pub keys-formed : (slot : ℕ) (es : List KeyEntry) → 2 ^ 16 ≤ slot → slot ≤ 2 ^ 25 → AreKeys None es → AreSetKeys None (key_blocks_of slot es)
keys-formed slot es large small are =
    let pages : ArePages None (pages_of es) =
    are-pages None (pages_of es) (subst (AreKeys None) (sym (filled-flat entry_bytes (page_bytes - 2) es)) are)
    (filled-fits entry_bytes (page_bytes - 2) es (each-small None es are)) in
    are-blocks slot None (key_blocks_of slot es) small
    (subst (ArePages None) (sym (filled-flat cost_of_page (slot - header_bytes) (pages_of es))) pages)
    (filled-fits cost_of_page (slot - header_bytes) (pages_of es) (each-cost slot (pages_of es) large))

-- ---- rows

abbrev Above : Option (List ℕ) → Row → Type 0
Above last row = is_key row.change ≡ true → is_above last (target row.change) ≡ true

-- a later row of a key stands above a row of a key
later-put : (n m : ℕ) (key value : List ℕ) (change : Change) → row_cmp (the_row n (Put key value)) (the_row m change) ≡ Less → Above (Some key) (the_row m change)
later-put n m key value (Put other bytes) less is = ap is_lt less
later-put n m key value (Del other) less is = ap is_lt less
later-put n m key value (PDel prefix) less is = absurd (true≢false (sym is))

later-del : (n m : ℕ) (key : List ℕ) (change : Change) → row_cmp (the_row n (Del key)) (the_row m change) ≡ Less → Above (Some key) (the_row m change)
later-del n m key (Put other bytes) less is = ap is_lt less
later-del n m key (Del other) less is = ap is_lt less
later-del n m key (PDel prefix) less is = absurd (true≢false (sym is))

-- what is asked of a row and of those behind it
abbrev Rest : List Row → Type 0
Rest rs =
    (last : Option (List ℕ)) (ps : List ValuePlace) → AllByRecursion (Above last) rs → length ps ≡ length (puts_in rs) → AllByRecursion CanBeSaid ps
    → AreKeys last (entries_at rs ps)

row-keys : (n : ℕ) (change : Change) (r : Row) (rs : List Row) (last : Option (List ℕ)) (ps : List ValuePlace) → Rest rs → Above last (the_row n change)
    → AllByRecursion (Above last) rs → AllByRecursion (λ (y : Row). row_cmp (the_row n change) y ≡ Less) rs → FitsLimits change → n < 2 ^ 64
    → length ps ≡ length (cond (has_value change) (r ∷ puts_in rs) (puts_in rs)) → AllByRecursion CanBeSaid ps
    → AreKeys last (entries_of_row n change ps ++ entries_at rs (later_places change ps))
row-keys n (PDel prefix) r rs last ps rest above others less fits small count say = rest last ps others count say
row-keys n (Del key) r rs last ps rest above others less fits small count say = (
  record { above = above refl; some = fits.0; short = fits.1; small = small; fits = tt },
  rest (Some key) ps (each-weaker (λ y l. later-del n y.number key y.change l) rs less) count say,
)
row-keys n (Put key value) r rs last [] rest above others less fits small count say = absurd (omega (arith, count))
row-keys n (Put key value) r rs last (p ∷ ps) rest above others less fits small count say = (
  record { above = above refl; some = fits.0; short = fits.1; small = small; fits = say.0 },
  rest (Some key) ps (each-weaker (λ y l. later-put n y.number key value y.change l) rs less) (omega (arith, count)) say.1,
)

rows-keys : (rows : List Row) → IsStrictlySortedBy row_cmp rows → AllByRecursion (λ (row : Row). FitsLimits row.change) rows
    → AllByRecursion (λ (row : Row). row.number < 2 ^ 64) rows → Rest rows
unfolding IsStrictlySortedBy
rows-keys [] rise fit small = λ last ps above count say. tt
rows-keys (r ∷ rs) rise fit small = λ last ps above count say.
    row-keys r.number r.change r rs last ps (rows-keys rs rise.1 fit.1 small.1) above.0 above.1 rise.0 fit.0 small.0 count say

none-above : (rows : List Row) → AllByRecursion (Above None) rows
none-above [] = tt
none-above (r ∷ rs) = ((λ is. refl), none-above rs)

pub set-keys : (slot : ℕ) (rows : List Row) (ps : List ValuePlace) → 2 ^ 16 ≤ slot → slot ≤ 2 ^ 25 → AreRows rows
    → AllByRecursion (λ (row : Row). row.number < 2 ^ 64) rows → length ps ≡ length (puts_in rows) → AllByRecursion CanBeSaid ps
    → AreSetKeys None (key_blocks_of slot (entries_at rows ps))
set-keys slot rows ps large small are numbers count say =
    keys-formed slot (entries_at rows ps) large small (rows-keys rows are.rising are.within numbers None ps (none-above rows) count say)
