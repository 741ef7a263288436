-- Prefixes with the numbers of their deletions, in order.
use Rattle.std.specs.Prelude.{◌≡◌, ℕ, nat_lt, Bool, true, false, cond, List, length, map, get_or, Option, Some, None}
use Rattle.std.specs.List.{AllByRecursion, find}
use Rattle.std.specs.List.Sorted.{IsStrictlySortedBy}
use Rattle.std.specs.declared.cmp.Ordering.{Ordering}
use Rattle.std.specs.Ordering.{nat_cmp, is_eq, on}
use Rattle.std.specs.Cmp.Lexicographic.{slice_cmp}
use Rattle.hse_rows.specs.declared.row.Row.{Row}
use Rattle.hse_rows.specs.declared.change.Change.TheVariants.{PDel}
use Rattle.hse_rows.specs.writes.Lengths.{IsPrefixLength}
use Rattle.sorted_lists.specs.Places.{with_one}
use Rattle.prefix_delete.specs.declared.entry.Entry.{Entry}

abbrev pub entry_of : List ℕ → ℕ → Entry
entry_of prefix number = record { prefix = prefix; number = number }

abbrev pub probe : List ℕ → Entry
probe prefix = entry_of prefix 0

-- entries are in the order of their prefixes
abbrev pub prefix_cmp : Entry → Entry → Ordering
prefix_cmp = on (λ (entry : Entry). entry.prefix) (slice_cmp nat_cmp)

-- each prefix stands once, in order
pub record ArePrefixes (entries : List Entry) : Type 0 where
  pub rising : IsStrictlySortedBy prefix_cmp entries
  pub within : AllByRecursion (λ (entry : Entry). IsPrefixLength (length entry.prefix)) entries

-- the deletions that entries stand for
abbrev pub row_of : Entry → Row
row_of entry = record { number = entry.number; change = PDel entry.prefix }

abbrev pub rows_of : List Entry → List Row
rows_of entries = map row_of entries

abbrev pub number_in : Option Entry → Option ℕ
number_in None = None
number_in (Some entry) = Some entry.number

-- the entry and the number of a prefix
abbrev pub entry_at : List Entry → List ℕ → Option Entry
entry_at entries prefix = find (λ entry. is_eq (prefix_cmp entry (probe prefix))) entries

abbrev pub number_at : List Entry → List ℕ → Option ℕ
number_at entries prefix = number_in (entry_at entries prefix)

-- of two entries of one prefix that of the greater number
abbrev pub later : Option Entry → Entry → Entry
later None entry = entry
later (Some old) entry = cond (nat_lt entry.number old.number) old entry

-- the entries with one more, which takes the place of that of its prefix where its number is not less
abbrev pub with_entry : List Entry → Entry → List Entry
with_entry entries entry = with_one prefix_cmp entries (later (entry_at entries entry.prefix) entry)

-- the lengths in use have those of the entries among them
abbrev pub IsUsed : List Bool → Entry → Type 0
IsUsed used entry = get_or used (length entry.prefix) false ≡ true

abbrev pub AreUsed : List Bool → List Entry → Type 0
AreUsed used entries = AllByRecursion (IsUsed used) entries
