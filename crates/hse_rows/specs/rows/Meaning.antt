-- What rows mean: the contents of a store that they make, in whatever order they stand.
use Rattle.std.specs.Prelude.{ℕ, ◌==◌, Bool, ◌&&◌, not, cond, nat_lt, List, [], ◌∷◌, Option, Some, None}
use Rattle.std.specs.List.{filter}
use Rattle.std.specs.declared.cmp.Ordering.{Ordering}
use Rattle.std.specs.Ordering.{nat_cmp, on, then_cmp, eq_by_cmp}
use Rattle.std.specs.FinMap as fin_map
use Rattle.hse_rows.specs.declared.row.Row.{Row}
use Rattle.hse_rows.specs.writes.Sorted.{sorted, placed}
use Rattle.hse_rows.specs.writes.NormalForm.{rank}
use Rattle.hse_rows.specs.rows.Newest.{row_cmp}
use Rattle.hse_rows.specs.writes.Reach.{reaches, leaves}
use Rattle.hse_rows.specs.states.State.{Contents, changed}

-- the order in which rows apply: by number, and within one number prefix deletes first
abbrev pub apply_cmp : Row → Row → Ordering
apply_cmp =
    then_cmp (on (λ (row : Row). row.number) nat_cmp)
    (on (λ (row : Row). rank row.change) nat_cmp)

-- the contents after rows, one after another
abbrev pub contents_after_rows : Contents → List Row → Contents
contents_after_rows contents [] = contents
contents_after_rows contents (row ∷ rows) = contents_after_rows (changed contents row.change) rows

-- What rows mean: empty contents after them, in the order in which they apply.
unfoldable pub contents_of : List Row → Contents
contents_of rows = contents_after_rows fin_map.empty (sorted apply_cmp rows)

-- ---- key by key

-- whether a row is of the key itself, and whether it is of a prefix that covers it
abbrev pub is_own : List ℕ → Row → Bool
is_own key row = not (rank row.change == 0) && reaches row.change key

abbrev pub is_covering : List ℕ → Row → Bool
is_covering key row = (rank row.change == 0) && reaches row.change key

-- the row of the greater number, and the second where they tie
abbrev pub newer : Option Row → Option Row → Option Row
newer None other = other
newer (Some row) None = Some row
newer (Some row) (Some other) = cond (nat_lt other.number row.number) (Some row) (Some other)

-- the newest row of the key itself
abbrev pub own_at : List ℕ → List Row → Option Row
own_at key [] = None
own_at key (row ∷ rows) = newer (cond (is_own key row) (Some row) None) (own_at key rows)

abbrev pub greater : Option ℕ → Option ℕ → Option ℕ
greater None other = other
greater (Some number) None = Some number
greater (Some number) (Some other) = cond (nat_lt other number) (Some number) (Some other)

-- the greatest number of a prefix delete that covers the key
abbrev pub covered_at : List ℕ → List Row → Option ℕ
covered_at key [] = None
covered_at key (row ∷ rows) = greater (cond (is_covering key row) (Some row.number) None) (covered_at key rows)

-- What the key's own row and the number of a covering prefix delete say of the key: nothing, or its value, or that it
-- has none. A prefix delete of the same number comes first.
abbrev pub said : Option Row → Option ℕ → Option (Option (List ℕ))
said None None = None
said None (Some number) = Some None
said (Some own) None = Some (leaves own.change)
said (Some own) (Some number) = Some (cond (nat_lt own.number number) None (leaves own.change))

-- a key of which nothing is said has no value
abbrev pub value_said : Option (Option (List ℕ)) → Option (List ℕ)
value_said None = None
value_said (Some value) = value

-- ---- one more row

-- the rows of a set with one more, in place of the older row of its key or prefix
abbrev pub with_row : List Row → Row → List Row
with_row rows row = placed row_cmp (filter (λ other. not (eq_by_cmp row_cmp row other)) rows) row
