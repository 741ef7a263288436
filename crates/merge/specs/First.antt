-- The row that comes first in a direction.
use Rattle.std.specs.Prelude.{◌≡◌, ℕ, Bool, true, List, Option, Some, None}
use Rattle.std.specs.declared.cmp.Ordering.TheVariants.{Less}
use Rattle.hse_rows.specs.declared.row.Row.{Row}
use Rattle.hse_rows.specs.writes.Change.{target}
use Rattle.hse_rows.specs.script.Cursor.{Direction, direction_cmp}

-- Of the rows that each key has, that of the first key in a direction among the keys that are asked for.
abbrev pub IsFirstIn : Direction → (List ℕ → Option Row) → (List ℕ → Bool) → Option Row → Type 0
IsFirstIn direction has asked None = (key : List ℕ) → asked key ≡ true → has key ≡ None
IsFirstIn direction has asked (Some row) =
    (asked (target row.change) ≡ true) × (has (target row.change) ≡ Some row)
    × ((key : List ℕ) → asked key ≡ true → direction_cmp direction key (target row.change) ≡ Less → has key ≡ None)
