-- What a search along a path finds.
use Rattle.std.specs.Prelude.{ℕ, List, [], ◌∷◌, Option, Some, None}
use Rattle.hse_rows.specs.declared.row.Row.{Row}
use Rattle.hse_rows.specs.rows.Meaning.{own_at, covered_at}
use Rattle.row_laws.specs.Next.{row_lasting}

-- What a set says of a key: nothing, or its row, or that a newer prefix delete covers the key.
abbrev pub row_said : Option Row → Option ℕ → Option (Option Row)
row_said None None = None
row_said None (Some number) = Some None
row_said (Some row) cover = Some (row_lasting (Some row) cover)

abbrev pub or_farther : Option (Option Row) → Option (Option Row) → Option (Option Row)
or_farther None other = other
or_farther (Some row) other = Some row

-- what the first set that says something of the key says
abbrev pub first_row : List ℕ → List (List Row) → Option (Option Row)
first_row key [] = None
first_row key (rows ∷ farther) = or_farther (row_said (own_at key rows) (covered_at key rows)) (first_row key farther)

-- a row that was said
abbrev pub said_row : Option (Option Row) → Option Row
said_row None = None
said_row (Some row) = row
