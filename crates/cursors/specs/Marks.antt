-- Positions and last keys that are kept with room for a key.
use Rattle.std.specs.Prelude.{ℕ, Bool, true, false, List, Option, Some, None}
use Rattle.hse_rows.specs.script.Cursor.{Position, front, at_key, past_key}
use Rattle.cursors.specs.declared.mark.Stand.{Stand}
use Rattle.cursors.specs.declared.mark.Stand.TheVariants.{Front, At, Past}

abbrev pub position_by : Stand → List ℕ → Position
position_by Front key = front
position_by At key = at_key key
position_by Past key = past_key key

abbrev pub last_by : Bool → List ℕ → Option (List ℕ)
last_by true key = Some key
last_by false key = None
