-- Where a merge may begin for a position of a cursor: the keys that begin with its filter stand between two bounds.
use Rattle.std.specs.Prelude.{◌≡◌, true, List, ℕ, Option, IfSome}
use Rattle.std.specs.Ordering.{nat_cmp}
use Rattle.std.specs.declared.cmp.Ordering.TheVariants.{Less}
use Rattle.std.specs.Cmp.Lexicographic.{slice_cmp}
use Rattle.hse_rows.specs.writes.Change.{covers}
use Rattle.hse_rows.specs.script.Cursor.{Direction, Position, is_reached}

-- what a cursor's keys begin with, and its direction
pub record ScopeState : Type 0 where
  pub direction : Direction
  pub prefix : List ℕ

-- bytes behind all keys that begin with a prefix
abbrev pub IsBehind : List ℕ → List ℕ → Type 0
IsBehind prefix end = (key : List ℕ) → covers prefix key ≡ true → slice_cmp nat_cmp key end ≡ Less

abbrev pub IsBehindAll : List ℕ → Option (List ℕ) → Type 0
IsBehindAll prefix end = IfSome end (IsBehind prefix)

-- From two positions the same keys that begin with a prefix are left.
abbrev pub StartsSame : Direction → List ℕ → Position → Position → Type 0
StartsSame direction prefix now position =
    (key : List ℕ) → covers prefix key ≡ true → is_reached direction now key ≡ is_reached direction position key
