-- Paths of nodes, and the path that a key is routed along.
use Rattle.std.specs.Prelude.{ℕ, ◌<◌, ◌≤◌, ◌/◌, ◌%◌, List, [], ◌∷◌, length}
use Rattle.std.specs.List.{AllByRecursion}
use Rattle.hse_rows.specs.rows.Routing.{child_of}

-- the digits from the root to a node
pub record IsPath (path : List ℕ) : Type 0 where
  pub depth : length path ≤ 4
  pub digits : AllByRecursion (λ digit. digit < 16) path

-- the digits that a number routes along
abbrev pub digits_by : ℕ → List ℕ
digits_by hash = hash % 16 ∷ hash / 16 % 16 ∷ hash / 256 % 16 ∷ hash / 4096 % 16 ∷ []

-- the digits of the nodes that a key may stand at
unfoldable pub path_of : ℕ → List ℕ → List ℕ
path_of prefix_length key =
    child_of 0 prefix_length key ∷ child_of 1 prefix_length key ∷ child_of 2 prefix_length key
    ∷ child_of 3 prefix_length key ∷ []

-- their depths
abbrev pub depths : List ℕ
depths = 0 ∷ 1 ∷ 2 ∷ 3 ∷ 4 ∷ []
