-- Parts of a tree in a row: which are filled, and which of them a row belongs to.
use Rattle.std.specs.Prelude.{◌≡◌, ℕ, ◌<◌, ◌≤◌, suc, List, [], ◌∷◌, ◌++◌, get_or, take, drop, length, ◌+◌, Option, Some, None}
use Rattle.std.specs.List.{AllByRecursion, flat_map}
use Rattle.std.specs.declared.cmp.Ordering.TheVariants.{Less}
use Rattle.ingest_tree.specs.declared.store_row.StoreRow.{StoreRow}
use Rattle.ingest_tree.specs.Rows.{store_row_cmp}

-- a part, or the two that it was split into
abbrev pub parts_of : {X : Type 0} → X → Option X → List X
parts_of part None = part ∷ []
parts_of part (Some other) = part ∷ other ∷ []

-- the parts with what one of them became in its place
abbrev pub grown_at : {X : Type 0} → ℕ → List X → X → Option X → List X
grown_at i parts part other = take i parts ++ parts_of part other ++ drop (suc i) parts

module _ {X : Type 0} (filled sound : X → Type 0) where
  -- each of several parts is filled; a lone one need not be
  abbrev pub Stand : List X → Type 0
  Stand [] = ⊥
  Stand (part ∷ []) = sound part
  Stand (part ∷ other ∷ parts) = AllByRecursion filled (part ∷ other ∷ parts)

  -- what becomes of a part that takes one more row: a part, filled if it was, or two that are
  abbrev pub Grows : X → X → Option X → Type 0
  Grows old part None = sound part × (filled old → filled part)
  Grows old part (Some other) = filled part × filled other

  abbrev pub IsSoundNode : List X → Type 0
  IsSoundNode parts = (length parts ≤ 128) × Stand parts

abbrev pub IsFilledNode : {X : Type 0} → (X → Type 0) → List X → Type 0
IsFilledNode filled parts = (64 ≤ length parts) × (length parts ≤ 128) × AllByRecursion filled parts

-- A row belongs into a part where what stands before it is below the row, and what stands behind is above.
pub record IsChild {X : Type 0} (rows : X → List StoreRow) (parts : List X) (row : StoreRow) (i : ℕ) : Type 0 where
  pub within : i < length parts
  pub before : AllByRecursion (λ other. store_row_cmp other row ≡ Less) (flat_map rows (take i parts))
  pub behind : AllByRecursion (λ other. store_row_cmp row other ≡ Less) (flat_map rows (drop (suc i) parts))

-- The part of a row is looked for between two places where all before the first stands below it, and all from the second on above.
pub record IsWithin {X : Type 0} (rows : X → List StoreRow) (parts : List X) (row : StoreRow) (low high : ℕ) : Type 0 where
  pub some : low < high
  pub within : high ≤ length parts
  pub before : AllByRecursion (λ other. store_row_cmp other row ≡ Less) (flat_map rows (take low parts))
  pub behind : AllByRecursion (λ other. store_row_cmp row other ≡ Less) (flat_map rows (drop high parts))

-- the first parts have their room before the others get any
abbrev pub IsInOrder : {X : Type 0} → List X → List X → ℕ → Type 0
IsInOrder first second cut = (length first ≤ cut) × (length first < cut → second ≡ [])

-- one node of the first parts, and another where there are further ones
abbrev pub IsFinished : {X : Type 0} → List X → List X → List X → Option (List X) → Type 0
IsFinished first second node None = (node ≡ first) × (second ≡ [])
IsFinished first second node (Some other) = (node ≡ first) × (other ≡ second) × (0 < length second)

-- the part that a place is in, and how many rows stand before that part
pub record IsOver {X : Type 0} (rows : X → List StoreRow) (parts : List X) (place i before : ℕ) : Type 0 where
  pub within : i < length parts
  pub counted : before ≡ length (flat_map rows (take i parts))
  pub from : before ≤ place
  pub inside : (d : X) → place < before + length (rows (get_or parts i d))
