-- A list in chunks of up to eight.
use Rattle.std.specs.Prelude.{ℕ, ◌<◌, ◌≤◌, ◌+◌, List, [], ◌∷◌, length, get_or, take, Option, Some, None}
use Rattle.std.specs.List.{flat_map}

module _ {X : Type 0} where
  -- the list
  abbrev pub joined : List (List X) → List X
  joined chunks = flat_map (λ chunk. chunk) chunks

  -- each chunk but the last has at least four parts, the last has some, and none has more than eight
  abbrev pub AreChunks : List (List X) → Type 0
  AreChunks [] = Unit {0}
  AreChunks (chunk ∷ []) = (0 < length chunk) × (length chunk ≤ 8)
  AreChunks (chunk ∷ other ∷ chunks) = (4 ≤ length chunk) × (length chunk ≤ 8) × AreChunks (other ∷ chunks)

  -- a place in a chunk, and where it is in the list
  abbrev pub IsSeat : List (List X) → ℕ → ℕ → Type 0
  IsSeat chunks chunk place = (chunk < length chunks) × ((other : List X) → place < length (get_or chunks chunk other))

  abbrev pub place_of : List (List X) → ℕ → ℕ → ℕ
  place_of chunks chunk place = length (joined (take chunk chunks)) + place

  -- what becomes of a chunk that takes one part more: a chunk, or two that are at least half full
  abbrev pub Widens : List X → List X → Option (List X) → Type 0
  Widens old chunk None = (length old ≤ length chunk) × (length chunk ≤ 8)
  Widens old chunk (Some other) = (4 ≤ length chunk) × (length chunk ≤ 8) × (4 ≤ length other) × (length other ≤ 8)
