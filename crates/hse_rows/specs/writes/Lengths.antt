-- How long keys, edges, prefixes and values are, in bytes.
use Rattle.std.specs.Prelude.{ℕ, ◌-◌, ◌≤◌, min}

-- the most bytes of a key, and of an edge
abbrev pub longest_key : ℕ
longest_key = 1344

-- the most bytes of a prefix
abbrev pub longest_prefix : ℕ
longest_prefix = 32

-- the most bytes of a value where slots have this size: as of any device, and 64 fewer than a slot
abbrev pub longest_value_in : ℕ → ℕ
longest_value_in slot_size = min 1048576 (slot_size - 64)

-- so many bytes at least, and so many at most
abbrev pub IsBetween : ℕ → ℕ → ℕ → Type 0
IsBetween least most n = (least ≤ n) × (n ≤ most)

-- a key
abbrev pub IsKeyLength : ℕ → Type 0
IsKeyLength n = IsBetween 1 longest_key n

-- an edge
abbrev pub IsEdgeLength : ℕ → Type 0
IsEdgeLength n = IsBetween 0 longest_key n

-- a prefix
abbrev pub IsPrefixLength : ℕ → Type 0
IsPrefixLength n = IsBetween 1 longest_prefix n

-- a prefix of n bytes, in a store whose prefixes have this many at most
abbrev pub FitsPrefix : ℕ → ℕ → Type 0
FitsPrefix prefix_length n = IsPrefixLength n × (n ≤ prefix_length)
