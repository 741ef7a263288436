-- Which child of a node a key or a prefix goes to.
use Rattle.std.specs.Prelude.{ℕ, ◌+◌, ◌*◌, ◌/◌, ◌%◌, ◌^◌, ◌==◌, nat_lt, Bool, false, if◌then◌else◌, List, length, take}
use Rattle.std.specs.List.{fold}
use Rattle.hse_rows.specs.declared.change.Change.{Change}
use Rattle.hse_rows.specs.declared.change.Change.TheVariants.{Put, Del, PDel}

-- the greatest depth of a node
abbrev pub greatest_depth : ℕ
greatest_depth = 4

abbrev pub hash_of : List ℕ → ℕ
hash_of bytes = fold (λ hash byte. (hash * 31 + byte) % 2 ^ 32) 0 bytes

-- What routes a key: as many of its first bytes as the store's prefixes have, or all where they have none.
abbrev pub routing_bytes : ℕ → List ℕ → List ℕ
routing_bytes prefix_length key = if prefix_length == 0 then key else take prefix_length key

-- the child of a node at this depth, 0 to 15
abbrev pub child_of : ℕ → ℕ → List ℕ → ℕ
child_of depth prefix_length key = (hash_of (routing_bytes prefix_length key) / 16 ^ depth) % 16

-- A prefix of the full length is routed as a key. A shorter one has no child of its own.
abbrev pub is_short : ℕ → Change → Bool
is_short prefix_length (PDel prefix) = nat_lt (length prefix) prefix_length
is_short prefix_length (Put key bytes) = false
is_short prefix_length (Del key) = false
