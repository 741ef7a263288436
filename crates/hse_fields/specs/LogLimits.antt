-- The numbers of the log's text, in bytes.
use Rattle.std.specs.Prelude.{ℕ}

-- the most bytes that a key has
abbrev pub longest_key : ℕ
longest_key = 1344

-- the most bytes that a prefix has
abbrev pub longest_prefix : ℕ
longest_prefix = 32

-- the most bytes that a value has whose length can be written
abbrev pub longest_value : ℕ
longest_value = 4294967295

-- what an entry takes of a segment's room beside its own bytes
abbrev pub frame : ℕ
frame = 32
