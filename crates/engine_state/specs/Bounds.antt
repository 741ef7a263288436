-- The bounds of what an engine keeps.
use Rattle.std.specs.Prelude.{ℕ}

-- the greatest size of a segment
abbrev pub greatest_segment : ℕ
greatest_segment = 67108864
