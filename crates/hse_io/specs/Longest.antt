-- The limits on what is read.
use Rattle.std.specs.Prelude.{ℕ, ◌-◌, ◌^◌}

-- the most bytes that a line has
abbrev pub longest_line : ℕ
longest_line = 4194304

-- the most bytes that the lines of a script have, each counted with one byte more
abbrev pub longest_script : ℕ
longest_script = 2 ^ 40 - 1
